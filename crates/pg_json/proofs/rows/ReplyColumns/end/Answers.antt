use Rattle.pg_json.proofs.rows.ReplyColumns.end.Goals as goal

pub returns : goal.returns
returns c = λ names h. record { so_far = c.in_ok-begin.ensures names h.so_far }
