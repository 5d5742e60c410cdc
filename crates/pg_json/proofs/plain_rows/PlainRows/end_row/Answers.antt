use Rattle.std.proofs.lemmas.Result.{on_ok_weaker}
use Rattle.pg_json.proofs.Writing.{plain_row_ended}
use Rattle.pg_json.proofs.plain_rows.PlainRows.end_row.Goals as goal

pub returns : goal.returns
returns c = λ columns rows row h. on_ok_weaker c.end_array.result (λ last. plain_row_ended c.args.self.now _ columns rows row c.end_array.ensures.room.0 last h) c.end_array.ensures.ok
