use Rattle.std.proofs.lemmas.Result.{on_ok_weaker}
use Rattle.pg_json.proofs.Writing.{plain_row_begun}
use Rattle.pg_json.proofs.plain_rows.PlainRows.begin_row.Goals as goal

pub returns : goal.returns
returns c = λ columns rows h. on_ok_weaker c.begin_array.result (λ last. plain_row_begun c.args.self.now _ columns rows c.begin_array.ensures.room.0 last h) c.begin_array.ensures.ok
