use Rattle.std.proofs.lemmas.Result.{on_ok_weaker}
use Rattle.serde_json.specs.Data.{string}
use Rattle.pg_json.proofs.Writing.{plain_value}
use Rattle.pg_json.proofs.plain_rows.PlainRows.text.Goals as goal

pub returns : goal.returns
returns c = λ columns rows row h. on_ok_weaker c.string.result (λ last. plain_value c.args.self.now _ columns rows row (string c.args.text.now) c.string.ensures.room.0 last h) c.string.ensures.ok
