use Rattle.std.proofs.lemmas.Result.{on_ok_weaker}
use Rattle.pg_json.proofs.Writing.{plain_value}
use Rattle.pg_json.specs.Replies.{data_of}
use Rattle.pg_json.proofs.plain_rows.PlainRows.value.Goals as goal

pub returns : goal.returns
returns c = λ columns rows row h. on_ok_weaker c.write.result (λ last. plain_value c.args.self.now _ columns rows row (data_of c.args.value.now) c.write.ensures.before last h) c.write.ensures.ok
