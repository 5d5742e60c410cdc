use Rattle.std.proofs.lemmas.Result.{on_ok_weaker}
use Rattle.pg_json.proofs.Writing.{plain_value}
use Rattle.pg_json.specs.Replies.{data_of}
use Rattle.pg_value_core.specs.declared.out.Out.TheVariants.{Int}
use Rattle.pg_json.proofs.plain_rows.PlainRows.integer.Goals as goal

pub returns : goal.returns
returns c = λ columns rows row h. on_ok_weaker c.write_integer.result (λ last. plain_value c.args.self.now _ columns rows row (data_of (Int c.args.number.now)) c.write_integer.ensures.before last h) c.write_integer.ensures.ok
