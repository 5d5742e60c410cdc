use Rattle.std.proofs.Common.{rules}
use Rattle.std.proofs.lemmas.Result.{on_ok_weaker}
use Rattle.pg_json.proofs.Writing.{one_name}
use Rattle.pg_json.proofs.rows.ReplyColumns.name.Goals as goal

pub returns : goal.returns
returns c = λ names h.
    on_ok_weaker c.string.result (λ last. record { so_far = one_name c.args.self.now.to _ names c.args.column.now (search rules) last h.so_far }) c.string.ensures.ok
