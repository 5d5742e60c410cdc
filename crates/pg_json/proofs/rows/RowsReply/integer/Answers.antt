use Rattle.std.proofs.Common.{subst}
use Rattle.std.proofs.lemmas.Result.{on_ok_weaker}
use Rattle.pg_json.specs.Telling.{AreTold}
use Rattle.pg_json.proofs.rows.RowsReply.integer.Goals as goal

pub returns-in-Plain : goal.returns-in-Plain
returns-in-Plain c = λ notes columns rows row h.
    let w = subst (λ r. AreTold r notes columns rows row) c.in-Plain.is h.so_far in
    on_ok_weaker c.integer.result (λ more. record { so_far = (w.0, more) }) (c.integer.ensures columns rows row w.1)
