use Rattle.std.proofs.Common.{subst}
use Rattle.std.proofs.lemmas.Result.{on_ok_weaker}
use Rattle.pg_json.specs.Telling.{AreWritten}
use Rattle.pg_json.proofs.rows.RowsReply.begin_row.Goals as goal

pub returns-in-Plain : goal.returns-in-Plain
returns-in-Plain c = λ notes columns rows h.
    let w = subst (λ r. AreWritten r notes columns rows) c.in-Plain.is h.so_far in
    on_ok_weaker c.begin_row.result (λ more. record { so_far = (w.0, more) }) (c.begin_row.ensures columns rows w.1)
