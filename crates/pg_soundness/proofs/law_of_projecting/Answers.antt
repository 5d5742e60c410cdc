use Rattle.pg_soundness.proofs.ProjectedRows.{with_agrees, return_agrees}
use Rattle.pg_soundness.proofs.UnwoundRows.{unwind_agrees}
use Rattle.pg_soundness.proofs.law_of_projecting.Goals as goal

pub returns : goal.returns
returns c = record { with = with_agrees; returns = return_agrees; unwinds = unwind_agrees }
