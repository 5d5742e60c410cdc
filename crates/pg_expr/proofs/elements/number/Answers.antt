use Rattle.pg_expr.proofs.ElementLemmas.{no_number}
use Rattle.pg_expr.proofs.elements.number.Goals as goal

pub returns-in_default : goal.returns-in_default
returns-in_default g c = record { ok = tt; err = no_number c.args.v.now c.in_default.not-Node c.in_default.not-Rel }
