use Rattle.std.proofs.lemmas.Result.{IfOk-weaker}
use Rattle.pg_scope.proofs.FirstLemmas.{in_turn}
use Rattle.pg_scope.proofs.StepLemmas.{stepped}
use Rattle.pg_scope.proofs.steps.through_clause.Goals as goal

pub returns-in-Return : goal.returns-in-Return
returns-in-Return c =
    rw c.in-Return.is (IfOk-weaker c.fault_in_projection-in-Return.result _ _ (λ r h. record { faults = in_turn c.fault_in_star-first.ensures h.0; names_behind = h.1 }) c.fault_in_projection-in-Return.ensures)

pub returns-in_ok-scope-in_default : goal.returns-in_ok-scope-in_default
returns-in_ok-scope-in_default c =
    stepped c.args.clause.now c.in_default.not-With c.in_default.not-Return c.in_ok-first-in_default.ensures c.in_ok-scope-in_default.ensures c.fault_behind.ensures
