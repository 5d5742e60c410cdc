use Rattle.pg_scope.proofs.FirstLemmas.{in_turn}
use Rattle.pg_scope.proofs.expressions.fault_in_call.Goals as goal

pub returns : goal.returns
returns c = in_turn (rw c.is_misplaced-misplaced.ensures at c.noted-first.ensures) (rw c.is_known-unknown.ensures at c.noted.ensures)
