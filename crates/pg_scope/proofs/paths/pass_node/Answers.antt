use Rattle.pg_scope.proofs.FirstLemmas.{in_turn}
use Rattle.pg_scope.proofs.PartLemmas.{passes_node}
use Rattle.pg_scope.proofs.paths.pass_node.Goals as goal

pub returns : goal.returns
returns c = passes_node (in_turn c.fault_in_node_variable-first.ensures c.in_ok-first.ensures) c.in_ok-add_variable.ensures
