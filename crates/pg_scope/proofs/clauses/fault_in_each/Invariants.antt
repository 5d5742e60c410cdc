use Rattle.std.proofs.Common.{◌≡◌, drop, map}
use Rattle.std.specs.Prelude.{flat_map}
use Rattle.pg_meaning.specs.StaticFaults.{least, faults_of}
use Rattle.pg_scope.specs.Names.{names_in}
use Rattle.pg_syntax_tree.specs.View.{expression_view}
use Rattle.pg_scope.proofs.clauses.fault_in_each.Given as goal

abbrev pub invariant-loop-item : goal.invariant-loop-item
invariant-loop-item l =
    least l.fn.first (flat_map (faults_of (names_in l.scope)) (map expression_view l.items.items)) ≡ least l.first (flat_map (faults_of (names_in l.scope)) (map expression_view (drop l.item-index l.items.items)))
