use Rattle.std.proofs.Common.{◌≡◌, drop, map}
use Rattle.std.specs.Prelude.{flat_map}
use Rattle.pg_meaning.specs.StaticFaults.{least, set_faults}
use Rattle.pg_scope.specs.Names.{names_in}
use Rattle.pg_syntax_tree.specs.View.{on_view}
use Rattle.pg_scope.proofs.clauses.fault_in_ons.Given as goal

abbrev pub invariant-loop-on : goal.invariant-loop-on
invariant-loop-on l =
    least l.fn.first (flat_map (λ o. flat_map (set_faults (names_in l.scope)) o.1) (map on_view l.ons.items)) ≡ least l.first (flat_map (λ o. flat_map (set_faults (names_in l.scope)) o.1) (map on_view (drop l.on-index l.ons.items)))
