use Rattle.std.proofs.Common.{◌≡◌, drop, map}
use Rattle.pg_meaning.specs.Names.{Names}
use Rattle.pg_meaning.specs.Patterns.{add_hop_names}
use Rattle.pg_scope.specs.Names.{names_in, HasSame}
use Rattle.pg_syntax_tree.specs.View.{hop_view}
use Rattle.pg_scope.proofs.scopes.add_hops.Given as goal

abbrev pub invariant-loop-relationship : goal.invariant-loop-relationship
invariant-loop-relationship l = (ns : Names) × HasSame (names_in l.names) ns × (add_hop_names (map hop_view l.hops.items) (names_in l.fn.names) ≡ add_hop_names (map hop_view (drop l.relationship-index l.hops.items)) ns)
