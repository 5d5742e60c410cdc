use Rattle.std.proofs.Common.{◌≡◌, [], None, drop, map}
use Rattle.pg_meaning.specs.Names.{Names}
use Rattle.pg_meaning.specs.StaticFaults.{least, clauses_faults}
use Rattle.pg_scope.specs.Names.{names_in, HasSame}
use Rattle.pg_syntax_tree.specs.View.{clause_view}
use Rattle.pg_scope.proofs.query.static_fault.Given as goal

abbrev pub invariant-loop-clause : goal.invariant-loop-clause
invariant-loop-clause l = (ns : Names) × HasSame (names_in l.scope) ns
    × (least None (clauses_faults [] (map clause_view l.query.clauses.items)) ≡ least l.first (clauses_faults ns (map clause_view (drop l.clause-index l.query.clauses.items))))
