use Rattle.std.proofs.Common.{◌≡◌, [], drop, map}
use Rattle.pg_meaning.specs.Names.{Names}
use Rattle.pg_meaning.specs.Parse.{pairs_of}
use Rattle.pg_meaning.specs.StaticFaults.{least, key_faults}
use Rattle.pg_scope.specs.Names.{names_in, HasSame}
use Rattle.pg_syntax_tree.specs.View.{pair_view}
use Rattle.pg_scope.proofs.properties.fault_in_keys.Given as goal

abbrev pub invariant-loop-key : goal.invariant-loop-key
invariant-loop-key l = (done : Names) × HasSame (names_in l.before) done
    × (least l.fn.first (key_faults (names_in l.outer) [] (pairs_of (map pair_view l.pairs.items)))
    ≡ least l.first (key_faults (names_in l.outer) done (pairs_of (map pair_view (drop l.key-index l.pairs.items)))))
