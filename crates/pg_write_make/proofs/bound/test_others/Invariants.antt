use Rattle.std.proofs.Common.{◌≡◌, false, drop}
use Rattle.pg_meaning.specs.Reading.{test_nodes}
use Rattle.pg_write_make.specs.Makings.{others_view}
use Rattle.pg_write_make.specs.Scenes.{row_in}
use Rattle.pg_write_make.proofs.bound.test_others.Given as goal

abbrev pub invariant-loop-hop : goal.invariant-loop-hop
invariant-loop-hop g l =
    let row = row_in l.scene l.row in
    test_nodes false l.graph row (others_view l.hops.items) ≡ test_nodes false l.graph row (others_view (drop l.hop-index l.hops.items))
