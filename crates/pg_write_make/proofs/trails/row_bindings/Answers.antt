use Rattle.std.proofs.Common.{map, sym}
use Rattle.std.proofs.lemmas.List.{nil_from_length}
use Rattle.pg_write_make.proofs.StepLemmas.{path_binds}
use Rattle.pg_write_make.proofs.TrailLemmas.{bindings_over, bindings_past}
use Rattle.pg_write_make.specs.Bindings.{match_bindings, named}
use Rattle.pg_write_make.specs.Lent.{bindings_view, paths_view, trail_view}
use Rattle.pg_write_make.proofs.trails.row_bindings.Goals as goal

pub loop-path-preserved : goal.loop-path-preserved
loop-path-preserved g c =
    let ps = c.args.paths.now in
    path_binds 0 ps c.loop-path.path-index c.path-item.result c.path-item.is c.loop-path-test.true c.args.graph.now c.loop-path.rest.now c.in-Some.others.now c.in-Some.trail.now
    (bindings_view c.loop-path.bindings.items) (bindings_view c.bind_path.new.bindings.items) (named (match_bindings c.args.graph.now (paths_view ps) (map trail_view c.args.trails.now.items)))
    c.in-Some.ensures.cases.0 c.in_ok-bind_path-in-Some.ensures c.loop-path.invariant

pub returns-in-None : goal.returns-in-None
returns-in-None g c =
    let ps = c.args.paths.now in
    sym (bindings_over c.args.graph.now ps c.loop-path.path-index c.loop-path.rest.now (bindings_view c.loop-path.bindings.items) (named (match_bindings c.args.graph.now (paths_view ps) (map trail_view c.args.trails.now.items)))
    c.loop-path.invariant (nil_from_length c.loop-path.rest.now c.in-None.ensures.cases))

pub returns : goal.returns
returns g c =
    let ps = c.args.paths.now in
    sym (bindings_past c.args.graph.now ps c.loop-path.path-index c.loop-path.rest.now (bindings_view c.loop-path.bindings.items) (named (match_bindings c.args.graph.now (paths_view ps) (map trail_view c.args.trails.now.items)))
    c.loop-path.invariant c.loop-path-test.false)
