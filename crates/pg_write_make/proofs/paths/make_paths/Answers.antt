use Rattle.std.proofs.Common.{◌++◌, map, refl, arith, ◌∙◌}
use Rattle.std.proofs.lemmas.List.{nil_from_length}
use Rattle.std.proofs.lemmas.Result.{err_from_is_err_and}
use Rattle.std.specs.Vec.Iter.{into_iter_items}
use Rattle.pg_write_make.proofs.PathLemmas.{none_named, paths_begun, paths_over, paths_past}
use Rattle.pg_write_make.proofs.StepLemmas.{path_done, path_failed, path_is_tested, paths_tested_on}
use Rattle.pg_write_make.specs.Lent.{kept_view, paths_view}
use Rattle.pg_write_make.specs.Makings.{bindings}
use Rattle.pg_write_make.specs.Outcomes.{paths_made}
use Rattle.pg_write_make.specs.Scenes.{max_elements_in, row_at}
use Rattle.pg_write_make.proofs.paths.make_paths.Goals as goal

pub returns-in_err-trails-clause-err : goal.returns-in_err-trails-clause-err
returns-in_err-trails-clause-err g c =
    let p = err_from_is_err_and c.from_residual.result c.from_residual.ensures.1 in
    rw (p.1, p.2) (λ other. absurd (other refl))

pub returns-in_err-trails-clause-aside : goal.returns-in_err-trails-clause-aside
returns-in_err-trails-clause-aside g c = refl

pub loop-path-init : goal.loop-path-init
loop-path-init g c =
    let now = c.args.live.now.graph in
    record {
      rest = paths_begun (max_elements_in c.args.row.now.scene.now) c.args.paths.now now c.in_ok-trails.trails.items c.args.kept.items (into_iter_items c.into_iter-rest.result) (row_at c.args.row.now) c.new-named.result.items
          c.into_iter-rest.ensures.rest c.new-named.ensures.items c.in_ok-trails.ensures.items;
      tested = c.requires.tested;
      there = none_named now c.new-named.result.items c.new-named.ensures.items;
      aside = refl;
    }

pub make_path-requires-clause-tested : goal.make_path-requires-clause-tested
make_path-requires-clause-tested g c =
    path_is_tested (max_elements_in c.args.row.now.scene.now) c.args.paths.now c.loop-path.path-index c.path-item.result c.path-item.is c.loop-path-test.true
    c.loop-path.live.graph (row_at c.args.row.now) c.loop-path.invariant.tested

pub make_path-requires-clause-there : goal.make_path-requires-clause-there
make_path-requires-clause-there g c = c.loop-path.invariant.there

pub returns-in_err-make_path-in-Some-clause-err : goal.returns-in_err-make_path-in-Some-clause-err
returns-in_err-make_path-in-Some-clause-err g c =
    let row = row_at c.args.row.now in
    let p = err_from_is_err_and c.from_residual-in_err-make_path-in-Some.result c.from_residual-in_err-make_path-in-Some.ensures.1 in
    rw (p.1, p.2) (λ other. path_failed (max_elements_in c.args.row.now.scene.now) c.args.paths.now c.loop-path.path-index c.path-item.result c.path-item.is c.loop-path-test.true
    c.in-Some.values (into_iter_items c.loop-path.rest) (into_iter_items c.next.new.self) c.loop-path.live.graph (row ++ bindings c.loop-path.named.items) c.loop-path.trails.items
    (paths_made (max_elements_in c.args.row.now.scene.now) (map kept_view c.args.kept.items) (paths_view c.args.paths.now) (c.args.live.now.graph, row))
    c.in-Some.ensures.items c.loop-path.invariant.rest c.in_err-make_path-in-Some.field-0.0 (c.in_err-make_path-in-Some.ensures.err other))

pub returns-in_err-make_path-in-Some-clause-aside : goal.returns-in_err-make_path-in-Some-clause-aside
returns-in_err-make_path-in-Some-clause-aside g c =
    c.make_path.ensures.aside ∙ c.loop-path.invariant.aside

pub returns-in_err-push-in-Some-clause-err : goal.returns-in_err-push-in-Some-clause-err
returns-in_err-push-in-Some-clause-err g c =
    let p = err_from_is_err_and c.from_residual-in_err-push-in-Some.result c.from_residual-in_err-push-in-Some.ensures.1 in
    rw (p.1, p.2) (λ other. absurd (other refl))

pub returns-in_err-push-in-Some-clause-aside : goal.returns-in_err-push-in-Some-clause-aside
returns-in_err-push-in-Some-clause-aside g c =
    c.make_path.ensures.aside ∙ c.loop-path.invariant.aside

pub returns-in-None-clause-ok : goal.returns-in-None-clause-ok
returns-in-None-clause-ok g c =
    let row = row_at c.args.row.now in
    paths_over (max_elements_in c.args.row.now.scene.now) c.args.paths.now c.loop-path.live.graph c.loop-path.trails.items (into_iter_items c.loop-path.rest) c.loop-path.path-index (row ++ bindings c.loop-path.named.items)
    (paths_made (max_elements_in c.args.row.now.scene.now) (map kept_view c.args.kept.items) (paths_view c.args.paths.now) (c.args.live.now.graph, row))
    c.loop-path.invariant.rest (nil_from_length (into_iter_items c.loop-path.rest) (let none = c.in-None.ensures.cases in omega (arith, none.0)))

pub returns-in-None-clause-aside : goal.returns-in-None-clause-aside
returns-in-None-clause-aside g c = c.loop-path.invariant.aside

pub loop-path-preserved : goal.loop-path-preserved
loop-path-preserved g c =
    let paths = c.args.paths.now in
    let i = c.loop-path.path-index in
    let p = c.path-item.result in
    let row = row_at c.args.row.now in
    let now = c.loop-path.live.graph in
    let after = c.make_path.new.live.graph in
    record {
      rest = path_done (max_elements_in c.args.row.now.scene.now) paths i p c.path-item.is c.loop-path-test.true c.in-Some.values (into_iter_items c.loop-path.rest) (into_iter_items c.next.new.self) now (row ++ bindings c.loop-path.named.items) c.loop-path.trails.items
          (paths_made (max_elements_in c.args.row.now.scene.now) (map kept_view c.args.kept.items) (paths_view paths) (c.args.live.now.graph, row))
          c.in-Some.ensures.items c.loop-path.invariant.rest after (row ++ bindings c.make_path.new.named.items) c.in_ok-make_path-in-Some.field-0 c.push.new.self.items c.in_ok-make_path-in-Some.ensures.ok c.in_ok-push-in-Some.ensures.items;
      tested = paths_tested_on (max_elements_in c.args.row.now.scene.now) paths i p c.path-item.is c.loop-path-test.true now row c.loop-path.invariant.tested after c.in_ok-make_path-in-Some.ensures.grows;
      there = c.in_ok-make_path-in-Some.ensures.there;
      aside = c.make_path.ensures.aside ∙ c.loop-path.invariant.aside;
    }

pub returns-clause-ok : goal.returns-clause-ok
returns-clause-ok g c =
    let row = row_at c.args.row.now in
    paths_past (max_elements_in c.args.row.now.scene.now) c.args.paths.now c.loop-path.live.graph c.loop-path.trails.items (into_iter_items c.loop-path.rest) c.loop-path.path-index (row ++ bindings c.loop-path.named.items)
    (paths_made (max_elements_in c.args.row.now.scene.now) (map kept_view c.args.kept.items) (paths_view c.args.paths.now) (c.args.live.now.graph, row))
    c.loop-path.invariant.rest c.loop-path-test.false

pub returns-clause-aside : goal.returns-clause-aside
returns-clause-aside g c = c.loop-path.invariant.aside
