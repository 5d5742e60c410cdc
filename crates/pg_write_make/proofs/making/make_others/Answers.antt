use Rattle.std.proofs.Common.{◌≡◌, ◌<◌, get_or, length, drop, arith, sym, ap, refl, ◌∙◌}
use Rattle.std.proofs.lemmas.List.{nil_from_length}
use Rattle.std.proofs.lemmas.Result.{err_from_is_err_and, IfOk-from_err}
use Rattle.std.specs.Vec.Iter.{into_iter_items}
use Rattle.pg_write_make.proofs.LoopLemmas.{at_same, within_same, past_same, node_is_tested, nodes_over, nodes_past}
use Rattle.pg_write_make.proofs.GrowthLemmas.{grows_twice}
use Rattle.pg_write_make.proofs.StepLemmas.{node_made, node_refused, tests_left}
use Rattle.pg_write_make.specs.Makings.{making_of, others_view, outcomes_view}
use Rattle.pg_write_make.specs.Outcomes.{nodes_made}
use Rattle.pg_write_make.specs.Scenes.{max_elements_in, row_at}
use Rattle.pg_write_make.proofs.making.make_others.Goals as goal

pub make_node-requires-clause-tested : goal.make_node-requires-clause-tested
make_node-requires-clause-tested g c =
    let hs = c.args.hops.now.items in
    let i = c.loop-hop.hop-index in
    let h = c.hop-item.result in
    let same = c.deref-hop-items.ensures.value in
    node_is_tested hs i h (at_same c.deref-hop-items.result.now hs i h same c.hop-item.is) (within_same c.deref-hop-items.result.now hs i same c.loop-hop-test.true)
    c.loop-hop.live.graph (row_at c.args.row.now) c.loop-hop.invariant.tested

pub make_node-requires-clause-there : goal.make_node-requires-clause-there
make_node-requires-clause-there g c = c.loop-hop.invariant.there

pub returns-in_err-make_node-in-Some-clause-err : goal.returns-in_err-make_node-in-Some-clause-err
returns-in_err-make_node-in-Some-clause-err g c =
    let hs = c.args.hops.now.items in
    let i = c.loop-hop.hop-index in
    let h = c.hop-item.result in
    let same = c.deref-hop-items.ensures.value in
    let row = row_at c.args.row.now in
    let p = err_from_is_err_and c.from_residual.result c.from_residual.ensures.1 in
    rw (p.1, p.2) (λ other. node_refused (max_elements_in c.args.row.now.scene.now) hs i h (at_same c.deref-hop-items.result.now hs i h same c.hop-item.is) (within_same c.deref-hop-items.result.now hs i same c.loop-hop-test.true)
    c.in-Some.outcome (into_iter_items c.loop-hop.rest) (into_iter_items c.next.new.self)
    (making_of c.loop-hop.live.graph row c.loop-hop.named.items c.loop-hop.ids.items)
    (nodes_made (max_elements_in c.args.row.now.scene.now) (outcomes_view c.args.outcomes.items) (others_view hs) (making_of c.args.live.now.graph row c.args.named.now.items c.args.ids.now.items))
    c.in-Some.ensures.items c.loop-hop.invariant.rest c.in_err-make_node-in-Some.field-0.0 (c.in_err-make_node-in-Some.ensures.err other))

pub returns-in_err-make_node-in-Some-clause-aside : goal.returns-in_err-make_node-in-Some-clause-aside
returns-in_err-make_node-in-Some-clause-aside g c =
    c.make_node.ensures.aside ∙ c.loop-hop.invariant.aside

pub returns-in-None-clause-ok : goal.returns-in-None-clause-ok
returns-in-None-clause-ok g c =
    let hs = c.args.hops.now.items in
    let row = row_at c.args.row.now in
    nodes_over (max_elements_in c.args.row.now.scene.now) (into_iter_items c.loop-hop.rest) (others_view (drop c.loop-hop.hop-index hs))
    (making_of c.loop-hop.live.graph row c.loop-hop.named.items c.loop-hop.ids.items)
    (nodes_made (max_elements_in c.args.row.now.scene.now) (outcomes_view c.args.outcomes.items) (others_view hs) (making_of c.args.live.now.graph row c.args.named.now.items c.args.ids.now.items))
    c.loop-hop.invariant.rest (nil_from_length (into_iter_items c.loop-hop.rest) (let none = c.in-None.ensures.cases in omega (arith, none.0)))

pub returns-in-None-clause-aside : goal.returns-in-None-clause-aside
returns-in-None-clause-aside g c = c.loop-hop.invariant.aside

pub returns-in-None-clause-grows : goal.returns-in-None-clause-grows
returns-in-None-clause-grows g c = c.loop-hop.invariant.grows

pub returns-in-None-clause-there : goal.returns-in-None-clause-there
returns-in-None-clause-there g c = c.loop-hop.invariant.there

pub loop-hop-preserved : goal.loop-hop-preserved
loop-hop-preserved g c =
    let hs = c.args.hops.now.items in
    let i = c.loop-hop.hop-index in
    let h = c.hop-item.result in
    let row = row_at c.args.row.now in
    let before = c.args.live.now.graph in
    let now = c.loop-hop.live.graph in
    let after = c.make_node.new.live.graph in
    let same = c.deref-hop-items.ensures.value in
    let at : h ≡ get_or hs i h = at_same c.deref-hop-items.result.now hs i h same c.hop-item.is in
    let within : i < length hs = within_same c.deref-hop-items.result.now hs i same c.loop-hop-test.true in
    record {
      rest = node_made (max_elements_in c.args.row.now.scene.now) hs i h at within c.in-Some.outcome (into_iter_items c.loop-hop.rest) (into_iter_items c.next.new.self)
          (making_of now row c.loop-hop.named.items c.loop-hop.ids.items)
          (nodes_made (max_elements_in c.args.row.now.scene.now) (outcomes_view c.args.outcomes.items) (others_view hs) (making_of before row c.args.named.now.items c.args.ids.now.items))
          c.in-Some.ensures.items c.loop-hop.invariant.rest (making_of after row c.make_node.new.named.items c.make_node.new.ids.items) c.in_ok-make_node-in-Some.ensures.ok;
      tested = tests_left (max_elements_in c.args.row.now.scene.now) hs i h at within now after row c.in_ok-make_node-in-Some.ensures.grows c.loop-hop.invariant.tested;
      there = c.in_ok-make_node-in-Some.ensures.there;
      grows = grows_twice before now after c.loop-hop.invariant.grows c.in_ok-make_node-in-Some.ensures.grows;
      aside = c.make_node.ensures.aside ∙ c.loop-hop.invariant.aside;
    }

pub returns-clause-ok : goal.returns-clause-ok
returns-clause-ok g c =
    let hs = c.args.hops.now.items in
    let row = row_at c.args.row.now in
    nodes_past (max_elements_in c.args.row.now.scene.now) (outcomes_view (into_iter_items c.loop-hop.rest)) hs c.loop-hop.hop-index
    (making_of c.loop-hop.live.graph row c.loop-hop.named.items c.loop-hop.ids.items)
    (nodes_made (max_elements_in c.args.row.now.scene.now) (outcomes_view c.args.outcomes.items) (others_view hs) (making_of c.args.live.now.graph row c.args.named.now.items c.args.ids.now.items))
    c.loop-hop.invariant.rest (past_same c.deref-hop-items.result.now hs c.loop-hop.hop-index c.deref-hop-items.ensures.value c.loop-hop-test.false)

pub returns-clause-aside : goal.returns-clause-aside
returns-clause-aside g c = c.loop-hop.invariant.aside

pub returns-clause-grows : goal.returns-clause-grows
returns-clause-grows g c = c.loop-hop.invariant.grows

pub returns-clause-there : goal.returns-clause-there
returns-clause-there g c = c.loop-hop.invariant.there

pub loop-hop-init : goal.loop-hop-init
loop-hop-init g c =
    let hs = c.args.hops.now.items in
    let making = making_of c.args.live.now.graph (row_at c.args.row.now) c.args.named.now.items c.args.ids.now.items in
    record {
      rest = ap (λ os. nodes_made (max_elements_in c.args.row.now.scene.now) (outcomes_view os) (others_view hs) making) (sym c.into_iter-rest.ensures.rest);
      tested = c.requires.tested;
      there = c.requires.there;
      grows = λ n there. there;
      aside = refl;
    }

pub returns-in_err-make_node-in-Some-clause-ok : goal.returns-in_err-make_node-in-Some-clause-ok
returns-in_err-make_node-in-Some-clause-ok g c = IfOk-from_err c.from_residual.result _ c.from_residual.ensures.0

pub returns-in_err-make_node-in-Some-clause-grows : goal.returns-in_err-make_node-in-Some-clause-grows
returns-in_err-make_node-in-Some-clause-grows g c = IfOk-from_err c.from_residual.result _ c.from_residual.ensures.0

pub returns-in_err-make_node-in-Some-clause-there : goal.returns-in_err-make_node-in-Some-clause-there
returns-in_err-make_node-in-Some-clause-there g c = IfOk-from_err c.from_residual.result _ c.from_residual.ensures.0

pub returns-in-None-clause-err : goal.returns-in-None-clause-err
returns-in-None-clause-err g c = tt

pub returns-clause-err : goal.returns-clause-err
returns-clause-err g c = tt
