use Rattle.std.proofs.Common.{◌≡◌, ◌<◌, ◌∷◌, arith, drop, get_or, inl, inr, length, refl, ◌∙◌}
use Rattle.std.proofs.lemmas.List.{nil_from_length}
use Rattle.std.proofs.lemmas.Result.{err_from_is_err_and, IfOk-from_err}
use Rattle.std.specs.Vec.Iter.{into_iter_items}
use Rattle.pg_syntax_tree.specs.View.{relationship_view}
use Rattle.pg_write_make.proofs.LoopLemmas.{at_same, within_same, past_same, hops_done, next_there, hops_begun}
use Rattle.pg_write_make.proofs.GrowthLemmas.{grows_twice, joined_grows, there_grows}
use Rattle.pg_write_make.proofs.StepLemmas.{hop_made, hop_refused, hops_over}
use Rattle.pg_write_make.specs.Makings.{node_ids, outcomes_view, relationship_ids, relationships_view, AreThere, Grows}
use Rattle.pg_write_make.specs.Outcomes.{hops_made, outcome_view}
use Rattle.pg_expr.proofs.ExitLemmas.{fault_passed}
use Rattle.pg_meaning.specs.declared.fault.Fault.TheVariants.{OutOfMemory}
use Rattle.pg_write_make.proofs.hops.make_hops.Goals as goal
use Rattle.pg_write_make.proofs.hops.make_hops.Goals.{in_default-via-in-Some+in_default, in_default-via-in_default}

pub loop-hop-preserved : goal.loop-hop-preserved
loop-hop-preserved g c =
    let hs = c.args.hops.now.items in
    let i = c.loop-hop.hop-index in
    let h = c.hop-item.result in
    let before = c.args.live.now.graph in
    let now = c.loop-hop.live.graph in
    let after = c.add_relationship.new.live.graph in
    let right = c.in-Some-Some.right.now in
    let more = c.in-Some-Some.more.now in
    let same = c.deref-hop-items.ensures.value in
    let at : h ≡ get_or hs i h = at_same c.deref-hop-items.result.now hs i h same c.hop-item.is in
    let within : i < length hs = within_same c.deref-hop-items.result.now hs i same c.loop-hop-test.true in
    let made = c.in_ok-add_relationship-in-Some-Some.ensures.ok in
    let one : Grows now after = joined_grows c.args.query.now.max_elements (outcome_view c.in-Some-Some.outcome) (relationship_view h.0) c.loop-hop.left.0 right.0 now after made in
    let there : AreThere now (node_ids (right ∷ more)) = next_there now c.loop-hop.ahead.now right more c.in-Some-Some.ensures'.cases.0 c.loop-hop.invariant.ahead in
    record {
      rest = hop_made c.args.query.now.max_elements hs i h at within c.in-Some-Some.outcome (into_iter_items c.loop-hop.rest) (into_iter_items c.next.new.self) c.loop-hop.left right c.loop-hop.ahead.now more now c.loop-hop.made.items
          (hops_made c.args.query.now.max_elements (outcomes_view c.args.outcomes.items) (relationships_view hs) c.args.first.0 (node_ids c.args.others.now) c.args.live.now.graph)
          c.in-Some-Some.ensures.items c.in-Some-Some.ensures'.cases.0 c.loop-hop.invariant.rest after c.in_ok-add_relationship-in-Some-Some.field-0 c.push.new.self.items made c.in_ok-add_relationship-in-Some-Some.ensures.id c.in_ok-push-in-Some-Some.ensures.items;
      left = one right.0 there.0;
      ahead = there_grows now after (node_ids more) one there.1;
      grows = grows_twice before now after c.loop-hop.invariant.grows one;
      aside = c.add_relationship.ensures.aside ∙ c.loop-hop.invariant.aside;
    }

pub returns-in_err-add_relationship-in-Some-Some-clause-err : goal.returns-in_err-add_relationship-in-Some-Some-clause-err
returns-in_err-add_relationship-in-Some-Some-clause-err g c =
    let hs = c.args.hops.now.items in
    let i = c.loop-hop.hop-index in
    let h = c.hop-item.result in
    let same = c.deref-hop-items.ensures.value in
    let p = err_from_is_err_and c.from_residual-in_err-add_relationship-in-Some-Some.result c.from_residual-in_err-add_relationship-in-Some-Some.ensures.1 in
    rw (p.1, p.2) (λ other. hop_refused c.args.query.now.max_elements hs i h (at_same c.deref-hop-items.result.now hs i h same c.hop-item.is) (within_same c.deref-hop-items.result.now hs i same c.loop-hop-test.true)
    c.in-Some-Some.outcome (into_iter_items c.loop-hop.rest) (into_iter_items c.next.new.self) c.loop-hop.left c.in-Some-Some.right.now c.loop-hop.ahead.now c.in-Some-Some.more.now c.loop-hop.live.graph c.loop-hop.made.items
    (hops_made c.args.query.now.max_elements (outcomes_view c.args.outcomes.items) (relationships_view hs) c.args.first.0 (node_ids c.args.others.now) c.args.live.now.graph)
    c.in-Some-Some.ensures.items c.in-Some-Some.ensures'.cases.0 c.loop-hop.invariant.rest c.in_err-add_relationship-in-Some-Some.field-0.0 (c.in_err-add_relationship-in-Some-Some.ensures.err other))

pub returns-in_err-push-in-Some-Some-clause-err : goal.returns-in_err-push-in-Some-Some-clause-err
returns-in_err-push-in-Some-Some-clause-err g c =
    let p = err_from_is_err_and c.from_residual-in_err-push-in-Some-Some.result c.from_residual-in_err-push-in-Some-Some.ensures.1 in
    rw p.1 (λ other. absurd (other p.2))

pub returns-clause-ok : goal.returns-clause-ok
returns-clause-ok g c =
    let hs = c.args.hops.now.items in
    hops_done c.args.query.now.max_elements (outcomes_view (into_iter_items c.loop-hop.rest)) hs c.loop-hop.hop-index c.loop-hop.left.0 (node_ids c.loop-hop.ahead.now) c.loop-hop.live.graph (relationship_ids c.loop-hop.made.items)
    (hops_made c.args.query.now.max_elements (outcomes_view c.args.outcomes.items) (relationships_view hs) c.args.first.0 (node_ids c.args.others.now) c.args.live.now.graph)
    c.loop-hop.invariant.rest (past_same c.deref-hop-items.result.now hs c.loop-hop.hop-index c.deref-hop-items.ensures.value c.loop-hop-test.false)

pub returns-clause-aside : goal.returns-clause-aside
returns-clause-aside g c = c.loop-hop.invariant.aside

pub returns-clause-grows : goal.returns-clause-grows
returns-clause-grows g c = c.loop-hop.invariant.grows

pub returns-in_err-add_relationship-in-Some-Some-clause-aside : goal.returns-in_err-add_relationship-in-Some-Some-clause-aside
returns-in_err-add_relationship-in-Some-Some-clause-aside g c = c.add_relationship.ensures.aside ∙ c.loop-hop.invariant.aside

pub returns-in_err-push-in-Some-Some-clause-aside : goal.returns-in_err-push-in-Some-Some-clause-aside
returns-in_err-push-in-Some-Some-clause-aside g c = c.add_relationship.ensures.aside ∙ c.loop-hop.invariant.aside

pub returns-in_default-clause-ok : goal.returns-in_default-clause-ok
returns-in_default-clause-ok g c =
    let over = hops_over c.args.query.now.max_elements (into_iter_items c.loop-hop.rest) (relationships_view (drop c.loop-hop.hop-index c.args.hops.now.items)) c.loop-hop.left.0 c.loop-hop.ahead.now c.loop-hop.live.graph
    (relationship_ids c.loop-hop.made.items) (hops_made c.args.query.now.max_elements (outcomes_view c.args.outcomes.items) (relationships_view c.args.hops.now.items) c.args.first.0 (node_ids c.args.others.now) c.args.live.now.graph) c.loop-hop.invariant.rest in
    elim c.in_default.branch [
      | in_default-via-in-Some+in_default w ↦ over (inr (nil_from_length c.loop-hop.ahead.now w.in_default.ensures'.cases))
      | in_default-via-in_default w ↦ over (inl (nil_from_length (into_iter_items c.loop-hop.rest) (let none = w.in_default.ensures.cases in omega (arith, none.0))))
    ]

pub returns-in_err-made-clause-ok : goal.returns-in_err-made-clause-ok
returns-in_err-made-clause-ok g c = IfOk-from_err c.from_residual.result _ c.from_residual.ensures.0

pub returns-in_err-made-clause-err : goal.returns-in_err-made-clause-err
returns-in_err-made-clause-err g c = fault_passed _ OutOfMemory c.from_residual.result c.from_residual.ensures.1 (λ other. absurd (other refl))

pub returns-in_err-made-clause-aside : goal.returns-in_err-made-clause-aside
returns-in_err-made-clause-aside g c = refl

pub returns-in_err-made-clause-grows : goal.returns-in_err-made-clause-grows
returns-in_err-made-clause-grows g c = IfOk-from_err c.from_residual.result _ c.from_residual.ensures.0

pub loop-hop-init : goal.loop-hop-init
loop-hop-init g c = record {
  rest = hops_begun c.args.query.now.max_elements c.args.outcomes.items (into_iter_items c.into_iter-rest.result) (relationships_view c.args.hops.now.items) c.args.first.0 (node_ids c.args.others.now) c.args.live.now.graph c.in_ok-made.made.items
      c.into_iter-rest.ensures.rest c.in_ok-made.ensures.items;
  left = c.requires.first;
  ahead = c.requires.others;
  grows = λ n there. there;
  aside = refl;
}

pub add_relationship-requires-clause-left : goal.add_relationship-requires-clause-left
add_relationship-requires-clause-left g c = c.loop-hop.invariant.left

pub add_relationship-requires-clause-right : goal.add_relationship-requires-clause-right
add_relationship-requires-clause-right g c =
    (next_there c.loop-hop.live.graph c.loop-hop.ahead.now c.in-Some-Some.right.now c.in-Some-Some.more.now c.in-Some-Some.ensures'.cases.0 c.loop-hop.invariant.ahead).0

pub returns-in_err-add_relationship-in-Some-Some-clause-ok : goal.returns-in_err-add_relationship-in-Some-Some-clause-ok
returns-in_err-add_relationship-in-Some-Some-clause-ok g c = IfOk-from_err c.from_residual-in_err-add_relationship-in-Some-Some.result _ c.from_residual-in_err-add_relationship-in-Some-Some.ensures.0

pub returns-in_err-add_relationship-in-Some-Some-clause-grows : goal.returns-in_err-add_relationship-in-Some-Some-clause-grows
returns-in_err-add_relationship-in-Some-Some-clause-grows g c = IfOk-from_err c.from_residual-in_err-add_relationship-in-Some-Some.result _ c.from_residual-in_err-add_relationship-in-Some-Some.ensures.0

pub returns-in_err-push-in-Some-Some-clause-ok : goal.returns-in_err-push-in-Some-Some-clause-ok
returns-in_err-push-in-Some-Some-clause-ok g c = IfOk-from_err c.from_residual-in_err-push-in-Some-Some.result _ c.from_residual-in_err-push-in-Some-Some.ensures.0

pub returns-in_err-push-in-Some-Some-clause-grows : goal.returns-in_err-push-in-Some-Some-clause-grows
returns-in_err-push-in-Some-Some-clause-grows g c = IfOk-from_err c.from_residual-in_err-push-in-Some-Some.result _ c.from_residual-in_err-push-in-Some-Some.ensures.0

pub returns-in_default-clause-err : goal.returns-in_default-clause-err
returns-in_default-clause-err g c = tt

pub returns-in_default-clause-aside : goal.returns-in_default-clause-aside
returns-in_default-clause-aside g c = c.loop-hop.invariant.aside

pub returns-in_default-clause-grows : goal.returns-in_default-clause-grows
returns-in_default-clause-grows g c = c.loop-hop.invariant.grows

pub returns-clause-err : goal.returns-clause-err
returns-clause-err g c = tt
