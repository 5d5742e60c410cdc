use Rattle.std.proofs.Common.{arith, rules, ◌≡◌, ◌+◌, ap, sym, ◌∙◌, refl, drop, get_or}
use Rattle.std.proofs.lemmas.List.{drop_more, drop_all}
use Rattle.std.proofs.lemmas.Result.{err_from_is_err_and}
use Rattle.serde_json.specs.Data.{Data}
use Rattle.pg_json.specs.Replies.{data_of, data_step, path_data}
use Rattle.pg_json.specs.Room.{items_least}
use Rattle.pg_meaning.specs.Queries.{test_ids}
use Rattle.pg_run.proofs.Places.{one_place_spelt, one_place_refused, all_places_spelt}
use Rattle.pg_run.proofs.Spelts.{refused}
use Rattle.pg_run.proofs.elements.spell_path.Goals as goal
use Rattle.pg_run.specs.Printed.{path_items}
use Rattle.pg_value_core.specs.declared.out.Out.TheFolds.{fold-roll-Out}
use Rattle.pg_value_core.specs.declared.out.Out.TheOpen.{Out-F}
use Rattle.pg_value_core.specs.declared.out.Out.TheViews.{rolls-Path}

pub returns-in_err-found : goal.returns-in_err-found
returns-in_err-found g c =
    let p = err_from_is_err_and c.from_residual-in_err-found.result c.from_residual-in_err-found.ensures.1 in
    rw (p.1, p.2) (refused (λ other. absurd (other refl)))

pub returns-in_err-spell_element : goal.returns-in_err-spell_element
returns-in_err-spell_element g c =
    let p = err_from_is_err_and c.from_residual-in_err-spell_element.result c.from_residual-in_err-spell_element.ensures.1 in
    let ids = c.deref-id-items.result.now in
    let i = c.loop-id.id-index in
    rw (p.1, p.2) (refused (λ other. ap (test_ids c.args.graph.now) (sym c.deref-id-items.ensures.value)
    ∙ one_place_refused c.args.graph.now _ _ c.loop-id.is_node ids (drop i ids) (drop (i + 1) ids) c.loop-id.found.items (get_or ids i 0) _ c.loop-id.invariant (drop_more ids i 0 c.loop-id-test.true) (c.in_err-spell_element.ensures.err other)))

pub returns-in_err-push : goal.returns-in_err-push
returns-in_err-push g c =
    let p = err_from_is_err_and c.from_residual-in_err-push.result c.from_residual-in_err-push.ensures.1 in
    rw (p.1, p.2) (refused (λ other. absurd (other refl)))

pub loop-id-preserved : goal.loop-id-preserved
loop-id-preserved g c =
    let graph = c.args.graph.now in
    let ids = c.deref-id-items.result.now in
    rw c.in_ok-push.ensures.items
    (one_place_spelt graph _ _ _ c.loop-id.is_node ids (drop c.loop-id.id-index ids) (drop (c.loop-id.id-index + 1) ids) c.loop-id.found.items _ c.in_ok-spell_element.field-0
    c.loop-id.invariant (drop_more ids c.loop-id.id-index 0 c.loop-id-test.true) c.in_ok-spell_element.ensures.live (search (rules, c.in_ok-spell_element.ensures.room)) c.in_ok-spell_element.ensures.shown)

pub returns : goal.returns
returns g c =
    let graph = c.args.graph.now in
    let ids = c.deref-id-items.result.now in
    let all = all_places_spelt graph _ _ c.loop-id.is_node ids (drop c.loop-id.id-index ids) c.loop-id.found.items c.loop-id.invariant (drop_all c.loop-id.id-index ids c.loop-id-test.false) in
    let is : items_least (path_items graph ids) ≡ items_least (path_items graph c.args.path.now.0.items) = ap (λ ns. items_least (path_items graph ns)) c.deref-id-items.ensures.value in
    record {
      live = ap (test_ids graph) (sym c.deref-id-items.ensures.value) ∙ all.0;
      room = omega (arith, all.1, is, c.saturating_sub.ensures);
      shown = λ some. ap data_of (sym (rolls-Path c.loop-id.found)) ∙ fold-roll-Out Data data_step (Out-F.Path c.loop-id.found)
          ∙ ap path_data (all.2 some)
          ∙ ap (λ ns. path_data (path_items graph ns)) c.deref-id-items.ensures.value;
      err = tt;
    }
