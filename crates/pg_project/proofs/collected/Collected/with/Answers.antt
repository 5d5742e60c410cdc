use Rattle.std.proofs.Common.{map, Ok, sym, ap, ◌∙◌}
use Rattle.pg_project.proofs.Different.{view_append}
use Rattle.pg_project.proofs.Measures.{refused, taken, weighed, deep, light, shallow}
use Rattle.pg_meaning.specs.Measure.{items_weight, items_depth}
use Rattle.pg_meaning.specs.Value.{values_of}
use Rattle.pg_value_core.specs.View.{view}
use Rattle.pg_project.proofs.collected.Collected.with.Goals as goal

pub returns-then-not-is_within : goal.returns-then-not-is_within
returns-then-not-is_within c = let s = c.args.self in record {
  ok = tt;
  err = λ other. refused (map view s.items.items) (view c.args.value) s.weight s.depth c.weight.result c.depth.result c.saturating_add-heavier.result c.max-deeper.result s.weighed s.deep c.weight.ensures c.depth.ensures c.saturating_add-heavier.ensures c.max-deeper.ensures (sym c.is_within.ensures ∙ c.if-not-is_within.true);
}

pub invariant_of-result : goal.invariant_of-result
invariant_of-result c =
    let s = c.args.self in
    let e = sym c.is_within.ensures ∙ c.if-not-is_within.false in
    let more = ap (map view) c.in_ok-push.ensures.items ∙ view_append s.items.items c.args.value in
    record {
      weighed = weighed (map view s.items.items) (view c.args.value) s.weight s.depth c.weight.result c.depth.result c.saturating_add-heavier.result c.max-deeper.result s.weighed s.deep c.weight.ensures c.depth.ensures c.saturating_add-heavier.ensures c.max-deeper.ensures e ∙ sym (ap (λ vs. items_weight (values_of vs)) more);
      deep = deep (map view s.items.items) (view c.args.value) s.weight s.depth c.weight.result c.depth.result c.saturating_add-heavier.result c.max-deeper.result s.weighed s.deep c.weight.ensures c.depth.ensures c.saturating_add-heavier.ensures c.max-deeper.ensures e ∙ sym (ap (λ vs. items_depth (values_of vs)) more);
      light = light (map view s.items.items) (view c.args.value) s.weight s.depth c.weight.result c.depth.result c.saturating_add-heavier.result c.max-deeper.result s.weighed s.deep c.weight.ensures c.depth.ensures c.saturating_add-heavier.ensures c.max-deeper.ensures e;
      shallow = shallow (map view s.items.items) (view c.args.value) s.weight s.depth c.weight.result c.depth.result c.saturating_add-heavier.result c.max-deeper.result s.weighed s.deep c.weight.ensures c.depth.ensures c.saturating_add-heavier.ensures c.max-deeper.ensures e;
    }

pub returns : goal.returns
returns c =
    let s = c.args.self in
    let e = sym c.is_within.ensures ∙ c.if-not-is_within.false in
    let more = ap (map view) c.in_ok-push.ensures.items ∙ view_append s.items.items c.args.value in
    record {
      ok = taken (map view s.items.items) (view c.args.value) s.weight s.depth c.weight.result c.depth.result c.saturating_add-heavier.result c.max-deeper.result s.weighed s.deep c.weight.ensures c.depth.ensures c.saturating_add-heavier.ensures c.max-deeper.ensures e ∙ ap Ok (sym more);
      err = tt;
    }
