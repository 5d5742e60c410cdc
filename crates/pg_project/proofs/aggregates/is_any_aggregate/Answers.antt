use Rattle.std.proofs.Common.{◌+◌, Bool, List, drop, is_some, map, refl, sym, ap, ◌∙◌}
use Rattle.std.specs.List.{list_any}
use Rattle.std.specs.Prelude.{◌||◌}
use Rattle.pg_meaning.specs.Aggregates.{aggregate_of}
use Rattle.pg_scope.proofs.FirstLemmas.{item_here, items_end}
use Rattle.pg_syntax_tree.specs.View.{item_view}
use Rattle.pg_syntax_tree.specs.declared.clauses.Item.{Item}
use Rattle.pg_project.proofs.aggregates.is_any_aggregate.Goals as goal

abbrev any : List Item → Bool
any items = list_any (λ i. is_some (aggregate_of i.value)) (map item_view items)

pub loop-item-init : goal.loop-item-init
loop-item-init c = refl

pub loop-item-preserved : goal.loop-item-preserved
loop-item-preserved c =
    let l = c.loop-item in
    l.invariant
    ∙ ap any (item_here c.loop-item-test.true c.item-item.is c.deref-item-items.ensures.value)
    ∙ ap (λ b. b || any (drop (l.item-index + 1) c.args.items.now.items)) (sym c.is_aggregate.ensures ∙ c.if-is_aggregate.false)

pub returns-then-is_aggregate : goal.returns-then-is_aggregate
returns-then-is_aggregate c =
    let l = c.loop-item in
    sym (
    l.invariant
    ∙ ap any (item_here c.loop-item-test.true c.item-item.is c.deref-item-items.ensures.value)
    ∙ ap (λ b. b || any (drop (l.item-index + 1) c.args.items.now.items)) (sym c.is_aggregate.ensures ∙ c.if-is_aggregate.true)
    )

pub returns : goal.returns
returns c = sym (c.loop-item.invariant ∙ ap any (items_end c.loop-item-test.false c.deref-item-items.ensures.value))
