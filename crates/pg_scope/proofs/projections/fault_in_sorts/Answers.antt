use Rattle.std.proofs.Common.{map, refl, sym, ◌∙◌}
use Rattle.std.specs.Prelude.{flat_map}
use Rattle.pg_scope.proofs.FirstLemmas.{walk_item, walk_ended}
use Rattle.pg_scope.proofs.ProjectionLemmas.{sort_seen, sort_passed}
use Rattle.pg_scope.specs.Columns.{sorts}
use Rattle.pg_scope.specs.Names.{names_in}
use Rattle.pg_syntax_tree.specs.View.{item_view, sort_item_view}
use Rattle.pg_scope.proofs.projections.fault_in_sorts.Goals as goal

pub loop-sort-preserved : goal.loop-sort-preserved
loop-sort-preserved c = let each = sorts (map item_view c.args.items.now.items) (names_in c.args.visible.now) in
    c.loop-sort.invariant ∙ walk_item (λ ys. flat_map each (map sort_item_view ys)) (λ y. each (sort_item_view y)) (λ y ys. refl) c.loop-sort-test.true c.sort-item.is c.deref-sort-items.ensures.value (elim c.if-not-branch.branch [
      | goal.then-not-branch w ↦ rw w.first-is (sort_seen (map item_view c.args.items.now.items) (names_in c.args.visible.now) (sort_item_view c.sort-item.result) (sym w.if-not-branch.true ∙ c.in_ok-is_item.ensures) w.fault_in_expression-first.ensures)
      | goal.else-not-branch w ↦ rw w.first-is (sort_passed (map item_view c.args.items.now.items) (names_in c.args.visible.now) (sort_item_view c.sort-item.result) (sym w.if-not-branch.false ∙ c.in_ok-is_item.ensures))
    ])

pub loop-sort-init : goal.loop-sort-init
loop-sort-init c = refl

pub returns : goal.returns
returns c = let each = sorts (map item_view c.args.items.now.items) (names_in c.args.visible.now) in
    walk_ended (λ ys. flat_map each (map sort_item_view ys)) refl c.loop-sort-test.false c.deref-sort-items.ensures.value c.args.first c.loop-sort.first c.loop-sort.invariant
