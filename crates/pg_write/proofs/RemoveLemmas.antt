-- The definition of REMOVE, from what its parts give.
use Rattle.std.proofs.Common.{◌≡◌, true, false, Result, Ok, Err, refl, ap, ◌∙◌}
use Rattle.pg_meaning.specs.Answer.{◌>>=◌}
use Rattle.pg_meaning.specs.Graph.{Graph}
use Rattle.pg_meaning.specs.Rows.{Row}
use Rattle.pg_meaning.specs.Tree.{RemoveItem, remove_property, remove_labels}
use Rattle.pg_meaning.specs.Updates.{Target, nothing, is_nothing, target_of, on_target, remove_item}
use Rattle.pg_meaning.specs.declared.fault.Fault.{Fault}
use Rattle.pg_write.specs.Parts.{remove_target, removed_by}

module _ (row : Row) (graph : Graph) where
  item_is : (i : RemoveItem) → remove_item row graph i ≡ on_target graph row (remove_target i) (removed_by i graph)
  item_is (remove_property t k) = refl
  item_is (remove_labels t ls) = refl

  abbrev on_found : (Target → Result Graph Fault) → Target → Result Graph Fault
  on_found f target = elim (is_nothing target) [ true ↦ Ok graph | false ↦ f target ]

  pub nothing_removed : (i : RemoveItem) → target_of graph row (remove_target i) ≡ Ok nothing → remove_item row graph i ≡ Ok graph
  nothing_removed i is = item_is i ∙ ap (λ r. r >>= on_found (removed_by i graph)) is

  pub target_removed : (i : RemoveItem) (target : Target) → target_of graph row (remove_target i) ≡ Ok target → is_nothing target ≡ false → remove_item row graph i ≡ removed_by i graph target
  target_removed i target is there =
      item_is i ∙ ap (λ r. r >>= on_found (removed_by i graph)) is
      ∙ ap (λ b. elim b [ true ↦ Ok graph | false ↦ removed_by i graph target ]) there

  pub target_refused : (i : RemoveItem) (e : Fault) → target_of graph row (remove_target i) ≡ Err e → remove_item row graph i ≡ Err e
  target_refused i e is = item_is i ∙ ap (λ r. r >>= on_found (removed_by i graph)) is
