-- From the same row MERGE finds or makes the same, but for the order of what it finds and which id is whose.
use Rattle.std.proofs.Common.{◌≡◌, ◌≢◌, Bool, true, false, inl, inr, List, [], ◌∷◌, map, refl, sym, subst, ◌∙◌}
use Rattle.std.proofs.lemmas.List.Sorted.{IsPermutation-map}
use Rattle.std.specs.List.{AllByRecursion}
use Rattle.std.specs.List.Sorted.{IsPermutation}
use Rattle.pg_soundness.proofs.ChangesComputed.{one_change, no_sets_fault}
use Rattle.pg_meaning.specs.Changes.{Sets}
use Rattle.pg_meaning.specs.Graph.{Graph, IsGraph}
use Rattle.pg_meaning.specs.ListsLaws.{all_at}
use Rattle.pg_meaning.specs.Meaning.{MergeMatched, MergeMade}
use Rattle.pg_meaning.specs.Patterns.{Assignment, Fits, bind_match}
use Rattle.pg_meaning.specs.Rows.{Row}
use Rattle.pg_meaning.specs.Tree.{PathPattern, SetItem}
use Rattle.pg_meaning.specs.Turns.{Given}
use Rattle.pg_meaning.specs.Updates.{items_on}
use Rattle.pg_meaning.specs.declared.fault.Fault.{Fault}
use Rattle.pg_relations.proofs.CreatesDetermined.{create_row_makes_one}
use Rattle.pg_relations.proofs.Moved.{once_moved}
use Rattle.pg_relations.specs.Merged.{One, MergesAlike, OwnItemFaults, MergeRowMakesOne, MergeItemsAreOne}

-- without items the graph stays
pub none_set : (g : Given) (graph after : Graph) (rows : List Row) → Sets g [] graph rows after → after ≡ graph
none_set g graph after [] s = s
none_set g graph after (row ∷ rows) s = none_set g s.0 after rows s.2 ∙ s.1

pub no_items_set : (g : Given) (items : List SetItem) (graph after : Graph) (rows : List Row) → items ≡ [] → Sets g items graph rows after → after ≡ graph
no_items_set g items graph after rows none s = none_set g graph after rows (subst (λ is. Sets g is graph rows after) none s)

module _ (g : Given) (p : PathPattern) (parts : List (Bool × List SetItem)) (graph : Graph) (row : Row) where
  pub not_none : (found : List Assignment) → AllByRecursion (Fits (p ∷ []) g.parameters graph row) found → found ≢ [] → ((a : Assignment) → Fits (p ∷ []) g.parameters graph row a → ⊥) → ⊥
  not_none [] h some none = some refl
  not_none (a ∷ as_) h some none = none a h.0

  module _ (after other : Graph) (results others : List Row) (is : IsGraph graph) where
    found_alike : (m : MergeMatched g p (items_on false parts) graph row after results) (n : MergeMatched g p (items_on false parts) graph row other others) → MergesAlike g p parts graph row after other results others (inl m) (inl n)
    found_alike m n =
        let found =
        once_moved m.found n.found m.matches.once n.matches.once
        (λ a i. n.matches.every a (all_at (Fits (p ∷ []) g.parameters graph row) a m.found m.matches.each i))
        (λ a i. m.matches.every a (all_at (Fits (p ∷ []) g.parameters graph row) a n.found n.matches.each i))
        in (
          found,
          subst (λ rows. IsPermutation rows others) (sym m.rows)
              (subst (IsPermutation (map (λ a. bind_match graph (p ∷ []) a row) m.found)) (sym n.rows) (IsPermutation-map (λ a. bind_match graph (p ∷ []) a row) m.found n.found found)),
          (λ same. one_change g (items_on false parts) graph after other others is (subst (λ rows. Sets g (items_on false parts) graph rows after) same m.items_run) n.items_run),
          (λ none. (no_items_set g (items_on false parts) graph after results none m.items_run, no_items_set g (items_on false parts) graph other others none n.items_run)),
        )

    made_alike : (m : MergeMade g p (items_on true parts) graph row after results) (n : MergeMade g p (items_on true parts) graph row other others) → MergesAlike g p parts graph row after other results others (inr m) (inr n)
    made_alike m n = (
      create_row_makes_one g (p ∷ []) graph row m.made n.made results others m.creation n.creation,
      (λ same rows. one_change g (items_on true parts) n.made after other others n.creation.graph_again
          (subst (λ made. Sets g (items_on true parts) made others after) same (subst (λ rs. Sets g (items_on true parts) m.made rs after) rows m.items_run)) n.items_run),
      (λ none. (no_items_set g (items_on true parts) m.made after results none m.items_run, no_items_set g (items_on true parts) n.made other others none n.items_run)),
    )

    one_alike : (h : One g p parts graph row after results) (k : One g p parts graph row other others) → MergesAlike g p parts graph row after other results others h k
    one_alike (inl m) (inl n) = found_alike m n
    one_alike (inl m) (inr n) = not_none m.found m.matches.each m.some n.none
    one_alike (inr m) (inl n) = not_none n.found n.matches.each n.some m.none
    one_alike (inr m) (inr n) = made_alike m n

  pub own_items : (after : Graph) (results : List Row) (f : Fault) → (h : One g p parts graph row after results) → OwnItemFaults g p parts graph row after results h f → ⊥
  own_items after results f (inl m) x = no_sets_fault g (items_on false parts) graph results after f m.items_run x
  own_items after results f (inr m) x = no_sets_fault g (items_on true parts) m.made results after f m.items_run x

pub merge_row_makes_one : MergeRowMakesOne
merge_row_makes_one g p parts graph row after other results others is m n = one_alike g p parts graph row after other results others is m.one n.one

pub merge_items_are_one : MergeItemsAreOne
merge_items_are_one g p parts graph row after results f is m x = own_items g p parts graph row after results f m.one x
