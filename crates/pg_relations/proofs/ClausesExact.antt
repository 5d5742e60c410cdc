-- Whole clauses of CREATE and MERGE that leave no choice of ids.
use Rattle.std.proofs.Common.{◌≡◌, Bool, true, false, inl, inr, List, [], ◌∷◌, ◌++◌, map, sym, subst, ◌∙◌}
use Rattle.std.proofs.lemmas.List.Sorted.{IsPermutation-refl, IsPermutation-append}
use Rattle.std.specs.List.Sorted.{IsPermutation}
use Rattle.pg_soundness.proofs.ChangesComputed.{one_change, no_sets_fault}
use Rattle.pg_soundness.proofs.ChangesRows.{sets_keep}
use Rattle.pg_meaning.specs.Agreement.{AreRowsOf}
use Rattle.pg_meaning.specs.Changes.{Sets, SetFaults}
use Rattle.pg_meaning.specs.Graph.{Graph, IsGraph}
use Rattle.pg_meaning.specs.Meaning.{CreateRow, CreateFaults, MergeRow, MergeItemFaults, MergeFaults}
use Rattle.pg_meaning.specs.Patterns.{bind_match}
use Rattle.pg_meaning.specs.Rows.{Row}
use Rattle.pg_meaning.specs.Tree.{PathPattern, SetItem}
use Rattle.pg_meaning.specs.Turns.{Given, RowByRow, AtSomeTurn}
use Rattle.pg_meaning.specs.Updates.{items_on}
use Rattle.pg_meaning.specs.declared.fault.Fault.{Fault}
use Rattle.pg_relations.proofs.CreatesDecided.{create_row_is_one, merge_row_is_one, no_items_fault}
use Rattle.pg_relations.proofs.CreatesExact.{few_alike}
use Rattle.pg_relations.proofs.DescribedPlaces.{create_describes_new, merge_describes_new}
use Rattle.pg_relations.proofs.MergesDetermined.{not_none, merge_row_makes_one}
use Rattle.pg_relations.specs.Decided.{DescribesNew}
use Rattle.pg_relations.specs.Exact.{MakesFew, CreateGivesOne, CreateIsOne, MergeGivesOne, MergeIsOne}
use Rattle.pg_relations.specs.Merged.{One}

-- ---- CREATE

pub create_gives_one : CreateGivesOne
create_gives_one paths g graph after other [] results others few are s t = (s.0 ∙ sym t.0, s.1 ∙ sym t.1)
create_gives_one paths g graph after other (row ∷ rows) results others few are s t =
    let first = few_alike g paths graph row few are.0 s.0 t.0 s.1 t.1 s.3 t.3 in
    let rest = create_gives_one paths g t.0 after other rows s.2 t.2 few are.1 (subst (λ m. RowByRow (CreateRow g paths) m rows after s.2) first.0 s.4) t.4 in
    (rest.0, s.5 ∙ (λ i. first.1 i ++ rest.1 i) ∙ sym t.5)

create_is_one_from : (paths : List PathPattern) (g : Given) → MakesFew g paths → DescribesNew g paths → (rows : List Row) (graph after : Graph) (results : List Row) (f : Fault) → AreRowsOf g.scope rows → IsGraph graph
    → RowByRow (CreateRow g paths) graph rows after results → AtSomeTurn (CreateRow g paths) (CreateFaults g paths) graph rows f → ⊥
create_is_one_from paths g few new [] graph after results f are is s x = absurd x
create_is_one_from paths g few new (row ∷ rows) graph after results f are is s (inl x) = create_row_is_one g paths graph row s.0 s.1 f is new s.3 x
create_is_one_from paths g few new (row ∷ rows) graph after results f are is s (inr x) =
    let first = few_alike g paths graph row few are.0 s.0 x.0 s.1 x.1 s.3 x.2 in
    create_is_one_from paths g few new rows x.0 after s.2 f are.1 x.2.graph_again (subst (λ m. RowByRow (CreateRow g paths) m rows after s.2) first.0 s.4) x.3

pub create_is_one : CreateIsOne
create_is_one paths g graph after rows results f few are is fine s x = create_is_one_from paths g few (create_describes_new g paths fine) rows graph after results f are is s x

-- ---- MERGE

module _ (p : PathPattern) (parts : List (Bool × List SetItem)) (g : Given) (few : MakesFew g (p ∷ [])) (no_match : items_on false parts ≡ []) where
  row_alike : (graph : Graph) (row : Row) (after other : Graph) (results others : List Row) → AreRowsOf g.scope (row ∷ []) → IsGraph graph
      → MergeRow g p parts graph row after results → MergeRow g p parts graph row other others → (after ≡ other) × IsPermutation results others
  row_alike graph row after other results others are is m n = by_one m.one n.one
    where
      by_one : One g p parts graph row after results → One g p parts graph row other others → (after ≡ other) × IsPermutation results others
      by_one (inl h) (inl k) =
          let a : MergeRow g p parts graph row after results = record { tested = m.tested; one = inl h } in
          let b : MergeRow g p parts graph row other others = record { tested = n.tested; one = inl k } in
          let both = merge_row_makes_one g p parts graph row after other results others is a b in
          let same = both.3 no_match in
          (same.0 ∙ sym same.1, both.1)
      by_one (inl h) (inr k) = absurd (not_none g p parts graph row h.found h.matches.each h.some k.none)
      by_one (inr h) (inl k) = absurd (not_none g p parts graph row k.found k.matches.each k.some h.none)
      by_one (inr h) (inr k) =
          let same = few_alike g (p ∷ []) graph row few are.0 h.made k.made results others h.creation k.creation in (
            one_change g (items_on true parts) k.made after other others k.creation.graph_again (subst (λ made. Sets g (items_on true parts) made others after) same.0 (subst (λ rs. Sets g (items_on true parts) h.made rs after) same.1 h.items_run)) k.items_run,
            subst (IsPermutation results) same.1 (IsPermutation-refl results),
          )

  row_keeps : (graph : Graph) (row : Row) (after : Graph) (results : List Row) → IsGraph graph → MergeRow g p parts graph row after results → IsGraph after
  row_keeps graph row after results is m = by_one m.one
    where
      by_one : One g p parts graph row after results → IsGraph after
      by_one (inl h) = sets_keep g (items_on false parts) graph results after is h.items_run
      by_one (inr h) = sets_keep g (items_on true parts) h.made results after h.creation.graph_again h.items_run

  rows_alike : (rows : List Row) (graph after other : Graph) (results others : List Row) → AreRowsOf g.scope rows → IsGraph graph
      → RowByRow (MergeRow g p parts) graph rows after results → RowByRow (MergeRow g p parts) graph rows other others → (after ≡ other) × IsPermutation results others
  rows_alike [] graph after other results others are is s t = (s.0 ∙ sym t.0, subst (IsPermutation results) (s.1 ∙ sym t.1) (IsPermutation-refl results))
  rows_alike (row ∷ rows) graph after other results others are is s t =
      let first = row_alike graph row s.0 t.0 s.1 t.1 (are.0, tt) is s.3 t.3 in
      let rest = rows_alike rows t.0 after other s.2 t.2 are.1 (row_keeps graph row t.0 t.1 is t.3) (subst (λ m. RowByRow (MergeRow g p parts) m rows after s.2) first.0 s.4) t.4 in (
        rest.0,
        subst (λ rs. IsPermutation rs others) (sym s.5) (subst (IsPermutation (s.1 ++ s.2)) (sym t.5) (IsPermutation-append s.1 t.1 s.2 t.2 first.1 rest.1)),
      )

  items_apart : (graph : Graph) (row : Row) (after : Graph) (results : List Row) (f : Fault) → AreRowsOf g.scope (row ∷ []) → MergeRow g p parts graph row after results → MergeItemFaults g p parts graph row f → ⊥
  items_apart graph row after results f are m (inl x) =
      let rows = map (λ a. bind_match graph (p ∷ []) a row) x.0 in
      no_items_fault g graph rows f (subst (λ is. SetFaults g is graph rows f) no_match x.2)
  items_apart graph row after results f are m (inr x) = by_one m.one
    where
      by_one : One g p parts graph row after results → ⊥
      by_one (inl h) = not_none g p parts graph row h.found h.matches.each h.some x.2
      by_one (inr h) =
          let same = few_alike g (p ∷ []) graph row few are.0 h.made x.0 results x.1 h.creation x.3 in
          no_sets_fault g (items_on true parts) x.0 x.1 after f (subst (λ made. Sets g (items_on true parts) made x.1 after) same.0 (subst (λ rs. Sets g (items_on true parts) h.made rs after) same.1 h.items_run)) x.4

  row_apart : (graph : Graph) (row : Row) (after : Graph) (results : List Row) (f : Fault) → AreRowsOf g.scope (row ∷ []) → IsGraph graph → DescribesNew g (p ∷ []) → MergeRow g p parts graph row after results → MergeFaults g p parts graph row f → ⊥
  row_apart graph row after results f are is new m (inl x) = merge_row_is_one g p parts graph row after results f is new m (inl x)
  row_apart graph row after results f are is new m (inr (inl x)) = merge_row_is_one g p parts graph row after results f is new m (inr (inl x))
  row_apart graph row after results f are is new m (inr (inr (inl x))) = merge_row_is_one g p parts graph row after results f is new m (inr (inr (inl x)))
  row_apart graph row after results f are is new m (inr (inr (inr (inl x)))) = merge_row_is_one g p parts graph row after results f is new m (inr (inr (inr (inl x))))
  row_apart graph row after results f are is new m (inr (inr (inr (inr x)))) = items_apart graph row after results f are m x.1

  rows_apart : (rows : List Row) (graph after : Graph) (results : List Row) (f : Fault) → AreRowsOf g.scope rows → IsGraph graph → DescribesNew g (p ∷ [])
      → RowByRow (MergeRow g p parts) graph rows after results → AtSomeTurn (MergeRow g p parts) (MergeFaults g p parts) graph rows f → ⊥
  rows_apart [] graph after results f are is new s x = absurd x
  rows_apart (row ∷ rows) graph after results f are is new s (inl x) = row_apart graph row s.0 s.1 f (are.0, tt) is new s.3 x
  rows_apart (row ∷ rows) graph after results f are is new s (inr x) =
      let first = row_alike graph row s.0 x.0 s.1 x.1 (are.0, tt) is s.3 x.2 in
      rows_apart rows x.0 after s.2 f are.1 (row_keeps graph row x.0 x.1 is x.2) new (subst (λ m. RowByRow (MergeRow g p parts) m rows after s.2) first.0 s.4) x.3

pub merge_gives_one : MergeGivesOne
merge_gives_one p parts g graph after other rows results others few no_match are is s t = rows_alike p parts g few no_match rows graph after other results others are is s t

pub merge_is_one : MergeIsOne
merge_is_one p parts g graph after rows results f few no_match are is fine s x = rows_apart p parts g few no_match rows graph after results f are is (merge_describes_new g p parts fine) s x
