-- WITH and RETURN have a result or a fault, never both.
use Rattle.std.proofs.Common.{◌≡◌, ℕ, Bool, true, false, ◌⊎◌, inl, inr, List, [], ◌∷◌, Option, None, Result, Ok, Err, refl, sym, subst}
use Rattle.std.proofs.lemmas.List.Sorted.{IsPermutation-sym}
use Rattle.std.specs.List.{AllZip, list_any}
use Rattle.pg_soundness.proofs.ChangesOptions.{ok_or_err}
use Rattle.pg_soundness.proofs.GroupKeys.{same_exact}
use Rattle.pg_meaning.specs.AnswerLaws.{same_ok}
use Rattle.pg_meaning.specs.Conditions.{condition}
use Rattle.pg_meaning.specs.Graph.{Graph}
use Rattle.pg_meaning.specs.Lists.{IsIn}
use Rattle.pg_meaning.specs.ListsLaws.{all_at}
use Rattle.pg_meaning.specs.Meaning.{Groups, Items, Distinct, Sorted, Passing, Projects, ProjectFaults, PassingFaults, SortFaults, ItemFaults, AggregateFaults, Alike, keys_at}
use Rattle.pg_meaning.specs.Projections.{Projected, visible, projected, count_given, skipped, limited}
use Rattle.pg_meaning.specs.Rows.{Row, values_in}
use Rattle.pg_meaning.specs.Scopes.{Column, is_aggregate, with_columns, return_columns}
use Rattle.pg_meaning.specs.Tree.{Expression, Projection, SortItem}
use Rattle.pg_meaning.specs.Turns.{Given, AtSomeRow}
use Rattle.pg_meaning.specs.declared.fault.Fault.{Fault}
use Rattle.pg_relations.proofs.ItemsOfGroups.{groups_bare, no_item_fault, no_group_fault, group_in}
use Rattle.pg_relations.proofs.Lists.{zipped_back, answered_at, in_moved}
use Rattle.pg_relations.proofs.ProjectedItems.{IsBare, same_bare, projected_bare, no_plain_fault, no_aggregate, same_items}
use Rattle.pg_relations.specs.Decided.{WithIsOne, ReturnIsOne}

module _ (g : Given) (graph : Graph) (columns : List Column) where
  abbrev pub ItemsBy : Bool → List Row → List Projected → Bool → Type 0
  ItemsBy distinct rows made b = elim b [ true ↦ Groups g graph columns rows made | false ↦ AllZip (λ row r. projected g.parameters graph distinct columns row ≡ Ok r) rows made ]

  -- ---- items

  no_faults : (distinct : Bool) (rows : List Row) (made : List Projected) (f : Fault) → Items g graph distinct columns rows made → AtSomeRow (ItemFaults g graph columns) rows f ⊎ AggregateFaults g graph columns rows f → ⊥
  no_faults distinct rows made f h x = by_kind (list_any is_aggregate columns) refl h x
    where
      by_kind : (b : Bool) → list_any is_aggregate columns ≡ b → ItemsBy distinct rows made b → AtSomeRow (ItemFaults g graph columns) rows f ⊎ AggregateFaults g graph columns rows f → ⊥
      by_kind true is h (inl x) = no_item_fault g graph columns rows made f h x
      by_kind true is h (inr x) = no_group_fault g graph columns rows made f h x
      by_kind false is h (inl x) = no_plain_fault g graph columns distinct rows made f is h x
      by_kind false is h (inr x) = no_aggregate g graph columns rows f is x

  pub item_in : (distinct : Bool) (rows : List Row) (made others : List Projected) (q : Projected) → Items g graph distinct columns rows made → Items g graph distinct columns rows others → IsIn q others → IsIn q made
  item_in distinct rows made others q h m i = by_kind (list_any is_aggregate columns) h m
    where
      by_kind : (b : Bool) → ItemsBy distinct rows made b → ItemsBy distinct rows others b → IsIn q made
      by_kind true h m = group_in g graph columns rows made others q h m i
      by_kind false h m = subst (IsIn q) (same_items g graph columns distinct rows others made m h) i

  pub distinct_bare : (rows : List Row) (made : List Projected) (r : Projected) → Items g graph true columns rows made → IsIn r made → IsBare columns r
  distinct_bare rows made r h i = by_kind (list_any is_aggregate columns) h
    where
      by_kind : (b : Bool) → ItemsBy true rows made b → IsBare columns r
      by_kind true h = groups_bare g graph columns rows made r h i
      by_kind false h = let row = zipped_back (λ row r. projected g.parameters graph true columns row ≡ Ok r) r rows made h i in projected_bare g graph columns row.0 r row.2

  -- ---- DISTINCT

  -- values that are alike are one, so whichever row of them is kept is the same
  pub kept_in : (distinct : Bool) (rows : List Row) (made others kept some : List Projected) (q : Projected) → Items g graph distinct columns rows made → Items g graph distinct columns rows others → Distinct distinct made kept → Distinct distinct others some → IsIn q some → IsIn q kept
  kept_in true rows made others kept some q h m d e i =
      let here = item_in true rows made others q h m (all_at (λ p. IsIn p others) q some e.from i) in
      let like = all_at (λ p. (r : Projected) × IsIn r kept × Alike p r) q made d.each here in
      let there = all_at (λ p. IsIn p made) like.0 kept d.from like.1 in
      subst (λ p. IsIn p kept) (sym (same_bare columns q like.0 (distinct_bare rows made q h here) (distinct_bare rows made like.0 h there) (same_exact (values_in q.columns) (values_in like.0.columns) like.2))) like.1
  kept_in false rows made others kept some q h m d e i = subst (IsIn q) (sym d) (item_in false rows made others q h m (subst (IsIn q) e i))

  -- ---- ORDER BY

  pub sorted_in : (order : List SortItem) (all sorted : List Projected) (q : Projected) → Sorted g graph columns order all sorted → IsIn q all → IsIn q sorted
  sorted_in [] all sorted q s i = subst (IsIn q) (sym s) i
  sorted_in (o ∷ os) all sorted q s i = in_moved all sorted q s.same i

  pub sorted_of : (order : List SortItem) (all sorted : List Projected) (q : Projected) → Sorted g graph columns order all sorted → IsIn q sorted → IsIn q all
  sorted_of [] all sorted q s i = subst (IsIn q) s i
  sorted_of (o ∷ os) all sorted q s i = in_moved sorted all q (IsPermutation-sym all sorted s.same) i

  pub no_sort_fault : (order : List SortItem) (all sorted : List Projected) (q : Projected) (f : Fault) → Sorted g graph columns order all sorted → IsIn q all → keys_at g graph columns order q ≡ Err f → ⊥
  no_sort_fault [] all sorted q f s i x = cc
  no_sort_fault (o ∷ os) all sorted q f s i x =
      let k = answered_at (keys_at g graph columns (o ∷ os)) q sorted s.keys s.evaluated (in_moved all sorted q s.same i) in
      ok_or_err (keys_at g graph columns (o ∷ os) q) k.0 f k.2 x

  -- ---- WHERE

  pub no_where_fault : (where_ : Option Expression) (all passing : List Projected) (q : Projected) (f : Fault) → Passing g graph where_ all passing → IsIn q all → condition where_ (visible q) g.parameters graph ≡ Err f → ⊥
  no_where_fault where_ [] passing q f h i x = absurd i
  no_where_fault where_ (p ∷ ps) passing q f h (inl e) x = ok_or_err (condition where_ (visible p) g.parameters graph) h.0 f h.2 (subst (λ r. condition where_ (visible r) g.parameters graph ≡ Err f) e x)
  no_where_fault where_ (p ∷ ps) passing q f h (inr i) x = no_where_fault where_ ps h.1 q f h.3 i x

  module _ (p : Projection) (where_ : Option Expression) (rows results : List Row) (f : Fault) (h : Projects g graph columns p where_ rows results) where
    order_apart : SortFaults g graph columns p rows f → ⊥
    order_apart (made, kept, r, items, distinct, i, x) =
        no_sort_fault p.order h.kept h.sorted r f h.order (kept_in p.distinct rows h.made made h.kept kept r h.items items h.distinct distinct i) x

    -- with no SKIP and no LIMIT all rows are tested
    uncut_apart : p.skip ≡ None → p.limit ≡ None → PassingFaults g graph columns p where_ rows f → ⊥
    uncut_apart no_skip no_limit (skip, limit, made, kept, sorted, r, skip_is, limit_is, items, distinct, order, i, x) =
        let there = sorted_of p.order kept sorted r order (uncut skip limit sorted skip_is limit_is i) in
        let here = sorted_in p.order h.kept h.sorted r h.order (kept_in p.distinct rows h.made made h.kept kept r h.items items h.distinct distinct there) in
        no_where_fault where_ (limited h.limit (skipped h.skip h.sorted)) h.passing r f h.condition (cut h.skip h.limit h.sorted h.skip_given h.limit_given here) x
      where
        none_given : (o : Option Expression) (n : Option ℕ) → o ≡ None → count_given g.parameters graph o ≡ Ok n → None ≡ n
        none_given o n none e = same_ok None n (subst (λ o. count_given g.parameters graph o ≡ Ok n) none e)

        uncut : (skip limit : Option ℕ) (sorted : List Projected) → count_given g.parameters graph p.skip ≡ Ok skip → count_given g.parameters graph p.limit ≡ Ok limit → IsIn r (limited limit (skipped skip sorted)) → IsIn r sorted
        uncut skip limit sorted s l i =
            subst (λ k. IsIn r (skipped k sorted)) (sym (none_given p.skip skip no_skip s)) (subst (λ k. IsIn r (limited k (skipped skip sorted))) (sym (none_given p.limit limit no_limit l)) i)

        cut : (skip limit : Option ℕ) (sorted : List Projected) → count_given g.parameters graph p.skip ≡ Ok skip → count_given g.parameters graph p.limit ≡ Ok limit → IsIn r sorted → IsIn r (limited limit (skipped skip sorted))
        cut skip limit sorted s l i =
            subst (λ k. IsIn r (limited k (skipped skip sorted))) (none_given p.limit limit no_limit l) (subst (λ k. IsIn r (skipped k sorted)) (none_given p.skip skip no_skip s) i)

    -- no condition has no fault
    bare_apart : where_ ≡ None → PassingFaults g graph columns p where_ rows f → ⊥
    bare_apart none (skip, limit, made, kept, sorted, r, skip_is, limit_is, items, distinct, order, i, x) = fine (subst (λ o. condition o (visible r) g.parameters graph ≡ Err f) none x)
      where
        fine : ◌≡◌ {A = Result Bool Fault} (Ok true) (Err f) → ⊥
        fine e = cc

    pub apart : (PassingFaults g graph columns p where_ rows f → ⊥) → ProjectFaults g graph columns p where_ rows f → ⊥
    apart passing (inl x) = ok_or_err (count_given g.parameters graph p.skip) h.skip f h.skip_given x
    apart passing (inr (inl x)) = ok_or_err (count_given g.parameters graph p.limit) h.limit f h.limit_given x
    apart passing (inr (inr (inl x))) = no_faults p.distinct rows h.made f h.items (inl x)
    apart passing (inr (inr (inr (inl x)))) = no_faults p.distinct rows h.made f h.items (inr x)
    apart passing (inr (inr (inr (inr (inl x))))) = order_apart x
    apart passing (inr (inr (inr (inr (inr x))))) = passing x

pub return_is_one : ReturnIsOne
return_is_one p g graph after rows results f s =
    apart g graph (return_columns g.scope p) p None rows results f s.1 (bare_apart g graph (return_columns g.scope p) p None rows results f s.1 refl)

pub with_is_one : WithIsOne
with_is_one p where_ (inl none) g graph after rows results f s =
    apart g graph (with_columns g.scope p) p where_ rows results f s.1 (bare_apart g graph (with_columns g.scope p) p where_ rows results f s.1 none)
with_is_one p where_ (inr whole) g graph after rows results f s =
    apart g graph (with_columns g.scope p) p where_ rows results f s.1 (uncut_apart g graph (with_columns g.scope p) p where_ rows results f s.1 whole.0 whole.1)
