-- WITH and RETURN give the same rows from the same rows, up to the order that stays open.
use Rattle.std.proofs.Common.{◌≡◌, ◌≢◌, ℕ, Bool, true, false, cond, List, [], ◌∷◌, map, Option, None, Ok, sym, ap, subst, ◌∙◌, true≢false}
use Rattle.std.proofs.lemmas.List.Sorted.{IsPermutation-refl, IsPermutation-trans, IsPermutation-sym, IsPermutation-map}
use Rattle.std.specs.List.{list_any}
use Rattle.std.specs.List.Sorted.{IsPermutation}
use Rattle.pg_soundness.proofs.ProjectedParts.{same_itself}
use Rattle.pg_meaning.specs.AnswerLaws.{same_ok}
use Rattle.pg_meaning.specs.Graph.{Graph}
use Rattle.pg_meaning.specs.Lists.{AllPairsByRecursion}
use Rattle.pg_meaning.specs.ListsLaws.{all_weaker}
use Rattle.pg_meaning.specs.Meaning.{Items, Distinct, Sorted, Passing, Projects}
use Rattle.pg_meaning.specs.Projections.{Projected, count_given, skipped, limited, same_values}
use Rattle.pg_meaning.specs.Rows.{Row, values_in}
use Rattle.pg_meaning.specs.Scopes.{Column, is_aggregate, with_columns, return_columns}
use Rattle.pg_meaning.specs.Tree.{Expression, Projection, SortItem}
use Rattle.pg_meaning.specs.Turns.{Given}
use Rattle.pg_relations.proofs.ItemsOfGroups.{groups_moved}
use Rattle.pg_relations.proofs.Moved.{once_moved}
use Rattle.pg_relations.proofs.ProjectedItems.{same_items}
use Rattle.pg_relations.proofs.ProjectsDecided.{ItemsBy, kept_in}
use Rattle.pg_relations.specs.Determined.{ProjectsOne, PlainProjectsOne, ReturnGivesOne, WithGivesOne}

rows_apart : (ps : List Projected) → AllPairsByRecursion (λ p q. same_values (values_in p.columns) (values_in q.columns) ≡ false) ps → AllPairsByRecursion (λ p q. p ≢ q) ps
rows_apart [] h = tt
rows_apart (p ∷ ps) h = (
  all_weaker (λ q. same_values (values_in p.columns) (values_in q.columns) ≡ false) (λ q. p ≢ q)
      (λ q d e. true≢false (sym (same_itself (values_in p.columns)) ∙ ap (λ (r : Projected). same_values (values_in p.columns) (values_in r.columns)) e ∙ d)) ps h.0,
  rows_apart ps h.1,
)

module _ (g : Given) (graph : Graph) (columns : List Column) where
  items_moved : (distinct : Bool) (rows : List Row) (made others : List Projected) → Items g graph distinct columns rows made → Items g graph distinct columns rows others → IsPermutation made others
  items_moved distinct rows made others h m = by_kind (list_any is_aggregate columns) h m
    where
      by_kind : (b : Bool) → ItemsBy g graph columns distinct rows made b → ItemsBy g graph columns distinct rows others b → IsPermutation made others
      by_kind true h m = groups_moved g graph columns rows made others h m
      by_kind false h m = subst (IsPermutation made) (same_items g graph columns distinct rows made others h m) (IsPermutation-refl made)

  pub kept_moved : (distinct : Bool) (rows : List Row) (made others kept some : List Projected) → Items g graph distinct columns rows made → Items g graph distinct columns rows others → Distinct distinct made kept → Distinct distinct others some → IsPermutation kept some
  kept_moved true rows made others kept some h m d e =
      once_moved kept some (rows_apart kept d.once) (rows_apart some e.once)
      (λ q i. kept_in g graph columns true rows others made some kept q m h e d i)
      (λ q i. kept_in g graph columns true rows made others kept some q h m d e i)
  kept_moved false rows made others kept some h m d e =
      subst (λ ps. IsPermutation ps some) (sym d) (subst (IsPermutation made) (sym e) (items_moved false rows made others h m))

  sorted_moved : (order : List SortItem) (all sorted : List Projected) → Sorted g graph columns order all sorted → IsPermutation all sorted
  sorted_moved [] all sorted s = subst (IsPermutation all) (sym s) (IsPermutation-refl all)
  sorted_moved (o ∷ os) all sorted s = s.same

  passing_one : (where_ : Option Expression) (all passing others : List Projected) → Passing g graph where_ all passing → Passing g graph where_ all others → passing ≡ others
  passing_one where_ [] passing others h m = h ∙ sym m
  passing_one where_ (p ∷ ps) passing others h m =
      let same = same_ok h.0 m.0 (sym h.2 ∙ m.2) in
      let rest = passing_one where_ ps h.1 m.1 h.3 m.3 in
      h.4 ∙ (λ i. cond (same i) (p ∷ rest i) (rest i)) ∙ sym m.4

  -- no condition leaves out none
  all_passing : (all passing : List Projected) → Passing g graph None all passing → passing ≡ all
  all_passing [] passing h = h
  all_passing (p ∷ ps) passing h =
      let rest = all_passing ps h.1 h.3 in
      h.4 ∙ (λ i. cond (sym (same_ok true h.0 h.2) i) (p ∷ rest i) (rest i))

  module _ (p : Projection) (where_ : Option Expression) (rows results others : List Row) (h : Projects g graph columns p where_ rows results) (m : Projects g graph columns p where_ rows others) where
    pub same_skip : h.skip ≡ m.skip
    same_skip = same_ok h.skip m.skip (sym h.skip_given ∙ m.skip_given)

    pub same_limit : h.limit ≡ m.limit
    same_limit = same_ok h.limit m.limit (sym h.limit_given ∙ m.limit_given)

    pub same_sorted : IsPermutation h.sorted m.sorted
    same_sorted =
        IsPermutation-trans h.sorted h.kept m.sorted (IsPermutation-sym h.kept h.sorted (sorted_moved p.order h.kept h.sorted h.order))
        (IsPermutation-trans h.kept m.kept m.sorted (kept_moved p.distinct rows h.made m.made h.kept m.kept h.items m.items h.distinct m.distinct) (sorted_moved p.order m.kept m.sorted m.order))

    pub same_after : h.sorted ≡ m.sorted → results ≡ others
    same_after same =
        let passing =
        passing_one where_ (limited h.limit (skipped h.skip h.sorted)) h.passing m.passing h.condition
        (subst (λ ps. Passing g graph where_ ps m.passing) (λ i. limited (sym same_limit i) (skipped (sym same_skip i) (sym same i))) m.condition)
        in
        h.shown ∙ ap (map (λ (r : Projected). r.columns)) passing ∙ sym m.shown

    pub plain_sorted : p.order ≡ [] → p.distinct ≡ false → list_any is_aggregate columns ≡ false → h.sorted ≡ m.sorted
    plain_sorted no_order all no_aggregate = unsorted h.kept h.sorted h.order ∙ doubled h.made h.kept h.distinct ∙ same ∙ sym (doubled m.made m.kept m.distinct) ∙ sym (unsorted m.kept m.sorted m.order)
      where
        unsorted : (kept sorted : List Projected) → Sorted g graph columns p.order kept sorted → sorted ≡ kept
        unsorted kept sorted s = subst (λ o. Sorted g graph columns o kept sorted) no_order s

        doubled : (made kept : List Projected) → Distinct p.distinct made kept → kept ≡ made
        doubled made kept d = subst (λ b. Distinct b made kept) all d

        same : h.made ≡ m.made
        same = same_items g graph columns p.distinct rows h.made m.made (subst (ItemsBy g graph columns p.distinct rows h.made) no_aggregate h.items) (subst (ItemsBy g graph columns p.distinct rows m.made) no_aggregate m.items)

  -- uncut and untested rows are shown as they stand
  shown_moved : (p : Projection) (rows results others : List Row) → p.skip ≡ None → p.limit ≡ None → Projects g graph columns p None rows results → Projects g graph columns p None rows others → IsPermutation results others
  shown_moved p rows results others no_skip no_limit h m =
      subst (λ rs. IsPermutation rs others) (sym (shown results h)) (subst (IsPermutation (map (λ (r : Projected). r.columns) h.sorted)) (sym (shown others m))
      (IsPermutation-map (λ (r : Projected). r.columns) h.sorted m.sorted (same_sorted p None rows results others h m)))
    where
      none_given : (o : Option Expression) (n : Option ℕ) → o ≡ None → count_given g.parameters graph o ≡ Ok n → n ≡ None
      none_given o n none e = sym (same_ok None n (subst (λ o. count_given g.parameters graph o ≡ Ok n) none e))

      shown : (rs : List Row) (k : Projects g graph columns p None rows rs) → rs ≡ map (λ (r : Projected). r.columns) k.sorted
      shown rs k =
          k.shown
          ∙ ap (map (λ (r : Projected). r.columns)) (all_passing (limited k.limit (skipped k.skip k.sorted)) k.passing k.condition ∙ (λ i. limited (none_given p.limit k.limit no_limit k.limit_given i) (skipped (none_given p.skip k.skip no_skip k.skip_given i) k.sorted)))

pub projects_one : ProjectsOne
projects_one g graph columns p where_ rows results others h m =
    (same_skip g graph columns p where_ rows results others h m, same_limit g graph columns p where_ rows results others h m, same_sorted g graph columns p where_ rows results others h m, same_after g graph columns p where_ rows results others h m)

pub plain_projects_one : PlainProjectsOne
plain_projects_one g graph columns p where_ rows results others no_order all no_aggregate h m =
    same_after g graph columns p where_ rows results others h m (plain_sorted g graph columns p where_ rows results others h m no_order all no_aggregate)

pub return_gives_one : ReturnGivesOne
return_gives_one p g graph after other rows results others no_skip no_limit s t = (s.0 ∙ sym t.0, shown_moved g graph (return_columns g.scope p) p rows results others no_skip no_limit s.1 t.1)

pub with_gives_one : WithGivesOne
with_gives_one p g graph after other rows results others no_skip no_limit s t = (s.0 ∙ sym t.0, shown_moved g graph (with_columns g.scope p) p rows results others no_skip no_limit s.1 t.1)
