-- A WITH whose rows stand in one order has one answer, and no fault beside it.
use Rattle.std.proofs.Common.{◌≡◌, ◌≢◌, ◌⊎◌, inl, inr, List, [], ◌∷◌, Option, Result, Ok, Err, refl, sym, ap, subst, ◌∙◌}
use Rattle.std.proofs.lemmas.List.Sorted.{IsPermutation-trans}
use Rattle.std.specs.List.{AllZip}
use Rattle.pg_meaning.specs.Answer.{◌>>=◌, each_answer}
use Rattle.pg_meaning.specs.AnswerLaws.{went_well, same_ok}
use Rattle.pg_meaning.specs.Conditions.{condition}
use Rattle.pg_meaning.specs.Graph.{Graph}
use Rattle.pg_meaning.specs.Lists.{IsIn, AllPairsByRecursion}
use Rattle.pg_meaning.specs.ListsLaws.{all_at}
use Rattle.pg_meaning.specs.Meaning.{Items, Distinct, Sorted, Arranged, Projects, PassingFaults, ProjectFaults, keys_at}
use Rattle.pg_meaning.specs.Projections.{Projected, projected, visible, skipped, limited}
use Rattle.pg_meaning.specs.Rows.{Row}
use Rattle.pg_meaning.specs.Scopes.{Column}
use Rattle.pg_meaning.specs.Tree.{Expression, SortItem, Projection}
use Rattle.pg_meaning.specs.Turns.{Given}
use Rattle.pg_meaning.specs.declared.fault.Fault.{Fault}
use Rattle.pg_relations.proofs.Lists.{answered_at}
use Rattle.pg_relations.proofs.ProjectedItems.{first_of, rest_of, same_items}
use Rattle.pg_relations.proofs.ProjectsDecided.{ItemsBy, kept_in, sorted_in, sorted_of, no_where_fault, apart}
use Rattle.pg_relations.proofs.ProjectsDetermined.{kept_moved, same_after}
use Rattle.pg_relations.proofs.SortedKeys.{sorted_keys_are_one}
use Rattle.pg_relations.specs.Closed.{IsPlain}
use Rattle.pg_relations.specs.Tested.{TestsItsOwn, KeysDiffer, OneOrderGivesOne, OneOrderIsOne}

-- lists of the same keys, of which no two are one, are one
same_by_keys : {X K : Type 0} (f : X → Result K Fault) (xs ys : List X) (keys : List K) → each_answer f xs ≡ Ok keys → each_answer f ys ≡ Ok keys → AllPairsByRecursion (λ k l. k ≢ l) keys → ((z : X) → IsIn z ys → IsIn z xs) → xs ≡ ys
same_by_keys f [] [] keys d e once into = refl
same_by_keys f [] (y ∷ ys) keys d e once into = absurd (into y (inl refl))
same_by_keys {X} {K} f (x ∷ xs) [] keys d e once into =
    let first = went_well (f x) (λ k. each_answer f xs >>= λ ks. Ok (k ∷ ks)) keys d in
    let rest = went_well (each_answer f xs) (λ ks. Ok (first.0 ∷ ks)) keys first.2 in
    let impossible = same_ok (first.0 ∷ rest.0) keys rest.2 ∙ sym (same_ok [] keys e) in
    cc
same_by_keys {X} {K} f (x ∷ xs) (y ∷ ys) keys d e once into =
    let mine = went_well (f x) (λ k. each_answer f xs >>= λ ks. Ok (k ∷ ks)) keys d in
    let mine_rest = went_well (each_answer f xs) (λ ks. Ok (mine.0 ∷ ks)) keys mine.2 in
    let yours = went_well (f y) (λ k. each_answer f ys >>= λ ks. Ok (k ∷ ks)) keys e in
    let yours_rest = went_well (each_answer f ys) (λ ks. Ok (yours.0 ∷ ks)) keys yours.2 in
    let are = same_ok (mine.0 ∷ mine_rest.0) keys mine_rest.2 in
    let same = same_ok (yours.0 ∷ yours_rest.0) keys yours_rest.2 ∙ sym are in
    by_keys mine.0 mine_rest.0 mine.1 mine_rest.1 (yours.1 ∙ ap Ok (ap (first_of yours.0) same)) (yours_rest.1 ∙ ap Ok (ap rest_of same)) (subst (AllPairsByRecursion (λ k l. k ≢ l)) (sym are) once)
    (λ ks d e once into. same_by_keys f xs ys ks d e once into)
  where
    by_keys : (k : K) (ks : List K) → f x ≡ Ok k → each_answer f xs ≡ Ok ks → f y ≡ Ok k → each_answer f ys ≡ Ok ks → AllPairsByRecursion (λ k l. k ≢ l) (k ∷ ks)
        → ((ks : List K) → each_answer f xs ≡ Ok ks → each_answer f ys ≡ Ok ks → AllPairsByRecursion (λ k l. k ≢ l) ks → ((z : X) → IsIn z ys → IsIn z xs) → xs ≡ ys) → x ∷ xs ≡ y ∷ ys
    by_keys k ks fx fxs fy fys once rest = let first = by_place (into y (inl refl)) in let later = rest ks fxs fys once.1 back in λ i. first i ∷ later i
      where
        -- what stands later has another key
        other : (z : X) (zs : List X) → each_answer f zs ≡ Ok ks → IsIn z zs → f z ≡ Ok k → ⊥
        other z zs h i e = let l = answered_at f z zs ks h i in all_at (λ l. k ≢ l) l.0 ks once.0 l.1 (same_ok k l.0 (sym e ∙ l.2))

        by_place : IsIn y (x ∷ xs) → x ≡ y
        by_place (inl e) = sym e
        by_place (inr i) = absurd (other y xs fxs i fy)

        back : (z : X) → IsIn z ys → IsIn z xs
        back z i = by_front (into z (inr i))
          where
            by_front : IsIn z (x ∷ xs) → IsIn z xs
            by_front (inl e) = absurd (other z ys fys i (ap f e ∙ fx))
            by_front (inr j) = j

module _ (g : Given) (graph : Graph) (columns : List Column) (p : Projection) (where_ : Option Expression) (rows results : List Row) (h : Projects g graph columns p where_ rows results) where
  IsOneOrder : Type 0
  IsOneOrder = (made kept sorted : List Projected) → Items g graph p.distinct columns rows made → Distinct p.distinct made kept → Sorted g graph columns p.order kept sorted → sorted ≡ h.sorted

  plain_order : IsPlain columns p → (made kept sorted : List Projected) → Items g graph p.distinct columns rows made → Distinct p.distinct made kept → Sorted g graph columns p.order kept sorted → sorted ≡ h.sorted
  plain_order plain made kept sorted items distinct order =
      unsorted kept sorted order ∙ doubled made kept distinct ∙ same_items g graph columns p.distinct rows made h.made (listed made items) (listed h.made h.items) ∙ sym (doubled h.made h.kept h.distinct) ∙ sym (unsorted h.kept h.sorted h.order)
    where
      unsorted : (kept sorted : List Projected) → Sorted g graph columns p.order kept sorted → sorted ≡ kept
      unsorted kept sorted s = subst (λ o. Sorted g graph columns o kept sorted) plain.0 s

      doubled : (made kept : List Projected) → Distinct p.distinct made kept → kept ≡ made
      doubled made kept d = subst (λ b. Distinct b made kept) plain.1 d

      listed : (made : List Projected) → Items g graph p.distinct columns rows made → AllZip (λ row r. projected g.parameters graph p.distinct columns row ≡ Ok r) rows made
      listed made items = subst (ItemsBy g graph columns p.distinct rows made) plain.2 items

  keyed_order : KeysDiffer g graph columns p.order h.sorted → (made kept sorted : List Projected) → Items g graph p.distinct columns rows made → Distinct p.distinct made kept → Sorted g graph columns p.order kept sorted → sorted ≡ h.sorted
  keyed_order (some, keys, are, once) made kept sorted items distinct order = by_order p.order some are h.order order
      (λ z i. sorted_in g graph columns p.order h.kept h.sorted z h.order (kept_in g graph columns p.distinct rows h.made made h.kept kept z h.items items h.distinct distinct (sorted_of g graph columns p.order kept sorted z order i)))
    where
      by_order : (order : List SortItem) → order ≢ [] → each_answer (keys_at g graph columns order) h.sorted ≡ Ok keys → Sorted g graph columns order h.kept h.sorted → Sorted g graph columns order kept sorted → ((z : Projected) → IsIn z sorted → IsIn z h.sorted) → sorted ≡ h.sorted
      by_order [] some are mine yours into = absurd (some refl)
      by_order (o ∷ os) some are mine yours into =
          let moved = kept_moved g graph columns p.distinct rows h.made made h.kept kept h.items items h.distinct distinct in
          let again : Arranged g graph columns (o ∷ os) h.kept sorted = record { same = IsPermutation-trans h.kept kept sorted moved yours.same; keys = yours.keys; evaluated = yours.evaluated; rising = yours.rising } in
          let one = same_ok keys mine.keys (sym are ∙ mine.evaluated) ∙ sorted_keys_are_one g graph columns (o ∷ os) h.kept h.sorted sorted mine again in
          sym (same_by_keys (keys_at g graph columns (o ∷ os)) h.sorted sorted keys are (yours.evaluated ∙ ap Ok (sym one)) once into)

  one_order : IsPlain columns p ⊎ KeysDiffer g graph columns p.order h.sorted → IsOneOrder
  unfolding IsOneOrder
  one_order (inl plain) = plain_order plain
  one_order (inr differ) = keyed_order differ

  own_rows : (r : Projected) (f : Fault) → IsIn r (limited h.limit (skipped h.skip h.sorted)) → condition where_ (visible r) g.parameters graph ≡ Err f → ⊥
  own_rows r f i x = no_where_fault g graph columns where_ (limited h.limit (skipped h.skip h.sorted)) h.passing r f h.condition i x

  tested_apart : (f : Fault) → IsOneOrder → PassingFaults g graph columns p where_ rows f → ⊥
  unfolding IsOneOrder
  tested_apart f one (skip, limit, made, kept, sorted, r, skip_is, limit_is, items, distinct, order, i, x) =
      let same = one made kept sorted items distinct order in
      let skips = same_ok skip h.skip (sym skip_is ∙ h.skip_given) in
      let limits = same_ok limit h.limit (sym limit_is ∙ h.limit_given) in
      own_rows r f (subst (λ k. IsIn r (limited k (skipped h.skip h.sorted))) limits (subst (λ k. IsIn r (limited limit (skipped k h.sorted))) skips (subst (λ ps. IsIn r (limited limit (skipped skip ps))) same i))) x

  order_apart : (f : Fault) → IsPlain columns p ⊎ KeysDiffer g graph columns p.order h.sorted → ProjectFaults g graph columns p where_ rows f → ⊥
  order_apart f one x = apart g graph columns p where_ rows results f h (tested_apart f (one_order one)) x

  order_one : (others : List Row) → IsPlain columns p ⊎ KeysDiffer g graph columns p.order h.sorted → Projects g graph columns p where_ rows others → results ≡ others
  unfolding IsOneOrder
  order_one others one m = same_after g graph columns p where_ rows results others h m (sym (one_order one m.made m.kept m.sorted m.items m.distinct m.order))

pub tests_its_own : TestsItsOwn
tests_its_own g graph columns p where_ rows results h r f i x = own_rows g graph columns p where_ rows results h r f i x

pub one_order_gives_one : OneOrderGivesOne
one_order_gives_one g graph columns p where_ rows results others h m one = order_one g graph columns p where_ rows results h others one m

pub one_order_is_one : OneOrderIsOne
one_order_is_one g graph columns p where_ rows results f h one x = order_apart g graph columns p where_ rows results h f one x

pub plain_cut_apart : (g : Given) (graph : Graph) (columns : List Column) (p : Projection) (where_ : Option Expression) (rows results : List Row) (f : Fault) → IsPlain columns p → Projects g graph columns p where_ rows results → ProjectFaults g graph columns p where_ rows f → ⊥
plain_cut_apart g graph columns p where_ rows results f plain h x = order_apart g graph columns p where_ rows results h f (inl plain) x
