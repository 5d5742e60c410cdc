-- That anchors are a plan of a query is a fact: it has one proof at most.
use mathlib.Core.Path.{sym, ap, ◌∙◌, subst, subst_refl, sym_refl, path_j'}
use mathlib.Core.Bool.{Bool-set}
use mathlib.Core.HLevel.{×_prop, ⊥_prop, Unit-prop}
use Rattle.std.specs.Prelude.{◌≡◌, ℕ, true, List, [], ◌∷◌, Option, Some, None, refl}
use Rattle.std.specs.List.{AllZip}
use Rattle.std.specs.Option.{IsSomeAnd, IsSomeAnd-prop}
use Rattle.pg_meaning.specs.Names.{Names, is_among}
use Rattle.pg_meaning.specs.Patterns.{texts_of}
use Rattle.pg_meaning.specs.Plans.{Anchor, Fixed, Plan, fixed_keys, leading_of, IndexSuits, IsAnchorOf, ArePlanned, IsPlanFrom, IsPlanOf}
use Rattle.pg_meaning.specs.Scopes.{scope_after}
use Rattle.pg_meaning.specs.Tree.{NodePattern, PathPattern, Clause, match_paths, unwind, create, merge, set_items, remove_items, delete, with_rows, return_rows, Query}

-- what is there, and that P holds of it
module _ {N : Type 0} (P : N → Type 0) where
  abbrev IsThere : Option N → Type 0
  IsThere o = (n : N) × (o ≡ Some n) × P n

  to : (o : Option N) → IsThere o → IsSomeAnd o P
  to o there = subst (λ p. IsSomeAnd p P) (sym there.1) there.2

  from : (o : Option N) → IsSomeAnd o P → IsThere o
  from None h = absurd h
  from (Some n) h = (n, refl, h)

  same : (n : N) (h : P n) → subst (λ x. IsSomeAnd x P) {x = Some n} {y = Some n} (sym (refl {a = Some n})) h ≡ h
  same n h =
      ap (λ (p : Some n ≡ Some n). subst (λ x. IsSomeAnd x P) {x = Some n} {y = Some n} p h) (sym_refl {a = Some n})
      ∙ subst_refl (λ x. IsSomeAnd x P) {x = Some n} h

  back : (o : Option N) (n : N) (h : P n) (e : o ≡ Some n) → from o (to o (n, e, h)) ≡ (n, e, h)
  unfolding from to
  back o n h e =
      path_j' (λ x p. from x (to x (n, p, h)) ≡ (n, p, h))
      (ap (from (Some n)) (same n h)) e

  there-prop : ((n : N) → IsProp (P n)) → (o : Option N) → IsProp (IsThere o)
  there-prop prop o = λ x y. sym (back o x.0 x.2 x.1) ∙ ap (from o) (IsSomeAnd-prop o P prop (to o x) (to o y)) ∙ back o y.0 y.2 y.1

-- a list is empty in one way
module _ {A : Type 0} where
  abbrev IsEmpty : List A → Type 0
  IsEmpty [] = Unit {0}
  IsEmpty (x ∷ xs) = ⊥

  emptied : (xs : List A) → IsEmpty xs → xs ≡ []
  emptied [] h = refl
  emptied (x ∷ xs) h = absurd h

  empty : (xs : List A) → xs ≡ [] → IsEmpty xs
  empty xs e = subst IsEmpty (sym e) tt

  round : (xs : List A) (e : xs ≡ []) → emptied xs (empty xs e) ≡ e
  unfolding emptied empty
  round xs e = path_j' (λ x p. emptied x (empty x p) ≡ p) refl e

  one_empty : (xs : List A) → IsProp (IsEmpty xs)
  one_empty [] = Unit-prop
  one_empty (x ∷ xs) = ⊥_prop

  empty-prop : (xs : List A) → IsProp (xs ≡ [])
  empty-prop xs = λ x y. sym (round xs x) ∙ ap (emptied xs) (one_empty xs (empty xs x) (empty xs y)) ∙ round xs y

suits-prop : (leads : List Fixed) (n : NodePattern) (index : Option (List ℕ × List ℕ)) → IsProp (IndexSuits leads n index)
suits-prop leads n None = Unit-prop
suits-prop leads n (Some i) = ×_prop (Bool-set (is_among (texts_of n.labels) i.0) true) (Bool-set (is_among (fixed_keys leads n) i.1) true)

anchor-prop : (leads : List Fixed) (p : PathPattern) (anchor : Anchor) → IsProp (IsAnchorOf leads p anchor)
anchor-prop leads p anchor = there-prop (λ n. IndexSuits leads n anchor.index) (λ n. suits-prop leads n anchor.index) _

zip-prop : {A B : Type 0} (R : A → B → Type 0) → ((a : A) (b : B) → IsProp (R a b)) → (xs : List A) (ys : List B) → IsProp (AllZip R xs ys)
zip-prop R prop [] [] = Unit-prop
zip-prop R prop [] (y ∷ ys) = ⊥_prop
zip-prop R prop (x ∷ xs) [] = ⊥_prop
zip-prop R prop (x ∷ xs) (y ∷ ys) = ×_prop (prop x y) (zip-prop R prop xs ys)

planned-prop : (scope : Names) (c : Clause) (anchors : List Anchor) → IsProp (ArePlanned scope c anchors)
planned-prop scope (match_paths o ps w) anchors = zip-prop (IsAnchorOf (leading_of scope ps w)) (anchor-prop (leading_of scope ps w)) ps anchors
planned-prop scope (merge p parts) anchors = zip-prop (IsAnchorOf []) (anchor-prop []) (p ∷ []) anchors
planned-prop scope (unwind e n) anchors = empty-prop anchors
planned-prop scope (create ps) anchors = empty-prop anchors
planned-prop scope (set_items xs) anchors = empty-prop anchors
planned-prop scope (remove_items xs) anchors = empty-prop anchors
planned-prop scope (delete b es) anchors = empty-prop anchors
planned-prop scope (with_rows p w) anchors = empty-prop anchors
planned-prop scope (return_rows p) anchors = empty-prop anchors

pub plan_from-prop : (scope : Names) (cs : List Clause) (plan : Plan) → IsProp (IsPlanFrom scope cs plan)
plan_from-prop scope [] [] = Unit-prop
plan_from-prop scope [] (anchors ∷ plan) = ⊥_prop
plan_from-prop scope (c ∷ cs) [] = ⊥_prop
plan_from-prop scope (c ∷ cs) (anchors ∷ plan) = ×_prop (planned-prop scope c anchors) (plan_from-prop (scope_after scope c) cs plan)

pub plan-prop : (plan : Plan) (q : Query) → IsProp (IsPlanOf plan q)
plan-prop plan q = plan_from-prop [] q.clauses plan
