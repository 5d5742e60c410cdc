-- What is moved so far, and what is left.
use Rattle.std.proofs.Common.{◌≡◌, ◌+◌, ◌<◌, ◌≤◌, ℕ, List, [], ◌∷◌, ◌++◌, map, drop, get_or, length, Some, refl, sym, ap, subst, ◌∙◌}
use Rattle.std.proofs.lemmas.List.{append_assoc, append-nil, map-append}
use Rattle.std.proofs.lemmas.Option.{slice_get_read}
use Rattle.std.specs.Prelude.{slice_get}
use Rattle.pg_write_make.proofs.RowLemmas.{drop_at, none_left}

module _ {A B C : Type 0} (seen : A → C) (given : B → C) (xs : List A) where
  module _ (left : List B) (all : List C) (so_far : map seen xs ++ map given left ≡ all) where
    pub one_moved : (more : List A) (x : A) → more ≡ xs ++ x ∷ [] → (rest : List B) (y : B) → left ≡ y ∷ rest → seen x ≡ given y → map seen more ++ map given rest ≡ all
    one_moved more x pushed rest y is same =
        ap (λ zs. map seen zs ++ map given rest) pushed
        ∙ ap (λ cs. cs ++ map given rest) (map-append seen xs (x ∷ []))
        ∙ append_assoc (map seen xs) (seen x ∷ []) (map given rest)
        ∙ ap (λ c. map seen xs ++ c ∷ map given rest) same
        ∙ ap (λ zs. map seen xs ++ map given zs) (sym is)
        ∙ so_far

    pub all_moved : left ≡ [] → map seen xs ≡ all
    all_moved none = sym (append-nil (map seen xs)) ∙ ap (λ zs. map seen xs ++ map given zs) (sym none) ∙ so_far

  -- of a list, item by item
  module _ (lent ys : List B) (same : lent ≡ ys) (i : ℕ) (all : List C) (so_far : map seen xs ++ map given (drop i ys) ≡ all) where
    pub item_moved : (y : B) → i < length lent → y ≡ get_or lent i y → (more : List A) (x : A) → more ≡ xs ++ x ∷ [] → seen x ≡ given y → map seen more ++ map given (drop (i + 1) ys) ≡ all
    item_moved y within is more x pushed e =
        one_moved (drop i ys) all so_far more x pushed (drop (i + 1) ys) y
        (drop_at ys i y (subst (λ zs. slice_get zs i ≡ Some y) same (slice_get_read lent (length lent) i y refl within is))) e

    pub items_moved : length lent ≤ i → map seen xs ≡ all
    items_moved past = all_moved (drop i ys) all so_far (none_left ys i (subst (λ zs. length zs ≤ i) same past))
