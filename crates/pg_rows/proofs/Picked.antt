-- The values of rows by which they are sorted.
use Rattle.std.proofs.Common.{◌≡◌, ℕ, zero, suc, ◌+◌, ◌++◌, ◌∷◌, [], List, map, take, length, slice_get, slice_index_or, Some, None, refl, sym, ap, subst, ◌∙◌, arith}
use Rattle.std.specs.Option.{option_map}
use Rattle.std.proofs.lemmas.List.{length-map}
use Rattle.std.proofs.lemmas.Option.{slice_get-map}
use Rattle.pg_meaning.specs.Value.{Value as Datum, null}
use Rattle.pg_value_core.specs.View.{view}
use Rattle.pg_value_core.specs.declared.value.Value.{Value}
use Rattle.pg_rows.proofs.Keyed.{all_numbered, numbered_more}
use Rattle.pg_rows.specs.Sorts.{numbered, picked}
use Rattle.pg_rows.specs.Tables.{EachBelow}
use Rattle.pg_rows.specs.declared.sort_by.SortBy.{SortBy}

pub value_in : (vs : List Value) (i : ℕ) (v : Value) → slice_get vs i ≡ Some v → slice_index_or (map view vs) i null ≡ view v
value_in [] zero v h = absurd (let no : ⊥ = cc in no)
value_in [] (suc i) v h = absurd (let no : ⊥ = cc in no)
value_in (w ∷ vs) zero v h = let e : w ≡ v = cc in ap view e
value_in (w ∷ vs) (suc i) v h = value_in vs i v h

pub no_value_in : (vs : List Value) (i : ℕ) → slice_get vs i ≡ None → slice_index_or (map view vs) i null ≡ null
no_value_in [] zero h = refl
no_value_in [] (suc i) h = refl
no_value_in (w ∷ vs) zero h = absurd (let no : ⊥ = cc in no)
no_value_in (w ∷ vs) (suc i) h = no_value_in vs i h

module _ (sorts : List SortBy) where
  -- one more of the keys
  pub picked_more : (i : ℕ) (rows : List (List Datum)) (row : List Datum) → slice_get rows i ≡ Some row
      → take (i + 1) (numbered 0 (map (picked sorts) rows)) ≡ take i (numbered 0 (map (picked sorts) rows)) ++ (picked sorts row, i) ∷ []
  picked_more i rows row h =
      let none : 0 + i ≡ i = omega arith in
      numbered_more 0 i (map (picked sorts) rows) (picked sorts row) (slice_get-map (picked sorts) rows i ∙ ap (option_map (picked sorts)) h)
      ∙ (λ j. take i (numbered 0 (map (picked sorts) rows)) ++ (picked sorts row, none j) ∷ [])

  pub all_picked : (rows : List (List Datum)) (i : ℕ) → i ≡ length rows → take i (numbered 0 (map (picked sorts) rows)) ≡ numbered 0 (map (picked sorts) rows)
  all_picked rows i h = all_numbered (map (picked sorts) rows) i (h ∙ sym (length-map rows (picked sorts)))

  -- as many places as rows
  pub picked_below : (rows : List (List Datum)) (ps : List ℕ) → EachBelow (length (map (picked sorts) rows)) ps → EachBelow (length rows) ps
  picked_below rows ps h = subst (λ n. EachBelow n ps) (length-map rows (picked sorts)) h
