-- What is written of a value, of one item more and of one entry more, to hash them.
use Rattle.std.proofs.Common.{◌≡◌, ℕ, ◌+◌, ◌<◌, ◌≤◌, List, ◌∷◌, ◌++◌, length, drop, get_or, fold, String, Global, string_bytes, sym, ap, ◌∙◌}
use Rattle.std.proofs.lemmas.List.{drop_more, drop_all}
use Rattle.std.proofs.lemmas.List.Sums.{fold-append}
use Rattle.std.specs.Hash as fed
use Rattle.std.specs.Hash.{HashWrites, le_bytes}
use Rattle.pg_meaning.specs.Order.{rank_of}
use Rattle.pg_meaning.specs.Value.{Value as Datum}
use Rattle.pg_value_core.specs.Hashed.{hashed, hashed_items, hashed_entries}
use Rattle.pg_value_core.specs.View.{view, values_view, entries_view}
use Rattle.pg_value_core.specs.declared.value.Value.{Value}

module _ {State : Type 0} (write : State → List ℕ → State) (state : State) where
  -- the rank of a value, and then the rest of it
  pub of_form : (ranked : State) (rank : ℕ) (v : Value) (d : Datum) (rest : HashWrites) → view v ≡ d → rank ≡ rank_of (view v) → ranked ≡ write state (le_bytes 8 rank) → hashed d ≡ fed.u64 (rank_of d) ++ rest
      → fold write ranked rest ≡ fold write state (hashed (view v))
  of_form ranked rank v d rest seen by_rank written whole =
      ap (λ s. fold write s rest) (written ∙ ap (λ r. write state (le_bytes 8 r)) (by_rank ∙ ap rank_of seen)) ∙ sym (ap (fold write state) (ap hashed seen ∙ whole))

  pub item_fed : (marked done : State) (xs : List Value) (i : ℕ) (x : Value) → i < length xs → x ≡ get_or xs i x → marked ≡ write state (le_bytes 8 1) → done ≡ fold write marked (hashed (view x))
      → fold write done (hashed_items (values_view (drop (i + 1) xs))) ≡ fold write state (hashed_items (values_view (drop i xs)))
  item_fed marked done xs i x inside e m f =
      let rest = hashed_items (values_view (drop (i + 1) xs)) in
      ap (λ s. fold write s rest) (f ∙ ap (λ s. fold write s (hashed (view x))) m) ∙ sym (fold-append write (write state (le_bytes 8 1)) (hashed (view x)) rest)
      ∙ sym (ap (λ ys. fold write state (hashed_items (values_view ys))) (drop_more xs i x inside ∙ ap (λ y. y ∷ drop (i + 1) xs) (sym e)))

  pub items_fed : (done : State) (xs : List Value) (i : ℕ) → length xs ≤ i → done ≡ write state (le_bytes 8 0) → done ≡ fold write state (hashed_items (values_view (drop i xs)))
  items_fed done xs i outside f = f ∙ sym (ap (λ ys. fold write state (hashed_items (values_view ys))) (drop_all i xs outside))

  pub entry_fed : (marked keyed done : State) (left es : List (String Global × Value)) (key : String Global) (x : Value) → left ≡ (key, x) ∷ es
      → marked ≡ write state (le_bytes 8 1) → keyed ≡ fold write marked (fed.str (string_bytes key)) → done ≡ fold write keyed (hashed (view x))
      → fold write done (hashed_entries (entries_view es)) ≡ fold write state (hashed_entries (entries_view left))
  entry_fed marked keyed done left es key x e m k f =
      let rest = hashed_entries (entries_view es) in
      let first = write state (le_bytes 8 1) in
      let text = fed.str (string_bytes key) in
      ap (λ s. fold write s rest) (f ∙ ap (λ s. fold write s (hashed (view x))) (k ∙ ap (λ s. fold write s text) m))
      ∙ sym (fold-append write first text (hashed (view x) ++ rest) ∙ fold-append write (fold write first text) (hashed (view x)) rest)
      ∙ sym (ap (λ ys. fold write state (hashed_entries (entries_view ys))) e)
