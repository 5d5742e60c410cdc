-- A `BTreeMap` beside the entries that it stands for.
use Rattle.std.proofs.Common.{◌≡◌, List, [], ◌∷◌, ◌++◌, String, Global, Ordering, Less, Equal, Greater, string_bytes, string_cmp, refl, sym, ap, ◌∙◌}
use Rattle.std.proofs.lemmas.Cmp.{nat_list_cmp_total}
use Rattle.std.proofs.lemmas.Map.Lookups.{exact_bytes}
use Rattle.std.specs.BTreeMap.{insert_entry}
use Rattle.std.specs.List.{AllByRecursion}
use Rattle.std.specs.List.Sorted.{IsStrictlySortedBy}
use Rattle.std.specs.Map.{keys_of}
use Rattle.std.specs.Ordering.{match_ordering, ordering_reverse}
use Rattle.pg_meaning.specs.Entries.{with_entry}
use Rattle.pg_meaning.specs.Order.{text_order}
use Rattle.pg_meaning.specs.Value.{entry}
use Rattle.pg_value_core.specs.View.{view, entries_view}
use Rattle.pg_value_core.specs.declared.value.Value.{Value}

abbrev pub Pair : Type 0
Pair = String Global × Value

-- a key that the map has stays, and has the bytes of the one that comes
put_chosen : (o : Ordering) (k : String Global) (v : Value) (e : Pair) (es rest : List Pair) → string_cmp k e.0 ≡ o
    → entries_view (match_ordering o ((k, v) ∷ e ∷ es) ((e.0, v) ∷ es) (e ∷ rest))
    ≡ match_ordering o (entry (string_bytes k) (view v) (entries_view (e ∷ es))) (entry (string_bytes k) (view v) (entries_view es)) (entry (string_bytes e.0) (view e.1) (entries_view rest))
put_chosen Less k v e es rest h = refl
put_chosen Equal k v e es rest h = ap (λ bytes. entry bytes (view v) (entries_view es)) (sym (exact_bytes (string_bytes k) (string_bytes e.0) h))
put_chosen Greater k v e es rest h = refl

-- what is put into the map is put into its entries
pub entries_view-insert_entry : (es : List Pair) (k : String Global) (v : Value) → entries_view (insert_entry string_cmp es k v) ≡ with_entry (string_bytes k) (view v) (entries_view es)
entries_view-insert_entry [] k v = refl
entries_view-insert_entry (e ∷ es) k v = put_chosen (string_cmp k e.0) k v e es (insert_entry string_cmp es k v) refl ∙ rw (entries_view-insert_entry es k v) refl

below_middle : (first : Pair) (es : List Pair) (e : Pair) (more : List Pair) → AllByRecursion (λ y. string_cmp first.0 y ≡ Less) (keys_of (es ++ e ∷ more)) → string_cmp first.0 e.0 ≡ Less
below_middle first [] e more h = h.0
below_middle first (x ∷ es) e more h = below_middle first es e more h.1

-- a key that is above those before it goes last
pub put_last : (done : List Pair) (e : Pair) (more : List Pair) → IsStrictlySortedBy string_cmp (keys_of (done ++ e ∷ more)) → with_entry (string_bytes e.0) (view e.1) (entries_view done) ≡ entries_view (done ++ e ∷ [])
unfolding IsStrictlySortedBy
put_last [] e more h = refl
put_last (first ∷ done) e more h =
    let above : text_order (string_bytes e.0) (string_bytes first.0) ≡ Greater =
    nat_list_cmp_total.antisymm (string_bytes e.0) (string_bytes first.0) ∙ ap ordering_reverse (below_middle first done e more h.0) in
    rw above (ap (entry (string_bytes first.0) (view first.1)) (put_last done e more h.1))
