-- Properties put in the byte order of their keys, one after the other.
use Rattle.std.proofs.Common.{◌≡◌, ◌<◌, ◌+◌, ℕ, zero, suc, false, List, [], ◌∷◌, Bor, drop, length, get_or, slice_set, map as map_list, Result, Ok, Err, Ordering, Less, Equal, Greater, arith, refl, sym, ap, subst, ◌∙◌}
use Rattle.std.proofs.lemmas.List.{at_drop_more}
use Rattle.std.specs.BTreeMap.{insert_entry}
use Rattle.std.specs.Cmp.Lexicographic.{slice_cmp}
use Rattle.std.specs.List.{insert}
use Rattle.std.specs.Ordering.{nat_cmp, match_ordering}
use Rattle.pg_graph.proofs.Named.{text_equal}
use Rattle.pg_graph.specs.Blank.{is_null}
use Rattle.pg_graph.specs.InOrder.{listed_entries, later, place_in}
use Rattle.pg_graph.specs.Records.{seen_entries}
use Rattle.pg_graph.specs.Refinement.{text_of, put_shown, AreNamed, named_entries}
use Rattle.pg_meaning.specs.Entries.{with_entry}
use Rattle.pg_meaning.specs.Order.{text_order}
use Rattle.pg_meaning.specs.Value.{Entries, entry}
use Rattle.pg_meaning.specs.Value as meaning
use Rattle.pg_value_core.specs.View.{view}
use Rattle.pg_value_core.specs.declared.value.Value.{Value}

abbrev pub Pair : Type 0
Pair = Bor (List ℕ) × Bor Value

-- ---- where a key stands

-- a place that is counted from another
abbrev pub past : ℕ → Result ℕ ℕ → Result ℕ ℕ
past n (Ok i) = Ok (n + i)
past n (Err i) = Err (n + i)

-- ---- what is put there

-- the list, with a pair at the place that was found
abbrev pub put_at : Result ℕ ℕ → List Pair → Pair → List Pair
put_at (Ok i) ps p = slice_set ps i p
put_at (Err i) ps p = insert ps i p

put_later : (r : Result ℕ ℕ) (x : Pair) (ps : List Pair) (p : Pair) → put_at (later r) (x ∷ ps) p ≡ x ∷ put_at r ps p
put_later (Ok i) x ps p = refl
put_later (Err i) x ps p = refl

pub listed_put : (p : Pair) (ps : List Pair) → listed_entries (put_at (place_in p.0.now ps) ps p) ≡ with_entry p.0.now (view p.1.now) (listed_entries ps)
listed_put p [] = refl
listed_put p (x ∷ ps) = by_order (text_order p.0.now x.0.now) refl (listed_put p ps)
  where
    by_order : (o : Ordering) → text_order p.0.now x.0.now ≡ o → listed_entries (put_at (place_in p.0.now ps) ps p) ≡ with_entry p.0.now (view p.1.now) (listed_entries ps)
        → listed_entries (put_at (match_ordering o (Err zero) (Ok zero) (later (place_in p.0.now ps))) (x ∷ ps) p)
        ≡ match_ordering o (entry p.0.now (view p.1.now) (listed_entries (x ∷ ps))) (entry p.0.now (view p.1.now) (listed_entries ps)) (entry x.0.now (view x.1.now) (with_entry p.0.now (view p.1.now) (listed_entries ps)))
    by_order Less is rest = refl
    by_order Equal is rest = refl
    by_order Greater is rest = ap listed_entries (put_later (place_in p.0.now ps) x ps p) ∙ ap (entry x.0.now (view x.1.now)) rest

-- the same in a map, where a key that is there stays
pub listed_inserted : (k : Bor (List ℕ)) (v : Bor Value) (ps : List Pair) → listed_entries (insert_entry (λ x y. slice_cmp nat_cmp x.now y.now) ps k v) ≡ with_entry k.now (view v.now) (listed_entries ps)
listed_inserted k v [] = refl
listed_inserted k v (x ∷ ps) = by_order (text_order k.now x.0.now) refl (listed_inserted k v ps)
  where
    rest_with : List Pair
    rest_with = insert_entry (λ x y. slice_cmp nat_cmp x.now y.now) ps k v

    by_order : (o : Ordering) → text_order k.now x.0.now ≡ o → listed_entries rest_with ≡ with_entry k.now (view v.now) (listed_entries ps)
        → listed_entries (match_ordering o ((k, v) ∷ x ∷ ps) ((x.0, v) ∷ ps) (x ∷ rest_with))
        ≡ match_ordering o (entry k.now (view v.now) (listed_entries (x ∷ ps))) (entry k.now (view v.now) (listed_entries ps)) (entry x.0.now (view x.1.now) (with_entry k.now (view v.now) (listed_entries ps)))
    by_order Less is rest = refl
    by_order Equal is rest = ap (λ t. entry t (view v.now) (listed_entries ps)) (sym (text_equal k.now x.0.now is))
    by_order Greater is rest = ap (entry x.0.now (view x.1.now)) rest

-- ---- what is not blank is put

pub put_is_shown : (k : List ℕ) (v : meaning.Value) (es : Entries) → is_null v ≡ false → with_entry k v es ≡ put_shown k v es
put_is_shown k meaning.null es h = absurd (cc)
put_is_shown k (meaning.boolean b) es h = refl
put_is_shown k (meaning.integer i) es h = refl
put_is_shown k (meaning.text s) es h = refl
put_is_shown k (meaning.list vs) es h = refl
put_is_shown k (meaning.mapping fs) es h = refl
put_is_shown k (meaning.node n) es h = refl
put_is_shown k (meaning.relationship r) es h = refl
put_is_shown k (meaning.path ids) es h = refl

-- ---- from the last entry on

named_at : (names : List (List ℕ)) (es : List (ℕ × Value)) (i : ℕ) (e : ℕ × Value) → AreNamed names (map_list (λ e. e.0) (seen_entries es)) → i < length es → (get_or es i e).0 < length names
named_at names [] i d named less = absurd (omega arith)
named_at names (e ∷ es) zero d named less = named.0
named_at names (e ∷ es) (suc i) d named less = named_at names es i d named.1 (omega arith)

pub key_named : (names : List (List ℕ)) (es : List (ℕ × Value)) (i : ℕ) (e : ℕ × Value) → AreNamed names (map_list (λ e. e.0) (seen_entries es)) → i < length es → e ≡ get_or es i e → e.0 < length names
key_named names es i e named less is = subst (λ (x : ℕ × Value). x.0 < length names) (sym is) (named_at names es i e named less)

-- the entry before those that are found
pub one_more : (names : List (List ℕ)) (es : List (ℕ × Value)) (i left : ℕ) (e : ℕ × Value) (text : List ℕ) (copy : meaning.Value) (found : Entries) → i + 1 ≡ left → i < length es → e ≡ get_or es i e
    → text ≡ text_of names e.0 → copy ≡ view e.1 → found ≡ named_entries names (seen_entries (drop left es)) → put_shown text copy found ≡ named_entries names (seen_entries (drop i es))
one_more names es i left e text copy found next less is same_text same_value so_far =
    let entries : List (ℕ × Value) → Entries = λ xs. named_entries names (seen_entries xs) in
    (λ j. put_shown (same_text j) (same_value j) (so_far j))
    ∙ ap (λ n. entries (e ∷ drop n es)) (sym next)
    ∙ ap (λ x. entries (x ∷ drop (i + 1) es)) is
    ∙ sym (at_drop_more entries es i e less)
