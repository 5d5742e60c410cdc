-- Keys that are set and taken out, and labels that are put and taken out, read as told.
use Rattle.std.proofs.Common.{◌≡◌, ℕ, Bool, true, false, cond, not, ◌||◌, ◌&&◌, List, [], ◌∷◌, filter, Option, Some, None, Less, Equal, Greater, bytes_eq, is_eq, refl, sym, ap, ◌∙◌}
use Rattle.std.proofs.lemmas.Map.Text.{is_eq-slice_cmp}
use Rattle.std.specs.BTreeSet.{insert_key}
use Rattle.std.specs.List.Sorted.{IsStrictlySortedBy}
use Rattle.std.specs.Ordering.{match_ordering}
use Rattle.pg_meaning.specs.Entries.{are_rising, at_key, without_key, set_key, set_keys}
use Rattle.pg_meaning.specs.EntriesLaws.{set_keys_keeps_rising, without_keeps_rising, put_is_read, without_is_read, same_text}
use Rattle.pg_meaning.specs.ListsLaws.{all_filtered}
use Rattle.pg_meaning.specs.Names.{Names, is_among, put_texts}
use Rattle.pg_meaning.specs.NamesLaws.{put_texts_rise}
use Rattle.pg_meaning.specs.Order.{text_order}
use Rattle.pg_meaning.specs.Value.{Value, null, boolean, integer, text, list, mapping, node, relationship, path, Entries}
use Rattle.pg_meaning.specs.Changes.{stored, given_to, KeysAreSet, KeyIsGone, LabelsAreAdded, LabelsAreGone}

-- ---- keys

set_is_read : (q k : List ℕ) (v : Value) (es : Entries) → are_rising es ≡ true → at_key q (set_key k v es) ≡ cond (bytes_eq q k) (stored v) (at_key q es)
set_is_read q k null es h = without_is_read q k es h
set_is_read q k (boolean b) es h = put_is_read q k (boolean b) es
set_is_read q k (integer i) es h = put_is_read q k (integer i) es
set_is_read q k (text s) es h = put_is_read q k (text s) es
set_is_read q k (list vs) es h = put_is_read q k (list vs) es
set_is_read q k (mapping fs) es h = put_is_read q k (mapping fs) es
set_is_read q k (node n) es h = put_is_read q k (node n) es
set_is_read q k (relationship r) es h = put_is_read q k (relationship r) es
set_is_read q k (path ids) es h = put_is_read q k (path ids) es

keys_read : (q : List ℕ) (pairs : List (List ℕ × Value)) (es : Entries) → are_rising es ≡ true
    → at_key q (set_keys pairs es) ≡ elim (given_to q pairs) [ Some v ↦ stored v | None ↦ at_key q es ]
keys_read q [] es h = refl
keys_read q (p ∷ ps) es h =
    keys_read q ps (set_key p.0 p.1 es) (set_keys_keeps_rising (p ∷ []) es h)
    ∙ by_rest (given_to q ps) (bytes_eq q p.0) (set_is_read q p.0 p.1 es h)
  where
    by_rest : (o : Option Value) (b : Bool) → at_key q (set_key p.0 p.1 es) ≡ cond b (stored p.1) (at_key q es)
        → elim o as (λ o. Option Value) [ Some v ↦ stored v | None ↦ at_key q (set_key p.0 p.1 es) ]
        ≡ elim (elim o as (λ o. Option Value) [ Some v ↦ Some v | None ↦ cond b (Some p.1) None ]) as (λ o. Option Value) [ Some v ↦ stored v | None ↦ at_key q es ]
    by_rest (Some v) b e = refl
    by_rest None true e = e
    by_rest None false e = e

pub keys_are_set : (pairs : List (List ℕ × Value)) (es : Entries) → are_rising es ≡ true → KeysAreSet pairs es (set_keys pairs es)
keys_are_set pairs es h = record { rising = set_keys_keeps_rising pairs es h; keys = λ q. keys_read q pairs es h }

pub key_is_gone : (key : List ℕ) (es : Entries) → are_rising es ≡ true → KeyIsGone key es (without_key key es)
key_is_gone key es h = record { rising = without_keeps_rising key es h; keys = λ q. without_is_read q key es h }

-- ---- labels

pub tied : (k l : List ℕ) → text_order k l ≡ Equal → k ≡ l
tied k l e = same_text k l (sym (is_eq-slice_cmp k l) ∙ ap is_eq e)

or_later : (a b c : Bool) → (a || (b || c)) ≡ (b || (a || c))
or_later true true c = refl
or_later true false c = refl
or_later false b c = refl

or_twice : (a b : Bool) → (a || b) ≡ (a || (a || b))
or_twice true b = refl
or_twice false b = refl

or_turned : (a b : Bool) → (a || b) ≡ (b || a)
or_turned true true = refl
or_turned true false = refl
or_turned false true = refl
or_turned false false = refl

or_grouped : (a b c : Bool) → ((a || b) || c) ≡ (b || (a || c))
or_grouped true true c = refl
or_grouped true false c = refl
or_grouped false b c = refl

inserted : (l t : List ℕ) (us : Names) → is_among (insert_key text_order us t) l ≡ (bytes_eq l t || is_among us l)
inserted l t [] = refl
inserted l t (u ∷ us) =
    elim (text_order t u) as (λ r. text_order t u ≡ r → is_among (match_ordering r (t ∷ u ∷ us) (u ∷ us) (u ∷ insert_key text_order us t)) l ≡ (bytes_eq l t || (bytes_eq l u || is_among us l))) [
      | Less ↦ λ e. refl
      | Equal ↦ λ e. or_twice (bytes_eq l u) (is_among us l) ∙ ap (λ w. bytes_eq l w || (bytes_eq l u || is_among us l)) (sym (tied t u e))
      | Greater ↦ λ e. ap (λ b. bytes_eq l u || b) (inserted l t us) ∙ or_later (bytes_eq l u) (bytes_eq l t) (is_among us l)
    ] refl

put_among : (l : List ℕ) (more us : Names) → is_among (put_texts more us) l ≡ (is_among us l || is_among more l)
put_among l [] us = or_turned false (is_among us l)
put_among l (t ∷ more) us =
    put_among l more (insert_key text_order us t)
    ∙ ap (λ b. b || is_among more l) (inserted l t us)
    ∙ or_grouped (bytes_eq l t) (is_among us l) (is_among more l)

pub labels_are_added : (new us : Names) → IsStrictlySortedBy text_order us → LabelsAreAdded new us (put_texts new us)
labels_are_added new us h = record { rising = put_texts_rise new us h; labels = λ l. put_among l new us }

left_over : (test : List ℕ → Bool) (l : List ℕ) (us : Names) → is_among (filter test us) l ≡ (is_among us l && test l)
left_over test l [] = refl
left_over test l (u ∷ us) =
    elim (test u) as (λ c. test u ≡ c → is_among (cond c (u ∷ filter test us) (filter test us)) l ≡ ((bytes_eq l u || is_among us l) && test l)) [
      | true ↦ λ e. kept (bytes_eq l u) (is_among us l) (test l) (is_among (filter test us) l) (left_over test l us) (λ s. ap test (same_text l u s) ∙ e)
      | false ↦ λ e. dropped (bytes_eq l u) (is_among us l) (test l) (is_among (filter test us) l) (left_over test l us) (λ s. ap test (same_text l u s) ∙ e)
    ] refl
  where
    kept : (b a t r : Bool) → r ≡ (a && t) → (b ≡ true → t ≡ true) → (b || r) ≡ ((b || a) && t)
    kept true a t r e h = sym (h refl)
    kept false a t r e h = e

    dropped : (b a t r : Bool) → r ≡ (a && t) → (b ≡ true → t ≡ false) → r ≡ ((b || a) && t)
    dropped true a t r e h = e ∙ none a t (h refl) ∙ sym (h refl)
      where
        none : (a t : Bool) → t ≡ false → (a && t) ≡ false
        none true t h = h
        none false t h = refl
    dropped false a t r e h = e

filtered_rise : (test : List ℕ → Bool) (us : Names) → IsStrictlySortedBy text_order us → IsStrictlySortedBy text_order (filter test us)
unfolding IsStrictlySortedBy
filtered_rise test [] h = tt
filtered_rise test (u ∷ us) h =
    elim (test u) as (λ b. IsStrictlySortedBy text_order (cond b (u ∷ filter test us) (filter test us))) [
      | true ↦ (all_filtered (λ v. text_order u v ≡ Less) (λ v. text_order u v ≡ Less) test (λ v e t. e) us h.0, filtered_rise test us h.1)
      | false ↦ filtered_rise test us h.1
    ]

pub labels_are_gone : (gone us : Names) → IsStrictlySortedBy text_order us → LabelsAreGone gone us (filter (λ l. not (is_among gone l)) us)
labels_are_gone gone us h = record { rising = filtered_rise (λ l. not (is_among gone l)) us h; labels = λ l. left_over (λ l. not (is_among gone l)) l us }
