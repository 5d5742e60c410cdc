-- Labels and properties change at the texts of their names as records change at the numbers.
use Rattle.std.proofs.Common.{◌≡◌, ◌==◌, ◌<◌, ◌||◌, ◌&&◌, ℕ, Bool, true, false, cond, List, [], ◌∷◌, map as map_list, length, slice_get, Option, Some, None, Result, Ok, Err, OnOk, OnErr, Less, Equal, Greater, Ordering, refl, sym, ap, subst, ◌∙◌, true≢false}
use Rattle.std.proofs.lemmas.Cmp.{lists_total, nat_cmp_total}
use Rattle.std.proofs.lemmas.Map.Text.{is_eq-slice_cmp}
use Rattle.std.proofs.lemmas.Option.{slice_get_within}
use Rattle.std.specs.Cmp.{IsTotalOrder}
use Rattle.std.specs.FinMap as map
use Rattle.std.specs.FinMap.{find}
use Rattle.std.specs.List.{AllByRecursion, list_any, position}
use Rattle.std.specs.List.Sorted.{IsStrictlySortedBy}
use Rattle.std.specs.Option.{option_map_or}
use Rattle.std.specs.Ordering.{nat_cmp, eq_by_cmp, is_eq, is_lt, match_ordering, ordering_reverse}
use Rattle.std.specs.Str.{bytes_eq}
use Rattle.pg_graph.proofs.Held.{entries_rise, inserted, removed, more_named}
use Rattle.pg_names.proofs.Interned.{same_bytes, equal_bytes, place_of_text}
use Rattle.pg_graph.proofs.Named.{text_equal, label_is_read, any_put, any_inserted, either_false, either_same, either_swap, by_number, by_no_number, entry_found, no_entry, same_test}
use Rattle.pg_graph.proofs.Refined.{all_entries, labels_kept, entries_kept, text_stays}
use Rattle.pg_graph.proofs.SortedLists.{equal}
use Rattle.pg_names.specs.Names.{AreDistinct, KeepsNames}
use Rattle.pg_graph.specs.Records.{Properties, with_label, with_property, shown, shown_value}
use Rattle.pg_graph.specs.Refinement.{text_of, label_texts, property_entries, AreNamed}
use Rattle.pg_meaning.specs.Entries.{is_before_first, are_rising, at_key, without_key, set_key}
use Rattle.pg_meaning.specs.EntriesLaws.{set_keys_keeps_rising, without_keeps_rising, put_is_read, without_is_read}
use Rattle.pg_meaning.specs.Names.{is_among, put_texts, in_byte_order}
use Rattle.pg_meaning.specs.NamesLaws.{put_texts_rise, in_byte_order_rises}
use Rattle.pg_meaning.specs.Order.{text_order}
use Rattle.pg_meaning.specs.Value.{Value, null, boolean, integer, text, list, mapping, node, relationship, path, Entries, no_entries, entry}

total : IsTotalOrder text_order
total = lists_total nat_cmp_total

itself : (t : List ℕ) → bytes_eq t t ≡ true
itself t = equal_bytes t t refl

differs : (t u : List ℕ) → text_order t u ≡ Less → bytes_eq t u ≡ false
differs t u e = sym (is_eq-slice_cmp t u) ∙ ap is_eq e

turned : (t u : List ℕ) → text_order t u ≡ Greater → text_order u t ≡ Less
turned t u e = total.antisymm u t ∙ ap ordering_reverse e

-- ---- texts in byte order are known by what is among them

below : (t u : List ℕ) (us : List (List ℕ)) → text_order t u ≡ Less → AllByRecursion (λ v. text_order u v ≡ Less) us → AllByRecursion (λ v. text_order t v ≡ Less) us
below t u [] e h = tt
below t u (v ∷ us) e h = (total.trans t u v e h.0, below t u us e h.1)

not_among : (t : List ℕ) (us : List (List ℕ)) → AllByRecursion (λ v. text_order t v ≡ Less) us → is_among us t ≡ false
not_among t [] h = refl
not_among t (u ∷ us) h = ap (λ b. b || is_among us t) (differs t u h.0) ∙ not_among t us h.1

pub same_texts : (ts us : List (List ℕ)) → IsStrictlySortedBy text_order ts → IsStrictlySortedBy text_order us → ((t : List ℕ) → is_among ts t ≡ is_among us t) → ts ≡ us
unfolding IsStrictlySortedBy
same_texts [] [] p q h = refl
same_texts [] (u ∷ us) p q h = absurd (true≢false (sym (h u ∙ ap (λ b. b || is_among us u) (itself u))))
same_texts (t ∷ ts) [] p q h = absurd (true≢false (sym (ap (λ b. b || is_among ts t) (itself t)) ∙ h t))
same_texts (t ∷ ts) (u ∷ us) p q h = by_order (text_order t u) refl (same_texts ts us p.1 q.1)
  where
    rest : t ≡ u → (s : List ℕ) → is_among ts s ≡ is_among us s
    rest same s = elim (bytes_eq s t) as (λ b. bytes_eq s t ≡ b → is_among ts s ≡ is_among us s) [
      | true ↦ λ e.
          ap (is_among ts) (same_bytes s t e) ∙ not_among t ts p.0
          ∙ sym (ap (is_among us) (same_bytes s t e ∙ same) ∙ not_among u us q.0)
      | false ↦ λ e.
          sym (ap (λ b. b || is_among ts s) e) ∙ h s
          ∙ ap (λ b. b || is_among us s) (ap (bytes_eq s) (sym same) ∙ e)
    ] refl

    by_order : (o : Ordering) → text_order t u ≡ o → (((s : List ℕ) → is_among ts s ≡ is_among us s) → ts ≡ us) → t ∷ ts ≡ u ∷ us
    by_order Less is tail = absurd (true≢false (
        sym (ap (λ b. b || is_among ts t) (itself t)) ∙ h t ∙ not_among t (u ∷ us) (is, below t u us is q.0)
        ))
    by_order Equal is tail = let same = text_equal t u is in (λ i. same i ∷ tail (rest same) i)
    by_order Greater is tail = absurd (true≢false (
        sym (ap (λ b. b || is_among us u) (itself u)) ∙ sym (h u) ∙ not_among u (t ∷ ts) (turned t u is, below u t ts (turned t u is) p.0)
        ))

-- ---- labels

module _ (names : List (List ℕ)) (n : ℕ) where
  any_label_put : (p : List ℕ → Bool) (ls : List ℕ) → list_any p (map_list (text_of names) (with_label ls n)) ≡ (p (text_of names n) || list_any p (map_list (text_of names) ls))
  any_label_put p [] = refl
  any_label_put p (l ∷ ls) = by_order (nat_cmp n l) refl (any_label_put p ls)
    where
      by_order : (o : Ordering) → nat_cmp n l ≡ o → list_any p (map_list (text_of names) (with_label ls n)) ≡ (p (text_of names n) || list_any p (map_list (text_of names) ls))
          → list_any p (map_list (text_of names) (match_ordering o (n ∷ l ∷ ls) (n ∷ ls) (l ∷ with_label ls n)))
          ≡ (p (text_of names n) || (p (text_of names l) || list_any p (map_list (text_of names) ls)))
      by_order Less is tail = refl
      by_order Equal is tail =
          either_same (p (text_of names n)) (list_any p (map_list (text_of names) ls))
          ∙ ap (λ m. p (text_of names n) || (p (text_of names m) || list_any p (map_list (text_of names) ls))) (equal n l is)
      by_order Greater is tail =
          ap (λ b. p (text_of names l) || b) tail
          ∙ either_swap (p (text_of names l)) (p (text_of names n)) (list_any p (map_list (text_of names) ls))

  pub among : (t : List ℕ) (ls : List ℕ) → is_among (label_texts names ls) t ≡ list_any (bytes_eq t) (map_list (text_of names) ls)
  among t ls = any_put (bytes_eq t) (map_list (text_of names) ls) [] ∙ either_false _

  pub label_put : (ls : List ℕ) → label_texts names (with_label ls n) ≡ put_texts (text_of names n ∷ []) (label_texts names ls)
  label_put ls = same_texts _ _ (in_byte_order_rises (map_list (text_of names) (with_label ls n))) (put_texts_rise (text_of names n ∷ []) _ (in_byte_order_rises (map_list (text_of names) ls))) (λ t.
      among t (with_label ls n) ∙ any_label_put (bytes_eq t) ls
      ∙ sym (any_inserted (bytes_eq t) (text_of names n) (label_texts names ls) ∙ ap (λ b. bytes_eq t (text_of names n) || b) (among t ls)))

  pub named_put : (ls : List ℕ) → n < length names → AreNamed names ls → AreNamed names (with_label ls n)
  named_put [] inside h = (inside, tt)
  named_put (l ∷ ls) inside h = by_order (nat_cmp n l) (named_put ls inside h.1)
    where
      by_order : (o : Ordering) → AreNamed names (with_label ls n) → AreNamed names (match_ordering o (n ∷ l ∷ ls) (n ∷ ls) (l ∷ with_label ls n))
      by_order Less tail = (inside, h)
      by_order Equal tail = (inside, h.1)
      by_order Greater tail = (h.0, tail)

pub text_is : (names : List (List ℕ)) (n : ℕ) (t : List ℕ) → slice_get names n ≡ Some t → text_of names n ≡ t
text_is names n t h = ap (λ o. option_map_or (λ t. t) o []) h

module _ (old new : List (List ℕ)) (keeps : KeepsNames old new) where
  pub label_texts_kept : (ls : List ℕ) → AreNamed old ls → label_texts new ls ≡ label_texts old ls
  label_texts_kept ls h = ap in_byte_order (labels_kept old new keeps ls h)

  pub property_entries_kept : (ps : Properties) → AreNamed old (map.keys ps) → property_entries new ps ≡ property_entries old ps
  property_entries_kept ps h = entries_kept old new keeps (map.entries ps) h

  pub label_added : (ls : List ℕ) (n : ℕ) (t : List ℕ) → AreNamed old ls → slice_get new n ≡ Some t
      → label_texts new (with_label ls n) ≡ put_texts (t ∷ []) (label_texts old ls)
  label_added ls n t h is = label_put new n ls ∙ (λ i. put_texts (text_is new n t is i ∷ []) (label_texts_kept ls h i))

  pub label_added_named : (ls : List ℕ) (n : ℕ) (t : List ℕ) → AreNamed old ls → slice_get new n ≡ Some t → AreNamed new (with_label ls n)
  label_added_named ls n t h is = named_put new n ls (slice_get_within new n t is) (more_named old new keeps ls h)

-- a label that is there already
pub label_there : (names : List (List ℕ)) (n : ℕ) (ls : List ℕ) → AreDistinct names → AreNamed names ls → n < length names → list_any (λ l. l == n) ls ≡ true → put_texts (text_of names n ∷ []) (label_texts names ls) ≡ label_texts names ls
label_there names n ls distinct named inside there =
    same_texts _ _ (put_texts_rise (text_of names n ∷ []) _ (in_byte_order_rises (map_list (text_of names) ls))) (in_byte_order_rises (map_list (text_of names) ls)) (λ t.
    any_inserted (bytes_eq t) (text_of names n) (label_texts names ls) ∙ by_test t (bytes_eq t (text_of names n)) refl)
  where
    at : position (bytes_eq (text_of names n)) names ≡ Some n
    at = let t = text_stays names n inside in place_of_text names n (text_of names n) distinct (t.1 ∙ ap (λ o. Some (option_map_or (λ t. t) o [])) (sym t.1))

    is_there : is_among (label_texts names ls) (text_of names n) ≡ true
    is_there = label_is_read names ls (text_of names n) distinct named ∙ ap (λ o. option_map_or (λ m. list_any (λ l. l == m) ls) o false) at ∙ there

    by_test : (t : List ℕ) (b : Bool) → bytes_eq t (text_of names n) ≡ b → (b || is_among (label_texts names ls) t) ≡ is_among (label_texts names ls) t
    by_test t true is = sym (ap (is_among (label_texts names ls)) (same_bytes t (text_of names n) is) ∙ is_there)
    by_test t false is = refl

-- ---- entries whose keys rise are known by what stands at each key

absent : (k : List ℕ) (es : Entries) → are_rising es ≡ true → is_before_first k es ≡ true → at_key k es ≡ None
absent k es r b =
    subst (λ c. at_key k (cond c es (entry k null (without_key k es))) ≡ cond c None (cond c (Some null) (at_key k es))) (itself k)
    (without_is_read k k (entry k null es) (ap (λ c. c && are_rising es) b ∙ r))

both : (a b : Bool) → (a && b) ≡ true → (a ≡ true) × (b ≡ true)
both true true h = (refl, refl)
both true false h = cc
both false true h = cc
both false false h = cc

first_value : (k : List ℕ) (v : Value) (es : Entries) → at_key k (entry k v es) ≡ Some v
first_value k v es = ap (λ c. cond c (Some v) (at_key k es)) (itself k)

same_entries : (es fs : Entries) → are_rising es ≡ true → are_rising fs ≡ true → ((k : List ℕ) → at_key k es ≡ at_key k fs) → es ≡ fs
same_entries no_entries no_entries p q h = refl
same_entries no_entries (entry l w fs) p q h = cc (h l, first_value l w fs)
same_entries (entry k v es) no_entries p q h = cc (h k, first_value k v es)
same_entries (entry k v es) (entry l w fs) p q h = by_order (text_order k l) refl (same_entries es fs (both _ _ p).1 (both _ _ q).1)
  where
    rest : k ≡ l → (s : List ℕ) → at_key s es ≡ at_key s fs
    rest same s = elim (bytes_eq s k) as (λ b. bytes_eq s k ≡ b → at_key s es ≡ at_key s fs) [
      | true ↦ λ e.
          ap (λ t. at_key t es) (same_bytes s k e) ∙ absent k es (both _ _ p).1 (both _ _ p).0
          ∙ sym (ap (λ t. at_key t fs) (same_bytes s k e ∙ same) ∙ absent l fs (both _ _ q).1 (both _ _ q).0)
      | false ↦ λ e.
          sym (ap (λ c. cond c (Some v) (at_key s es)) e) ∙ h s
          ∙ ap (λ c. cond c (Some w) (at_key s fs)) (ap (bytes_eq s) (sym same) ∙ e)
    ] refl

    by_order : (o : Ordering) → text_order k l ≡ o → (((s : List ℕ) → at_key s es ≡ at_key s fs) → es ≡ fs) → entry k v es ≡ entry l w fs
    by_order Less is tail = cc (first_value k v es, h k, absent k (entry l w fs) q (ap is_lt is))
    by_order Equal is tail =
        let same = text_equal k l is in
        let values : v ≡ w = cc (first_value k v es, h k, ap (λ t. at_key t (entry l w fs)) same, first_value l w fs) in
        (λ i. entry (same i) (values i) (tail (rest same) i))
    by_order Greater is tail = cc (first_value l w fs, h l, absent l (entry k v es) p (ap is_lt (turned k l is)))

-- ---- properties

all_keys : (P : ℕ → Type 0) (es : List (ℕ × Value)) → AllByRecursion (λ e. P e.0) es → AllByRecursion P (map_list (λ e. e.0) es)
all_keys P [] h = tt
all_keys P (e ∷ es) h = (h.0, all_keys P es h.1)

pub keys_named : (names : List (List ℕ)) (m : Properties) → ((q : ℕ) (v : Value) → map.get m q ≡ Some v → q < length names) → AreNamed names (map.keys m)
keys_named names m h = all_keys (λ n. n < length names) (map.entries m) (all_entries (λ q v. q < length names) m h)

named_key : (names : List (List ℕ)) (es : List (ℕ × Value)) → AreNamed names (map_list (λ e. e.0) es) → (q : ℕ) (v : Value) → find nat_cmp q es ≡ Some v → q < length names
named_key names [] h q v found = absurd (cc)
named_key names (e ∷ es) h q v found = by_test (eq_by_cmp nat_cmp q e.0) refl found (named_key names es h.1 q v)
  where
    by_test : (b : Bool) → eq_by_cmp nat_cmp q e.0 ≡ b → cond b (Some e.1) (find nat_cmp q es) ≡ Some v → (find nat_cmp q es ≡ Some v → q < length names) → q < length names
    by_test true is f later = subst (λ n. n < length names) (sym (map.nat_cmp-IsAntisymmetric q e.0 (tied (nat_cmp q e.0) is))) h.0
      where
        tied : (o : Ordering) → is_eq o ≡ true → o ≡ Equal
        tied Less t = absurd (cc)
        tied Equal t = refl
        tied Greater t = absurd (cc)
    by_test false is f later = later f

shown_either : (b : Bool) (o p : Option Value) → shown (cond b o p) ≡ cond b (shown o) (shown p)
shown_either true o p = refl
shown_either false o p = refl

set_rises : (k : List ℕ) (v : Value) (es : Entries) → are_rising es ≡ true → are_rising (set_key k v es) ≡ true
set_rises k v es h = set_keys_keeps_rising ((k, v) ∷ []) es h

set_is_read : (q k : List ℕ) (v : Value) (es : Entries) → are_rising es ≡ true → at_key q (set_key k v es) ≡ cond (bytes_eq q k) (shown_value v) (at_key q es)
set_is_read q k null es h = without_is_read q k es h
set_is_read q k (boolean b) es h = put_is_read q k (boolean b) es
set_is_read q k (integer i) es h = put_is_read q k (integer i) es
set_is_read q k (text s) es h = put_is_read q k (text s) es
set_is_read q k (list vs) es h = put_is_read q k (list vs) es
set_is_read q k (mapping fs) es h = put_is_read q k (mapping fs) es
set_is_read q k (node n) es h = put_is_read q k (node n) es
set_is_read q k (relationship r) es h = put_is_read q k (relationship r) es
set_is_read q k (path ids) es h = put_is_read q k (path ids) es

without_absent : (k : List ℕ) (es : Entries) → at_key k es ≡ None → without_key k es ≡ es
without_absent k no_entries h = refl
without_absent k (entry l v es) h = by_test (bytes_eq k l) h (without_absent k es)
  where
    by_test : (b : Bool) → cond b (Some v) (at_key k es) ≡ None → (at_key k es ≡ None → without_key k es ≡ es) → cond b es (entry l v (without_key k es)) ≡ entry l v es
    by_test true h rest = absurd (cc)
    by_test false h rest = ap (entry l v) (rest h)

module _ (names : List (List ℕ)) (distinct : AreDistinct names) (m : Properties) (named : AreNamed names (map.keys m)) where
  pub each_named : (q : ℕ) (v : Value) → map.get m q ≡ Some v → q < length names
  each_named q v found = named_key names (map.entries m) named q v (sym (map.get-entries m q) ∙ found)

  pub named_inserted : (k : ℕ) (v : Value) → k < length names → AreNamed names (map.keys (map.insert m k v))
  named_inserted k v inside = keys_named names (map.insert m k v) (inserted m k v (λ q a. q < length names) inside each_named)

  pub named_removed : (k : ℕ) → AreNamed names (map.keys (map.remove m k))
  named_removed k = keys_named names (map.remove m k) (removed m k (λ q a. q < length names) each_named)

  -- what stands at a text is what its number shows
  at_number : (t : List ℕ) (n : ℕ) → position (bytes_eq t) names ≡ Some n → (o : Properties) → AreNamed names (map.keys o) → at_key t (property_entries names o) ≡ shown (map.get o n)
  at_number t n is o h = entry_found names distinct t n (map.entries o) (map.entries_sorted o) is h ∙ ap shown (sym (map.get-entries o n))

  pub property_put : (k : ℕ) (v : Value) → k < length names → property_entries names (map.insert m k v) ≡ set_key (text_of names k) v (property_entries names m)
  property_put k v inside = same_entries _ _ (entries_rise names (map.entries (map.insert m k v))) (set_rises (text_of names k) v _ (entries_rise names (map.entries m))) (λ t.
      by_place t (position (bytes_eq t) names) refl ∙ sym (set_is_read t (text_of names k) v (property_entries names m) (entries_rise names (map.entries m))))
    where
      by_place : (t : List ℕ) (o : Option ℕ) → position (bytes_eq t) names ≡ o → at_key t (property_entries names (map.insert m k v)) ≡ cond (bytes_eq t (text_of names k)) (shown_value v) (at_key t (property_entries names m))
      by_place t None is =
          no_entry names distinct t (map.entries (map.insert m k v)) is (named_inserted k v inside)
          ∙ sym (ap (λ c. cond c (shown_value v) (at_key t (property_entries names m))) (by_no_number names distinct t k is inside) ∙ no_entry names distinct t (map.entries m) is named)
      by_place t (Some n) is =
          at_number t n is (map.insert m k v) (named_inserted k v inside)
          ∙ ap shown (map.get-insert nat_cmp_total m k v n)
          ∙ shown_either (eq_by_cmp nat_cmp n k) (Some v) (map.get m n)
          ∙ (λ i. cond (sym (by_number names distinct t n k is inside ∙ same_test k n) i) (shown_value v) (sym (at_number t n is m named) i))

  pub property_taken : (k : ℕ) → k < length names → property_entries names (map.remove m k) ≡ without_key (text_of names k) (property_entries names m)
  property_taken k inside = same_entries _ _ (entries_rise names (map.entries (map.remove m k))) (without_keeps_rising (text_of names k) _ (entries_rise names (map.entries m))) (λ t.
      by_place t (position (bytes_eq t) names) refl ∙ sym (without_is_read t (text_of names k) (property_entries names m) (entries_rise names (map.entries m))))
    where
      by_place : (t : List ℕ) (o : Option ℕ) → position (bytes_eq t) names ≡ o → at_key t (property_entries names (map.remove m k)) ≡ cond (bytes_eq t (text_of names k)) None (at_key t (property_entries names m))
      by_place t None is =
          no_entry names distinct t (map.entries (map.remove m k)) is (named_removed k)
          ∙ sym (ap (λ c. cond c None (at_key t (property_entries names m))) (by_no_number names distinct t k is inside) ∙ no_entry names distinct t (map.entries m) is named)
      by_place t (Some n) is =
          at_number t n is (map.remove m k) (named_removed k)
          ∙ ap shown (map.get-remove nat_cmp_total m k n)
          ∙ shown_either (eq_by_cmp nat_cmp n k) None (map.get m n)
          ∙ (λ i. cond (sym (by_number names distinct t n k is inside ∙ same_test k n) i) None (sym (at_number t n is m named) i))

  property_set : (k : ℕ) (v : Value) → k < length names → property_entries names (with_property m k v) ≡ set_key (text_of names k) v (property_entries names m)
  property_set k null inside = property_taken k inside
  property_set k (boolean b) inside = property_put k (boolean b) inside
  property_set k (integer i) inside = property_put k (integer i) inside
  property_set k (text s) inside = property_put k (text s) inside
  property_set k (list vs) inside = property_put k (list vs) inside
  property_set k (mapping fs) inside = property_put k (mapping fs) inside
  property_set k (node n) inside = property_put k (node n) inside
  property_set k (relationship r) inside = property_put k (relationship r) inside
  property_set k (path ids) inside = property_put k (path ids) inside

  -- a key that shows nothing may be blank or have no place
  pub nothing_shown : (k : ℕ) → k < length names → shown (map.get m k) ≡ None → without_key (text_of names k) (property_entries names m) ≡ property_entries names m
  nothing_shown k inside none =
      let t = text_stays names k inside in
      let at = place_of_text names k (text_of names k) distinct (t.1 ∙ ap (λ o. Some (option_map_or (λ t. t) o [])) (sym t.1)) in
      without_absent (text_of names k) (property_entries names m) (at_number (text_of names k) k at m named ∙ none)

  pub blank_put : (k : ℕ) → k < length names → shown (map.get m k) ≡ None → property_entries names (map.insert m k null) ≡ property_entries names m
  blank_put k inside none = property_put k null inside ∙ nothing_shown k inside none

  pub blank_taken : (k : ℕ) → k < length names → shown (map.get m k) ≡ None → property_entries names (map.remove m k) ≡ property_entries names m
  blank_taken k inside none = property_taken k inside ∙ nothing_shown k inside none

  -- what shows the same under each number has the same entries
  pub shown_alike : (o : Properties) → AreNamed names (map.keys o) → ((q : ℕ) → shown (map.get o q) ≡ shown (map.get m q)) → property_entries names o ≡ property_entries names m
  shown_alike o there alike = same_entries _ _ (entries_rise names (map.entries o)) (entries_rise names (map.entries m)) (λ t. by_place t (position (bytes_eq t) names) refl)
    where
      by_place : (t : List ℕ) (p : Option ℕ) → position (bytes_eq t) names ≡ p → at_key t (property_entries names o) ≡ at_key t (property_entries names m)
      by_place t None is = no_entry names distinct t (map.entries o) is there ∙ sym (no_entry names distinct t (map.entries m) is named)
      by_place t (Some n) is = at_number t n is o there ∙ alike n ∙ sym (at_number t n is m named)

  named_set : (k : ℕ) (v : Value) → k < length names → AreNamed names (map.keys (with_property m k v))
  named_set k null inside = named_removed k
  named_set k (boolean b) inside = named_inserted k (boolean b) inside
  named_set k (integer i) inside = named_inserted k (integer i) inside
  named_set k (text s) inside = named_inserted k (text s) inside
  named_set k (list vs) inside = named_inserted k (list vs) inside
  named_set k (mapping fs) inside = named_inserted k (mapping fs) inside
  named_set k (node n) inside = named_inserted k (node n) inside
  named_set k (relationship r) inside = named_inserted k (relationship r) inside
  named_set k (path ids) inside = named_inserted k (path ids) inside

module _ (old new : List (List ℕ)) (distinct : AreDistinct new) (keeps : KeepsNames old new) (ps : Properties) (named : AreNamed old (map.keys ps)) where
  pub later_named : AreNamed new (map.keys ps)
  later_named = more_named old new keeps (map.keys ps) named

  pub property_given : (k : ℕ) (t : List ℕ) (v : Value) → slice_get new k ≡ Some t → property_entries new (with_property ps k v) ≡ set_key t v (property_entries old ps)
  property_given k t v is =
      property_set new distinct ps later_named k v (slice_get_within new k t is)
      ∙ (λ i. set_key (text_is new k t is i) v (property_entries_kept old new keeps ps named i))

  pub property_given_named : (k : ℕ) (t : List ℕ) (v : Value) → slice_get new k ≡ Some t → AreNamed new (map.keys (with_property ps k v))
  property_given_named k t v is = named_set new distinct ps later_named k v (slice_get_within new k t is)

-- what a property's text reads
pub property_found : (names : List (List ℕ)) (m : Properties) (t : List ℕ) (n : ℕ) → AreDistinct names → AreNamed names (map.keys m) → position (bytes_eq t) names ≡ Some n → at_key t (property_entries names m) ≡ shown (map.get m n)
property_found names m t n distinct named is = at_number names distinct m named t n is m named

pub property_missing : (names : List (List ℕ)) (m : Properties) (t : List ℕ) → AreDistinct names → AreNamed names (map.keys m) → position (bytes_eq t) names ≡ None → at_key t (property_entries names m) ≡ None
property_missing names m t distinct named is = no_entry names distinct t (map.entries m) is named

-- what holds after an Ok and after an Err holds
pub by_result : {V E P : Type 0} (r : Result V E) → OnOk r P → OnErr r P → P
by_result (Ok v) p q = p
by_result (Err e) p q = q
