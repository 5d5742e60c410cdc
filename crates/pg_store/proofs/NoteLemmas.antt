-- Notes that are added, and the keys that they are of.
use Rattle.std.proofs.Common.{◌≡◌, ◌==◌, ◌<◌, ◌≤◌, ◌+◌, ℕ, Bool, true, false, cond, List, [], ◌∷◌, ◌++◌, length, drop, get_or, Option, Some, None, arith, refl, sym, ap, ◌∙◌}
use Rattle.std.specs.Prelude.{◌&&◌, ◌||◌}
use Rattle.std.proofs.lemmas.Bool.Decides.{nat_tests}
use Rattle.std.proofs.lemmas.List.{at_drop_all, at_drop_more}
use Rattle.std.proofs.lemmas.List.Folds.{list_any-append, list_any_at}
use Rattle.std.specs.FinMap as map
use Rattle.std.specs.List.{list_any}
use Rattle.std.specs.Option.{option_map_or}
use Rattle.std.specs.Ordering.{is_eq}
use Rattle.pg_graph.specs.Stored.{has_number}
use Rattle.pg_graph.specs.declared.records.NodeRecord.{NodeRecord}
use Rattle.pg_index.specs.Properties.{finds, has_pair, is_equal, is_for, is_found_by, is_one_value, pairs_of, some_finds}
use Rattle.pg_index.specs.declared.properties.PropertyIndex.{PropertyIndex}
use Rattle.pg_meaning.specs.Equality.{eq3}
use Rattle.pg_meaning.specs.Logic.{is_true}
use Rattle.pg_meaning.specs.Order.{value_order}
use Rattle.pg_meaning.specs.Value as meaning
use Rattle.pg_store.specs.Covers.{Key, with_label, with_value}
use Rattle.pg_store.specs.Noted.{StayNoted, is_noted, same_key}
use Rattle.pg_store.specs.Wanted.{place_key}
use Rattle.pg_store.specs.declared.wanted.Place.{Place}
use Rattle.pg_store.specs.declared.wanted.Place.TheVariants as place
use Rattle.pg_value_core.specs.View.{view}
use Rattle.pg_value_core.specs.declared.value.Value.{Value}

pub same_number : (m n : ℕ) → (m == n) ≡ true → m ≡ n
same_number m n h = grind (arith, nat_tests)

pub equal_number : (m n : ℕ) → m ≡ n → (m == n) ≡ true
equal_number m n h = grind (arith, nat_tests)

pub and_left : (a b : Bool) → (a && b) ≡ true → a ≡ true
and_left true b h = refl
and_left false b h = h

pub and_right : (a b : Bool) → (a && b) ≡ true → b ≡ true
and_right true b h = h
and_right false b h = absurd cc

pub and_both : (a b : Bool) → a ≡ true → b ≡ true → (a && b) ≡ true
and_both true b h e = e
and_both false b h e = h

pub or_left : (a b : Bool) → a ≡ true → (a || b) ≡ true
or_left true b h = refl
or_left false b h = absurd cc

pub or_right : (a b : Bool) → b ≡ true → (a || b) ≡ true
or_right true b h = refl
or_right false b h = h

pub or_on : (a b c d : Bool) → (a ≡ true → c ≡ true) → (b ≡ true → d ≡ true) → (a || b) ≡ true → (c || d) ≡ true
or_on true b c d f g h = or_left c d (f refl)
or_on false b c d f g h = or_right c d (g h)

pub or_either : (a b c : Bool) → (a ≡ true → c ≡ true) → (b ≡ true → c ≡ true) → (a || b) ≡ true → c ≡ true
or_either true b c f g h = f refl
or_either false b c f g h = g h

twice : (a b : Bool) → (a || (a || b)) ≡ true → (a || b) ≡ true
twice true b h = refl
twice false b h = h

or_none : (a : Bool) → (a || false) ≡ true → a ≡ true
or_none true h = refl
or_none false h = h

-- ---- a note more

pub pushed_stay : (b : Bool) (old new : List (Place × ℕ)) (n : Place × ℕ) → new ≡ cond b (old ++ n ∷ []) old → StayNoted old new
pushed_stay true old new n is key id h =
    ap (λ ns. is_noted ns key id) is ∙ list_any-append (λ n. same_key (place_key n.0) key && n.1 == id) old (n ∷ []) ∙ or_left (is_noted old key id) (is_noted (n ∷ []) key id) h
pushed_stay false old new n is key id h = ap (λ ns. is_noted ns key id) is ∙ h

pub pushed_noted : (old new : List (Place × ℕ)) (p : Place) (i : ℕ) → new ≡ old ++ (p, i) ∷ [] → (key : Key) → same_key (place_key p) key ≡ true → is_noted new key i ≡ true
pushed_noted old new p i is key same =
    ap (λ ns. is_noted ns key i) is ∙ list_any-append (λ n. same_key (place_key n.0) key && n.1 == i) old ((p, i) ∷ [])
    ∙ or_right (is_noted old key i) (is_noted ((p, i) ∷ []) key i) (or_left (same_key (place_key p) key && i == i) false (and_both (same_key (place_key p) key) (i == i) same (equal_number i i refl)))

pub label_noted : (old new : List (Place × ℕ)) (l m i : ℕ) → new ≡ old ++ (place.Labelled l, i) ∷ [] → (l == m) ≡ true → is_noted new (with_label m) i ≡ true
label_noted old new l m i is same = pushed_noted old new (place.Labelled l) i is (with_label m) same

pub value_noted : (old new : List (Place × ℕ)) (l k : ℕ) (copied value v : Value) (i : ℕ) → new ≡ old ++ (place.Valued l k copied, i) ∷ [] → view copied ≡ view value → is_one_value value v ≡ true → is_noted new (with_value l k v) i ≡ true
value_noted old new l k copied value v i is same one =
    pushed_noted old new (place.Valued l k copied) i is (with_value l k v)
    (and_both (l == l && k == k) (is_one_value copied v) (and_both (l == l) (k == k) (equal_number l l refl) (equal_number k k refl)) (ap (λ x. is_eq (value_order x (view v))) same ∙ one))

pub stay_all : (a b c : List (Place × ℕ)) → StayNoted a b → StayNoted b c → StayNoted a c
stay_all a b c p q key id h = q key id (p key id h)

-- ---- indexes one after the other

pub first_to_come : (q : Bool) (l k : ℕ) (xs : List PropertyIndex) → has_pair (l, k) (pairs_of xs) ≡ true → (q || has_pair (l, k) (pairs_of (drop 0 xs))) ≡ true
first_to_come q l k xs h = or_right q (has_pair (l, k) (pairs_of xs)) h

pub one_fewer : (q r : Bool) (l k : ℕ) (xs : List PropertyIndex) (i : ℕ) (x : PropertyIndex) → x ≡ get_or xs i x → i < length xs → (q ≡ true → r ≡ true) → (is_for x l k ≡ true → r ≡ true)
    → (q || has_pair (l, k) (pairs_of (drop i xs))) ≡ true → (r || has_pair (l, k) (pairs_of (drop (i + 1) xs))) ≡ true
one_fewer q r l k xs i x is within stay here h =
    let rest = has_pair (l, k) (pairs_of (drop (i + 1) xs)) in
    twice r rest
    (or_on q (is_for x l k || rest) r (r || rest) stay (or_on (is_for x l k) rest r rest here (λ g. g))
    (ap (λ b. q || b) (sym (at_drop_more (λ ys. has_pair (l, k) (pairs_of ys)) xs i x within ∙ ap (λ y. has_pair (l, k) (pairs_of (y ∷ drop (i + 1) xs))) (sym is))) ∙ h))

pub none_to_come : (q : Bool) (l k : ℕ) (xs : List PropertyIndex) (i : ℕ) → length xs ≤ i → (q || has_pair (l, k) (pairs_of (drop i xs))) ≡ true → q ≡ true
none_to_come q l k xs i end h = or_none q (ap (λ b. q || b) (sym (at_drop_all (λ ys. has_pair (l, k) (pairs_of ys)) xs i end)) ∙ h)

-- labels one after the other
pub first_label : (q : Bool) (m : ℕ) (xs : List ℕ) → list_any (λ l. l == m) xs ≡ true → (q || list_any (λ l. l == m) (drop 0 xs)) ≡ true
first_label q m xs h = or_right q (list_any (λ l. l == m) xs) h

pub one_label_fewer : (q r : Bool) (m : ℕ) (xs : List ℕ) (i x : ℕ) → x ≡ get_or xs i x → i < length xs → (q ≡ true → r ≡ true) → ((x == m) ≡ true → r ≡ true)
    → (q || list_any (λ l. l == m) (drop i xs)) ≡ true → (r || list_any (λ l. l == m) (drop (i + 1) xs)) ≡ true
one_label_fewer q r m xs i x is within stay here h =
    let rest = list_any (λ l. l == m) (drop (i + 1) xs) in
    twice r rest
    (or_on q (x == m || rest) r (r || rest) stay (or_on (x == m) rest r rest here (λ g. g))
    (ap (λ b. q || b) (sym (at_drop_more (λ ys. list_any (λ l. l == m) ys) xs i x within ∙ ap (λ y. list_any (λ l. l == m) (y ∷ drop (i + 1) xs)) (sym is))) ∙ h))

pub no_label_to_come : (q : Bool) (m : ℕ) (xs : List ℕ) (i : ℕ) → length xs ≤ i → (q || list_any (λ l. l == m) (drop i xs)) ≡ true → q ≡ true
no_label_to_come q m xs i end h = or_none q (ap (λ b. q || b) (sym (at_drop_all (λ ys. list_any (λ l. l == m) ys) xs i end)) ∙ h)

-- an index of a label and a key
pub index_is : (x : PropertyIndex) (l k : ℕ) → is_for x l k ≡ true → (x.label ≡ l) × (x.key ≡ k)
index_is x l k h = (same_number x.label l (and_left (x.label == l) (x.key == k) h), same_number x.key k (and_right (x.label == l) (x.key == k) h))

-- ---- what was found by a value

-- an equal value finds the same
pub found_alike : (l k : ℕ) (v w : Value) (n : NodeRecord) → view v ≡ view w → is_found_by l k v n ≡ is_found_by l k w n
found_alike l k v w n same = ap (λ (x : meaning.Value). has_number (Some l) n && option_map_or (λ u. is_true (eq3 u x)) (map.get n.properties k) false) same

-- where the label is there and the key has a value
pub found_when : (l k : ℕ) (v : Value) (n : NodeRecord) → is_found_by l k v n ≡ true → (has_number (Some l) n ≡ true) × ((w : meaning.Value) × (map.get n.properties k ≡ Some w) × (is_equal w v ≡ true))
found_when l k v n h = (and_left (has_number (Some l) n) _ h, some (map.get n.properties k) (and_right (has_number (Some l) n) _ h))
  where
    some : (o : Option meaning.Value) → option_map_or (λ w. is_equal w v) o false ≡ true → (w : meaning.Value) × (o ≡ Some w) × (is_equal w v ≡ true)
    some None h = absurd cc
    some (Some w) h = (w, refl, h)

pub found_now : (l k : ℕ) (v : Value) (n : NodeRecord) (w : meaning.Value) → has_number (Some l) n ≡ true → map.get n.properties k ≡ Some w → is_equal w v ≡ true → is_found_by l k v n ≡ true
found_now l k v n w labelled at same = and_both (has_number (Some l) n) _ labelled (ap (λ o. option_map_or (λ u. is_equal u v) o false) at ∙ same)

pub some_same : {X : Type 0} {a b : X} → Some a ≡ Some b → a ≡ b
some_same h = cc h

-- the index at a place finds it, so one of them does
pub some_at : (xs : List PropertyIndex) (at : ℕ) (x : PropertyIndex) (l k : ℕ) (v : Value) (i : ℕ) → x ≡ get_or xs at x → at < length xs → is_for x l k ≡ true → finds x v i ≡ true → some_finds xs l k v i ≡ true
some_at xs at x l k v i is within for found =
    list_any_at (λ y. is_for y l k && finds y v i) xs at x within (ap (λ y. is_for y l k && finds y v i) (sym is) ∙ and_both (is_for x l k) (finds x v i) for found)
