-- A tenant lists what its graph has: while names come, where an index is made, and where one is dropped.
use Rattle.std.proofs.Common.{◌≡◌, ◌==◌, ◌&&◌, ◌||◌, ℕ, Bool, true, false, not, cond, filter, List, [], ◌∷◌, Option, Some, None, Ok, bytes_eq, slice_get, arith, refl, sym, ap, subst, ◌∙◌}
use Rattle.std.specs.Prelude.{nat_lt, length}
use Rattle.std.specs.List.{list_any}
use Rattle.std.specs.Option.{option_map_or}
use Rattle.std.proofs.lemmas.Bool.Decides.{nat_tests}
use Rattle.std.proofs.lemmas.List.Folds.{list_any-append}
use Rattle.pg_index.specs.Properties.{has_pair}
use Rattle.pg_live.specs.Live.{Live, pairs_at}
use Rattle.pg_meaning.specs.Answer.{◌>>◌, unless}
use Rattle.pg_meaning.specs.Plans.{Catalogue, is_indexed}
use Rattle.pg_meaning.specs.declared.fault.Fault.TheVariants.{IndexExists, NoSuchIndex, TooManyIndexes}
use Rattle.pg_names.proofs.Interned.{equal_bytes, same_bytes}
use Rattle.pg_names.specs.Names.{KeepsNames}
use Rattle.pg_store.specs.Indexed.{IsOneLess, IsOneMore, has_text, is_named}
use Rattle.pg_tenant.specs.Indexes.{Index, indexes_of, is_same, most_indexes, stands_before, with_index, with_one_less, with_one_more, without_index}
use Rattle.pg_tenant.specs.Listed.{AreListed, KeepsListed}
use Rattle.pg_tenant.specs.declared.tenant.Tenant.{Tenant}

-- ---- truth values

and_left : (a b : Bool) → (a && b) ≡ true → a ≡ true
and_left true b h = refl
and_left false b h = absurd cc

and_right : (a b : Bool) → (a && b) ≡ true → b ≡ true
and_right true b h = h
and_right false b h = absurd cc

and_both : (a b : Bool) → a ≡ true → b ≡ true → (a && b) ≡ true
and_both true b h e = e
and_both false b h e = absurd cc

or_left : (a b : Bool) → a ≡ true → (a || b) ≡ true
or_left true b h = refl
or_left false b h = absurd cc

or_right : (a b : Bool) → b ≡ true → (a || b) ≡ true
or_right true b h = refl
or_right false b h = h

not_true : (a : Bool) → not a ≡ true → a ≡ false
not_true true h = absurd cc
not_true false h = refl

-- one of two
either : (P : Type 0) (a b : Bool) → (a || b) ≡ true → (a ≡ true → P) → (b ≡ true → P) → P
either P true b h f g = f refl
either P false b h f g = g h

-- ---- names

text_is : (o : Option (List ℕ)) (text : List ℕ) → option_map_or (bytes_eq text) o false ≡ true → o ≡ Some text
text_is None text h = absurd cc
text_is (Some t) text h = ap Some (sym (same_bytes text t h))

has_it : (names : List (List ℕ)) (text : List ℕ) (n : ℕ) → slice_get names n ≡ Some text → has_text names text n ≡ true
has_it names text n is = ap (λ o. option_map_or (bytes_eq text) o false) is ∙ equal_bytes text text refl

text_grown : (old new : List (List ℕ)) → KeepsNames old new → (text : List ℕ) (n : ℕ) → has_text old text n ≡ true → has_text new text n ≡ true
text_grown old new kept text n h = has_it new text n (kept n text (text_is (slice_get old n) text h))

named_grown : (old new : List (List ℕ)) → KeepsNames old new → (i : Index) (p : ℕ × ℕ) → is_named old i.0 i.1 p ≡ true → is_named new i.0 i.1 p ≡ true
named_grown old new kept i p h =
    let label = has_text old i.0 p.0 in
    let key = has_text old i.1 p.1 in
    and_both (has_text new i.0 p.0) (has_text new i.1 p.1) (text_grown old new kept i.0 p.0 (and_left label key h)) (text_grown old new kept i.1 p.1 (and_right label key h))

-- a number has one text
one_text : (names : List (List ℕ)) (a b : List ℕ) (n : ℕ) → has_text names a n ≡ true → has_text names b n ≡ true → bytes_eq a b ≡ true
one_text names a b n h k =
    let same : Some a ≡ Some b = sym (text_is (slice_get names n) a h) ∙ text_is (slice_get names n) b k in
    let is : a ≡ b = cc in
    equal_bytes a b is

-- and a pair those of one index
one_named : (names : List (List ℕ)) (i j : Index) (p : ℕ × ℕ) → is_named names i.0 i.1 p ≡ true → is_named names j.0 j.1 p ≡ true → is_same j i ≡ true
one_named names i j p h k =
    let label_i = has_text names i.0 p.0 in
    let key_i = has_text names i.1 p.1 in
    let label_j = has_text names j.0 p.0 in
    let key_j = has_text names j.1 p.1 in
    and_both (bytes_eq i.0 j.0) (bytes_eq i.1 j.1) (one_text names i.0 j.0 p.0 (and_left label_i key_i h) (and_left label_j key_j k)) (one_text names i.1 j.1 p.1 (and_right label_i key_i h) (and_right label_j key_j k))

-- equal texts have the same numbers
named_alike : (names : List (List ℕ)) (i j : Index) (p : ℕ × ℕ) → is_same j i ≡ true → is_named names j.0 j.1 p ≡ true → is_named names i.0 i.1 p ≡ true
named_alike names i j p same h =
    let label : j.0 ≡ i.0 = sym (same_bytes i.0 j.0 (and_left (bytes_eq i.0 j.0) (bytes_eq i.1 j.1) same)) in
    let key : j.1 ≡ i.1 = sym (same_bytes i.1 j.1 (and_right (bytes_eq i.0 j.0) (bytes_eq i.1 j.1) same)) in
    subst (λ t. is_named names t i.1 p ≡ true) label (subst (λ t. is_named names j.0 t p ≡ true) key h)

-- ---- a list of indexes, with one more and without one

is_itself : (i : Index) → is_same i i ≡ true
is_itself i = and_both (bytes_eq i.0 i.0) (bytes_eq i.1 i.1) (equal_bytes i.0 i.0 refl) (equal_bytes i.1 i.1 refl)

is_same_back : (i j : Index) → is_same i j ≡ true → is_same j i ≡ true
is_same_back i j same =
    and_both (bytes_eq i.0 j.0) (bytes_eq i.1 j.1) (equal_bytes i.0 j.0 (sym (same_bytes j.0 i.0 (and_left (bytes_eq j.0 i.0) (bytes_eq j.1 i.1) same))))
    (equal_bytes i.1 j.1 (sym (same_bytes j.1 i.1 (and_right (bytes_eq j.0 i.0) (bytes_eq j.1 i.1) same))))

-- the same as another is compared alike with a third
same_as : (i j h : Index) → is_same i h ≡ true → is_same j h ≡ is_same j i
same_as i j h same =
    let label : h.0 ≡ i.0 = same_bytes h.0 i.0 (and_left (bytes_eq h.0 i.0) (bytes_eq h.1 i.1) same) in
    let key : h.1 ≡ i.1 = same_bytes h.1 i.1 (and_right (bytes_eq h.0 i.0) (bytes_eq h.1 i.1) same) in
    λ k. bytes_eq (label k) j.0 && bytes_eq (key k) j.1

or_moved : (s a b : Bool) → (a || (s || b)) ≡ (s || (a || b))
or_moved true true b = refl
or_moved true false b = refl
or_moved false a b = refl

or_joined : (s a b : Bool) → ((s || a) || b) ≡ (s || (a || b))
or_joined true a b = refl
or_joined false a b = refl

-- what passes a test, and what doesn't, is all
parted : (q : Index → Bool) (i : Index) (is : Catalogue) → (is_indexed (filter q is) i || is_indexed (filter (λ j. not (q j)) is) i) ≡ is_indexed is i
parted q i [] = refl
parted q i (j ∷ js) = by (parted q i js) (q j)
  where
    by : (is_indexed (filter q js) i || is_indexed (filter (λ h. not (q h)) js) i) ≡ is_indexed js i → (t : Bool)
        → (is_indexed (cond t (j ∷ filter q js) (filter q js)) i || is_indexed (cond (not t) (j ∷ filter (λ h. not (q h)) js) (filter (λ h. not (q h)) js)) i) ≡ (is_same i j || is_indexed js i)
    by rest true = or_joined (is_same i j) (is_indexed (filter q js) i) (is_indexed (filter (λ h. not (q h)) js) i) ∙ ap (λ b. is_same i j || b) rest
    by rest false = or_moved (is_same i j) (is_indexed (filter q js) i) (is_indexed (filter (λ h. not (q h)) js) i) ∙ ap (λ b. is_same i j || b) rest

with_one : (i j : Index) (is : Catalogue) → is_indexed (with_index j is) i ≡ (is_same i j || is_indexed is i)
with_one i j is =
    let earlier = filter (λ h. stands_before h j) is in
    let others = filter (λ h. not (stands_before h j)) is in
    list_any-append (is_same i) earlier (j ∷ others) ∙ or_moved (is_same i j) (is_indexed earlier i) (is_indexed others i) ∙ ap (λ b. is_same i j || b) (parted (λ h. stands_before h j) i is)

-- what another test lets pass
kept : (j i : Index) (is : Catalogue) → is_same j i ≡ false → is_indexed is i ≡ true → is_indexed (without_index j is) i ≡ true
kept j i [] other h = absurd cc
kept j i (k ∷ ks) other h = by (kept j i ks other) (is_same i k) (is_same j k) refl refl
  where
    by : (is_indexed ks i ≡ true → is_indexed (without_index j ks) i ≡ true) → (s t : Bool) → is_same i k ≡ s → is_same j k ≡ t → is_indexed (cond (not t) (k ∷ without_index j ks) (without_index j ks)) i ≡ true
    by rest true true at gone = absurd (let no : true ≡ false = sym gone ∙ same_as i j k at ∙ other in cc)
    by rest true false at gone = or_left (is_same i k) (is_indexed (without_index j ks) i) at
    by rest false true at gone = rest (ap (λ b. b || is_indexed ks i) (sym at) ∙ h)
    by rest false false at gone = or_right (is_same i k) (is_indexed (without_index j ks) i) (rest (ap (λ b. b || is_indexed ks i) (sym at) ∙ h))

-- what is left was there, and isn't the one that went
was_there : (j i : Index) (is : Catalogue) → is_indexed (without_index j is) i ≡ true → (is_indexed is i ≡ true) × (is_same j i ≡ false)
was_there j i [] h = absurd cc
was_there j i (k ∷ ks) h = by (λ further. let w = was_there j i ks further in (or_right (is_same i k) (is_indexed ks i) w.0, w.1)) (is_same j k) refl h
  where
    here : (is_indexed (without_index j ks) i ≡ true → (is_indexed (k ∷ ks) i ≡ true) × (is_same j i ≡ false)) → (s : Bool) → is_same i k ≡ s → is_same j k ≡ false
        → (s || is_indexed (without_index j ks) i) ≡ true → (is_indexed (k ∷ ks) i ≡ true) × (is_same j i ≡ false)
    here rest true at stays h = (or_left (is_same i k) (is_indexed ks i) at, sym (same_as i j k at) ∙ stays)
    here rest false at stays h = rest h

    by : (is_indexed (without_index j ks) i ≡ true → (is_indexed (k ∷ ks) i ≡ true) × (is_same j i ≡ false)) → (t : Bool) → is_same j k ≡ t
        → is_indexed (cond (not t) (k ∷ without_index j ks) (without_index j ks)) i ≡ true → (is_indexed (k ∷ ks) i ≡ true) × (is_same j i ≡ false)
    by rest true gone h = rest h
    by rest false stays h = here rest (is_same i k) refl stays h

-- ---- numbers of an index

is_number : (n : ℕ) → (n == n) ≡ true
is_number n = grind (arith, nat_tests)

is_pair : (p : ℕ × ℕ) (ps : List (ℕ × ℕ)) → has_pair p (p ∷ ps) ≡ true
is_pair p ps = or_left (p.0 == p.0 && p.1 == p.1) (has_pair p ps) (and_both (p.0 == p.0) (p.1 == p.1) (is_number p.0) (is_number p.1))

found : (names : List (List ℕ)) (label key : List ℕ) (ps : List (ℕ × ℕ)) → list_any (is_named names label key) ps ≡ true → (p : ℕ × ℕ) × (has_pair p ps ≡ true) × (is_named names label key p ≡ true)
found names label key [] h = absurd cc
found names label key (q ∷ qs) h = by (found names label key qs) (is_named names label key q) refl h
  where
    by : (list_any (is_named names label key) qs ≡ true → (p : ℕ × ℕ) × (has_pair p qs ≡ true) × (is_named names label key p ≡ true)) → (b : Bool) → is_named names label key q ≡ b
        → (b || list_any (is_named names label key) qs) ≡ true → (p : ℕ × ℕ) × (has_pair p (q ∷ qs) ≡ true) × (is_named names label key p ≡ true)
    by rest true is h = (q, is_pair q qs, is)
    by rest false is h = let f = rest h in (f.0, or_right (q.0 == f.0.0 && q.1 == f.0.1) (has_pair f.0 qs) f.1, f.2)

-- ---- what is listed

pub nothing_listed : (names : List (List ℕ)) → AreListed names [] []
nothing_listed names = record { there = λ i h. absurd cc; listed = λ p h. absurd cc }

pub names_come : (old new : List (List ℕ)) → KeepsNames old new → (is : Catalogue) (ps : List (ℕ × ℕ)) → AreListed old is ps → AreListed new is ps
names_come old new kept is ps are = record {
  there = λ i h. let f = are.there i h in (f.0, f.1, named_grown old new kept i f.0 f.2);
  listed = λ p h. let f = are.listed p h in (f.0, f.1, named_grown old new kept f.0 p f.2);
}

pub one_made : (old new : List (List ℕ)) → KeepsNames old new → (j : Index) (is : Catalogue) (ps qs : List (ℕ × ℕ)) → list_any (is_named new j.0 j.1) qs ≡ true → IsOneMore new j.0 j.1 ps qs
    → AreListed old is ps → AreListed new (with_index j is) qs
one_made old new kept j is ps qs made more were =
    let are = names_come old new kept is ps were in
    record {
      there = λ i h.
          either ((p : ℕ × ℕ) × (has_pair p qs ≡ true) × (is_named new i.0 i.1 p ≡ true)) (is_same i j) (is_indexed is i) (sym (with_one i j is) ∙ h)
          (λ same. let f = found new j.0 j.1 qs made in (f.0, f.1, named_alike new i j f.0 (is_same_back i j same) f.2))
          (λ old. let f = are.there i old in (f.0, more f.0 ∙ or_left (has_pair f.0 ps) (is_named new j.0 j.1 f.0) f.1, f.2));
      listed = λ p h.
          either ((i : Index) × (is_indexed (with_index j is) i ≡ true) × (is_named new i.0 i.1 p ≡ true)) (has_pair p ps) (is_named new j.0 j.1 p) (sym (more p) ∙ h)
          (λ old. let f = are.listed p old in (f.0, with_one f.0 j is ∙ or_right (is_same f.0 j) (is_indexed is f.0) f.1, f.2))
          (λ named. (j, with_one j j is ∙ or_left (is_same j j) (is_indexed is j) (is_itself j), named));
    }

pub one_dropped : (names : List (List ℕ)) (j : Index) (is : Catalogue) (ps qs : List (ℕ × ℕ)) → IsOneLess names j.0 j.1 ps qs → AreListed names is ps → AreListed names (without_index j is) qs
one_dropped names j is ps qs less are = record {
  there = λ i h.
      let w = was_there j i is h in
      let f = are.there i w.0 in
      (f.0, less f.0 ∙ and_both (has_pair f.0 ps) (not (is_named names j.0 j.1 f.0)) f.1 (ap not (another i f.0 w.1 f.2 (is_named names j.0 j.1 f.0) refl)), f.2);
  listed = λ p h.
      let both = sym (less p) ∙ h in
      let f = are.listed p (and_left (has_pair p ps) (not (is_named names j.0 j.1 p)) both) in
      let unnamed = not_true (is_named names j.0 j.1 p) (and_right (has_pair p ps) (not (is_named names j.0 j.1 p)) both) in
      (f.0, kept j f.0 is (differs f.0 p f.2 unnamed (is_same j f.0) refl) f.1, f.2);
}
  where
    another : (i : Index) (p : ℕ × ℕ) → is_same j i ≡ false → is_named names i.0 i.1 p ≡ true → (b : Bool) → is_named names j.0 j.1 p ≡ b → b ≡ false
    another i p other is true named = absurd (let no : true ≡ false = sym (one_named names i j p is named) ∙ other in cc)
    another i p other is false named = refl

    differs : (i : Index) (p : ℕ × ℕ) → is_named names i.0 i.1 p ≡ true → is_named names j.0 j.1 p ≡ false → (b : Bool) → is_same j i ≡ b → b ≡ false
    differs i p is unnamed true same = absurd (let no : true ≡ false = sym (named_alike names j i p (is_same_back j i same) is) ∙ unnamed in cc)
    differs i p is unnamed false same = refl

-- ---- the catalogue after a request

pub more_is : (indexes after : Catalogue) (label key : List ℕ) → with_one_more indexes label key ≡ Ok after → with_index (label, key) indexes ≡ after
more_is indexes after label key = by (is_indexed indexes (label, key)) (nat_lt (length indexes) most_indexes)
  where
    by : (there few : Bool) → (unless (not there) IndexExists >> (unless few TooManyIndexes >> Ok (with_index (label, key) indexes))) ≡ Ok after → with_index (label, key) indexes ≡ after
    by true few e = absurd cc
    by false false e = absurd cc
    by false true e = cc

pub less_is : (indexes after : Catalogue) (label key : List ℕ) → with_one_less indexes label key ≡ Ok after → without_index (label, key) indexes ≡ after
less_is indexes after label key = by (is_indexed indexes (label, key))
  where
    by : (there : Bool) → (unless there NoSuchIndex >> Ok (without_index (label, key) indexes)) ≡ Ok after → without_index (label, key) indexes ≡ after
    by false e = absurd cc
    by true e = cc

-- ---- a tenant and its graph

pub still_listed : {L : Type 0} (was now : Tenant) (old new : Live L) → now.indexes ≡ was.indexes → KeepsNames old.names new.names → pairs_at new.aside ≡ pairs_at old.aside → KeepsListed was now old new
still_listed was now old new indexes kept pairs lists =
    subst (λ ps. AreListed new.names (indexes_of now.indexes) ps) (sym pairs)
    (subst (λ is. AreListed new.names (indexes_of is) (pairs_at old.aside)) (sym indexes) (names_come old.names new.names kept (indexes_of was.indexes) (pairs_at old.aside) lists))
