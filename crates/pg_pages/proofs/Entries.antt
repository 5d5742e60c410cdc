-- Entries of a map from numbers to pages, and the pages that they show.
use Rattle.std.proofs.Common.{◌≡◌, ◌≢◌, ℕ, ◌+◌, ◌-◌, ◌<◌, ◌≤◌, Bool, true, false, cond, ◌&&◌, nat_eq, List, [], ◌∷◌, ◌++◌, length, map, sum, sum_by, find, All, drop, string_bytes, Option, Some, None, Result, Ok, Err, inl, inr, refl, sym, ap, subst, ◌∙◌, arith}
use Rattle.std.proofs.lemmas.Bool.{cases_eq}
use Rattle.std.proofs.lemmas.Grind.{common_steps}
use Rattle.std.proofs.lemmas.List.Elements.{All-head, All-tail}
use Rattle.std.proofs.lemmas.List.Sums.{sum-map, sum_by_push}
use Rattle.std.proofs.lemmas.List.{map-append}
use Rattle.std.proofs.lemmas.Map.{keys-set_value}
use Rattle.std.proofs.lemmas.Slice.Eq.{bytes_eq-Decides}
use Rattle.std.proofs.lemmas.Map.Entries.{sum_by-remove_entry, sum_by-set_value}
use Rattle.std.proofs.lemmas.Map.Keys.{sorted_head, sorted_tail}
use Rattle.std.proofs.lemmas.Map.Views.{All-keys-insert_entry, All-map-remove_entry}
use Rattle.std.specs.BTreeMap.{insert_entry, is_at}
use Rattle.std.specs.Cmp.{nat_cmp_is}
use Rattle.std.specs.List.{AllByRecursion}
use Rattle.std.specs.List.Sorted.{IsStrictlySortedBy}
use Rattle.std.specs.Map.{keys_of, values_of, lookup, remove_entry, set_value}
use Rattle.std.specs.Ordering.{nat_cmp}
use Rattle.std.specs.Str.{bytes_eq}
use Rattle.std.specs.declared.cmp.Ordering.TheVariants.{Less, Greater}
use Rattle.std.specs.Option.{option_map, unwrap_or}
use Rattle.pg_meaning.specs.Meters.{greatest_id}
use Rattle.pg_meaning.specs.declared.fault.Fault.{Fault}
use Rattle.pg_meaning.specs.declared.fault.Fault.TheVariants.{NoSuchPage}
use Rattle.pg_pages.specs.Held as held
use Rattle.pg_pages.specs.Held.{Held, held_rows, page_of, puller_of, with_rows, without_page}
use Rattle.pg_pages.specs.Kept.{AreKept, shown}
use Rattle.pg_pages.specs.declared.pages.Page.{Page}

-- ---- one number

at_itself : (n : ℕ) → is_at (nat_cmp n) n ≡ true
at_itself n = grind (arith, common_steps)

named_itself : (n : ℕ) → nat_eq n n ≡ true
named_itself n = grind (arith, common_steps)

at_other : (n m : ℕ) → m ≢ n → is_at (nat_cmp n) m ≡ false
at_other n m ne = grind (arith, common_steps)

named_other : (n m : ℕ) → m ≢ n → nat_eq m n ≡ false
named_other n m ne = grind (arith, common_steps)

less_is_other : (n m : ℕ) → nat_cmp n m ≡ Less → nat_eq m n ≡ false
less_is_other n m h = grind (arith, common_steps)

above : (n m : ℕ) → m < n → nat_cmp n m ≡ Greater
above n m h = sym (nat_cmp_is n m Greater h)

-- ---- entries of later numbers

abbrev IsBefore : ℕ → List (ℕ × Page) → Type 0
IsBefore n es = AllByRecursion (λ y. nat_cmp n y ≡ Less) (keys_of es)

none_removed : (n : ℕ) (es : List (ℕ × Page)) → IsBefore n es → without_page n (map shown es) ≡ map shown es
none_removed n [] h = refl
none_removed n (e ∷ es) h = rw (less_is_other n e.0 h.0) (ap (λ (ps : List held.Page). shown e ∷ ps) (none_removed n es h.1))

none_given : (n : ℕ) (rows : List (List ℕ)) (es : List (ℕ × Page)) → IsBefore n es → with_rows n rows (map shown es) ≡ map shown es
none_given n rows [] h = refl
none_given n rows (e ∷ es) h = rw (less_is_other n e.0 h.0) (ap (λ (ps : List held.Page). shown e ∷ ps) (none_given n rows es h.1))

abbrev is_owned : (token : List ℕ) → ℕ → held.Page → Bool
is_owned token n p = nat_eq p.number n && bytes_eq p.token token

none_found : (token : List ℕ) (n : ℕ) (es : List (ℕ × Page)) → IsBefore n es → find (is_owned token n) (map shown es) ≡ None
none_found token n [] h = refl
none_found token n (e ∷ es) h = rw (less_is_other n e.0 h.0) (none_found token n es h.1)

-- ---- the entry of a number

pub removed : (n : ℕ) (es : List (ℕ × Page)) → IsStrictlySortedBy nat_cmp (keys_of es) → map shown (remove_entry (is_at (nat_cmp n)) es) ≡ without_page n (map shown es)
removed n [] s = refl
removed n ((m, p) ∷ es) s = elim (cases_eq m n) [
  | inl same ↦ subst (λ (k : ℕ). map shown (remove_entry (is_at (nat_cmp k)) ((m, p) ∷ es)) ≡ without_page k (map shown ((m, p) ∷ es))) same
      (rw (at_itself m, named_itself m) (sym (none_removed m es (sorted_head nat_cmp m (keys_of es) s))))
  | inr ne ↦ rw (at_other n m ne, named_other n m ne) (ap (λ (ps : List held.Page). shown (m, p) ∷ ps) (removed n es (sorted_tail nat_cmp m (keys_of es) s)))
]

-- the page as it is shown, if it is the token's
abbrev pub owned : (token : List ℕ) → ℕ → Option Page → Result held.Page Fault
owned token n None = Err NoSuchPage
owned token n (Some p) = cond (bytes_eq (string_bytes p.token) token) (Ok (shown (n, p))) (Err NoSuchPage)

abbrev first : Option held.Page → Result held.Page Fault
first None = Err NoSuchPage
first (Some p) = Ok p

owned_here : (token : List ℕ) (m : ℕ) (p : Page) (b : Bool) → first (cond b (Some (shown (m, p))) None) ≡ cond b (Ok (shown (m, p))) (Err NoSuchPage)
owned_here token m p true = refl
owned_here token m p false = refl

found_first : (token : List ℕ) (n : ℕ) (es : List (ℕ × Page)) → IsStrictlySortedBy nat_cmp (keys_of es) → first (find (is_owned token n) (map shown es)) ≡ owned token n (lookup (is_at (nat_cmp n)) es)
found_first token n [] s = refl
found_first token n ((m, p) ∷ es) s = elim (cases_eq m n) [
  | inl same ↦ subst (λ (k : ℕ). first (find (is_owned token k) (map shown ((m, p) ∷ es))) ≡ owned token k (lookup (is_at (nat_cmp k)) ((m, p) ∷ es))) same
      (rw (at_itself m, named_itself m, none_found token m es (sorted_head nat_cmp m (keys_of es) s)) (owned_here token m p (bytes_eq (string_bytes p.token) token)))
  | inr ne ↦ rw (at_other n m ne, named_other n m ne) (found_first token n es (sorted_tail nat_cmp m (keys_of es) s))
]

first_of : (o : Option held.Page) → (elim o [ Some p ↦ Ok p | None ↦ Err NoSuchPage ]) ≡ first o
first_of None = refl
first_of (Some p) = refl

pub found : (token : List ℕ) (n next : ℕ) (es : List (ℕ × Page)) → IsStrictlySortedBy nat_cmp (keys_of es) → page_of (record { pages = map shown es; next = next }) token n ≡ owned token n (lookup (is_at (nat_cmp n)) es)
found token n next es s = first_of (find (is_owned token n) (map shown es)) ∙ found_first token n es s

-- a page of which other rows are left
abbrev pub left_of : Page → List (List ℕ) → Page
left_of p rows = record { token = p.token; size = p.size; rows = rows }

given_here : (m : ℕ) (rows : List (List ℕ)) (r : Page) (es : List (ℕ × Page)) → IsBefore m es
    → map shown (set_value (is_at (nat_cmp m)) ((m, r) ∷ es) (left_of r rows)) ≡ with_rows m rows (map shown ((m, r) ∷ es))
given_here m rows r es h = rw (at_itself m, named_itself m) (ap (λ (ps : List held.Page). shown (m, left_of r rows) ∷ ps) (sym (none_given m rows es h)))

same_page : (a b : Page) (m : ℕ) (c : Bool) (o : Option Page) → c ≡ true → cond c (Some a) o ≡ Some b → a ≡ b
same_page a b m true o t e = cc
same_page a b m false o t e = absurd (cc)

skipped : {X : Type 0} (c : Bool) (a o b : X) → c ≡ false → cond c a o ≡ b → o ≡ b
skipped true a o b t e = absurd (cc)
skipped false a o b t e = e

pub given : (n : ℕ) (rows : List (List ℕ)) (p : Page) (es : List (ℕ × Page)) → IsStrictlySortedBy nat_cmp (keys_of es) → lookup (is_at (nat_cmp n)) es ≡ Some p
    → map shown (set_value (is_at (nat_cmp n)) es (left_of p rows)) ≡ with_rows n rows (map shown es)
given n rows p [] s here = refl
given n rows p ((m, r) ∷ es) s here = elim (cases_eq m n) [
  | inl same ↦ subst (λ (k : ℕ). map shown (set_value (is_at (nat_cmp k)) ((m, r) ∷ es) (left_of p rows)) ≡ with_rows k rows (map shown ((m, r) ∷ es))) same
      (subst (λ (q : Page). map shown (set_value (is_at (nat_cmp m)) ((m, r) ∷ es) (left_of q rows)) ≡ with_rows m rows (map shown ((m, r) ∷ es)))
      (same_page r p m _ _ (subst (λ (k : ℕ). is_at (nat_cmp k) m ≡ true) same (at_itself m)) here)
      (given_here m rows r es (sorted_head nat_cmp m (keys_of es) s)))
  | inr ne ↦ rw (at_other n m ne, named_other n m ne) (ap (λ (ps : List held.Page). shown (m, r) ∷ ps)
      (given n rows p es (sorted_tail nat_cmp m (keys_of es) s) (skipped _ _ _ _ (at_other n m ne) here)))
]

-- ---- rows

lengths : (es : List (ℕ × Page)) → map (λ p. length p.rows) (map shown es) ≡ map (λ p. length p.rows) (values_of es)
lengths [] = refl
lengths (e ∷ es) = ap (λ (ns : List ℕ). length e.1.rows ∷ ns) (lengths es)

pub rows_of_values : (es : List (ℕ × Page)) → held_rows (map shown es) ≡ sum_by (λ p. length p.rows) (values_of es)
rows_of_values es = ap (λ (ns : List ℕ). sum ns) (lengths es) ∙ sum-map (λ (p : Page). length p.rows) (values_of es)

-- ---- a later number

pub pushed : (n : ℕ) (p : Page) (es : List (ℕ × Page)) → All (λ k. k < n) (keys_of es) → insert_entry nat_cmp es n p ≡ es ++ (n, p) ∷ []
pushed n p [] h = refl
pushed n p (e ∷ es) h = rw (above n e.0 (All-head (λ (k : ℕ). k < n) e.0 (keys_of es) h)) (ap (λ (fs : List (ℕ × Page)). e ∷ fs) (pushed n p es (All-tail (λ (k : ℕ). k < n) e.0 (keys_of es) h)))

-- ---- what is kept

abbrev row_count : Page → ℕ
row_count p = length p.rows

counted_more : (n : ℕ) (p : Page) (es : List (ℕ × Page)) → held_rows (map shown (es ++ (n, p) ∷ [])) ≡ held_rows (map shown es) + row_count p
counted_more n p es =
    rows_of_values (es ++ (n, p) ∷ []) ∙ ap (λ (ps : List Page). sum_by row_count ps) (map-append (λ (e : ℕ × Page). e.1) es ((n, p) ∷ []))
    ∙ sum_by_push row_count (values_of es) p ∙ ap (λ (k : ℕ). k + row_count p) (sym (rows_of_values es))

pub shown_more : (n : ℕ) (p : Page) (es : List (ℕ × Page)) → map shown (es ++ (n, p) ∷ []) ≡ map shown es ++ shown (n, p) ∷ []
shown_more n p es = map-append shown es ((n, p) ∷ [])

pub kept_more : (n : ℕ) (p : Page) (es fs : List (ℕ × Page)) (rows total : ℕ) → AreKept es rows n → n < greatest_id → fs ≡ insert_entry nat_cmp es n p
    → IsStrictlySortedBy nat_cmp (keys_of fs) → total ≡ rows + row_count p → AreKept fs total (n + 1)
kept_more n p es fs rows total kept room is s t = record {
  ordered = s;
  below = subst (λ (gs : List (ℕ × Page)). All (λ k. k < n + 1) (keys_of gs)) (sym is)
      (All-keys-insert_entry nat_cmp n p (λ (k : ℕ). k < n + 1) es (λ k d l. omega (arith, kept.below k d l)) (omega arith));
  counted = t ∙ ap (λ (k : ℕ). k + row_count p) kept.counted ∙ sym (ap (λ (gs : List (ℕ × Page)). held_rows (map shown gs)) (is ∙ pushed n p es kept.below) ∙ counted_more n p es);
  within = omega arith;
}

removed_rows : (n : ℕ) (p : Page) (es : List (ℕ × Page)) → lookup (is_at (nat_cmp n)) es ≡ Some p → held_rows (map shown (remove_entry (is_at (nat_cmp n)) es)) + row_count p ≡ held_rows (map shown es)
removed_rows n p es here =
    ap (λ (k : ℕ). k + row_count p) (rows_of_values (remove_entry (is_at (nat_cmp n)) es))
    ∙ ap (λ (o : Option Page). sum_by row_count (values_of (remove_entry (is_at (nat_cmp n)) es)) + unwrap_or (option_map row_count o) 0) (sym here)
    ∙ sum_by-remove_entry row_count (is_at (nat_cmp n)) es ∙ sym (rows_of_values es)

-- no page has more rows than all
pub rows_within : (n : ℕ) (p : Page) (es : List (ℕ × Page)) (rows next : ℕ) → AreKept es rows next → lookup (is_at (nat_cmp n)) es ≡ Some p → row_count p ≤ rows
rows_within n p es rows next kept here = omega (arith, removed_rows n p es here, kept.counted)

pub kept_without : (n : ℕ) (p : Page) (es fs : List (ℕ × Page)) (rows next total : ℕ) → AreKept es rows next → lookup (is_at (nat_cmp n)) es ≡ Some p → fs ≡ remove_entry (is_at (nat_cmp n)) es
    → IsStrictlySortedBy nat_cmp (keys_of fs) → total ≡ rows - row_count p → AreKept fs total next
kept_without n p es fs rows next total kept here is s t = record {
  ordered = s;
  below = subst (λ (gs : List (ℕ × Page)). All (λ k. k < next) (keys_of gs)) (sym is) (All-map-remove_entry (is_at (nat_cmp n)) (λ (e : ℕ × Page). e.0) (λ (k : ℕ). k < next) es kept.below);
  counted = subst (λ (gs : List (ℕ × Page)). total ≡ held_rows (map shown gs)) (sym is) (omega (arith, removed_rows n p es here, kept.counted, t));
  within = kept.within;
}

given_rows : (n : ℕ) (p q : Page) (es : List (ℕ × Page)) → lookup (is_at (nat_cmp n)) es ≡ Some p → held_rows (map shown (set_value (is_at (nat_cmp n)) es q)) + row_count p ≡ held_rows (map shown es) + row_count q
given_rows n p q es here =
    ap (λ (k : ℕ). k + row_count p) (rows_of_values (set_value (is_at (nat_cmp n)) es q)) ∙ sum_by-set_value row_count (is_at (nat_cmp n)) es p q here
    ∙ ap (λ (k : ℕ). k + row_count q) (sym (rows_of_values es))

pub kept_with : (n : ℕ) (p q : Page) (es fs : List (ℕ × Page)) (rows next total : ℕ) → AreKept es rows next → lookup (is_at (nat_cmp n)) es ≡ Some p → fs ≡ set_value (is_at (nat_cmp n)) es q
    → row_count q ≤ row_count p → total ≡ rows - (row_count p - row_count q) → AreKept fs total next
kept_with n p q es fs rows next total kept here is less t = record {
  ordered = subst (λ (ns : List ℕ). IsStrictlySortedBy nat_cmp ns) (sym (ap (λ (gs : List (ℕ × Page)). keys_of gs) is ∙ keys-set_value (is_at (nat_cmp n)) es q)) kept.ordered;
  below = subst (λ (ns : List ℕ). All (λ k. k < next) ns) (sym (ap (λ (gs : List (ℕ × Page)). keys_of gs) is ∙ keys-set_value (is_at (nat_cmp n)) es q)) kept.below;
  counted = subst (λ (gs : List (ℕ × Page)). total ≡ held_rows (map shown gs)) (sym is) (omega (arith, given_rows n p q es here, rows_within n p es rows next kept here, kept.counted, t));
  within = kept.within;
}

-- ---- what is held, as entries show it

abbrev pub held_of : List (ℕ × Page) → ℕ → Held
held_of es next = record { pages = map shown es; next = next }

abbrev pub with_pages : List held.Page → ℕ → Held
with_pages pages next = record { pages = pages; next = next }

pub shows_more : (n : ℕ) (p : Page) (es fs : List (ℕ × Page)) (h : Held) → held_of es n ≡ h → All (λ k. k < n) (keys_of es) → fs ≡ insert_entry nat_cmp es n p
    → held_of fs (n + 1) ≡ with_pages (h.pages ++ shown (h.next, p) ∷ []) (h.next + 1)
shows_more n p es fs h view below is =
    ap (λ (gs : List (ℕ × Page)). held_of gs (n + 1)) (is ∙ pushed n p es below) ∙ ap (λ (ps : List held.Page). with_pages ps (n + 1)) (shown_more n p es)
    ∙ ap (λ (g : Held). with_pages (g.pages ++ shown (g.next, p) ∷ []) (g.next + 1)) view

pub shows_removed : (n next : ℕ) (es fs : List (ℕ × Page)) (h : Held) → held_of es next ≡ h → IsStrictlySortedBy nat_cmp (keys_of es) → fs ≡ remove_entry (is_at (nat_cmp n)) es
    → held_of fs next ≡ with_pages (without_page n h.pages) h.next
shows_removed n next es fs h view s is =
    ap (λ (gs : List (ℕ × Page)). held_of gs next) is ∙ ap (λ (ps : List held.Page). with_pages ps next) (removed n es s)
    ∙ ap (λ (g : Held). with_pages (without_page n g.pages) g.next) view

pub is_owned_page : (token : List ℕ) (n next : ℕ) (es : List (ℕ × Page)) (h : Held) → held_of es next ≡ h → IsStrictlySortedBy nat_cmp (keys_of es)
    → page_of h token n ≡ owned token n (lookup (is_at (nat_cmp n)) es)
is_owned_page token n next es h view s = ap (λ (g : Held). page_of g token n) (sym view) ∙ found token n next es s

pub page_there : (token : List ℕ) (n next : ℕ) (p : Page) (es : List (ℕ × Page)) (h : Held) → held_of es next ≡ h → IsStrictlySortedBy nat_cmp (keys_of es)
    → lookup (is_at (nat_cmp n)) es ≡ Some p → bytes_eq (string_bytes p.token) token ≡ true → page_of h token n ≡ Ok (shown (n, p))
page_there token n next p es h view s here same =
    is_owned_page token n next es h view s ∙ ap (λ (o : Option Page). owned token n o) here ∙ ap (λ (b : Bool). cond b (Ok (shown (n, p))) (Err NoSuchPage)) same

pub page_of_other : (token : List ℕ) (n next : ℕ) (p : Page) (es : List (ℕ × Page)) (h : Held) → held_of es next ≡ h → IsStrictlySortedBy nat_cmp (keys_of es)
    → lookup (is_at (nat_cmp n)) es ≡ Some p → bytes_eq (string_bytes p.token) token ≡ false → page_of h token n ≡ Err NoSuchPage
page_of_other token n next p es h view s here other =
    is_owned_page token n next es h view s ∙ ap (λ (o : Option Page). owned token n o) here ∙ ap (λ (b : Bool). cond b (Ok (shown (n, p))) (Err NoSuchPage)) other

pub no_page : (token : List ℕ) (n next : ℕ) (es : List (ℕ × Page)) (h : Held) → held_of es next ≡ h → IsStrictlySortedBy nat_cmp (keys_of es)
    → lookup (is_at (nat_cmp n)) es ≡ None → page_of h token n ≡ Err NoSuchPage
no_page token n next es h view s absent = is_owned_page token n next es h view s ∙ ap (λ (o : Option Page). owned token n o) absent

-- ---- who may pull a page

abbrev is_numbered : ℕ → held.Page → Bool
is_numbered n p = nat_eq p.number n

none_numbered : (n : ℕ) (es : List (ℕ × Page)) → IsBefore n es → find (is_numbered n) (map shown es) ≡ None
none_numbered n [] h = refl
none_numbered n (e ∷ es) h = rw (less_is_other n e.0 h.0) (none_numbered n es h.1)

abbrev token_shown : held.Page → List ℕ
token_shown p = p.token

numbered : (n : ℕ) (es : List (ℕ × Page)) → IsStrictlySortedBy nat_cmp (keys_of es) → option_map token_shown (find (is_numbered n) (map shown es)) ≡ option_map (λ (p : Page). string_bytes p.token) (lookup (is_at (nat_cmp n)) es)
numbered n [] s = refl
numbered n ((m, p) ∷ es) s = elim (cases_eq m n) [
  | inl same ↦ subst (λ (k : ℕ). option_map token_shown (find (is_numbered k) (map shown ((m, p) ∷ es))) ≡ option_map (λ (q : Page). string_bytes q.token) (lookup (is_at (nat_cmp k)) ((m, p) ∷ es))) same
      (rw (at_itself m, named_itself m) refl)
  | inr ne ↦ rw (at_other n m ne, named_other n m ne) (numbered n es (sorted_tail nat_cmp m (keys_of es) s))
]

by_owner : (token : List ℕ) (n : ℕ) (o : Option Page)
    → (elim (owned token n o) [ Ok p ↦ Some token | Err fault ↦ option_map (λ (p : Page). string_bytes p.token) o ]) ≡ option_map (λ (p : Page). string_bytes p.token) o
by_owner token n None = refl
by_owner token n (Some p) = by_test (bytes_eq (string_bytes p.token) token) refl
  where
    by_test : (b : Bool) → bytes_eq (string_bytes p.token) token ≡ b
        → (elim (cond b (Ok (shown (n, p))) (Err NoSuchPage)) [ Ok p ↦ Some token | Err fault ↦ Some (string_bytes p.token) ]) ≡ Some (string_bytes p.token)
    by_test true same = ap Some (sym ((bytes_eq-Decides (string_bytes p.token) token).0 same))
    by_test false other = refl

-- the token of the entry of a number
pub puller_there : (token : List ℕ) (n next : ℕ) (es : List (ℕ × Page)) (h : Held) → held_of es next ≡ h → IsStrictlySortedBy nat_cmp (keys_of es)
    → option_map (λ (p : Page). string_bytes p.token) (lookup (is_at (nat_cmp n)) es) ≡ puller_of h token n
puller_there token n next es h view s =
    sym (by_owner token n (lookup (is_at (nat_cmp n)) es))
    ∙ ap (λ (r : Result held.Page Fault). elim r [ Ok p ↦ Some token | Err fault ↦ option_map (λ (p : Page). string_bytes p.token) (lookup (is_at (nat_cmp n)) es) ]) (sym (found token n next es s))
    ∙ ap (λ (o : Option (List ℕ)). elim (page_of (held_of es next) token n) [ Ok p ↦ Some token | Err fault ↦ o ]) (sym (numbered n es s))
    ∙ ap (λ (g : Held). puller_of g token n) view

is_page : (b : Bool) (x p : held.Page) → cond b (Ok x) (Err NoSuchPage) ≡ Ok p → x ≡ p
is_page true x p e = cc
is_page false x p e = absurd (cc)

pub shows_given : (token : List ℕ) (n next : ℕ) (p : Page) (page : held.Page) (rows : List (List ℕ)) (es fs : List (ℕ × Page)) (h : Held) → held_of es next ≡ h → IsStrictlySortedBy nat_cmp (keys_of es)
    → lookup (is_at (nat_cmp n)) es ≡ Some p → page_of h token n ≡ Ok page → rows ≡ drop p.size p.rows → fs ≡ set_value (is_at (nat_cmp n)) es (left_of p rows)
    → held_of fs next ≡ with_pages (with_rows n (drop page.size page.rows) h.pages) h.next
shows_given token n next p page rows es fs h view s here there left is =
    let e : shown (n, p) ≡ page = is_page (bytes_eq (string_bytes p.token) token) (shown (n, p)) page (sym (is_owned_page token n next es h view s ∙ ap (λ (o : Option Page). owned token n o) here) ∙ there) in
    ap (λ (gs : List (ℕ × Page)). held_of gs next) is ∙ ap (λ (ps : List held.Page). with_pages ps next) (given n rows p es s here)
    ∙ ap (λ (rs : List (List ℕ)). with_pages (with_rows n rs (map shown es)) next) left
    ∙ ap (λ (q : held.Page). with_pages (with_rows n (drop q.size q.rows) (map shown es)) next) e
    ∙ ap (λ (g : Held). with_pages (with_rows n (drop page.size page.rows) g.pages) g.next) view
