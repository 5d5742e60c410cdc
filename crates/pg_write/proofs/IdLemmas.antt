-- Rising lists of ids: one with the members of another is the other; and what is put among them.
use Rattle.std.proofs.Common.{◌≡◌, ◌==◌, ◌<◌, ℕ, Bool, true, false, ◌&&◌, ◌||◌, List, [], ◌∷◌, filter, Ordering, Less, Equal, Greater, refl, sym, ap, ◌∙◌, arith, true≢false}
use Rattle.std.proofs.lemmas.Bool.Decides.{nat_tests}
use Rattle.std.specs.BTreeSet.{insert_key}
use Rattle.std.specs.FinMap.Entries as by_id
use Rattle.std.specs.List.{AllByRecursion}
use Rattle.std.specs.Ordering.{nat_cmp, is_lt, match_ordering}
use Rattle.std.specs.Prelude.{IsTrue}
use Rattle.pg_soundness.proofs.ChangesIds.{same_id}
use Rattle.pg_graph.proofs.SortedLists.{less, equal, greater}
use Rattle.pg_meaning.specs.EntriesLaws.{both}
use Rattle.pg_meaning.specs.EqualityLaws.{nat_same}
use Rattle.pg_meaning.specs.Graph.{contains_id, ids_of}
use Rattle.pg_meaning.specs.Lists.{AllPairsByRecursion}
use Rattle.pg_meaning.specs.ListsLaws.{all_weaker, pairs_filtered, pairs_mapped}
use Rattle.pg_write.specs.Gathered.{put_live, put_all, Rises}

-- ---- members

apart_above : (m n : ℕ) → n < m → (m == n) ≡ false
apart_above m n h = grind (arith, nat_tests)

-- an id below all is none of them
none_above : (k : ℕ) (xs : List ℕ) → AllByRecursion (λ n. k < n) xs → contains_id xs k ≡ false
none_above k [] all = refl
none_above k (x ∷ xs) all = ap (λ b. b || contains_id xs k) (apart_above x k all.0) ∙ none_above k xs all.1

first_in : (x : ℕ) (xs : List ℕ) → contains_id (x ∷ xs) x ≡ true
first_in x xs = ap (λ b. b || contains_id xs x) (same_id x)

below_all : (m n : ℕ) (xs : List ℕ) → m < n → AllByRecursion (λ k. n < k) xs → AllByRecursion (λ k. m < k) xs
below_all m n xs h all = all_weaker (λ k. n < k) (λ k. m < k) (λ k above. omega (arith, h, above)) xs all

-- one that is below the first is in no rising list
below_none : (x y : ℕ) (ys : List ℕ) → x < y → AllByRecursion (λ k. y < k) ys → contains_id (y ∷ ys) x ≡ false
below_none x y ys h all = none_above x (y ∷ ys) (h, below_all x y ys h all)

-- two rising lists with the same members are one
pub same_members : (xs ys : List ℕ) → Rises xs → Rises ys → ((q : ℕ) → contains_id xs q ≡ contains_id ys q) → xs ≡ ys
same_members [] [] p q same = refl
same_members [] (y ∷ ys) p q same = absurd (true≢false (sym (first_in y ys) ∙ sym (same y)))
same_members (x ∷ xs) [] p q same = absurd (true≢false (sym (first_in x xs) ∙ same x))
same_members (x ∷ xs) (y ∷ ys) p q same = by_order (nat_cmp x y) refl (same_members xs ys p.1 q.1)
  where
    tails : x ≡ y → (k : ℕ) (b : Bool) → (x == k) ≡ b → contains_id xs k ≡ contains_id ys k
    tails e k true is =
        let here : x ≡ k = nat_same x k is in
        ap (contains_id xs) (sym here) ∙ none_above x xs p.0
        ∙ sym (ap (contains_id ys) (sym here ∙ e) ∙ none_above y ys q.0)
    tails e k false is =
        ap (λ b. b || contains_id xs k) (sym is) ∙ same k
        ∙ ap (λ b. b || contains_id ys k) (ap (λ (n : ℕ). n == k) (sym e) ∙ is)

    by_order : (o : Ordering) → nat_cmp x y ≡ o → (((k : ℕ) → contains_id xs k ≡ contains_id ys k) → xs ≡ ys) → (x ∷ xs) ≡ (y ∷ ys)
    by_order Less is rest = absurd (true≢false (sym (first_in x xs) ∙ same x ∙ below_none x y ys (less x y is) q.0))
    by_order Equal is rest =
        let e = equal x y is in
        λ i. e i ∷ rest (λ k. tails e k (x == k) refl) i
    by_order Greater is rest = absurd (true≢false (sym (first_in y ys) ∙ sym (same y) ∙ below_none y x xs (greater x y is) p.0))

-- what holds of each member
pub all_members : (P : ℕ → Type 0) (xs : List ℕ) → ((q : ℕ) → contains_id xs q ≡ true → P q) → AllByRecursion P xs
all_members P [] each = tt
all_members P (x ∷ xs) each = (each x (first_in x xs), all_members P xs (λ q h. each q (ap (λ b. (x == q) || b) h ∙ or_true (x == q))))
  where
    or_true : (b : Bool) → (b || true) ≡ true
    or_true true = refl
    or_true false = refl

-- ---- ids of entries

less_of : (k n : ℕ) → is_lt (nat_cmp k n) ≡ true → k < n
less_of k n h = by_order (nat_cmp k n) refl h
  where
    by_order : (o : Ordering) → nat_cmp k n ≡ o → is_lt o ≡ true → k < n
    by_order Less is t = less k n is
    by_order Equal is t = cc
    by_order Greater is t = cc

module _ {X : Type 0} where
  entries_above : (k : ℕ) (es : List (ℕ × X)) → by_id.below_all nat_cmp k es ≡ true → AllByRecursion (λ e. k < e.0) es
  entries_above k [] h = tt
  entries_above k (e ∷ es) h =
      let b = both (is_lt (nat_cmp k e.0)) (by_id.below_all nat_cmp k es) h in
      (less_of k e.0 b.0, entries_above k es b.1)

  entries_rise : (es : List (ℕ × X)) → IsTrue (by_id.is_sorted nat_cmp es) → AllPairsByRecursion (λ e f. e.0 < f.0) es
  entries_rise [] h = tt
  entries_rise (e ∷ es) h =
      let b = both (by_id.below_all nat_cmp e.0 es) (by_id.is_sorted nat_cmp es) h in
      (entries_above e.0 es b.0, entries_rise es b.1)

  pub ids_rise : (test : ℕ × X → Bool) (es : List (ℕ × X)) → IsTrue (by_id.is_sorted nat_cmp es) → Rises (ids_of (filter test es))
  ids_rise test es h = pairs_mapped (λ (e : ℕ × X). e.0) (λ e f. e.0 < f.0) (λ m n. m < n) (λ e f l. l) (filter test es) (pairs_filtered (λ e f. e.0 < f.0) test es (entries_rise es h))

  pub all_ids_rise : (es : List (ℕ × X)) → IsTrue (by_id.is_sorted nat_cmp es) → Rises (ids_of es)
  all_ids_rise es h = pairs_mapped (λ (e : ℕ × X). e.0) (λ e f. e.0 < f.0) (λ m n. m < n) (λ e f l. l) es (entries_rise es h)

-- ---- ids put among others

swapped : (a b c : Bool) → (a || (b || c)) ≡ (b || (a || c))
swapped true true c = refl
swapped true false c = refl
swapped false b c = refl

again : (a c : Bool) → (a || c) ≡ (a || (a || c))
again true c = refl
again false c = refl

pub member_put : (k : ℕ) (ids : List ℕ) (q : ℕ) → contains_id (insert_key nat_cmp ids k) q ≡ ((k == q) || contains_id ids q)
member_put k [] q = refl
member_put k (x ∷ xs) q = by_order (nat_cmp k x) refl (member_put k xs q)
  where
    by_order : (o : Ordering) → nat_cmp k x ≡ o → contains_id (insert_key nat_cmp xs k) q ≡ ((k == q) || contains_id xs q)
        → contains_id (match_ordering o (k ∷ x ∷ xs) (x ∷ xs) (x ∷ insert_key nat_cmp xs k)) q ≡ ((k == q) || ((x == q) || contains_id xs q))
    by_order Less is rest = refl
    by_order Equal is rest = again (x == q) (contains_id xs q) ∙ ap (λ (n : ℕ). (n == q) || ((x == q) || contains_id xs q)) (sym (equal k x is))
    by_order Greater is rest = ap (λ b. (x == q) || b) rest ∙ swapped (x == q) (k == q) (contains_id xs q)

above_put : (m k : ℕ) (ids : List ℕ) → m < k → AllByRecursion (λ n. m < n) ids → AllByRecursion (λ n. m < n) (insert_key nat_cmp ids k)
above_put m k [] h all = (h, tt)
above_put m k (x ∷ xs) h all = by_order (nat_cmp k x) (above_put m k xs h all.1)
  where
    by_order : (o : Ordering) → AllByRecursion (λ n. m < n) (insert_key nat_cmp xs k) → AllByRecursion (λ n. m < n) (match_ordering o (k ∷ x ∷ xs) (x ∷ xs) (x ∷ insert_key nat_cmp xs k))
    by_order Less rest = (h, all)
    by_order Equal rest = all
    by_order Greater rest = (all.0, rest)

pub rises_put : (k : ℕ) (ids : List ℕ) → Rises ids → Rises (insert_key nat_cmp ids k)
rises_put k [] rises = (tt, tt)
rises_put k (x ∷ xs) rises = by_order (nat_cmp k x) refl (rises_put k xs rises.1)
  where
    by_order : (o : Ordering) → nat_cmp k x ≡ o → Rises (insert_key nat_cmp xs k) → Rises (match_ordering o (k ∷ x ∷ xs) (x ∷ xs) (x ∷ insert_key nat_cmp xs k))
    by_order Less is rest = ((less k x is, below_all k x xs (less k x is) rises.0), rises)
    by_order Equal is rest = rises
    by_order Greater is rest = (above_put x k xs (greater k x is) rises.0, rest)

pub member_live : (b : Bool) (k : ℕ) (ids : List ℕ) (q : ℕ) → contains_id (put_live b k ids) q ≡ ((b && (k == q)) || contains_id ids q)
member_live true k ids q = member_put k ids q
member_live false k ids q = refl

pub rises_live : (b : Bool) (k : ℕ) (ids : List ℕ) → Rises ids → Rises (put_live b k ids)
rises_live true k ids rises = rises_put k ids rises
rises_live false k ids rises = rises

pub member_all : (xs ids : List ℕ) (q : ℕ) → contains_id (put_all xs ids) q ≡ (contains_id xs q || contains_id ids q)
member_all [] ids q = refl
member_all (x ∷ xs) ids q =
    member_all xs (insert_key nat_cmp ids x) q
    ∙ ap (λ b. contains_id xs q || b) (member_put x ids q)
    ∙ swapped (contains_id xs q) (x == q) (contains_id ids q)
    ∙ joined (x == q) (contains_id xs q) (contains_id ids q)
  where
    joined : (a b c : Bool) → (a || (b || c)) ≡ ((a || b) || c)
    joined true b c = refl
    joined false b c = refl

pub rises_all : (xs ids : List ℕ) → Rises ids → Rises (put_all xs ids)
rises_all [] ids rises = rises
rises_all (x ∷ xs) ids rises = rises_all xs (insert_key nat_cmp ids x) (rises_put x ids rises)
