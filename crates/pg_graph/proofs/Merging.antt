-- Blank entries brought in from the end: each step leaves what will stand in the end.
use Rattle.std.proofs.Common.{◌≡◌, ◌≢◌, ◌<◌, ◌≤◌, ◌+◌, ℕ, zero, suc, Bool, true, false, cond, List, [], ◌∷◌, ◌++◌, length, take, drop, fold, slice_set, slice_index_or, Some, None, Ordering, Less, Equal, Greater, append_assoc, arith, refl, sym, ap, subst, ◌∙◌}
use Rattle.std.proofs.lemmas.Bool.Decides.{nat_tests}
use Rattle.std.proofs.lemmas.List.{drop-set, drop-set-lt, take-set-le, length-set}
use Rattle.std.proofs.lemmas.List.Sums.{fold-append}
use Rattle.std.specs.FinMap as fin
use Rattle.std.specs.FinMap.{find}
use Rattle.std.specs.List.{AllByRecursion, swap}
use Rattle.std.specs.Ordering.{nat_cmp, eq_by_cmp, match_ordering}
use Rattle.pg_graph.proofs.Entries.{map_of, seen, sorted_seen}
use Rattle.pg_graph.proofs.SortedLists.{above, all_put, below}
use Rattle.pg_graph.specs.Sorted.{Rises, with_element}

module _ {A : Type 0} (number : A → ℕ) where
  pub all_at : (P : A → Type 0) (xs : List A) (i : ℕ) (d : A) → AllByRecursion P xs → i < length xs → P (slice_index_or xs i d)
  all_at P [] i d all h = absurd (omega arith)
  all_at P (x ∷ xs) zero d all h = all.0
  all_at P (x ∷ xs) (suc i) d all h = all_at P xs i d all.1 (omega arith)

  -- what stands before an item of a rising list
  pub rises_before : (xs : List A) (i : ℕ) (d : A) → Rises number xs → i < length xs → AllByRecursion (λ y. number y < number (slice_index_or xs i d)) (take i xs)
  rises_before [] i d rises h = absurd (omega arith)
  rises_before (x ∷ xs) zero d rises h = tt
  rises_before (x ∷ xs) (suc i) d rises h = (all_at (λ y. number x < number y) xs i d rises.0 (omega arith), rises_before xs i d rises.1 (omega arith))

  -- what stands up to an item that is below a bound
  pub rises_up_to : (xs : List A) (i b : ℕ) (d : A) → Rises number xs → i < length xs → number (slice_index_or xs i d) < b → AllByRecursion (λ y. number y < b) (take (suc i) xs)
  rises_up_to [] i b d rises h low = absurd (omega arith)
  rises_up_to (x ∷ xs) zero b d rises h low = (low, tt)
  rises_up_to (x ∷ xs) (suc i) b d rises h low =
      let first = all_at (λ y. number x < number y) xs i d rises.0 (omega arith) in
      (omega (arith, first, low), rises_up_to xs i b d rises.1 (omega arith) low)

pub take_less : {A : Type 0} (b n : ℕ) (xs ys : List A) → b ≤ n → take n xs ≡ take n ys → take b xs ≡ take b ys
take_less b n xs ys h same = sym (twice b n xs h) ∙ ap (take b) same ∙ twice b n ys h
  where
    twice : {A : Type 0} (b n : ℕ) (xs : List A) → b ≤ n → take b (take n xs) ≡ take b xs
    twice zero n xs h = refl
    twice (suc b) zero xs h = absurd (omega arith)
    twice (suc b) (suc n) [] h = refl
    twice (suc b) (suc n) (x ∷ xs) h = ap (λ ys. x ∷ ys) (twice b n xs (omega arith))

pub take_one_more : {A : Type 0} (xs : List A) (i n : ℕ) (d : A) → n ≡ suc i → i < length xs → take n xs ≡ take i xs ++ slice_index_or xs i d ∷ []
take_one_more xs i n d is h = ap (λ m. take m xs) is ∙ one xs i d h
  where
    one : {A : Type 0} (xs : List A) (i : ℕ) (d : A) → i < length xs → take (suc i) xs ≡ take i xs ++ slice_index_or xs i d ∷ []
    one [] i d h = absurd (omega arith)
    one (x ∷ xs) zero d h = refl
    one (x ∷ xs) (suc i) d h = ap (λ ys. x ∷ ys) (one xs i d (omega arith))

any_default : {A : Type 0} (xs : List A) (i : ℕ) (c d : A) → i < length xs → slice_index_or xs i c ≡ slice_index_or xs i d
any_default [] i c d h = absurd (omega arith)
any_default (x ∷ xs) zero c d h = refl
any_default (x ∷ xs) (suc i) c d h = any_default xs i c d (omega arith)

-- an item in the place of a later one: what stands before it, and behind it
pub swap_take : {A : Type 0} (xs : List A) (b p : ℕ) → b ≤ p → take b (swap xs b p) ≡ take b xs
swap_take [] b p h = refl
swap_take (x ∷ xs) b p h =
    take-set-le b (slice_set (x ∷ xs) b (slice_index_or (x ∷ xs) p x)) p (slice_index_or (x ∷ xs) b x) h
    ∙ take-set-le b (x ∷ xs) b (slice_index_or (x ∷ xs) p x) (omega arith)

pub swap_drop : {A : Type 0} (xs : List A) (b p : ℕ) (d : A) → b < p → p < length xs → drop p (swap xs b p) ≡ slice_index_or xs b d ∷ drop (p + 1) xs
swap_drop [] b p d h inside = absurd (omega arith)
swap_drop (x ∷ xs) b p d h inside =
    let ys = slice_set (x ∷ xs) b (slice_index_or (x ∷ xs) p x) in
    let same : length ys ≡ length (x ∷ xs) = length-set (x ∷ xs) b (slice_index_or (x ∷ xs) p x) in
    drop-set ys p (slice_index_or (x ∷ xs) b x) (omega (arith, same, inside))
    ∙ ap (λ zs. slice_index_or (x ∷ xs) b x ∷ zs) (drop-set-lt (p + 1) (x ∷ xs) b (slice_index_or (x ∷ xs) p x) (omega arith))
    ∙ ap (λ y. y ∷ drop (p + 1) (x ∷ xs)) (any_default (x ∷ xs) b x d (omega (arith, inside)))

module _ {V W : Type 0} (f : V → W) where
  -- where an entry stands its key is found
  pub stands : (es : List (ℕ × V)) (i : ℕ) (d : ℕ × V) (k : ℕ) → i < length es → (slice_index_or es i d).0 ≡ k → find nat_cmp k (seen f es) ≡ None → ⊥
  stands [] i d k h is none = absurd (omega arith)
  stands (e ∷ es) zero d k h is none = absurd (cc (none, ap (λ b. cond b (Some (f e.1)) (find nat_cmp k (seen f es))) (level_test k e.0 (sym is))))
    where
      level_test : (k x : ℕ) → k ≡ x → eq_by_cmp nat_cmp k x ≡ true
      level_test k x h = grind (arith, nat_tests)
  stands (e ∷ es) (suc i) d k h is none = by_test (eq_by_cmp nat_cmp k e.0) none (stands es i d k (omega arith) is)
    where
      by_test : (b : Bool) → cond b (Some (f e.1)) (find nat_cmp k (seen f es)) ≡ None → (find nat_cmp k (seen f es) ≡ None → ⊥) → ⊥
      by_test true none rest = absurd (cc)
      by_test false none rest = rest none

at_taken : {A : Type 0} (xs : List A) (n b : ℕ) (d : A) → b < n → slice_index_or (take n xs) b d ≡ slice_index_or xs b d
at_taken [] zero b d h = refl
at_taken [] (suc n) b d h = refl
at_taken (x ∷ xs) zero b d h = absurd (omega arith)
at_taken (x ∷ xs) (suc n) zero d h = refl
at_taken (x ∷ xs) (suc n) (suc b) d h = at_taken xs n b d (omega arith)

-- an absent key that is not below the last of the first entries is above them all
pub below_key : {V W : Type 0} (f : V → W) (es items : List (ℕ × V)) (n b k : ℕ) (d : ℕ × V) → n ≡ suc b → n ≤ length es → take n items ≡ take n es → Rises (λ e. e.0) es
    → (slice_index_or items b d).0 ≤ k → fin.get (map_of f es) k ≡ None → AllByRecursion (λ e. e.0 < k) (take n es)
below_key f es items n b k d is inside front rises low absent =
    let same : slice_index_or es b d ≡ slice_index_or items b d = sym (at_taken es n b d (omega (arith, is))) ∙ ap (λ xs. slice_index_or xs b d) (sym front) ∙ at_taken items n b d (omega (arith, is)) in
    let none : find nat_cmp k (seen f es) ≡ None = sym (fin.get-from_sorted nat_cmp (seen f es) k (sorted_seen f es rises)) ∙ absent in
    let other : (slice_index_or es b d).0 ≢ k = λ at. stands f es b d k (omega (arith, is, inside)) at none in
    let at_most : (slice_index_or es b d).0 ≤ k = subst (λ e. e.0 ≤ k) (sym same) low in
    subst (λ m. AllByRecursion (λ e. e.0 < k) (take m es)) (sym is) (rises_up_to (λ e. e.0) es b k d rises (omega (arith, is, inside)) (strict (slice_index_or es b d).0 k at_most other))
  where
    strict : (a b : ℕ) → a ≤ b → a ≢ b → a < b
    strict a b h ne = omega arith

module _ {V : Type 0} (blank : V) where
  abbrev pub put_blank : List (ℕ × V) → ℕ → List (ℕ × V)
  put_blank xs key = with_element (λ e. e.0) (key, blank) xs

  abbrev pub places : List (ℕ × V) → List ℕ → List (ℕ × V)
  places es keys = fold (λ xs key. with_element (λ e. e.0) (key, blank) xs) es keys

  put_before_last : (k : ℕ) (xs : List (ℕ × V)) (e : ℕ × V) → k < e.0 → put_blank (xs ++ e ∷ []) k ≡ put_blank xs k ++ e ∷ []
  put_before_last k [] e h = rw (below k e.0 h) refl
  put_before_last k (x ∷ xs) e h = by_order (nat_cmp k x.0) (put_before_last k xs e h)
    where
      by_order : (o : Ordering) → put_blank (xs ++ e ∷ []) k ≡ put_blank xs k ++ e ∷ []
          → match_ordering o ((k, blank) ∷ x ∷ (xs ++ e ∷ [])) ((k, blank) ∷ (xs ++ e ∷ [])) (x ∷ put_blank (xs ++ e ∷ []) k) ≡ match_ordering o ((k, blank) ∷ x ∷ xs) ((k, blank) ∷ xs) (x ∷ put_blank xs k) ++ e ∷ []
      by_order Less rest = refl
      by_order Equal rest = refl
      by_order Greater rest = ap (λ ys. x ∷ ys) rest

  places_before_last : (keys : List ℕ) (xs : List (ℕ × V)) (e : ℕ × V) → AllByRecursion (λ k. k < e.0) keys → places (xs ++ e ∷ []) keys ≡ places xs keys ++ e ∷ []
  places_before_last [] xs e all = refl
  places_before_last (k ∷ ks) xs e all = ap (λ ys. places ys ks) (put_before_last k xs e all.0) ∙ places_before_last ks (put_blank xs k) e all.1

  put_last : (k : ℕ) (xs : List (ℕ × V)) → AllByRecursion (λ e. e.0 < k) xs → put_blank xs k ≡ xs ++ (k, blank) ∷ []
  put_last k [] all = refl
  put_last k (x ∷ xs) all = rw (above k x.0 all.0) (ap (λ ys. x ∷ ys) (put_last k xs all.1))

  all_places : (b : ℕ) (keys : List ℕ) (xs : List (ℕ × V)) → AllByRecursion (λ e. e.0 < b) xs → AllByRecursion (λ k. k < b) keys → AllByRecursion (λ e. e.0 < b) (places xs keys)
  all_places b [] xs low all = low
  all_places b (k ∷ ks) xs low all = all_places b ks (put_blank xs k) (all_put (λ e. e.0) (λ e. e.0 < b) (k, blank) xs all.0 low) all.1

  -- the last of the entries goes behind the keys
  pub entry_moved : (es items : List (ℕ × V)) (keys : List ℕ) (n b l : ℕ) (d : ℕ × V) → n ≡ suc b → 0 < l → n + l ≤ length items → take n items ≡ take n es
      → AllByRecursion (λ k. k < (slice_index_or items b d).0) (take l keys)
      → places (take b es) (take l keys) ++ drop (b + l) (swap items b (b + l)) ≡ places (take n es) (take l keys) ++ drop (n + l) items
  entry_moved es items keys n b l d is some room front all =
      let e = slice_index_or items b d in
      let ks = take l keys in
      let front_is : take n es ≡ take b es ++ e ∷ [] = sym front ∙ take_one_more items b n d is (omega (arith, is, some, room)) ∙ ap (λ xs. xs ++ e ∷ []) (take_less b n items es (omega (arith, is)) front) in
      let later : b + l + 1 ≡ n + l = omega (arith, is) in
      ap (λ xs. places (take b es) ks ++ xs) (swap_drop items b (b + l) d (omega (arith, some)) (omega (arith, is, room)) ∙ ap (λ m. e ∷ drop m items) later)
      ∙ sym (ap (λ xs. places xs ks ++ drop (n + l) items) front_is
      ∙ ap (λ xs. xs ++ drop (n + l) items) (places_before_last ks (take b es) e all)
      ∙ append_assoc (places (take b es) ks) (e ∷ []) (drop (n + l) items))

  -- the last of the keys goes behind the entries
  pub key_placed : (es items : List (ℕ × V)) (keys : List ℕ) (n p l k : ℕ) → l ≡ suc p → n + l ≤ length items → take l keys ≡ take p keys ++ k ∷ []
      → AllByRecursion (λ e. e.0 < k) (take n es) → AllByRecursion (λ q. q < k) (take p keys)
      → places (take n es) (take p keys) ++ drop (n + p) (slice_set items (n + p) (k, blank)) ≡ places (take n es) (take l keys) ++ drop (n + l) items
  key_placed es items keys n p l k is room keys_are low less =
      let ps = places (take n es) (take p keys) in
      let later : n + p + 1 ≡ n + l = omega (arith, is) in
      ap (λ xs. ps ++ xs) (drop-set items (n + p) (k, blank) (omega (arith, is, room)) ∙ ap (λ m. (k, blank) ∷ drop m items) later)
      ∙ sym (ap (λ ks. places (take n es) ks ++ drop (n + l) items) keys_are
      ∙ ap (λ xs. xs ++ drop (n + l) items) (fold-append (λ xs key. with_element (λ e. e.0) (key, blank) xs) (take n es) (take p keys) (k ∷ []) ∙ put_last k ps (all_places k (take p keys) (take n es) low less))
      ∙ append_assoc ps ((k, blank) ∷ []) (drop (n + l) items))
