-- Lists of ids under nodes, and the ids of the entries that pass a test.
use Rattle.std.proofs.Common.{◌≡◌, ◌==◌, ◌<◌, ℕ, Bool, true, false, not, ◌&&◌, cond, T, List, [], ◌∷◌, map as map_list, length, Some, None, Ordering, Less, Equal, Greater, arith, refl, sym, ap, subst, ◌∙◌}
use Rattle.std.proofs.lemmas.Bool.Decides.{nat_tests}
use Rattle.std.specs.Cmp.{nat_cmp_total, eq_by_cmp_equiv, unsigned_tied}
use Rattle.std.specs.FinMap as map
use Rattle.std.specs.FinMap.{FinMap, find, is_sorted, get}
use Rattle.std.specs.FinMap.Entries.{put as put_entry, by_order, below_all}
use Rattle.std.specs.List.{AllByRecursion, filter}
use Rattle.std.specs.Option.{option_map_or}
use Rattle.std.specs.Ordering.{nat_cmp, match_ordering, eq_by_cmp, is_eq, is_lt}
use Rattle.pg_graph.proofs.Entries.{entries_removed}
use Rattle.pg_graph.proofs.SortedLists.{less, equal, below, put_rises}
use Rattle.pg_graph.specs.Content.{ids_where}
use Rattle.pg_graph.specs.Links.{with_id, without_id}
use Rattle.pg_graph.specs.Sorted.{Rises, with_element, without}

left : (a b : Bool) → T (a && b) → T a
left true b h = tt
left false b h = h

right : (a b : Bool) → T (a && b) → T b
right true b h = h
right false b h = absurd h

less_of : (o : Ordering) → T (is_lt o) → o ≡ Less
less_of Less h = refl
less_of Equal h = absurd h
less_of Greater h = absurd h

is_less : (a b : ℕ) → T (is_lt (nat_cmp a b)) → a < b
is_less a b h = less a b (less_of (nat_cmp a b) h)

same_number : (k : ℕ) → (k == k) ≡ true
same_number k = grind (arith, nat_tests)

not_below : (x k : ℕ) → k < x → (x == k) ≡ false
not_below x k h = grind (arith, nat_tests)

flip_other : (k x : ℕ) → eq_by_cmp nat_cmp k x ≡ false → (x == k) ≡ false
flip_other k x h = grind (arith, nat_tests)

flip_same : (k x : ℕ) → eq_by_cmp nat_cmp k x ≡ true → (x == k) ≡ true
flip_same k x h = grind (arith, nat_tests)

same_of_test : (k x : ℕ) → eq_by_cmp nat_cmp k x ≡ true → x ≡ k
same_of_test k x h = grind (arith, nat_tests)

not_same : (k x : ℕ) → k < x → eq_by_cmp nat_cmp k x ≡ false
not_same k x h = grind (arith, nat_tests)

-- no id of the list is k
abbrev pub Lacks : ℕ → List ℕ → Type 0
Lacks k = AllByRecursion (λ n. (n == k) ≡ false)

pub without_lacking : (k : ℕ) (xs : List ℕ) → Lacks k xs → without_id k xs ≡ xs
without_lacking k [] lacks = refl
without_lacking k (x ∷ xs) lacks = ap (λ b. cond b xs (x ∷ without_id k xs)) lacks.0 ∙ ap (λ ys. x ∷ ys) (without_lacking k xs lacks.1)

-- what was put in and taken out again
pub without_with_id : (k : ℕ) (xs : List ℕ) → Lacks k xs → without_id k (with_id k xs) ≡ xs
without_with_id k [] lacks = ap (λ b. cond b [] (k ∷ [])) (same_number k)
without_with_id k (x ∷ xs) lacks = chosen (nat_cmp k x) refl (without_with_id k xs lacks.1)
  where
    chosen : (o : Ordering) → nat_cmp k x ≡ o → without_id k (with_id k xs) ≡ xs → without_id k (match_ordering o (k ∷ x ∷ xs) (k ∷ xs) (x ∷ with_id k xs)) ≡ x ∷ xs
    chosen Less is rest = ap (λ b. cond b (x ∷ xs) (k ∷ without_id k (x ∷ xs))) (same_number k)
    chosen Equal is rest = cc (lacks.0, subst (λ n. (n == k) ≡ true) (equal _ _ is) (same_number k))
    chosen Greater is rest = ap (λ b. cond b (with_id k xs) (x ∷ without_id k (with_id k xs))) lacks.0 ∙ ap (λ ys. x ∷ ys) rest

-- lists of items by their numbers
module _ {A : Type 0} (number : A → ℕ) where
  pub numbers_put : (a : A) (xs : List A) → map_list number (with_element number a xs) ≡ with_id (number a) (map_list number xs)
  numbers_put a [] = refl
  numbers_put a (x ∷ xs) = chosen (nat_cmp (number a) (number x)) (numbers_put a xs)
    where
      chosen : (o : Ordering) → map_list number (with_element number a xs) ≡ with_id (number a) (map_list number xs)
          → map_list number (match_ordering o (a ∷ x ∷ xs) (a ∷ xs) (x ∷ with_element number a xs))
          ≡ match_ordering o (number a ∷ number x ∷ map_list number xs) (number a ∷ map_list number xs) (number x ∷ with_id (number a) (map_list number xs))
      chosen Less rest = refl
      chosen Equal rest = refl
      chosen Greater rest = ap (λ ys. number x ∷ ys) rest

  pub numbers_without : (k : ℕ) (xs : List A) → map_list number (without number k xs) ≡ without_id k (map_list number xs)
  numbers_without k [] = refl
  numbers_without k (x ∷ xs) = chosen (number x == k) (numbers_without k xs)
    where
      chosen : (b : Bool) → map_list number (without number k xs) ≡ without_id k (map_list number xs)
          → map_list number (cond b xs (x ∷ without number k xs)) ≡ cond b (map_list number xs) (number x ∷ without_id k (map_list number xs))
      chosen true rest = refl
      chosen false rest = ap (λ ys. number x ∷ ys) rest

  all_of_numbers : (P : ℕ → Type 0) (xs : List A) → AllByRecursion P (map_list number xs) → AllByRecursion (λ x. P (number x)) xs
  all_of_numbers P [] all = tt
  all_of_numbers P (x ∷ xs) all = (all.0, all_of_numbers P xs all.1)

  pub rises_of_numbers : (xs : List A) → Rises (λ n. n) (map_list number xs) → Rises number xs
  rises_of_numbers [] rises = tt
  rises_of_numbers (x ∷ xs) rises = (all_of_numbers (λ n. number x < n) xs rises.0, rises_of_numbers xs rises.1)

-- the ids of the entries that pass
module _ {X : Type 0} (p : X → Bool) where
  abbrev pub ids_in : List (ℕ × X) → List ℕ
  ids_in es = map_list (λ e. e.0) (filter (λ e. p e.1) es)

  all_ids : (P : ℕ → Type 0) (es : List (ℕ × X)) → AllByRecursion (λ e. P e.0) es → AllByRecursion P (ids_in es)
  all_ids P [] all = tt
  all_ids P (e ∷ es) all = chosen (p e.1) (all_ids P es all.1)
    where
      chosen : (b : Bool) → AllByRecursion P (ids_in es) → AllByRecursion P (map_list (λ e. e.0) (cond b (e ∷ filter (λ e. p e.1) es) (filter (λ e. p e.1) es)))
      chosen true rest = (all.0, rest)
      chosen false rest = rest

  above_all : (k : ℕ) (es : List (ℕ × X)) → T (below_all nat_cmp k es) → AllByRecursion (λ e. k < e.0) es
  above_all k [] h = tt
  above_all k (e ∷ es) h = (is_less k e.0 (left _ _ h), above_all k es (right _ _ h))

  above_later : (k m : ℕ) (es : List (ℕ × X)) → k < m → AllByRecursion (λ e. m < e.0) es → AllByRecursion (λ e. k < e.0) es
  above_later k m [] h all = tt
  above_later k m (e ∷ es) h all = (omega arith, above_later k m es h all.1)

  pub ids_in_rise : (es : List (ℕ × X)) → T (is_sorted nat_cmp es) → Rises (λ n. n) (ids_in es)
  ids_in_rise [] h = tt
  ids_in_rise (e ∷ es) h = chosen (p e.1) (all_ids (λ n. e.0 < n) es (above_all e.0 es (left _ _ h))) (ids_in_rise es (right _ _ h))
    where
      chosen : (b : Bool) → AllByRecursion (λ n. e.0 < n) (ids_in es) → Rises (λ n. n) (ids_in es) → Rises (λ n. n) (map_list (λ e. e.0) (cond b (e ∷ filter (λ e. p e.1) es) (filter (λ e. p e.1) es)))
      chosen true all rest = (all, rest)
      chosen false all rest = rest

  -- an id below all others goes to the front
  put_front : (k : ℕ) (xs : List ℕ) → AllByRecursion (λ n. k < n) xs → with_id k xs ≡ k ∷ xs
  put_front k [] all = refl
  put_front k (x ∷ xs) all = ap (λ o. match_ordering o (k ∷ x ∷ xs) (k ∷ xs) (x ∷ with_id k xs)) (below k x all.0)

  pub lacks_absent : (k : ℕ) (es : List (ℕ × X)) → find nat_cmp k es ≡ None → Lacks k (ids_in es)
  lacks_absent k es h = all_ids (λ n. (n == k) ≡ false) es (none es h)
    where
      none : (es : List (ℕ × X)) → find nat_cmp k es ≡ None → AllByRecursion (λ e. (e.0 == k) ≡ false) es
      none [] h = tt
      none (e ∷ es) h =
          elim (eq_by_cmp nat_cmp k e.0) as (λ t. eq_by_cmp nat_cmp k e.0 ≡ t → cond t (Some e.1) (find nat_cmp k es) ≡ None → AllByRecursion (λ e. (e.0 == k) ≡ false) (e ∷ es)) [
            | true ↦ λ is h. cc
            | false ↦ λ is h. (flip_other k e.0 is, none es h)
          ] refl h

  -- an id goes to its place in the list of those that pass, if its entry does
  ids_put : (k : ℕ) (v : X) (es : List (ℕ × X)) → T (is_sorted nat_cmp es) → find nat_cmp k es ≡ None → ids_in (put_entry nat_cmp k v es) ≡ cond (p v) (with_id k (ids_in es)) (ids_in es)
  ids_put k v [] s h = by_test (p v)
    where
      by_test : (b : Bool) → map_list {B = ℕ} (λ (e : ℕ × X). e.0) (cond b ((k, v) ∷ []) []) ≡ cond b (k ∷ []) []
      by_test true = refl
      by_test false = refl
  ids_put k v (e ∷ es) s h = chosen (nat_cmp k e.0) refl h (λ i. ids_put k v es (right _ _ s) i)
    where
      front : (b : Bool) → k < e.0 → map_list {B = ℕ} (λ (e : ℕ × X). e.0) (cond b ((k, v) ∷ filter (λ e. p e.1) (e ∷ es)) (filter (λ e. p e.1) (e ∷ es))) ≡ cond b (with_id k (ids_in (e ∷ es))) (ids_in (e ∷ es))
      front true l = sym (put_front k (ids_in (e ∷ es)) (all_ids (λ n. k < n) (e ∷ es) (l, above_later k e.0 es l (above_all e.0 es (left _ _ s)))))
      front false l = refl

      behind : (b c : Bool) (rest now : List ℕ) → nat_cmp k e.0 ≡ Greater → now ≡ cond b (with_id k rest) rest → cond c (e.0 ∷ now) now ≡ cond b (with_id k (cond c (e.0 ∷ rest) rest)) (cond c (e.0 ∷ rest) rest)
      behind true true rest now is later = ap (λ ys. e.0 ∷ ys) later ∙ sym (ap (λ o. match_ordering o (k ∷ e.0 ∷ rest) (k ∷ rest) (e.0 ∷ with_id k rest)) is)
      behind true false rest now is later = later
      behind false true rest now is later = ap (λ ys. e.0 ∷ ys) later
      behind false false rest now is later = later

      moved : (c : Bool) (r : List (ℕ × X)) → map_list {B = ℕ} (λ (e : ℕ × X). e.0) (cond c (e ∷ filter (λ e. p e.1) r) (filter (λ e. p e.1) r)) ≡ cond c (e.0 ∷ ids_in r) (ids_in r)
      moved true r = refl
      moved false r = refl

      chosen : (o : Ordering) → nat_cmp k e.0 ≡ o → cond (is_eq o) (Some e.1) (find nat_cmp k es) ≡ None
          → (find nat_cmp k es ≡ None → ids_in (put_entry nat_cmp k v es) ≡ cond (p v) (with_id k (ids_in es)) (ids_in es))
          → ids_in (by_order o ((k, v) ∷ e ∷ es) ((e.0, v) ∷ es) (e ∷ put_entry nat_cmp k v es)) ≡ cond (p v) (with_id k (ids_in (e ∷ es))) (ids_in (e ∷ es))
      chosen Less is h later = front (p v) (less k e.0 is)
      chosen Equal is h later = cc
      chosen Greater is h later =
          moved (p e.1) (put_entry nat_cmp k v es) ∙ behind (p v) (p e.1) (ids_in es) (ids_in (put_entry nat_cmp k v es)) is (later h)
          ∙ ap (λ xs. cond (p v) (with_id k xs) xs) (sym (moved (p e.1) es))

  others_pass : (k : ℕ) (es : List (ℕ × X)) → AllByRecursion (λ e. k < e.0) es → filter (λ e. not (eq_by_cmp nat_cmp k e.0)) es ≡ es
  others_pass k [] all = refl
  others_pass k (e ∷ es) all =
      let rest = filter (λ e. not (eq_by_cmp nat_cmp k e.0)) es in
      ap (λ b. cond (not b) (e ∷ rest) rest) (not_same k e.0 all.0) ∙ ap (λ ys. e ∷ ys) (others_pass k es all.1)

  lacks_above : (k : ℕ) (es : List (ℕ × X)) → AllByRecursion (λ e. k < e.0) es → AllByRecursion (λ e. (e.0 == k) ≡ false) es
  lacks_above k [] all = tt
  lacks_above k (e ∷ es) all = (not_below e.0 k all.0, lacks_above k es all.1)

  -- the ids without one are those of the entries without its entry
  ids_without : (k : ℕ) (es : List (ℕ × X)) → T (is_sorted nat_cmp es) → ids_in (filter (λ e. not (eq_by_cmp nat_cmp k e.0)) es) ≡ without_id k (ids_in es)
  ids_without k [] s = refl
  ids_without k (e ∷ es) s = by_test (eq_by_cmp nat_cmp k e.0) refl (ids_without k es (right _ _ s))
    where
      here : (b : Bool) → AllByRecursion (λ x. k < x.0) es → (e.0 == k) ≡ true → ids_in es ≡ without_id k (map_list {B = ℕ} (λ (e : ℕ × X). e.0) (cond b (e ∷ filter (λ e. p e.1) es) (filter (λ e. p e.1) es)))
      here true all is = sym (ap (λ b. cond b (ids_in es) (e.0 ∷ without_id k (ids_in es))) is)
      here false all is = sym (without_lacking k (ids_in es) (all_ids (λ n. (n == k) ≡ false) es (lacks_above k es all)))

      there : (b : Bool) (r : List (ℕ × X)) → (e.0 == k) ≡ false → ids_in r ≡ without_id k (ids_in es)
          → map_list {B = ℕ} (λ (e : ℕ × X). e.0) (cond b (e ∷ filter (λ e. p e.1) r) (filter (λ e. p e.1) r))
          ≡ without_id k (map_list {B = ℕ} (λ (e : ℕ × X). e.0) (cond b (e ∷ filter (λ e. p e.1) es) (filter (λ e. p e.1) es)))
      there true r is rest = ap (λ ys. e.0 ∷ ys) rest ∙ sym (ap (λ b. cond b (ids_in es) (e.0 ∷ without_id k (ids_in es))) is)
      there false r is rest = rest

      by_test : (t : Bool) → eq_by_cmp nat_cmp k e.0 ≡ t → ids_in (filter (λ e. not (eq_by_cmp nat_cmp k e.0)) es) ≡ without_id k (ids_in es)
          → ids_in (cond (not t) (e ∷ filter (λ e. not (eq_by_cmp nat_cmp k e.0)) es) (filter (λ e. not (eq_by_cmp nat_cmp k e.0)) es)) ≡ without_id k (ids_in (e ∷ es))
      by_test true is rest =
          let all : AllByRecursion (λ x. k < x.0) es = subst (λ n. AllByRecursion (λ x. n < x.0) es) (same_of_test k e.0 is) (above_all e.0 es (left _ _ s)) in
          ap ids_in (others_pass k es all) ∙ here (p e.1) all (flip_same k e.0 is)
      by_test false is rest = there (p e.1) (filter (λ e. not (eq_by_cmp nat_cmp k e.0)) es) (flip_other k e.0 is) rest

  -- an id whose entry fails is in no list
  without_failing : (k : ℕ) (v : X) (es : List (ℕ × X)) → T (is_sorted nat_cmp es) → find nat_cmp k es ≡ Some v → p v ≡ false → without_id k (ids_in es) ≡ ids_in es
  without_failing k v [] s h fails = refl
  without_failing k v (e ∷ es) s h fails = by_test (eq_by_cmp nat_cmp k e.0) refl h (λ i. without_failing k v es (right _ _ s) i fails)
    where
      there : (b : Bool) → (e.0 == k) ≡ false → without_id k (ids_in es) ≡ ids_in es
          → without_id k (map_list {B = ℕ} (λ (e : ℕ × X). e.0) (cond b (e ∷ filter (λ e. p e.1) es) (filter (λ e. p e.1) es))) ≡ map_list {B = ℕ} (λ (e : ℕ × X). e.0) (cond b (e ∷ filter (λ e. p e.1) es) (filter (λ e. p e.1) es))
      there true is rest = ap (λ b. cond b (ids_in es) (e.0 ∷ without_id k (ids_in es))) is ∙ ap (λ ys. e.0 ∷ ys) rest
      there false is rest = rest

      here : (b : Bool) → b ≡ false → without_id k (ids_in es) ≡ ids_in es
          → without_id k (map_list {B = ℕ} (λ (e : ℕ × X). e.0) (cond b (e ∷ filter (λ e. p e.1) es) (filter (λ e. p e.1) es))) ≡ map_list {B = ℕ} (λ (e : ℕ × X). e.0) (cond b (e ∷ filter (λ e. p e.1) es) (filter (λ e. p e.1) es))
      here true fails rest = cc
      here false fails rest = rest

      by_test : (t : Bool) → eq_by_cmp nat_cmp k e.0 ≡ t → cond t (Some e.1) (find nat_cmp k es) ≡ Some v → (find nat_cmp k es ≡ Some v → without_id k (ids_in es) ≡ ids_in es) → without_id k (ids_in (e ∷ es)) ≡ ids_in (e ∷ es)
      by_test true is h later =
          let all : AllByRecursion (λ x. k < x.0) es = subst (λ n. AllByRecursion (λ x. n < x.0) es) (same_of_test k e.0 is) (above_all e.0 es (left _ _ s)) in
          let same : e.1 ≡ v = cc in
          here (p e.1) (ap p same ∙ fails) (without_lacking k (ids_in es) (all_ids (λ n. (n == k) ≡ false) es (lacks_above k es all)))
      by_test false is h later = there (p e.1) (flip_other k e.0 is) (later h)

-- the same of maps
module _ {X : Type 0} (p : X → Bool) (m : FinMap nat_cmp X) where
  pub ids_rise : Rises (λ n. n) (ids_where p m)
  ids_rise = ids_in_rise p (map.entries m) (map.entries_sorted m)

  pub ids_lack : (id : ℕ) → get m id ≡ None → Lacks id (ids_where p m)
  ids_lack id absent = lacks_absent p id (map.entries m) (sym (map.get-entries m id) ∙ absent)

  pub list_with : (id : ℕ) (x : X) (b : Bool) → b ≡ p x → get m id ≡ None → cond b (with_id id (ids_where p m)) (ids_where p m) ≡ ids_where p (map.insert m id x)
  list_with id x b is absent =
      ap (λ c. cond c (with_id id (ids_where p m)) (ids_where p m)) is
      ∙ sym (ap (ids_in p) (map.entries-insert nat_cmp_total m id x)
      ∙ ids_put p id x (map.entries m) (map.entries_sorted m) (sym (map.get-entries m id) ∙ absent))

  pub list_without : (id : ℕ) (x : X) (b : Bool) → b ≡ p x → get m id ≡ Some x → cond b (without_id id (ids_where p m)) (ids_where p m) ≡ ids_where p (map.remove m id)
  list_without id x b is there =
      elim b as (λ c. c ≡ p x → cond c (without_id id (ids_where p m)) (ids_where p m) ≡ ids_where p (map.remove m id)) [
        | true ↦ λ e. sym removed
        | false ↦ λ e. sym (removed ∙ without_failing p id x (map.entries m) (map.entries_sorted m) (sym (map.get-entries m id) ∙ there) (sym e))
      ] is
    where
      removed : ids_where p (map.remove m id) ≡ without_id id (ids_where p m)
      removed = ap (ids_in p) (entries_removed m id) ∙ ids_without p id (map.entries m) (map.entries_sorted m)

pub ids_empty : {X : Type 0} (p : X → Bool) → ids_where p (map.empty {R = nat_cmp}) ≡ []
ids_empty {X} p = ap (ids_in p) (nil_of_length _ (sym (map.len-entries map.empty) ∙ map.len-empty nat_cmp X))
  where
    nil_of_length : (xs : List (ℕ × X)) → length xs ≡ 0 → xs ≡ []
    nil_of_length [] e = refl
    nil_of_length (x ∷ xs) e = absurd (omega arith)

-- lists under nodes, after one was put there
pub list_at_inserted : {V : Type 0} (f : V → List ℕ) (m : FinMap nat_cmp V) (node : ℕ) (v : V) (q : ℕ) → option_map_or f (get (map.insert m node v) q) [] ≡ cond (q == node) (f v) (option_map_or f (get m q) [])
list_at_inserted f m node v q =
    ap (λ o. option_map_or f o []) (map.get-insert nat_cmp_total m node v q ∙ ap (λ b. cond b (Some v) (get m q)) (unsigned_tied q node))
    ∙ chosen (q == node)
  where
    chosen : (b : Bool) → option_map_or f (cond b (Some v) (get m q)) [] ≡ cond b (f v) (option_map_or f (get m q) [])
    chosen true = refl
    chosen false = refl

-- and after one was taken away
pub list_at_removed : {V : Type 0} (f : V → List ℕ) (m : FinMap nat_cmp V) (node : ℕ) (q : ℕ) → option_map_or f (get (map.remove m node) q) [] ≡ cond (q == node) [] (option_map_or f (get m q) [])
list_at_removed f m node q =
    ap (λ o. option_map_or f o []) (map.get-remove nat_cmp_total m node q ∙ ap (λ b. cond b None (get m q)) (unsigned_tied q node))
    ∙ chosen (q == node)
  where
    chosen : (b : Bool) → option_map_or f (cond b None (get m q)) [] ≡ cond b [] (option_map_or f (get m q) [])
    chosen true = refl
    chosen false = refl

-- the list under a node is changed: the old one is given up first, and the new one put there
pub twice_at : (b : Bool) (xs ys zs : List ℕ) → cond b xs (cond b ys zs) ≡ cond b xs zs
twice_at true xs ys zs = refl
twice_at false xs ys zs = refl

same_of_eq : (q node : ℕ) → (q == node) ≡ true → q ≡ node
same_of_eq q node h = grind (arith, nat_tests)

-- at a node a list becomes g of what it was
pub at_node : (g : List ℕ → List ℕ) (at : ℕ → List ℕ) (node q : ℕ) (now : List ℕ) → now ≡ g (at node) → cond (q == node) now (at q) ≡ cond (q == node) (g (at q)) (at q)
at_node g at node q now is =
    elim (q == node) as (λ b. (q == node) ≡ b → cond b now (at q) ≡ cond b (g (at q)) (at q)) [
      | true ↦ λ e. is ∙ ap (λ n. g (at n)) (sym (same_of_eq q node e))
      | false ↦ λ e. refl
    ] refl

-- a list that is put back as it was
pub at_node_same : (at : ℕ → List ℕ) (node q : ℕ) (now : List ℕ) → now ≡ at node → cond (q == node) now (at q) ≡ at q
at_node_same at node q now is =
    elim (q == node) as (λ b. (q == node) ≡ b → cond b now (at q) ≡ at q) [
      | true ↦ λ e. is ∙ ap at (sym (same_of_eq q node e))
      | false ↦ λ e. refl
    ] refl

pub eq_flip : (q s : ℕ) → (q == s) ≡ (s == q)
eq_flip q s = sym (unsigned_tied q s) ∙ (eq_by_cmp_equiv nat_cmp_total).symm q s ∙ unsigned_tied s q

pub ends_at : (q end own : ℕ) → own ≡ end → (q == end) ≡ (own == q)
ends_at q end own e = eq_flip q end ∙ ap (λ n. n == q) (sym e)

-- an id that was added under one node and taken out again
pub undone : (b : Bool) (id : ℕ) (xs : List ℕ) → Lacks id xs → cond b (without_id id (cond b (with_id id xs) xs)) (cond b (with_id id xs) xs) ≡ xs
undone true id xs lacks = without_with_id id xs lacks
undone false id xs lacks = refl

pub rises_with : (b : Bool) (id : ℕ) (xs : List ℕ) → Rises (λ n. n) xs → Rises (λ n. n) (cond b (with_id id xs) xs)
rises_with true id xs rises = put_rises (λ n. n) id xs rises
rises_with false id xs rises = rises
