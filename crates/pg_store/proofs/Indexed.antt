-- The indexes that a store has, as texts tell them, and an index that comes or goes.
use Rattle.std.proofs.Common.{◌≡◌, ◌==◌, ◌&&◌, ◌||◌, ℕ, zero, suc, Bool, true, false, not, cond, filter, List, [], ◌∷◌, ◌++◌, Option, Some, None, Result, Ok, Err, OnOk, OnErr, bytes_eq, slice_get, arith, refl, sym, ap, subst, ◌∙◌}
use Rattle.std.proofs.lemmas.Bool.Decides.{nat_tests}
use Rattle.std.specs.FinMap as map
use Rattle.std.specs.List.{list_any, position, remove}
use Rattle.std.specs.Option.{option_map_or}
use Rattle.pg_graph.specs.Content.{Seen}
use Rattle.pg_graph.specs.declared.records.NodeRecord.{NodeRecord}
use Rattle.pg_index.specs.Properties.{all_find, finds, has_pair, is_for, is_found_by, pairs_of, some_finds}
use Rattle.pg_index.specs.declared.properties.PropertyIndex.{PropertyIndex}
use Rattle.pg_names.proofs.Interned.{found_text, place_of_text, same_bytes, equal_bytes}
use Rattle.pg_names.specs.Names.{AreDistinct}
use Rattle.pg_store.proofs.ChangeLemmas.{grown_fit}
use Rattle.pg_store.proofs.CoverLemmas.{Grows, covers_now}
use Rattle.std.proofs.lemmas.List.Folds.{list_any-append}
use Rattle.pg_store.proofs.NoteLemmas.{or_either, or_left}
use Rattle.pg_store.proofs.Noting.{noted_now}
use Rattle.pg_store.specs.Covers.{Key, every, with_label, with_value, Covers, HasCovered, has_in}
use Rattle.pg_store.specs.Noted.{AreNoted, HasNoted, is_in, is_noted, is_there}
use Rattle.pg_store.specs.Indexed.{IsOneLess, IsOneMore, has_text, is_named as named_pair}
use Rattle.pg_store.specs.Journal.{State}
use Rattle.pg_store.specs.Stores.{IsFit, state_of}
use Rattle.pg_store.specs.declared.journal.Entry.{Entry}
use Rattle.pg_store.specs.declared.sets.Sets.{Sets}
use Rattle.pg_store.specs.declared.shared.Shared.{Shared}
use Rattle.pg_store.specs.declared.shared.Shared.{Shared}
use Rattle.pg_store.specs.declared.shared.Shared.{Shared}
use Rattle.pg_store.specs.declared.store.Store.{Store}
use Rattle.pg_value_core.specs.declared.value.Value.{Value}

same_number : (m n : ℕ) → (m == n) ≡ true → m ≡ n
same_number m n h = grind (arith, nat_tests)

equal_number : (m n : ℕ) → m ≡ n → (m == n) ≡ true
equal_number m n h = grind (arith, nat_tests)

or_right : (a b : Bool) → b ≡ true → (a || b) ≡ true
or_right true b h = refl
or_right false b h = h

and_left : (a b : Bool) → (a && b) ≡ true → a ≡ true
and_left true b h = refl
and_left false b h = h

and_right : (a b : Bool) → (a && b) ≡ true → b ≡ true
and_right true b h = h
and_right false b h = absurd cc

and_both : (a b : Bool) → a ≡ true → b ≡ true → (a && b) ≡ true
and_both true b h e = e
and_both false b h e = h

or_false : (a b : Bool) → (a || b) ≡ false → (a ≡ false) × (b ≡ false)
or_false true b h = absurd (cc)
or_false false b h = (refl, h)

-- ---- texts and numbers

module _ (names : List (List ℕ)) where
  text_is : (o : Option (List ℕ)) (text : List ℕ) → option_map_or (bytes_eq text) o false ≡ true → o ≡ Some text
  text_is None text h = absurd (cc)
  text_is (Some t) text h = ap Some (sym (same_bytes text t h))

  number_has : (text : List ℕ) (n : ℕ) → slice_get names n ≡ Some text → has_text names text n ≡ true
  number_has text n is = ap (λ o. option_map_or (bytes_eq text) o false) is ∙ equal_bytes text text refl

  number_is : AreDistinct names → (text : List ℕ) (n : ℕ) → has_text names text n ≡ true → position (bytes_eq text) names ≡ Some n
  number_is distinct text n h = place_of_text names n text distinct (text_is (slice_get names n) text h)

  module _ (label key : List ℕ) where
    abbrev is_named : ℕ × ℕ → Bool
    is_named p = has_text names label p.0 && has_text names key p.1

    pub there_named : (l k : ℕ) (pairs : List (ℕ × ℕ)) → slice_get names l ≡ Some label → slice_get names k ≡ Some key → has_pair (l, k) pairs ≡ true → list_any is_named pairs ≡ true
    there_named l k [] at by h = h
    there_named l k (p ∷ pairs) at by h = by_test (p.0 == l && p.1 == k) refl h (there_named l k pairs at by)
      where
        by_test : (b : Bool) → (p.0 == l && p.1 == k) ≡ b → (b || has_pair (l, k) pairs) ≡ true → (has_pair (l, k) pairs ≡ true → list_any is_named pairs ≡ true) → (is_named p || list_any is_named pairs) ≡ true
        by_test true is h rest =
            let here = and_both _ _ (ap (has_text names label) (same_number p.0 l (and_left (p.0 == l) (p.1 == k) is)) ∙ number_has label l at) (ap (has_text names key) (same_number p.1 k (and_right (p.0 == l) (p.1 == k) is)) ∙ number_has key k by) in
            ap (λ b. b || list_any is_named pairs) here
        by_test false is h rest = or_right (is_named p) (list_any is_named pairs) (rest h)

    pub gone_named : AreDistinct names → (l k : ℕ) (pairs : List (ℕ × ℕ)) → position (bytes_eq label) names ≡ Some l → position (bytes_eq key) names ≡ Some k → has_pair (l, k) pairs ≡ false → list_any is_named pairs ≡ false
    gone_named distinct l k [] at by h = refl
    gone_named distinct l k (p ∷ pairs) at by h = by_test (is_named p) refl (gone_named distinct l k pairs at by (or_false (p.0 == l && p.1 == k) (has_pair (l, k) pairs) h).1)
      where
        others : (p.0 == l && p.1 == k) ≡ false
        others = (or_false (p.0 == l && p.1 == k) (has_pair (l, k) pairs) h).0

        by_test : (b : Bool) → is_named p ≡ b → list_any is_named pairs ≡ false → (b || list_any is_named pairs) ≡ false
        by_test false is rest = rest
        by_test true is rest =
            let first = number_is distinct label p.0 (and_left (has_text names label p.0) (has_text names key p.1) is) in
            let second = number_is distinct key p.1 (and_right (has_text names label p.0) (has_text names key p.1) is) in
            let one : p.0 ≡ l = cc (first, at) in
            let two : p.1 ≡ k = cc (second, by) in
            let both : (p.0 == l && p.1 == k) ≡ true = and_both _ _ (equal_number p.0 l one) (equal_number p.1 k two) in
            absurd (cc (both, others))

    pub no_label_named : AreDistinct names → (pairs : List (ℕ × ℕ)) → position (bytes_eq label) names ≡ None → list_any is_named pairs ≡ false
    no_label_named distinct [] missing = refl
    no_label_named distinct (p ∷ pairs) missing = by_test (is_named p) refl (no_label_named distinct pairs missing)
      where
        by_test : (b : Bool) → is_named p ≡ b → list_any is_named pairs ≡ false → (b || list_any is_named pairs) ≡ false
        by_test false is rest = rest
        by_test true is rest = let first = number_is distinct label p.0 (and_left (has_text names label p.0) (has_text names key p.1) is) in absurd (cc (first, missing))

    pub no_key_named : AreDistinct names → (pairs : List (ℕ × ℕ)) → position (bytes_eq key) names ≡ None → list_any is_named pairs ≡ false
    no_key_named distinct [] missing = refl
    no_key_named distinct (p ∷ pairs) missing = by_test (is_named p) refl (no_key_named distinct pairs missing)
      where
        by_test : (b : Bool) → is_named p ≡ b → list_any is_named pairs ≡ false → (b || list_any is_named pairs) ≡ false
        by_test false is rest = rest
        by_test true is rest = let second = number_is distinct key p.1 (and_right (has_text names label p.0) (has_text names key p.1) is) in absurd (cc (second, missing))

-- ---- one pair more, one less

equal_turned : (a b : ℕ) → (a == b) ≡ (b == a)
equal_turned a b = by_test (a == b) refl
  where
    by_test : (t : Bool) → (a == b) ≡ t → t ≡ (b == a)
    by_test true is = sym (equal_number b a (sym (same_number a b is)))
    by_test false is = by_other (b == a) refl
      where
        by_other : (u : Bool) → (b == a) ≡ u → false ≡ u
        by_other false other = refl
        by_other true other = let turned = equal_number a b (sym (same_number b a other)) in absurd (cc (is, turned))

module _ (names : List (List ℕ)) (label key : List ℕ) (distinct : AreDistinct names) where
  module _ (l k : ℕ) (at : slice_get names l ≡ Some label) (by : slice_get names k ≡ Some key) where
    one_text : (text : List ℕ) (m n : ℕ) → slice_get names m ≡ Some text → has_text names text n ≡ (m == n)
    one_text text m n is = by_test (m == n) refl
      where
        by_test : (b : Bool) → (m == n) ≡ b → has_text names text n ≡ b
        by_test true same = ap (has_text names text) (sym (same_number m n same)) ∙ number_has names text m is
        by_test false other = by_text (has_text names text n) refl
          where
            by_text : (b : Bool) → has_text names text n ≡ b → b ≡ false
            by_text false h = refl
            by_text true h =
                let here = place_of_text names m text distinct is in
                let there = number_is names distinct text n h in
                let same : m ≡ n = cc (here, there) in
                let equal = equal_number m n same in
                absurd (cc (equal, other))

    named_is : (p : ℕ × ℕ) → named_pair names label key p ≡ (l == p.0 && k == p.1)
    named_is p = λ t. one_text label l p.0 at t && one_text key k p.1 by t

    -- the pair is there already
    pub same_named : (pairs : List (ℕ × ℕ)) → has_pair (l, k) pairs ≡ true → IsOneMore names label key pairs pairs
    same_named pairs there p = by_test (named_pair names label key p) refl
      where
        here : named_pair names label key p ≡ true → has_pair p pairs ≡ true
        here is =
            let both = sym (named_is p) ∙ is in
            ap (λ q. has_pair (q, p.1) pairs) (sym (same_number l p.0 (and_left (l == p.0) (k == p.1) both))) ∙ ap (λ q. has_pair (l, q) pairs) (sym (same_number k p.1 (and_right (l == p.0) (k == p.1) both))) ∙ there

        or_false_right : (a : Bool) → a ≡ (a || false)
        or_false_right true = refl
        or_false_right false = refl

        by_test : (b : Bool) → named_pair names label key p ≡ b → has_pair p pairs ≡ (has_pair p pairs || b)
        by_test true is = here is ∙ sym (or_right (has_pair p pairs) true refl)
        by_test false is = or_false_right (has_pair p pairs)

    -- the pair comes
    pub more_named : (xs : List PropertyIndex) (x : PropertyIndex) → x.label ≡ l → x.key ≡ k → IsOneMore names label key (pairs_of xs) (pairs_of (xs ++ x ∷ []))
    more_named [] x is has p = last (x.label == p.0 && x.key == p.1) ∙ (λ t. is t == p.0 && has t == p.1) ∙ sym (named_is p)
      where
        last : (b : Bool) → (b || false) ≡ b
        last true = refl
        last false = refl
    more_named (y ∷ xs) x is has p = ap (λ b. (y.label == p.0 && y.key == p.1) || b) (more_named xs x is has p) ∙ regroup (y.label == p.0 && y.key == p.1) (has_pair p (pairs_of xs)) (named_pair names label key p)
      where
        regroup : (a b c : Bool) → (a || (b || c)) ≡ ((a || b) || c)
        regroup true b c = refl
        regroup false b c = refl

    -- the pair goes
    less_step : (e c m r s : Bool) → (e ≡ true → c ≡ m) → (c ≡ true → e ≡ m) → r ≡ (s && not m) → cond (not c) (e || r) r ≡ ((e || s) && not m)
    less_step true true true r s f g h = h ∙ none s
      where
        none : (s : Bool) → (s && false) ≡ false
        none true = refl
        none false = refl
    less_step true true false r s f g h = absurd (cc (f refl))
    less_step true false true r s f g h = absurd (cc (f refl))
    less_step true false false r s f g h = refl
    less_step false true true r s f g h = absurd (cc (g refl))
    less_step false true false r s f g h = h
    less_step false false m r s f g h = h

    less_filtered : (p : ℕ × ℕ) (pairs : List (ℕ × ℕ)) → has_pair p (filter (λ q. not (q.0 == l && q.1 == k)) pairs) ≡ (has_pair p pairs && not (l == p.0 && k == p.1))
    less_filtered p [] = refl
    less_filtered p (q ∷ pairs) =
        kept (not (q.0 == l && q.1 == k)) ∙ less_step (q.0 == p.0 && q.1 == p.1) (q.0 == l && q.1 == k) (l == p.0 && k == p.1) (has_pair p (filter (λ q. not (q.0 == l && q.1 == k)) pairs)) (has_pair p pairs)
        (λ e. ap (λ x. x == l && q.1 == k) (same_number q.0 p.0 (and_left (q.0 == p.0) (q.1 == p.1) e)) ∙ ap (λ x. p.0 == l && x == k) (same_number q.1 p.1 (and_right (q.0 == p.0) (q.1 == p.1) e)) ∙ (λ t. equal_turned p.0 l t && equal_turned p.1 k t))
        (λ c. ap (λ x. x == p.0 && q.1 == p.1) (same_number q.0 l (and_left (q.0 == l) (q.1 == k) c)) ∙ ap (λ x. l == p.0 && x == p.1) (same_number q.1 k (and_right (q.0 == l) (q.1 == k) c)))
        (less_filtered p pairs)
      where
        kept : (b : Bool) → has_pair p (cond b (q ∷ filter (λ q. not (q.0 == l && q.1 == k)) pairs) (filter (λ q. not (q.0 == l && q.1 == k)) pairs))
            ≡ cond b ((q.0 == p.0 && q.1 == p.1) || has_pair p (filter (λ q. not (q.0 == l && q.1 == k)) pairs)) (has_pair p (filter (λ q. not (q.0 == l && q.1 == k)) pairs))
        kept true = refl
        kept false = refl

    less_is : (old new : List (ℕ × ℕ)) → new ≡ filter (λ q. not (q.0 == l && q.1 == k)) old → IsOneLess names label key old new
    less_is old new is p = ap (has_pair p) is ∙ less_filtered p old ∙ ap (λ b. has_pair p old && not b) (sym (named_is p))

  pub less_named : (l k : ℕ) → position (bytes_eq label) names ≡ Some l → position (bytes_eq key) names ≡ Some k → (old new : List (ℕ × ℕ)) → new ≡ filter (λ q. not (q.0 == l && q.1 == k)) old → IsOneLess names label key old new
  less_named l k at by old new is = less_is l k (found_text label names l at) (found_text key names k by) old new is

  nothing_less : (a b : Bool) → b ≡ false → a ≡ (a && not b)
  nothing_less true false h = refl
  nothing_less false b h = refl
  nothing_less true true h = absurd cc

  not_both_left : (a b : Bool) → a ≡ false → (a && b) ≡ false
  not_both_left false b h = refl
  not_both_left true b h = absurd cc

  not_both_right : (a b : Bool) → b ≡ false → (a && b) ≡ false
  not_both_right a false h = by_left a
    where
      by_left : (a : Bool) → (a && false) ≡ false
      by_left true = refl
      by_left false = refl
  not_both_right a true h = absurd cc

  no_such : (text : List ℕ) (n : ℕ) → position (bytes_eq text) names ≡ None → has_text names text n ≡ false
  no_such text n missing = by_test (has_text names text n) refl
    where
      by_test : (b : Bool) → has_text names text n ≡ b → b ≡ false
      by_test false h = refl
      by_test true h = let there = number_is names distinct text n h in absurd (cc (there, missing))

  pub none_less_label : position (bytes_eq label) names ≡ None → (pairs : List (ℕ × ℕ)) → IsOneLess names label key pairs pairs
  none_less_label missing pairs p = nothing_less (has_pair p pairs) (named_pair names label key p) (not_both_left (has_text names label p.0) (has_text names key p.1) (no_such label p.0 missing))

  pub none_less_key : position (bytes_eq key) names ≡ None → (pairs : List (ℕ × ℕ)) → IsOneLess names label key pairs pairs
  none_less_key missing pairs p = nothing_less (has_pair p pairs) (named_pair names label key p) (not_both_right (has_text names label p.0) (has_text names key p.1) (no_such key p.1 missing))

-- ---- indexes in a list

pub fewer_find : (xs : List PropertyIndex) (at label key : ℕ) (v : Value) (i : ℕ) → all_find xs label key v i ≡ true → all_find (remove xs at) label key v i ≡ true
fewer_find [] at label key v i h = none_find at
  where
    none_find : (at : ℕ) → all_find (remove [] at) label key v i ≡ true
    none_find zero = refl
    none_find (suc at) = refl
fewer_find (x ∷ xs) zero label key v i h = and_right (not (is_for x label key) || finds x v i) (all_find xs label key v i) h
fewer_find (x ∷ xs) (suc at) label key v i h = and_both _ _ (and_left _ (all_find xs label key v i) h) (fewer_find xs at label key v i (and_right (not (is_for x label key) || finds x v i) (all_find xs label key v i) h))

pub one_more_finds : (xs : List PropertyIndex) (x : PropertyIndex) (label key : ℕ) (v : Value) (i : ℕ) → all_find xs label key v i ≡ true → (is_for x label key ≡ true → finds x v i ≡ true) → all_find (xs ++ x ∷ []) label key v i ≡ true
one_more_finds [] x label key v i h last = and_both _ _ (by_test (is_for x label key) refl) refl
  where
    by_test : (b : Bool) → is_for x label key ≡ b → (not b || finds x v i) ≡ true
    by_test false is = refl
    by_test true is = last is
one_more_finds (y ∷ xs) x label key v i h last = and_both _ _ (and_left _ (all_find xs label key v i) h) (one_more_finds xs x label key v i (and_right (not (is_for y label key) || finds y v i) (all_find xs label key v i) h) last)

pub last_pair : (xs : List PropertyIndex) (x : PropertyIndex) (label key : ℕ) → x.label ≡ label → x.key ≡ key → has_pair (label, key) (pairs_of (xs ++ x ∷ [])) ≡ true
last_pair [] x label key l k = ap (λ b. b || false) (and_both (x.label == label) (x.key == key) (equal_number x.label label l) (equal_number x.key key k))
last_pair (y ∷ xs) x label key l k = or_right (y.label == label && y.key == key) (has_pair (label, key) (pairs_of (xs ++ x ∷ []))) (last_pair xs x label key l k)

-- ---- sets

-- sets that keep fewer indexes
pub fewer_grow : (old new : Sets) → new.all ≡ old.all → new.labels ≡ old.labels
    → ((label key : ℕ) (v : Value) (i : ℕ) → all_find old.indexes.items label key v i ≡ true → all_find new.indexes.items label key v i ≡ true) → Grows (has_in old) (has_in new)
fewer_grow old new all labels fewer every i h = ap (λ ids. has_in (record old { all = ids }) every i) all ∙ h
fewer_grow old new all labels fewer (with_label l) i h = ap (λ ids. has_in (record old { labels = ids }) (with_label l) i) labels ∙ h
fewer_grow old new all labels fewer (with_value l k v) i h = fewer l k v i h

-- sets with one index more, which has the nodes that there are
pub indexed_covers : (old new : Sets) (s : State) (x : PropertyIndex) (label key : ℕ) → new.all ≡ old.all → new.labels ≡ old.labels → new.indexes.items ≡ old.indexes.items ++ x ∷ []
    → x.label ≡ label → x.key ≡ key
    → ((i : ℕ) (n : NodeRecord) (v : Value) → map.get s.content.nodes i ≡ Some n → is_found_by label key v n ≡ true → finds x v i ≡ true)
    → Covers (has_in old) s → Covers (has_in new) s
indexed_covers old new s x label key all labels more is by filled covers every i n at found = ap (λ ids. has_in (record old { all = ids }) every i) all ∙ covers every i n at found
indexed_covers old new s x label key all labels more is by filled covers (with_label l) i n at found = ap (λ ids. has_in (record old { labels = ids }) (with_label l) i) labels ∙ covers (with_label l) i n at found
indexed_covers old new s x label key all labels more is by filled covers (with_value l k v) i n at found =
    ap (λ xs. all_find xs l k v i) more
    ∙ one_more_finds old.indexes.items x l k v i (covers (with_value l k v) i n at found)
    (λ same.
    let l_is : l ≡ label = sym (same_number x.label l (and_left (x.label == l) (x.key == k) same)) ∙ is in
    let k_is : k ≡ key = sym (same_number x.key k (and_right (x.label == l) (x.key == k) same)) ∙ by in
    filled i n v at (ap (λ q. is_found_by q key v n) (sym l_is) ∙ ap (λ q. is_found_by l q v n) (sym k_is) ∙ found))

pub indexed_fit : {T S K : Type 0} (seen : Seen T S) (store : Store T) (shared : Shared S K) (sets : Sets) → IsFit seen store shared → store.journal.items ≡ [] → Covers (has_in sets) (state_of seen store shared) → AreNoted (is_in sets) sets.stale_ids.items (state_of seen store shared) → IsFit seen (record store { sets = sets }) shared
indexed_fit seen store shared sets fit nothing covers noted = record {
  fits = fit.fits;
  well = fit.well;
  journal = fit.journal;
  covered = subst (λ (es : List Entry). HasCovered (has_in sets) es (state_of seen store shared)) (sym nothing) covers;
  noted = subst (λ (es : List Entry). HasNoted (is_in sets) sets.stale_ids.items es (state_of seen store shared)) (sym nothing) noted;
  none_gone = fit.none_gone;
}

-- sets with one index more, which has only nodes that belong there
indexed_noted : (old new : Sets) (s : State) (x : PropertyIndex) (label key : ℕ) → new.all ≡ old.all → new.labels ≡ old.labels → new.stale_ids ≡ old.stale_ids → new.indexes.items ≡ old.indexes.items ++ x ∷ []
    → x.label ≡ label → x.key ≡ key → ((i : ℕ) (v : Value) → finds x v i ≡ true → is_there s (with_value label key v) i ≡ true)
    → AreNoted (is_in old) old.stale_ids.items s → AreNoted (is_in new) new.stale_ids.items s
indexed_noted old new s x label key all labels stale_ids more is by only was every i h = ap (λ ns. is_there s every i || is_noted ns.items every i) stale_ids ∙ was every i (ap (λ ids. is_in (record old { all = ids }) every i) (sym all) ∙ h)
indexed_noted old new s x label key all labels stale_ids more is by only was (with_label l) i h = ap (λ ns. is_there s (with_label l) i || is_noted ns.items (with_label l) i) stale_ids ∙ was (with_label l) i (ap (λ ids. is_in (record old { labels = ids }) (with_label l) i) (sym labels) ∙ h)
indexed_noted old new s x label key all labels stale_ids more is by only was (with_value l k v) i h =
    ap (λ ns. is_there s (with_value l k v) i || is_noted ns.items (with_value l k v) i) stale_ids
    ∙ or_either (some_finds old.indexes.items l k v i) ((is_for x l k && finds x v i) || false) (is_there s (with_value l k v) i || is_noted old.stale_ids.items (with_value l k v) i) (was (with_value l k v) i)
    (λ g. or_left (is_there s (with_value l k v) i) (is_noted old.stale_ids.items (with_value l k v) i) (here (alone (is_for x l k && finds x v i) g)))
    (sym (ap (λ xs. some_finds xs l k v i) more ∙ list_any-append (λ y. is_for y l k && finds y v i) old.indexes.items (x ∷ [])) ∙ h)
  where
    alone : (b : Bool) → (b || false) ≡ true → b ≡ true
    alone true g = refl
    alone false g = g

    here : (is_for x l k && finds x v i) ≡ true → is_there s (with_value l k v) i ≡ true
    here g =
        let for = and_left (is_for x l k) (finds x v i) g in
        let l_is : l ≡ label = sym (same_number x.label l (and_left (x.label == l) (x.key == k) for)) ∙ is in
        let k_is : k ≡ key = sym (same_number x.key k (and_right (x.label == l) (x.key == k) for)) ∙ by in
        ap (λ q. is_there s (with_value q k v) i) l_is ∙ ap (λ q. is_there s (with_value label q v) i) k_is ∙ only i v (and_right (is_for x l k) (finds x v i) g)

same_in : (old new : Sets) → new.all ≡ old.all → new.labels ≡ old.labels → new.indexes.items ≡ old.indexes.items → (k : Key) (i : ℕ) → is_in old k i ≡ is_in new k i
same_in old new all labels same every i = ap (λ ids. is_in (record old { all = ids }) every i) (sym all)
same_in old new all labels same (with_label l) i = ap (λ ids. is_in (record old { labels = ids }) (with_label l) i) (sym labels)
same_in old new all labels same (with_value l k v) i = ap (λ xs. some_finds xs l k v i) (sym same)

-- an index that was filled is kept, or found no memory
pub kept_fit : {T S K V E : Type 0} (seen : Seen T S) (store : Store T) (shared : Shared S K) (sets : Sets) → IsFit seen store shared → store.journal.items ≡ [] → (x : PropertyIndex) (label key : ℕ)
    → sets.all ≡ store.sets.all → sets.labels ≡ store.sets.labels → sets.stale_ids ≡ store.sets.stale_ids → x.label ≡ label → x.key ≡ key
    → ((i : ℕ) (n : NodeRecord) (v : Value) → map.get (state_of seen store shared).content.nodes i ≡ Some n → is_found_by label key v n ≡ true → finds x v i ≡ true)
    → ((i : ℕ) (v : Value) → finds x v i ≡ true → is_there (state_of seen store shared) (with_value label key v) i ≡ true)
    → (r : Result V E) → OnOk r (sets.indexes.items ≡ store.sets.indexes.items ++ x ∷ []) → OnErr r (sets.indexes.items ≡ store.sets.indexes.items) → IsFit seen (record store { sets = sets }) shared
kept_fit seen store shared sets fit nothing x label key all labels stale_ids is by filled only (Ok v) more same =
    indexed_fit seen store shared sets fit nothing
    (indexed_covers store.sets sets (state_of seen store shared) x label key all labels more is by filled (covers_now (has_in store.sets) store.journal.items (state_of seen store shared) fit.covered))
    (indexed_noted store.sets sets (state_of seen store shared) x label key all labels stale_ids more is by only (noted_now (is_in store.sets) store.sets.stale_ids.items store.journal.items (state_of seen store shared) fit.noted))
kept_fit seen store shared sets fit nothing x label key all labels stale_ids is by filled only (Err e) more same =
    grown_fit seen store shared sets fit (fewer_grow store.sets sets all labels (λ l k v i h. ap (λ xs. all_find xs l k v i) same ∙ h))
    (λ k i h. or_left (is_in store.sets k i) (is_noted sets.stale_ids.items k i) (same_in store.sets sets all labels same k i ∙ h))
    (λ k i h. ap (λ ns. is_noted ns.items k i) stale_ids ∙ h)
