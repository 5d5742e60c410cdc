-- What a property index that gains an id, or loses one, says of all values.
use Rattle.std.proofs.Common.{◌≡◌, ◌==◌, ◌<◌, ℕ, zero, suc, Bool, true, false, not, cond, List, [], ◌∷◌, length, take, get_or, Result, Ok, Err, OnOk, OnErr, inl, inr, arith, refl, sym, ap, ◌∙◌}
use Rattle.std.specs.Prelude.{◌&&◌, ◌||◌}
use Rattle.std.proofs.Math.ListN.{set}
use Rattle.std.proofs.lemmas.Bool.{cases_eq, eqb-true}
use Rattle.std.proofs.lemmas.Bool.Decides.{nat_tests}
use Rattle.std.specs.Cmp.{Equal-is, tied_itself}
use Rattle.std.specs.FinMap as map
use Rattle.std.specs.Ordering.{is_eq}
use Rattle.pg_graph.proofs.Removed.{has_inserted, has_inserted_other, has_removed, has_removed_other, still_some}
use Rattle.pg_graph.specs.Removed.{Ids, has_id}
use Rattle.pg_graph.specs.declared.records.NodeRecord.{NodeRecord}
use Rattle.pg_index.proofs.Indexes.{found_alike}
use Rattle.pg_index.proofs.ValuedIdsLemmas.{one_equiv}
use Rattle.pg_index.specs.Index.{the_ids}
use Rattle.pg_index.specs.Properties.{by_value, finds, is_equal, is_found_by, is_for, is_one_value, all_find, some_finds, pairs_of}
use Rattle.pg_index.specs.ValuedIds.{ids_under}
use Rattle.pg_index.specs.declared.properties.PropertyIndex.{PropertyIndex}
use Rattle.pg_meaning.specs.Equality.{eq3}
use Rattle.pg_meaning.specs.EqualityLaws.{eq3_exact}
use Rattle.pg_meaning.specs.Logic.{is_true}
use Rattle.pg_meaning.specs.Order.{value_order}
use Rattle.pg_meaning.specs.OrderLaws.{order_exact, order_total}
use Rattle.pg_meaning.specs.Value as meaning
use Rattle.pg_meaning.specs.declared.logic.Tri.{Tri}
use Rattle.pg_meaning.specs.declared.logic.Tri.TheVariants.{True, False, Null}
use Rattle.pg_value_core.specs.View.{view}
use Rattle.pg_value_core.specs.declared.value.Value.{Value}

truly : (t : Tri) → is_true t ≡ true → t ≡ True
truly True h = refl
truly False h = absurd cc
truly Null h = absurd cc

-- what is equal is found in the same place
pub equal_at : (w v : Value) → is_equal (view w) v ≡ true → is_one_value w v ≡ true
equal_at w v h =
    let same : view w ≡ view v = eq3_exact (view w) (view v) (truly (eq3 (view w) (view v)) h) in
    ap (λ x. is_eq (value_order (view w) x)) (sym same) ∙ ap is_eq (tied_itself order_total (view w))

pub same_value : (w v : Value) → is_one_value w v ≡ true → view w ≡ view v
same_value w v h = order_exact (view w) (view v) ((Equal-is (by_value w v)).0 h)

-- what is not equal to itself is equal to nothing
pub none_equal : (w v : Value) (t : Tri) → t ≡ eq3 (view w) (view w) → (t ≡ True → ⊥) → false ≡ is_equal (view w) v
none_equal w v t is not = by_test (is_equal (view w) v) refl
  where
    by_test : (b : Bool) → is_equal (view w) v ≡ b → false ≡ b
    by_test false h = refl
    by_test true h =
        let same : view w ≡ view v = eq3_exact (view w) (view v) (truly (eq3 (view w) (view v)) h) in
        let itself : is_true (eq3 (view w) (view w)) ≡ true = ap (λ x. is_true (eq3 (view w) x)) same ∙ h in
        absurd (not (truly t (ap is_true is ∙ itself)))

-- what the order has as one is equal, where it is equal to itself
pub equal_of : (w v : Value) → is_equal (view w) w ≡ true → is_one_value w v ≡ true → is_equal (view w) v ≡ true
equal_of w v itself is = ap (λ x. is_true (eq3 (view w) x)) (sym (same_value w v is)) ∙ itself

-- an index finds the same ids under both
pub one_found : (index : PropertyIndex) (w v : Value) (i : ℕ) → is_one_value w v ≡ true → finds index v i ≡ finds index w i
one_found index w v i h = ap (λ found. has_id (the_ids found) i) (found_alike one_equiv index.ids.sets.entries w v h)

-- ---- tests

or_left : (a b : Bool) → a ≡ true → (a || b) ≡ true
or_left true b h = refl
or_left false b h = absurd cc

or_right : (a b : Bool) → b ≡ true → (a || b) ≡ true
or_right true b h = refl
or_right false b h = h

equal_number : (m n : ℕ) → m ≡ n → (m == n) ≡ true
equal_number m n h = grind (arith, nat_tests)

other_number : (m n : ℕ) → (m ≡ n → ⊥) → (m == n) ≡ false
other_number m n h = by_test (m == n) refl
  where
    by_test : (b : Bool) → (m == n) ≡ b → b ≡ false
    by_test false e = refl
    by_test true e = absurd (h (eqb-true m n e))

and_both_true : (a b : Bool) → a ≡ true → b ≡ true → (a && b) ≡ true
and_both_true true b h e = e
and_both_true false b h e = h

less_itself : (a b : Bool) → b ≡ false → a ≡ (a && not b)
less_itself true false h = refl
less_itself false b h = refl
less_itself true true h = absurd cc

less_all : (a b : Bool) → b ≡ true → false ≡ (a && not b)
less_all true true h = refl
less_all false b h = refl
less_all true false h = absurd cc

pub or_and_more : (a b c d : Bool) → (b ≡ true → c ≡ true) → (a || (b && d)) ≡ true → (a || (c && d)) ≡ true
or_and_more true b c d f h = refl
or_and_more false true c d f h = ap (λ x. x && d) (f refl) ∙ h
or_and_more false false c d f h = absurd cc

module _ (old new : PropertyIndex) (value : Value) (id : ℕ) where
  same_ids : (q : Value) → is_one_value value q ≡ true → ids_under old.ids q ≡ ids_under old.ids value
  same_ids q h = ap the_ids (found_alike one_equiv old.ids.sets.entries value q h)

  abbrev pub Put : Type 0
  Put = (q : Value) → ids_under new.ids q ≡ cond (is_one_value value q) (map.insert (ids_under old.ids value) id tt) (ids_under old.ids q)

  abbrev pub Same : Type 0
  Same = (q : Value) → ids_under new.ids q ≡ ids_under old.ids q

  pub put_grows : Put → (q : Value) (i : ℕ) → finds old q i ≡ true → finds new q i ≡ true
  put_grows put q i h = ap (λ (ids : Ids). has_id ids i) (put q) ∙ by_test (is_one_value value q) refl
    where
      by_test : (b : Bool) → is_one_value value q ≡ b → has_id (cond b (map.insert (ids_under old.ids value) id tt) (ids_under old.ids q)) i ≡ true
      by_test true is = still_some (ids_under old.ids value) id tt i (ap (λ (ids : Ids). has_id ids i) (sym (same_ids q is)) ∙ h)
      by_test false is = h

  pub value_grows : {V E : Type 0} (r : Result V E) → OnOk r Put → OnErr r Same → (q : Value) (i : ℕ) → finds old q i ≡ true → finds new q i ≡ true
  value_grows (Ok v) put same q i h = put_grows put q i h
  value_grows (Err e) put same q i h = ap (λ (ids : Ids). has_id ids i) (same q) ∙ h

  pub put_there : (w : meaning.Value) → view value ≡ w → Put → (v : Value) → is_equal w v ≡ true → finds new v id ≡ true
  put_there w is put = λ v h.
      ap (λ (ids : Ids). has_id ids id) (put v)
      ∙ ap (λ b. has_id (cond b (map.insert (ids_under old.ids value) id tt) (ids_under old.ids v)) id) (equal_at value v (ap (λ (x : meaning.Value). is_true (eq3 x (view v))) is ∙ h))
      ∙ has_inserted (ids_under old.ids value) id

  pub value_there : {V E : Type 0} (r : Result V E) (w : meaning.Value) → view value ≡ w → OnOk r Put → OnOk r ((v : Value) → is_equal w v ≡ true → finds new v id ≡ true)
  value_there (Err e) w is put = tt
  value_there (Ok x) w is put = put_there w is put

  pub put_comes : Put → (q : Value) (i : ℕ) → finds new q i ≡ true → (finds old q i || (is_one_value value q && i == id)) ≡ true
  put_comes put q i now = by_test (is_one_value value q) refl (sym (ap (λ (ids : Ids). has_id ids i) (put q)) ∙ now)
    where
      by_test : (b : Bool) → is_one_value value q ≡ b → has_id (cond b (map.insert (ids_under old.ids value) id tt) (ids_under old.ids q)) i ≡ true → (finds old q i || (is_one_value value q && i == id)) ≡ true
      by_test false is now = or_left (finds old q i) (is_one_value value q && i == id) now
      by_test true is now = elim (cases_eq i id) [
        | inl same ↦ or_right (finds old q i) (is_one_value value q && i == id) (and_both_true (is_one_value value q) (i == id) is (equal_number i id same))
        | inr ne ↦ or_left (finds old q i) (is_one_value value q && i == id) (ap (λ (ids : Ids). has_id ids i) (same_ids q is) ∙ sym (has_inserted_other (ids_under old.ids value) id i ne) ∙ now)
      ]

  pub same_comes : Same → (q : Value) (i : ℕ) → finds new q i ≡ true → (finds old q i || (is_one_value value q && i == id)) ≡ true
  same_comes same q i now = or_left (finds old q i) (is_one_value value q && i == id) (sym (ap (λ (ids : Ids). has_id ids i) (same q)) ∙ now)

  pub value_comes : {V E : Type 0} (r : Result V E) → OnOk r Put → OnErr r Same → (q : Value) (i : ℕ) → finds new q i ≡ true → (finds old q i || (is_one_value value q && i == id)) ≡ true
  value_comes (Ok v) put same = put_comes put
  value_comes (Err e) put same = same_comes same

  pub value_left : ((q : Value) → ids_under new.ids q ≡ cond (is_one_value value q) (map.remove (ids_under old.ids value) id) (ids_under old.ids q))
      → (q : Value) (i : ℕ) → finds new q i ≡ (finds old q i && not (is_one_value value q && i == id))
  value_left gone q i = ap (λ (ids : Ids). has_id ids i) (gone q) ∙ by_test (is_one_value value q) refl
    where
      by_test : (b : Bool) → is_one_value value q ≡ b → has_id (cond b (map.remove (ids_under old.ids value) id) (ids_under old.ids q)) i ≡ (finds old q i && not (is_one_value value q && i == id))
      by_test false is = less_itself (finds old q i) (is_one_value value q && i == id) (ap (λ b. b && i == id) is)
      by_test true is = elim (cases_eq i id) [
        | inl same ↦ ap (has_id (map.remove (ids_under old.ids value) id)) same ∙ has_removed (ids_under old.ids value) id
            ∙ less_all (finds old q i) (is_one_value value q && i == id) (and_both_true (is_one_value value q) (i == id) is (equal_number i id same))
        | inr ne ↦ has_removed_other (ids_under old.ids value) id i ne ∙ sym (ap (λ (ids : Ids). has_id ids i) (same_ids q is))
            ∙ less_itself (finds old q i) (is_one_value value q && i == id) (ap (λ b. b && i == id) is ∙ other_number i id ne)
      ]

  pub value_loses : ((q : Value) → ids_under new.ids q ≡ cond (is_one_value value q) (map.remove (ids_under old.ids value) id) (ids_under old.ids q))
      → (q : Value) (i : ℕ) → finds old q i ≡ true → finds new q i ≡ false → (view q ≡ view value) × (i ≡ id)
  value_loses gone q i was now = by_test (is_one_value value q) refl (sym (ap (λ (ids : Ids). has_id ids i) (gone q)) ∙ now)
    where
      by_test : (b : Bool) → is_one_value value q ≡ b → has_id (cond b (map.remove (ids_under old.ids value) id) (ids_under old.ids q)) i ≡ false → (view q ≡ view value) × (i ≡ id)
      by_test false is now = absurd (cc (was, now))
      by_test true is now = elim (cases_eq i id) [
        | inl same ↦ (sym (same_value value q is), same)
        | inr ne ↦
            let other = has_removed_other (ids_under old.ids value) id i ne in
            let here = ap (λ (ids : Ids). has_id ids i) (same_ids q is) in
            absurd (cc)
      ]

-- ---- several indexes

and_both : (a b : Bool) → a ≡ true → b ≡ true → (a && b) ≡ true
and_both true true h e = refl
and_both true false h e = e
and_both false b h e = h

and_left : (a b : Bool) → (a && b) ≡ true → a ≡ true
and_left true b h = refl
and_left false b h = h

and_right : (a b : Bool) → (a && b) ≡ true → b ≡ true
and_right true b h = h
and_right false b h = absurd cc

or_more : (a b c : Bool) → (b ≡ true → c ≡ true) → (a || b) ≡ true → (a || c) ≡ true
or_more true b c f h = refl
or_more false b c f h = f h

-- an index that only gains ids
pub record Gains (old new : PropertyIndex) : Type 0 where
  pub label : new.label ≡ old.label
  pub key : new.key ≡ old.key
  pub grown : (v : Value) (i : ℕ) → finds old v i ≡ true → finds new v i ≡ true

one_grows : (old new : PropertyIndex) (label key : ℕ) (v : Value) (i : ℕ) → Gains old new → (not (is_for old label key) || finds old v i) ≡ true → (not (is_for new label key) || finds new v i) ≡ true
one_grows old new label key v i gains h =
    ap (λ l. not ((l == label) && (new.key == key)) || finds new v i) gains.label ∙ ap (λ k. not ((old.label == label) && (k == key)) || finds new v i) gains.key
    ∙ or_more (not (is_for old label key)) (finds old v i) (finds new v i) (gains.grown v i) h

pub set_grows : (xs : List PropertyIndex) (at : ℕ) (y d : PropertyIndex) (label key : ℕ) (v : Value) (i : ℕ) → Gains (get_or xs at d) y → all_find xs label key v i ≡ true → all_find (set xs at y) label key v i ≡ true
set_grows [] at y d label key v i gains h = h
set_grows (x ∷ xs) zero y d label key v i gains h =
    and_both _ _ (one_grows x y label key v i gains (and_left _ (all_find xs label key v i) h)) (and_right (not (is_for x label key) || finds x v i) (all_find xs label key v i) h)
set_grows (x ∷ xs) (suc at) y d label key v i gains h =
    and_both _ _ (and_left _ (all_find xs label key v i) h) (set_grows xs at y d label key v i gains (and_right (not (is_for x label key) || finds x v i) (all_find xs label key v i) h))

pub set_pairs_of : (xs : List PropertyIndex) (at : ℕ) (y d : PropertyIndex) → y.label ≡ (get_or xs at d).label → y.key ≡ (get_or xs at d).key → pairs_of (set xs at y) ≡ pairs_of xs
set_pairs_of [] at y d label key = refl
set_pairs_of (x ∷ xs) zero y d label key = ap (λ l. (l, y.key) ∷ pairs_of xs) label ∙ ap (λ k. (x.label, k) ∷ pairs_of xs) key
set_pairs_of (x ∷ xs) (suc at) y d label key = ap (λ ps. (x.label, x.key) ∷ ps) (set_pairs_of xs at y d label key)

pub set_pairs : (xs : List PropertyIndex) (at : ℕ) (y d : PropertyIndex) → Gains (get_or xs at d) y → pairs_of (set xs at y) ≡ pairs_of xs
set_pairs xs at y d gains = set_pairs_of xs at y d gains.label gains.key

-- what the index at a place finds
abbrev pub One : PropertyIndex → (label key : ℕ) → Value → ℕ → Type 0
One y label key v id = (not (is_for y label key) || finds y v id) ≡ true

pub one_covered : (y : PropertyIndex) (n : NodeRecord) (id label key : ℕ) (v : Value) → ((w : Value) → is_found_by y.label y.key w n ≡ true → finds y w id ≡ true) → is_found_by label key v n ≡ true → One y label key v id
one_covered y n id label key v covered h = by_label (y.label == label) refl
  where
    by_key : (b : Bool) → (y.key == key) ≡ b → y.label ≡ label → (not b || finds y v id) ≡ true
    by_key false e same = refl
    by_key true e same = covered v (ap (λ l. is_found_by l y.key v n) same ∙ ap (λ k. is_found_by label k v n) (eqb-true y.key key e) ∙ h)

    by_label : (b : Bool) → (y.label == label) ≡ b → (not (b && (y.key == key)) || finds y v id) ≡ true
    by_label false e = refl
    by_label true e = by_key (y.key == key) refl (eqb-true y.label label e)

pub done_step : (xs : List PropertyIndex) (at : ℕ) (y : PropertyIndex) (label key : ℕ) (v : Value) (id : ℕ) → at < length xs → all_find (take at xs) label key v id ≡ true → One y label key v id → all_find (take (suc at) (set xs at y)) label key v id ≡ true
done_step [] at y label key v id within h one = absurd (omega (arith, within))
done_step (x ∷ xs) zero y label key v id within h one = and_both _ _ one refl
done_step (x ∷ xs) (suc at) y label key v id within h one =
    and_both _ _ (and_left _ (all_find (take at xs) label key v id) h) (done_step xs at y label key v id (omega (arith, within)) (and_right (not (is_for x label key) || finds x v id) (all_find (take at xs) label key v id) h) one)

-- the first index of the label and the key
pub member_finds : (xs : List PropertyIndex) (at : ℕ) (d : PropertyIndex) (label key : ℕ) (v : Value) (i : ℕ) → at < length xs → is_for (get_or xs at d) label key ≡ true → all_find xs label key v i ≡ true → finds (get_or xs at d) v i ≡ true
member_finds [] at d label key v i within is h = absurd (omega (arith, within))
member_finds (x ∷ xs) zero d label key v i within is h = ap (λ b. not b || finds x v i) (sym is) ∙ and_left (not (is_for x label key) || finds x v i) (all_find xs label key v i) h
member_finds (x ∷ xs) (suc at) d label key v i within is h = member_finds xs at d label key v i (omega (arith, within)) is (and_right (not (is_for x label key) || finds x v i) (all_find xs label key v i) h)

-- ---- an index that loses an id

same_number : (a b : ℕ) → (a == b) ≡ true → a ≡ b
same_number a b h = eqb-true a b h

pub is_for_both : (x : PropertyIndex) (label key : ℕ) → is_for x label key ≡ true → (x.label ≡ label) × (x.key ≡ key)
is_for_both x label key h = (same_number x.label label (and_left (x.label == label) (x.key == key) h), same_number x.key key (and_right (x.label == label) (x.key == key) h))

false_right : (a b : Bool) → a ≡ true → (a && b) ≡ false → b ≡ false
false_right true b is h = h
false_right false b is h = absurd cc

one_loses : (f a b r : Bool) → ((not f || a) && r) ≡ true → ((not f || b) && r) ≡ false → (f ≡ true) × ((a ≡ true) × (b ≡ false))
one_loses false a b r was now = absurd (cc (was, now))
one_loses true false b r was now = absurd (cc (was))
one_loses true true true r was now = absurd (cc (was, now))
one_loses true true false r was now = (refl, (refl, refl))

pub set_loses : (xs : List PropertyIndex) (at : ℕ) (y d : PropertyIndex) (label key : ℕ) (v : Value) (i : ℕ) → y.label ≡ (get_or xs at d).label → y.key ≡ (get_or xs at d).key
    → all_find xs label key v i ≡ true → all_find (set xs at y) label key v i ≡ false
    → (is_for (get_or xs at d) label key ≡ true) × ((finds (get_or xs at d) v i ≡ true) × (finds y v i ≡ false))
set_loses [] at y d label key v i l k was now = absurd (cc (was, now))
set_loses (x ∷ xs) zero y d label key v i l k was now =
    one_loses (is_for x label key) (finds x v i) (finds y v i) (all_find xs label key v i) was
    (sym (ap (λ m. (not ((m == label) && (y.key == key)) || finds y v i) && all_find xs label key v i) l ∙ ap (λ m. (not ((x.label == label) && (m == key)) || finds y v i) && all_find xs label key v i) k) ∙ now)
set_loses (x ∷ xs) (suc at) y d label key v i l k was now =
    set_loses xs at y d label key v i l k (and_right (not (is_for x label key) || finds x v i) (all_find xs label key v i) was)
    (false_right (not (is_for x label key) || finds x v i) (all_find (set xs at y) label key v i) (and_left _ (all_find xs label key v i) was) now)

-- ---- some index of a label and a key

one_comes : (ax ay fx fy r f : Bool) → ax ≡ ay → (ay ≡ true → fy ≡ true → (fx || f) ≡ true) → ((ay && fy) || r) ≡ true → (((ax && fx) || r) || f) ≡ true
one_comes true true true fy r f is one h = refl
one_comes true true false true true f is one h = refl
one_comes true true false true false f is one h = one refl refl
one_comes true true false false true f is one h = refl
one_comes true true false false false f is one h = absurd cc
one_comes false false fx fy true f is one h = refl
one_comes false false fx fy false f is one h = absurd cc
one_comes true false fx fy r f is one h = absurd cc
one_comes false true fx fy r f is one h = absurd cc

rest_comes : (a r s f : Bool) → (r ≡ true → (s || f) ≡ true) → (a || r) ≡ true → ((a || s) || f) ≡ true
rest_comes true r s f rest h = refl
rest_comes false r s f rest h = rest h

pub comes_on : (a b f : Bool) → (a ≡ true → (b || f) ≡ true) → (a || f) ≡ true → (b || f) ≡ true
comes_on true b f on h = on refl
comes_on false true f on h = refl
comes_on false false f on h = h

same_for : (x y : PropertyIndex) (label key : ℕ) → y.label ≡ x.label → y.key ≡ x.key → is_for x label key ≡ is_for y label key
same_for x y label key l k = ap (λ m. m == label && x.key == key) (sym l) ∙ ap (λ m. y.label == label && m == key) (sym k)

pub set_comes : (xs : List PropertyIndex) (at : ℕ) (y d : PropertyIndex) (n : NodeRecord) (id label key : ℕ) (v : Value) (i : ℕ) → y.label ≡ (get_or xs at d).label → y.key ≡ (get_or xs at d).key
    → (finds y v i ≡ true → (finds (get_or xs at d) v i || (is_found_by y.label y.key v n && i == id)) ≡ true)
    → some_finds (set xs at y) label key v i ≡ true → (some_finds xs label key v i || (is_found_by label key v n && i == id)) ≡ true
set_comes [] at y d n id label key v i l k one h = absurd cc
set_comes (x ∷ xs) zero y d n id label key v i l k one h =
    one_comes (is_for x label key) (is_for y label key) (finds x v i) (finds y v i) (some_finds xs label key v i) (is_found_by label key v n && i == id)
    (same_for x y label key l k)
    (λ for found.
    let both = is_for_both y label key for in
    ap (λ q. finds x v i || (is_found_by q key v n && i == id)) (sym both.0) ∙ ap (λ q. finds x v i || (is_found_by y.label q v n && i == id)) (sym both.1) ∙ one found)
    h
set_comes (x ∷ xs) (suc at) y d n id label key v i l k one h =
    rest_comes (is_for x label key && finds x v i) (some_finds (set xs at y) label key v i) (some_finds xs label key v i) (is_found_by label key v n && i == id)
    (set_comes xs at y d n id label key v i l k one) h

-- an index that loses an id, or not
pub record Loses (x y : PropertyIndex) (l k : ℕ) (value : Value) (id : ℕ) : Type 0 where
  pub label : y.label ≡ x.label
  pub key : y.key ≡ x.key
  pub left : (v : Value) (i : ℕ) → finds y v i ≡ (finds x v i && not (is_for x l k && is_one_value value v && i == id))

-- whether an id under a value of a label and a key is the one that leaves
abbrev pub is_leaving : (label key : ℕ) → Value → ℕ → (l k : ℕ) → Value → ℕ → Bool
is_leaving label key value id l k v i = (label == l && key == k && is_one_value value v) && id == i

number_same : (a b : ℕ) → (a == b) ≡ (b == a)
number_same a b = by_test (a == b) refl
  where
    by_test : (t : Bool) → (a == b) ≡ t → t ≡ (b == a)
    by_test true is = sym (equal_number b a (sym (eqb-true a b is)))
    by_test false is = sym (other_number b a (λ same. absurd (cc (is, equal_number a b (sym same)))))

module _ (x y : PropertyIndex) (label key : ℕ) (value : Value) (id : ℕ) (loses : Loses x y label key value id) (l k : ℕ) (v : Value) (i : ℕ) where
  -- at an index of the label and the key that are looked at, what leaves is what is to leave
  leaving_here : is_for x l k ≡ true → (is_for x label key && is_one_value value v && i == id) ≡ is_leaving label key value id l k v i
  leaving_here for =
      let both = is_for_both x l k for in
      ap (λ m. (m == label && x.key == key) && is_one_value value v && i == id) both.0
      ∙ ap (λ m. (l == label && m == key) && is_one_value value v && i == id) both.1
      ∙ ap (λ b. (b && k == key) && is_one_value value v && i == id) (number_same l label)
      ∙ ap (λ b. (label == l && b) && is_one_value value v && i == id) (number_same k key)
      ∙ ap (λ b. (label == l && key == k) && is_one_value value v && b) (number_same i id)

  now_finds : is_for x l k ≡ true → finds y v i ≡ (finds x v i && not (is_leaving label key value id l k v i))
  now_finds for = loses.left v i ∙ ap (λ b. finds x v i && not b) (leaving_here for)

  pub still_finds : is_for x l k ≡ true → is_leaving label key value id l k v i ≡ false → finds x v i ≡ true → finds y v i ≡ true
  still_finds for other h = now_finds for ∙ (λ t. h t && not (other t))

  pub then_found : finds y v i ≡ true → finds x v i ≡ true
  then_found h = and_left (finds x v i) (not (is_for x label key && is_one_value value v && i == id)) (sym (loses.left v i) ∙ h)

  pub finds_no_more : is_for x l k ≡ true → is_leaving label key value id l k v i ≡ true → finds y v i ≡ false
  finds_no_more for same = now_finds for ∙ sym (less_all (finds x v i) (is_leaving label key value id l k v i) same)

module _ (label key : ℕ) (value : Value) (id l k : ℕ) (v : Value) (i : ℕ) where
  one_back : (a b f g r s : Bool) → a ≡ b → (g ≡ true → f ≡ true) → (s ≡ true → r ≡ true) → ((b && g) || s) ≡ true → ((a && f) || r) ≡ true
  one_back true true true g r s is one rest h = refl
  one_back true true false true r s is one rest h = absurd (cc (one refl))
  one_back true true false false r s is one rest h = rest h
  one_back false false f g r s is one rest h = rest h
  one_back true false f g r s is one rest h = absurd cc
  one_back false true f g r s is one rest h = absurd cc

  one_on : (a b f g r s : Bool) → a ≡ b → (a ≡ true → f ≡ true → g ≡ true) → (r ≡ true → s ≡ true) → ((a && f) || r) ≡ true → ((b && g) || s) ≡ true
  one_on true true true g r s is one rest h = ap (λ b. b || s) (one refl refl)
  one_on true true false g r s is one rest h = or_right g s (rest h)
  one_on false false f g r s is one rest h = rest h
  one_on true false f g r s is one rest h = absurd cc
  one_on false true f g r s is one rest h = absurd cc

  all_on : (a b f g r s : Bool) → a ≡ b → (a ≡ true → f ≡ true → g ≡ true) → (r ≡ true → s ≡ true) → ((not a || f) && r) ≡ true → ((not b || g) && s) ≡ true
  all_on true true true g r s is one rest h = and_both g s (one refl refl) (rest h)
  all_on true true false g r s is one rest h = absurd cc
  all_on false false f g r s is one rest h = rest h
  all_on true false f g r s is one rest h = absurd cc
  all_on false true f g r s is one rest h = absurd cc

  one_gone : (a b g s : Bool) → a ≡ b → (a ≡ true → g ≡ false) → s ≡ false → ((b && g) || s) ≡ false
  one_gone true true g s is one rest = (λ t. one refl t || rest t)
  one_gone false false g s is one rest = rest
  one_gone true false g s is one rest = absurd cc
  one_gone false true g s is one rest = absurd cc

  pub some_before : (xs : List PropertyIndex) (at : ℕ) (y d : PropertyIndex) → Loses (get_or xs at d) y label key value id → some_finds (set xs at y) l k v i ≡ true → some_finds xs l k v i ≡ true
  some_before [] at y d loses h = h
  some_before (x ∷ xs) zero y d loses h =
      one_back (is_for x l k) (is_for y l k) (finds x v i) (finds y v i) (some_finds xs l k v i) (some_finds xs l k v i) (same_for x y l k loses.label loses.key) (then_found x y label key value id loses l k v i) (λ h. h) h
  some_before (x ∷ xs) (suc at) y d loses h =
      one_back (is_for x l k) (is_for x l k) (finds x v i) (finds x v i) (some_finds xs l k v i) (some_finds (set xs at y) l k v i) refl (λ h. h) (some_before xs at y d loses) h

  pub some_after : (xs : List PropertyIndex) (at : ℕ) (y d : PropertyIndex) → Loses (get_or xs at d) y label key value id → is_leaving label key value id l k v i ≡ false → some_finds xs l k v i ≡ true → some_finds (set xs at y) l k v i ≡ true
  some_after [] at y d loses other h = h
  some_after (x ∷ xs) zero y d loses other h =
      one_on (is_for x l k) (is_for y l k) (finds x v i) (finds y v i) (some_finds xs l k v i) (some_finds xs l k v i) (same_for x y l k loses.label loses.key) (λ for. still_finds x y label key value id loses l k v i for other) (λ h. h) h
  some_after (x ∷ xs) (suc at) y d loses other h =
      one_on (is_for x l k) (is_for x l k) (finds x v i) (finds x v i) (some_finds xs l k v i) (some_finds (set xs at y) l k v i) refl (λ for h. h) (some_after xs at y d loses other) h

  pub all_after : (xs : List PropertyIndex) (at : ℕ) (y d : PropertyIndex) → Loses (get_or xs at d) y label key value id → is_leaving label key value id l k v i ≡ false → all_find xs l k v i ≡ true → all_find (set xs at y) l k v i ≡ true
  all_after [] at y d loses other h = h
  all_after (x ∷ xs) zero y d loses other h =
      all_on (is_for x l k) (is_for y l k) (finds x v i) (finds y v i) (all_find xs l k v i) (all_find xs l k v i) (same_for x y l k loses.label loses.key) (λ for. still_finds x y label key value id loses l k v i for other) (λ h. h) h
  all_after (x ∷ xs) (suc at) y d loses other h =
      all_on (is_for x l k) (is_for x l k) (finds x v i) (finds x v i) (all_find xs l k v i) (all_find (set xs at y) l k v i) refl (λ for h. h) (all_after xs at y d loses other) h

  pub none_so_far : (xs : List PropertyIndex) (at : ℕ) (y d : PropertyIndex) → at < length xs → Loses (get_or xs at d) y label key value id → is_leaving label key value id l k v i ≡ true → some_finds (take at xs) l k v i ≡ false
      → some_finds (take (suc at) (set xs at y)) l k v i ≡ false
  none_so_far [] at y d within loses same h = absurd (omega (arith, within))
  none_so_far (x ∷ xs) zero y d within loses same h =
      one_gone (is_for x l k) (is_for y l k) (finds y v i) false (same_for x y l k loses.label loses.key) (λ for. finds_no_more x y label key value id loses l k v i for same) refl
  none_so_far (x ∷ xs) (suc at) y d within loses same h =
      one_gone true true (is_for x l k && finds x v i) (some_finds (take (suc at) (set xs at y)) l k v i) refl (λ t. first (is_for x l k && finds x v i) (some_finds (take at xs) l k v i) h)
      (none_so_far xs at y d (omega (arith, within)) loses same (second (is_for x l k && finds x v i) (some_finds (take at xs) l k v i) h))
    where
      first : (a b : Bool) → (a || b) ≡ false → a ≡ false
      first true b h = h
      first false b h = refl

      second : (a b : Bool) → (a || b) ≡ false → b ≡ false
      second true b h = absurd cc
      second false b h = h

  -- what the three say together
  pub some_left : (new old : Bool) → (new ≡ true → old ≡ true) → (is_leaving label key value id l k v i ≡ false → old ≡ true → new ≡ true) → (is_leaving label key value id l k v i ≡ true → new ≡ false)
      → new ≡ (old && not (is_leaving label key value id l k v i))
  some_left new old fewer others gone = by_test (is_leaving label key value id l k v i) fewer others gone
    where
      by_test : (b : Bool) → (new ≡ true → old ≡ true) → (b ≡ false → old ≡ true → new ≡ true) → (b ≡ true → new ≡ false) → new ≡ (old && not b)
      by_test true fewer others gone = gone refl ∙ less_all old true refl
      by_test false fewer others gone = by_both new old fewer (others refl)
        where
          by_both : (n o : Bool) → (n ≡ true → o ≡ true) → (o ≡ true → n ≡ true) → n ≡ (o && true)
          by_both true true p q = refl
          by_both false false p q = refl
          by_both true false p q = sym (p refl)
          by_both false true p q = q refl

  pub leaving_is : is_leaving label key value id l k v i ≡ true → (l ≡ label) × (k ≡ key) × (view v ≡ view value) × (i ≡ id)
  leaving_is h =
      let where_is = and_left (label == l && key == k && is_one_value value v) (id == i) h in
      let who = and_right (label == l && key == k && is_one_value value v) (id == i) h in
      let both = and_left (label == l && key == k) (is_one_value value v) where_is in (
        sym (same_number label l (and_left (label == l) (key == k) both)),
        sym (same_number key k (and_right (label == l) (key == k) both)),
        sym (same_value value v (and_right (label == l && key == k) (is_one_value value v) where_is)),
        sym (same_number id i who),
      )
