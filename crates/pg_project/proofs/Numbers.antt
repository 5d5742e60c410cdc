-- The number of the group that has a key.
use Rattle.std.proofs.Common.{◌≡◌, ℕ, zero, suc, ◌+◌, ◌<◌, ◌||◌, Bool, true, false, not, cond, List, [], ◌∷◌, ◌++◌, length, map, slice_get, Some, refl, sym, ap, subst, ◌∙◌, arith}
use Rattle.indexmap.specs.IndexSet.{insert_key}
use Rattle.std.specs.Cmp.{IsEquivalence}
use Rattle.std.specs.Ordering.{is_eq}
use Rattle.std.specs.declared.cmp.Ordering.{Ordering}
use Rattle.std.specs.declared.cmp.Ordering.TheVariants.{Less, Equal, Greater}
use Rattle.std.proofs.lemmas.Cmp.{eq_by_cmp_equiv, lists_equiv, on_equiv}
use Rattle.std.specs.Global.{Vec}
use Rattle.std.specs.List.{AllByRecursion, IsDistinct, list_any, position_or_len}
use Rattle.pg_meaning.specs.Order.{is_equivalent, value_order}
use Rattle.pg_meaning.specs.OrderLaws.{order_exact, order_total}
use Rattle.pg_meaning.specs.Value.{Value as Datum}
use Rattle.pg_project.specs.KeptGroups.{same_keys, HasNumber, IsNumber}
use Rattle.pg_value_core.specs.View.{view}
use Rattle.pg_value_core.specs.declared.value.Value.{Value}

module _ {K : Type 0} {E : K → K → Bool} (e : IsEquivalence E) where
  none_same : (x k : K) (xs : List K) (i : ℕ) → AllByRecursion (λ y. E x y ≡ false) xs → slice_get xs i ≡ Some k → E x k ≡ false
  none_same x k [] i h is = absurd (let no : ⊥ = cc in no)
  none_same x k (y ∷ ys) zero h is = let same : y ≡ k = cc in subst (λ z. E x z ≡ false) same h.0
  none_same x k (y ∷ ys) (suc i) h is = none_same x k ys i h.1 is

  differs : (key y k : K) (b : Bool) → E key k ≡ true → E y k ≡ false → E key y ≡ b → b ≡ false
  differs key y k true h other is = sym h ∙ e.congr key y k is ∙ other
  differs key y k false h other is = refl

  pub place : (key k : K) (xs : List K) (i : ℕ) → IsDistinct E xs → slice_get xs i ≡ Some k → E key k ≡ true → (i ≡ position_or_len (E key) xs) × (list_any (E key) xs ≡ true) × (i < length xs)
  unfolding IsDistinct
  place key k [] i d is h = absurd (let no : ⊥ = cc in no)
  place key k (y ∷ ys) zero d is h =
      let same : y ≡ k = cc in
      let here : E key y ≡ true = ap (E key) same ∙ h in
      (ap (λ b. cond (not b) (1 + position_or_len (E key) ys) 0) (sym here), ap (λ b. b || list_any (E key) ys) here, omega arith)
  place key k (y ∷ ys) (suc i) d is h =
      let rest = place key k ys i d.1 is h in
      let below : i < length ys = rest.2 in
      let one : suc i ≡ 1 + i = omega arith in
      let different : E key y ≡ false = differs key y k (E key y) h (none_same y k ys i d.0 is) refl in
      (one ∙ ap (λ n. 1 + n) rest.0 ∙ ap (λ b. cond (not b) (1 + position_or_len (E key) ys) 0) (sym different), ap (λ b. b || list_any (E key) ys) different ∙ rest.1, omega arith)

key_equiv : IsEquivalence same_keys
key_equiv = on_equiv (λ (k : Vec Value). k.items) (lists_equiv (on_equiv view (eq_by_cmp_equiv order_total)))

pub is_number : (key k : Vec Value) (ks : List (Vec Value)) (i : ℕ) → IsDistinct same_keys ks → slice_get ks i ≡ Some k → same_keys key k ≡ true → IsNumber ks key i
is_number key k ks i d is h =
    let found = place key_equiv key k ks i d is h in
    record { here = found.0; there = found.1; within = found.2 }

pub has_number : (key : Vec Value) (ks : List (Vec Value)) (i : ℕ) (values : List Datum) → IsDistinct same_keys ks → slice_get ks i ≡ Some key → map view key.items ≡ values → HasNumber ks values i
has_number key ks i values d is one = record { key = key; is = one; number = is_number key key ks i d is (key_equiv.refl key) }

module _ {K : Type 0} (p : K → Bool) where
  found_behind : (xs : List K) (k : K) → p k ≡ true → list_any p xs ≡ false → (position_or_len p xs ≡ position_or_len p (xs ++ k ∷ [])) × (list_any p (xs ++ k ∷ []) ≡ true)
  found_behind [] k h none = (ap (λ b. cond (not b) 1 0) (sym h), ap (λ b. b || false) h)
  found_behind (x ∷ xs) k h none = by (found_behind xs k h) (p x) none
    where
      by : (list_any p xs ≡ false → (position_or_len p xs ≡ position_or_len p (xs ++ k ∷ [])) × (list_any p (xs ++ k ∷ []) ≡ true)) → (b : Bool) → (b || list_any p xs) ≡ false
          → (cond (not b) (1 + position_or_len p xs) 0 ≡ cond (not b) (1 + position_or_len p (xs ++ k ∷ [])) 0) × ((b || list_any p (xs ++ k ∷ [])) ≡ true)
      by rest true n = absurd (let no : ⊥ = cc in no)
      by rest false n = let behind = rest n in (ap (λ m. 1 + m) behind.0, behind.1)

-- the number of a key that is put behind the others unless it is there
pub number_now : (key : Vec Value) (ks : List (Vec Value)) (n : ℕ) → n ≡ position_or_len (same_keys key) ks → n < length (insert_key same_keys ks key) → IsNumber (insert_key same_keys ks key) key n
number_now key ks n here within = by (list_any (same_keys key) ks) refl within
  where
    by : (b : Bool) → list_any (same_keys key) ks ≡ b → n < length (cond b ks (ks ++ key ∷ [])) → IsNumber (cond b ks (ks ++ key ∷ [])) key n
    by true there below = record { here = here; there = there; within = below }
    by false none below =
        let behind = found_behind (same_keys key) ks key (key_equiv.refl key) none in
        record { here = here ∙ behind.0; there = behind.1; within = below }

pub keys_stay : (ks : List (Vec Value)) (key : Vec Value) (n : ℕ) → IsNumber ks key n → ks ≡ insert_key same_keys ks key
keys_stay ks key n h = ap (λ b. cond b ks (ks ++ key ∷ [])) (sym h.there)

equal : (o : Ordering) → is_eq o ≡ true → o ≡ Equal
equal Less h = absurd (let no : ⊥ = cc in no)
equal Equal h = refl
equal Greater h = absurd (let no : ⊥ = cc in no)

pub one_value : (v w : Datum) → is_equivalent v w ≡ true → v ≡ w
one_value v w h = order_exact v w (equal (value_order v w) h)
