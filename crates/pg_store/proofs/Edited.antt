-- One change of a record, taken back, and the sets where its id then has to be.
use Rattle.std.proofs.Common.{◌≡◌, ◌≢◌, ◌==◌, ◌||◌, ℕ, Bool, true, false, cond, List, [], ◌∷◌, Option, Some, None, Ordering, Less, Equal, Greater, arith, refl, sym, ap, subst, ◌∙◌}
use Rattle.std.proofs.lemmas.Bool.Decides.{nat_tests}
use Rattle.std.specs.FinMap as map
use Rattle.std.specs.List.{list_any}
use Rattle.std.specs.Option.{option_map}
use Rattle.std.specs.Ordering.{nat_cmp, match_ordering}
use Rattle.pg_graph.proofs.Maps.{get_inserted_other, get_removed_other, removed_inserted, put_back}
use Rattle.pg_graph.proofs.Named.{either_same, either_swap}
use Rattle.pg_graph.proofs.SortedLists.{equal}
use Rattle.pg_graph.specs.Records.{Properties, given_back, with_label, without_label}
use Rattle.pg_graph.specs.declared.records.NodeRecord.{NodeRecord}
use Rattle.pg_index.specs.Properties.{is_found_by}
use Rattle.pg_meaning.specs.Value as meaning
use Rattle.pg_store.proofs.CoverLemmas.{Has, Grows}
use Rattle.pg_store.specs.Covers.{Key, every, with_label as label_key, with_value, belongs}
use Rattle.pg_value_core.specs.View.{view}
use Rattle.pg_value_core.specs.declared.value.Value.{Value}

-- a key that gets a value, and then what it had before
pub given_back_is : (ps : Properties) (key : ℕ) (v : meaning.Value) (before : Option Value) → option_map view before ≡ map.get ps key → given_back (map.insert ps key v) key before ≡ ps
given_back_is ps key v None is = removed_inserted ps key v (sym is)
given_back_is ps key v (Some b) is = put_back ps key v (view b) (sym is)

pub given_back_elsewhere : (ps : Properties) (key changed : ℕ) (before : Option Value) → key ≢ changed → map.get (given_back ps changed before) key ≡ map.get ps key
given_back_elsewhere ps key changed None ne = get_removed_other ps changed key ne
given_back_elsewhere ps key changed (Some v) ne = get_inserted_other ps changed (view v) key ne

same_number : (n : ℕ) → (n == n) ≡ true
same_number n = grind (arith, nat_tests)

number_of : (m n : ℕ) → (m == n) ≡ true → m ≡ n
number_of m n h = grind (arith, nat_tests)

neither : (a b : Bool) → (a || b) ≡ false → (a ≡ false) × (b ≡ false)
neither true b h = absurd (cc)
neither false b h = (refl, h)

-- a new label, taken out again
pub label_taken : (l : ℕ) (ls : List ℕ) → list_any (λ m. m == l) ls ≡ false → without_label (with_label ls l) l ≡ ls
label_taken l [] h = ap (λ b. cond b [] (l ∷ [])) (same_number l)
label_taken l (x ∷ xs) h = by_order (nat_cmp l x) refl (neither (x == l) (list_any (λ m. m == l) xs) h) (λ g. label_taken l xs g)
  where
    by_order : (o : Ordering) → nat_cmp l x ≡ o → ((x == l) ≡ false) × (list_any (λ m. m == l) xs ≡ false) → (list_any (λ m. m == l) xs ≡ false → without_label (with_label xs l) l ≡ xs)
        → without_label (match_ordering o (l ∷ x ∷ xs) (l ∷ xs) (x ∷ with_label xs l)) l ≡ x ∷ xs
    by_order Less is h rest = ap (λ b. cond b (x ∷ xs) (l ∷ without_label (x ∷ xs) l)) (same_number l)
    by_order Equal is h rest = absurd (cc (h.0, ap (λ m. m == l) (equal l x is), same_number l))
    by_order Greater is h rest = ap (λ b. cond b (with_label xs l) (x ∷ without_label (with_label xs l) l)) h.0 ∙ ap (λ ys. x ∷ ys) (rest h.1)

pub any_with : (p : ℕ → Bool) (l : ℕ) (ls : List ℕ) → list_any p (with_label ls l) ≡ (p l || list_any p ls)
any_with p l [] = refl
any_with p l (x ∷ xs) = by_order (nat_cmp l x) refl (any_with p l xs)
  where
    by_order : (o : Ordering) → nat_cmp l x ≡ o → list_any p (with_label xs l) ≡ (p l || list_any p xs)
        → list_any p (match_ordering o (l ∷ x ∷ xs) (l ∷ xs) (x ∷ with_label xs l)) ≡ (p l || (p x || list_any p xs))
    by_order Less is rest = refl
    by_order Equal is rest = either_same (p l) (list_any p xs) ∙ ap (λ m. p l || (p m || list_any p xs)) (equal l x is)
    by_order Greater is rest = ap (λ b. p x || b) rest ∙ either_swap (p x) (p l) (list_any p xs)

module _ (a b : Has) (n m : NodeRecord) (id : ℕ) (grows : Grows a b) (old : (k : Key) → belongs k n ≡ true → a k id ≡ true) (values : (label key : ℕ) (v : Value) → is_found_by label key v m ≡ true → b (with_value label key v) id ≡ true) where
  -- with the same labels
  pub properties_covered : m.labels ≡ n.labels → (k : Key) → belongs k m ≡ true → b k id ≡ true
  properties_covered same every h = grows every id (old every refl)
  properties_covered same (label_key l) h = grows (label_key l) id (old (label_key l) (ap (λ (ls : List ℕ). list_any (λ x. x == l) ls) (sym same) ∙ h))
  properties_covered same (with_value l key v) h = values l key v h

  -- with one label more
  pub label_covered : (l : ℕ) → m.labels ≡ with_label n.labels l → b (label_key l) id ≡ true → (k : Key) → belongs k m ≡ true → b k id ≡ true
  label_covered l more here every h = grows every id (old every refl)
  label_covered l more here (with_value q key v) h = values q key v h
  label_covered l more here (label_key q) h = by_test (l == q) refl (sym (any_with (λ x. x == q) l n.labels) ∙ ap (λ (ls : List ℕ). list_any (λ x. x == q) ls) (sym more) ∙ h)
    where
      by_test : (t : Bool) → (l == q) ≡ t → ((l == q) || list_any (λ x. x == q) n.labels) ≡ true → b (label_key q) id ≡ true
      by_test true is h = subst (λ k. b (label_key k) id ≡ true) (number_of l q is) here
      by_test false is h = grows (label_key q) id (old (label_key q) (ap (λ t. t || list_any (λ x. x == q) n.labels) (sym is) ∙ h))
