-- How `map_values` goes with the changes of a map, and of the function at single values.
use Rattle.std.proofs.Common.{◌≡◌, ◌≢◌, ℕ, Option, Some, None, IsSome, inl, inr, refl, sym, ap, subst, ◌∙◌}
use Rattle.std.proofs.lemmas.Bool.{cases_eq}
use Rattle.std.specs.Option.{option_map}
use Rattle.std.specs.Ordering.{nat_cmp}
use Rattle.std.specs.FinMap.{FinMap, get, insert, remove, empty, get-empty}
use Rattle.pg_graph.proofs.Maps.{same_numbered, get_inserted, get_inserted_other, get_removed, get_removed_other}
use Rattle.pg_pool.specs.Values.{map_values, get-map_values}

mapped_same : {A B : Type 0} (f g : A → B) (o : Option A) → ((a : A) → o ≡ Some a → f a ≡ g a) → option_map f o ≡ option_map g o
mapped_same f g None h = refl
mapped_same f g (Some a) h = ap Some (h a refl)

pub values_empty : {A B : Type 0} (f : A → B) → map_values f (empty {R = nat_cmp}) ≡ empty
values_empty f = same_numbered _ _ (λ q. get-map_values f _ q ∙ ap (option_map f) (get-empty nat_cmp q) ∙ sym (get-empty nat_cmp q))

module _ {A B : Type 0} (f g : A → B) (m : FinMap nat_cmp A) where
  pub values_same : ((q : ℕ) (a : A) → get m q ≡ Some a → g a ≡ f a) → map_values g m ≡ map_values f m
  values_same h = same_numbered _ _ (λ q. get-map_values g m q ∙ mapped_same g f (get m q) (h q) ∙ sym (get-map_values f m q))

  -- a key is new, and f changed at no value of another key
  pub values_inserted : (k : ℕ) (a : A) (x : B) → g a ≡ x → ((q : ℕ) (b : A) → q ≢ k → get m q ≡ Some b → g b ≡ f b) → map_values g (insert m k a) ≡ insert (map_values f m) k x
  values_inserted k a x is h = same_numbered _ _ (λ q. elim (cases_eq q k) [
    | inl same ↦ subst (λ (r : ℕ). get (map_values g (insert m k a)) r ≡ get (insert (map_values f m) k x) r) (sym same)
        (get-map_values g _ k ∙ ap (option_map g) (get_inserted m k a) ∙ ap Some is ∙ sym (get_inserted (map_values f m) k x))
    | inr ne ↦ get-map_values g _ q ∙ ap (option_map g) (get_inserted_other m k a q ne) ∙ mapped_same g f (get m q) (λ b. h q b ne)
        ∙ sym (get-map_values f m q) ∙ sym (get_inserted_other (map_values f m) k x q ne)
  ])

  -- the function changed at the value of one key
  pub values_changed : (k : ℕ) (a : A) (x : B) → get m k ≡ Some a → g a ≡ x → ((q : ℕ) (b : A) → q ≢ k → get m q ≡ Some b → g b ≡ f b) → map_values g m ≡ insert (map_values f m) k x
  values_changed k a x there is h = same_numbered _ _ (λ q. elim (cases_eq q k) [
    | inl same ↦ subst (λ (r : ℕ). get (map_values g m) r ≡ get (insert (map_values f m) k x) r) (sym same)
        (get-map_values g _ k ∙ ap (option_map g) there ∙ ap Some is ∙ sym (get_inserted (map_values f m) k x))
    | inr ne ↦ get-map_values g _ q ∙ mapped_same g f (get m q) (λ b. h q b ne)
        ∙ sym (get-map_values f m q) ∙ sym (get_inserted_other (map_values f m) k x q ne)
  ])

  -- a key is gone
  pub values_removed : (k : ℕ) → ((q : ℕ) (b : A) → q ≢ k → get m q ≡ Some b → g b ≡ f b) → map_values g (remove m k) ≡ remove (map_values f m) k
  values_removed k h = same_numbered _ _ (λ q. elim (cases_eq q k) [
    | inl same ↦ subst (λ (r : ℕ). get (map_values g (remove m k)) r ≡ get (remove (map_values f m) k) r) (sym same)
        (get-map_values g _ k ∙ ap (option_map g) (get_removed m k) ∙ sym (get_removed (map_values f m) k))
    | inr ne ↦ get-map_values g _ q ∙ ap (option_map g) (get_removed_other m k q ne) ∙ mapped_same g f (get m q) (λ b. h q b ne)
        ∙ sym (get-map_values f m q) ∙ sym (get_removed_other (map_values f m) k q ne)
  ])

mapped_none : {A B : Type 0} (f : A → B) (o : Option A) → option_map f o ≡ None → o ≡ None
mapped_none f None e = refl
mapped_none f (Some a) e = absurd (cc)

mapped_some : {A B : Type 0} (f : A → B) (o : Option A) → IsSome (option_map f o) → IsSome o
mapped_some f None e = e
mapped_some f (Some a) e = refl

module _ {A B : Type 0} (f : A → B) (m : FinMap nat_cmp A) (q : ℕ) where
  -- a key is in the one map as it is in the other
  pub inside_none : get (map_values f m) q ≡ None → get m q ≡ None
  inside_none e = mapped_none f (get m q) (sym (get-map_values f m q) ∙ e)

  pub inside_some : IsSome (get (map_values f m) q) → IsSome (get m q)
  inside_some h = mapped_some f (get m q) (subst IsSome (get-map_values f m q) h)

  pub outside_some : (a : A) → get m q ≡ Some a → get (map_values f m) q ≡ Some (f a)
  outside_some a e = get-map_values f m q ∙ ap (option_map f) e

-- what the replaced map has is what a value became
pub inside_value : {A B : Type 0} (f : A → B) (m : FinMap nat_cmp A) (q : ℕ) (x : B) → get (map_values f m) q ≡ Some x → (a : A) × (get m q ≡ Some a) × (f a ≡ x)
inside_value {A} {B} f m q x e = by_value (get m q) refl (sym (get-map_values f m q) ∙ e)
  where
    by_value : (o : Option A) → get m q ≡ o → option_map f o ≡ Some x → (a : A) × (get m q ≡ Some a) × (f a ≡ x)
    by_value None is h = absurd (cc)
    by_value (Some a) is h = (a, is, cc)
