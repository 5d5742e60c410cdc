-- The entries of a hash map from numbers, read as a finite map.
use Rattle.std.proofs.Common.{◌≡◌, ℕ, ◌==◌, List, [], ◌∷◌, Bool, true, false, Some, None, cond, refl, sym, ap, subst, ◌∙◌, eqb-true, Option, IsSome, IfSome, IfNone, is_some}
use Rattle.std.proofs.lemmas.Bool.{false≢true}
use Rattle.std.specs.Ordering.{nat_cmp}
use Rattle.std.specs.Cmp.{unsigned_ties}
use Rattle.std.specs.Map.{lookup, lookup_key}
use Rattle.std.specs.BTreeMap.{is_at}
use Rattle.std.specs.FinMap.{from_entries, get, insert, remove}
use Rattle.pg_graph.proofs.Maps as maps

module _ {X : Type 0} where
  by_order : (es : List (ℕ × X)) (q : ℕ) → lookup (λ k. q == k) es ≡ lookup (is_at (nat_cmp q)) es
  by_order es q i = lookup (λ k. unsigned_ties q k i) es

  -- what the finite map of the entries has at a key
  pub get_of_entries : (es : List (ℕ × X)) (q : ℕ) → get (from_entries {R = nat_cmp} es) q ≡ lookup (λ k. q == k) es
  get_of_entries es q = maps.get_of_entries es q ∙ sym (by_order es q)

  -- entries in which one key has a new value
  pub entries_inserted : (es fs : List (ℕ × X)) (k : ℕ) (v : X) → ((q : ℕ) → lookup (λ j. q == j) fs ≡ cond (k == q) (Some v) (lookup (λ j. q == j) es)) → from_entries {R = nat_cmp} fs ≡ insert (from_entries es) k v
  entries_inserted es fs k v h = maps.entries_inserted es fs k v (λ q. sym (by_order fs q) ∙ h q ∙ (λ i. cond (unsigned_ties k q i) (Some v) (by_order es q i)))

  -- entries from which one key was taken out
  pub entries_removed : (es fs : List (ℕ × X)) (k : ℕ) → ((q : ℕ) → lookup (λ j. q == j) fs ≡ cond (k == q) None (lookup (λ j. q == j) es)) → from_entries {R = nat_cmp} fs ≡ remove (from_entries es) k
  entries_removed es fs k h = maps.entries_removed es fs k (λ q. sym (by_order fs q) ∙ h q ∙ (λ i. cond (unsigned_ties k q i) None (by_order es q i)))

key_by : (n k x : ℕ) (o : Option ℕ) (b : Bool) → (n == k) ≡ b → (o ≡ Some x → x ≡ n) → cond b (Some k) o ≡ Some x → x ≡ n
key_by n k x o true is rest h = let same : k ≡ x = cc in sym same ∙ sym (eqb-true n k is)
key_by n k x o false is rest h = rest h

-- the key that is found at a number
pub key_found : {X : Type 0} (es : List (ℕ × X)) (n k : ℕ) → lookup_key (λ j. n == j) es ≡ Some k → k ≡ n
key_found [] n k e = absurd (cc)
key_found (e ∷ es) n k h = key_by n e.0 k (lookup_key (λ j. n == j) es) (n == e.0) refl (key_found es n k) h

-- what is known of a place that there is
pub of_some : {A : Type 0} (P : A → Type 0) (o : Option A) (a : A) → IfSome o P → o ≡ Some a → P a
of_some {A = A} P o a h e = subst (λ (r : Option A). IfSome r P) e h

-- a place that is none where nothing is found is one where something is
pub some_where : {A X : Type 0} (o : Option A) (found : Option X) → IfNone o (found ≡ None) → IsSome found → IsSome o
some_where None found h is = absurd (false≢true (sym (ap is_some h) ∙ is))
some_where (Some a) found h is = refl
