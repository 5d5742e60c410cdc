-- Keys that are equal have one set, in a map of either kind.
use Rattle.std.proofs.Common.{◌≡◌, ℕ, Bool, true, false, cond, List, inl, inr, MutBor, Option, Some, None, refl, sym, ap, subst, ◌∙◌}
use Rattle.std.proofs.lemmas.Bool.{cases_eq}
use Rattle.std.specs.Cmp.{IsEquivalence}
use Rattle.std.specs.FinMap as map
use Rattle.std.specs.Map.{lookup}
use Rattle.std.specs.Option.{option_copied_mut}
use Rattle.std.specs.Ordering.{nat_cmp}
use Rattle.pg_graph.proofs.Maps.{same_numbered, get_removed, get_removed_other}
use Rattle.pg_graph.specs.Removed.{Ids}
use Rattle.pg_index.specs.Index.{the_ids}

abbrev no_ids : Ids
no_ids = map.empty

without_nothing : (k : ℕ) → map.remove no_ids k ≡ no_ids
without_nothing k = same_numbered (map.remove no_ids k) no_ids (λ q. elim (cases_eq q k) [
  | inl same ↦ subst (λ (n : ℕ). map.get (map.remove no_ids k) n ≡ map.get no_ids n) (sym same) (get_removed no_ids k ∙ sym (map.get-empty {X = Unit {0}} nat_cmp k))
  | inr ne ↦ get_removed_other no_ids k q ne
])

pub nothing_lent : {X : Type 0} (r : Option (MutBor X)) → ((x : MutBor X) → r ≡ Some x → ⊥) → option_copied_mut r ≡ None
nothing_lent None h = refl
nothing_lent (Some x) h = absurd (h x refl)

module _ {K : Type 0} {E : K → K → Bool} (laws : IsEquivalence E) where
  -- what is found at one of two keys that are equal is found at the other
  pub found_alike : {X : Type 0} (es : List (K × X)) (k q : K) → E k q ≡ true → lookup (E q) es ≡ lookup (E k) es
  found_alike es k q h = sym (ap (λ (t : K → Bool). lookup t es) (λ i z. laws.congr k q z h i))

  -- nothing leaves where there is no set
  pub nothing_there : (old new : List (K × Ids)) (k : K) (id : ℕ) → new ≡ old → lookup (E k) old ≡ None → (q : K)
      → the_ids (lookup (E q) new) ≡ cond (E k q) (map.remove (the_ids (lookup (E k) old)) id) (the_ids (lookup (E q) old))
  nothing_there old new k id same none q = ap (λ (es : List (K × Ids)). the_ids (lookup (E q) es)) same ∙ by_test (E k q) refl
    where
      by_test : (b : Bool) → E k q ≡ b → the_ids (lookup (E q) old) ≡ cond b (map.remove (the_ids (lookup (E k) old)) id) (the_ids (lookup (E q) old))
      by_test true is = ap the_ids (found_alike old k q is ∙ none) ∙ sym (ap (λ found. map.remove (the_ids found) id) none ∙ without_nothing id)
      by_test false is = refl
