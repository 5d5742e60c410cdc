-- The type of a relationship is compared by its number.
use Rattle.std.proofs.Common.{◌≡◌, ◌==◌, ◌<◌, ℕ, Bool, true, false, cond, List, length, Option, Some, None, position, refl, sym, ap, ◌∙◌}
use Rattle.std.proofs.lemmas.Bool.Decides.{Decides-eqb}
use Rattle.std.specs.Option.{option_map}
use Rattle.std.specs.Str.{bytes_eq}
use Rattle.pg_graph.proofs.Named.{by_number, by_no_number}
use Rattle.pg_graph.specs.Refinement.{relationship_of, text_of}
use Rattle.pg_graph.specs.declared.records.RelRecord.{RelRecord}
use Rattle.pg_names.proofs.Interned.{equal_bytes, same_bytes}
use Rattle.pg_names.specs.Names.{AreDistinct}
use Rattle.pg_store.specs.Typed.{of_type}

flipped : (s t : List ℕ) → bytes_eq s t ≡ bytes_eq t s
flipped s t = by_tests (bytes_eq s t) refl (bytes_eq t s) refl
  where
    by_tests : (a : Bool) → bytes_eq s t ≡ a → (b : Bool) → bytes_eq t s ≡ b → a ≡ b
    by_tests true is b other = sym (equal_bytes t s (sym (same_bytes s t is))) ∙ other
    by_tests false is true other = sym is ∙ equal_bytes s t (sym (same_bytes t s other))
    by_tests false is false other = refl

other_number : (m n : ℕ) → (m ≡ n → ⊥) → (m == n) ≡ false
other_number m n h = by_test (m == n) refl
  where
    by_test : (b : Bool) → (m == n) ≡ b → b ≡ false
    by_test true is = absurd (h ((Decides-eqb m n).0 is))
    by_test false is = refl

module _ (names : List (List ℕ)) (distinct : AreDistinct names) (type : List ℕ) (n : ℕ) (found : position (bytes_eq type) names ≡ Some n) (r : RelRecord) (inside : r.kind < length names) where
  told : (b : Bool) → (r.kind == n) ≡ b → of_type type (Some (relationship_of names r)) ≡ cond b (Some (relationship_of names r)) None
  told b is =
      ap (λ t. cond t (Some (relationship_of names r)) None) (flipped (text_of names r.kind) type ∙ by_number names distinct type n r.kind found inside ∙ is)

  pub is_of : r.kind ≡ n → of_type type (Some (relationship_of names r)) ≡ Some (relationship_of names r)
  is_of same = told true ((Decides-eqb r.kind n).1 same)

  pub is_other : (r.kind ≡ n → ⊥) → of_type type (Some (relationship_of names r)) ≡ None
  is_other other = told false (other_number r.kind n other)

-- a text without a number is no relationship's type
pub none_has : (names : List (List ℕ)) (distinct : AreDistinct names) (type : List ℕ) (o : Option RelRecord) → ((r : RelRecord) → o ≡ Some r → r.kind < length names)
    → position (bytes_eq type) names ≡ None → of_type type (option_map (relationship_of names) o) ≡ None
none_has names distinct type None inside missing = refl
none_has names distinct type (Some r) inside missing =
    ap (λ t. cond t (Some (relationship_of names r)) None) (flipped (text_of names r.kind) type ∙ by_no_number names distinct type r.kind missing (inside r refl))
