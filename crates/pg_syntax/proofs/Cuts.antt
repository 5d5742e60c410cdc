-- The bytes between two places.
use Rattle.std.proofs.Common.{◌≡◌, ℕ, ◌≤◌, Bool, true, false, List, length, Some, None, refl, sym, ap, subst, arith}
use Rattle.std.proofs.lemmas.Bool.{and_right}
use Rattle.std.proofs.lemmas.Bool.Decides.{nat_tests}
use Rattle.std.proofs.lemmas.Str.{is_utf8-from_IsUtf8, IsUtf8-from_is_utf8}
use Rattle.std.specs.Prelude.{slice_range, nat_le, ◌&&◌}
use Rattle.std.specs.Str.{IsUtf8, is_utf8}
use Rattle.pg_meaning.specs.Parse.{cut}

pub cut_is : (text bytes : List ℕ) (a b : ℕ) → a ≤ b → b ≤ length text → bytes ≡ slice_range text a b → IsUtf8 bytes → cut text a b ≡ Some bytes
unfolding cut
cut_is text bytes a b le within same utf8 =
    let p : nat_le a b ≡ true = grind (arith, nat_tests) in
    let q : nat_le b (length text) ≡ true = grind (arith, nat_tests) in
    let r : is_utf8 (slice_range text a b) ≡ true = is_utf8-from_IsUtf8 _ (subst IsUtf8 same utf8) in
    rw (p, q, r) (ap Some (sym same))

pub cut_none : (text bytes : List ℕ) (a b : ℕ) → bytes ≡ slice_range text a b → (IsUtf8 bytes → ⊥) → cut text a b ≡ None
unfolding cut
cut_none text bytes a b same not_text = at (is_utf8 (slice_range text a b)) refl
  where
    at : (t : Bool) → is_utf8 (slice_range text a b) ≡ t → cut text a b ≡ None
    at true e = absurd (not_text (subst IsUtf8 (sym same) (IsUtf8-from_is_utf8 _ e)))
    at false e = rw (and_right (nat_le a b && nat_le b (length text)) (is_utf8 (slice_range text a b)) e) refl
