-- Records behind others.
use Rattle.std.proofs.Common.{◌≡◌, ℕ, ◌≤◌, List, [], ◌∷◌, ◌++◌, length, refl, sym, ◌∙◌, ap, arith, append_assoc, length-append}
use Rattle.std.proofs.lemmas.List.{append-nil}
use Rattle.pg_journal.specs.Records.{Kept, number, content, written, digest_after, all_written, digest_after_all}

pub digests-append : (d : ℕ) (xs ys : List Kept) → digest_after_all d (xs ++ ys) ≡ digest_after_all (digest_after_all d xs) ys
digests-append d [] ys = refl
digests-append d (x ∷ xs) ys = digests-append (digest_after d x) xs ys

pub written-append : (d : ℕ) (xs ys : List Kept) → all_written d (xs ++ ys) ≡ all_written d xs ++ all_written (digest_after_all d xs) ys
written-append d [] ys = refl
written-append d (x ∷ xs) ys =
    ap (λ (l : List ℕ). written d x ++ l) (written-append (digest_after d x) xs ys)
    ∙ sym (append_assoc (written d x) (all_written (digest_after d x) xs) (all_written (digest_after_all (digest_after d x) xs) ys))

-- one more
pub written_push : (d : ℕ) (xs : List Kept) (x : Kept) → all_written d (xs ++ x ∷ []) ≡ all_written d xs ++ written (digest_after_all d xs) x
written_push d xs x = written-append d xs (x ∷ []) ∙ ap (λ (l : List ℕ). all_written d xs ++ l) (append-nil (written (digest_after_all d xs) x))

pub digest_push : (d : ℕ) (xs : List Kept) (x : Kept) → digest_after_all d (xs ++ x ∷ []) ≡ digest_after (digest_after_all d xs) x
digest_push d xs x = digests-append d xs (x ∷ [])

pub length-number : (n : ℕ) → length (number n) ≡ 8
unfolding number
length-number n = refl

-- a record has bytes
pub written_long : (d : ℕ) (x : Kept) → 8 ≤ length (written d x)
written_long d x = omega (arith, length-append (content x) (number (digest_after d x)), length-number (digest_after d x))

pub none_written : (d : ℕ) (xs : List Kept) → all_written d xs ≡ [] → xs ≡ []
none_written d [] none = refl
none_written d (x ∷ xs) none = absurd (omega (arith, ap length none, length-append (written d x) (all_written (digest_after d x) xs), written_long d x))
