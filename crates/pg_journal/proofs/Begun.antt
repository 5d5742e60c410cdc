-- What a crash leaves while a file is begun.
use Rattle.std.proofs.Common.{◌≡◌, ◌⊎◌, inl, inr, ⊎_elim, ℕ, ◌≤◌, false, List, [], ◌∷◌, ◌++◌, length, get_or, take, refl, sym, ◌∙◌, ap, subst, arith, length-drop, take-append-drop}
use Rattle.std.proofs.lemmas.List.{drop_all, length-take}
use Rattle.pg_journal.specs.Device.{part, Holds, Torn}
use Rattle.pg_journal.specs.Digest.{digest_of_none}
use Rattle.pg_journal.specs.Records.{Kept, number}
use Rattle.pg_journal.specs.Files.{IsUnbegun, Recovers}
use Rattle.pg_journal.specs.Ready.{IsFile}
use Rattle.pg_journal.proofs.Flushes.{file_journal}

abbrev pub rest : List ℕ
rest = 114 ∷ 97 ∷ 112 ∷ 104 ∷ 100 ∷ 32 ∷ 106 ∷ 15 ∷ 0 ∷ 0 ∷ 0 ∷ 0 ∷ 0 ∷ 0 ∷ 0 ∷ 0 ∷ 203 ∷ 242 ∷ 156 ∷ 228 ∷ 132 ∷ 34 ∷ 35 ∷ 37 ∷ 0 ∷ 0 ∷ 0 ∷ 0 ∷ 0 ∷ 0 ∷ 0 ∷ 0 ∷ 0 ∷ 0 ∷ 0 ∷ 0 ∷ 0 ∷ 0 ∷ 0 ∷ 0 ∷ []

pub unbegun_first : (old new : List ℕ) → IsUnbegun old → Torn 0 (0 ∷ []) old new → IsUnbegun new
unbegun_first old new (inl short) torn = inl (omega (arith, torn.no_longer, short))
unbegun_first old new (inr zero) torn =
    let some : 1 ≤ length old = omega (arith, ap length zero.0, length-take 1 old) in
    let first : take 1 new ≡ 0 ∷ [] = ⊎_elim (λ same. same ∙ zero.0) (λ is. is) (torn.one_byte refl some) in
    inr (first, omega (arith, torn.no_longer, zero.1))

pub zero_first : (old new : List ℕ) → IsUnbegun old → Holds old 0 (0 ∷ []) new → (take 1 new ≡ 0 ∷ []) × (length new ≤ 41)
zero_first old new unbegun holds =
    let short : length old ≤ 41 = ⊎_elim (λ (le : length old ≤ 1). omega (arith, le)) (λ zero. zero.1) unbegun in
    (ap (take 1) holds, omega (arith, ap length holds, length-drop 1 old, short))

pub unbegun_rest : (old new : List ℕ) → take 1 old ≡ 0 ∷ [] → length old ≤ 41 → Torn 1 rest old new → IsUnbegun new
unbegun_rest old new first short torn = inr (torn.before ∙ first, omega (arith, torn.no_longer, short))

pub whole : (old new : List ℕ) → take 1 old ≡ 0 ∷ [] → length old ≤ 41 → Holds old 1 rest new → new ≡ 0 ∷ rest
whole old new first short holds = holds ∙ (λ i. first i ++ rest ++ drop_all 41 old short i)

pub unbegun_whole : IsUnbegun (0 ∷ rest)
unbegun_whole = inr (refl, omega arith)

pub torn_letter : (new : List ℕ) → Torn 0 (103 ∷ []) (0 ∷ rest) new → (new ≡ 0 ∷ rest) ⊎ (new ≡ 103 ∷ rest)
torn_letter new torn =
    let split : (first : List ℕ) → take 1 new ≡ first → new ≡ first ++ rest = λ first is. sym (take-append-drop 1 new) ∙ (λ i. is i ++ torn.after i) in
    ⊎_elim (λ same. inl (split (0 ∷ []) same)) (λ is. inr (split (103 ∷ []) is)) (torn.one_byte refl (omega arith))

tallied : part 9 16 (103 ∷ rest) ≡ number 0 ++ number digest_of_none
unfolding number
tallied = refl

pub begun : IsFile false 0 digest_of_none [] (103 ∷ rest)
begun = record { named = refl; counts = tallied; holds = refl; size_is = refl; sums = refl; room = omega arith }

pub letter_recovers : (new : List ℕ) → (new ≡ 0 ∷ rest) ⊎ (new ≡ 103 ∷ rest) → Recovers [] new
letter_recovers new (inl same) = subst (Recovers []) (sym same) (inl (unbegun_whole, refl))
letter_recovers new (inr is) = subst (Recovers []) (sym is) (inr (file_journal false 0 digest_of_none [] (103 ∷ rest) begun))

-- a file that is no journal yet is none
pub unbegun_none : (ks : List Kept) (file : List ℕ) → IsUnbegun file → Recovers ks file → ks ≡ []
unbegun_none ks file unbegun (inl none) = none.1
unbegun_none ks file (inl short) (inr is) = absurd (omega (arith, short, is.long))
unbegun_none ks file (inr zero) (inr is) = absurd (differ (sym zero.0 ∙ sym (take_one file) ∙ ap (take 1) is.named))
  where
    take_one : (xs : List ℕ) → take 1 (take 9 xs) ≡ take 1 xs
    take_one [] = refl
    take_one (x ∷ xs) = refl

    differ : ◌≡◌ {A = List ℕ} (0 ∷ []) (103 ∷ []) → ⊥
    differ e = absurd (omega (arith, ap (λ (l : List ℕ). get_or l 0 0) e))
