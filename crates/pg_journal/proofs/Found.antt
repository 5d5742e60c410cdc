-- A head and the records that are found are a journal.
use Rattle.std.proofs.Common.{◌≡◌, inl, inr, ℕ, ◌+◌, ◌≤◌, Bool, true, false, List, ◌++◌, ◌<◌, ◌^◌, length, get_or, take, drop, [], ◌∷◌, refl, sym, ◌∙◌, ap, subst, arith, length-drop}
use Rattle.std.proofs.lemmas.List.{take_at, drop_at, take_all, take-take, length-take, length-take-le}
use Rattle.pg_journal.specs.Device.{part}
use Rattle.pg_journal.specs.Records.{Kept, number, records, last_digest}
use Rattle.pg_journal.specs.Files.{name, mark, place_of, IsUnbegun, Recovers}
use Rattle.pg_journal.specs.Digest.{digest_of_none}
use Rattle.pg_journal.proofs.Appended.{length-number}
use Rattle.pg_journal.proofs.Unique.{number_same, last_fits}
use Rattle.pg_journal.specs.Reading.{Tells, IsNoHead, IsFound, FindsIn}
use Rattle.pg_journal.specs.Ready.{IsFile}
use Rattle.pg_journal.specs.declared.head.Head.TheVariants.{Unbegun, Counts}
use Rattle.pg_journal.proofs.Parts.{part_before}
use Rattle.pg_journal.proofs.Flushes.{file_journal}

slot_part : (slot : Bool) (file : List ℕ) → part (place_of slot) 16 (take 41 file) ≡ part (place_of slot) 16 file
slot_part false file = part_before 41 9 16 file (take 41 file) (take-take 41 41 file (omega arith)) (omega arith)
slot_part true file = part_before 41 25 16 file (take 41 file) (take-take 41 41 file (omega arith)) (omega arith)

pub found_file : {R : Type 0} (replays : R → Kept → R → Type 0) (slot : Bool) (size digest : ℕ) (file : List ℕ) (before after : R) (ks : List Kept) → Tells (take 41 file) (length file) (Counts slot size digest) → 41 + size ≤ length file → IsFound replays size digest file before after ks → IsFile slot size digest ks file
found_file replays slot size digest file before after ks tells fits found =
    let size_is : size ≡ length (records ks) = sym (length-take-le size (drop 41 file) (omega (arith, fits, length-drop 41 file))) ∙ ap length found.bytes in
    record {
      named = sym (take-take 9 41 file (omega arith)) ∙ tells.0;
      counts = sym (slot_part slot file) ∙ tells.1 ∙ (λ i. number (size_is i) ++ number (found.sums i));
      holds = found.bytes;
      size_is = size_is;
      sums = found.sums;
      room = fits;
    }

pub finds_counted : {R : Type 0} (replays : R → Kept → R → Type 0) (slot : Bool) (size digest : ℕ) (file new : List ℕ) (before after : R) (ks : List Kept) → Tells (take 41 file) (length file) (Counts slot size digest) → 41 + size ≤ length file → IsFound replays size digest file before after ks → new ≡ file → FindsIn replays file new slot size digest before after ks
finds_counted replays slot size digest file new before after ks tells fits found same =
    let is = found_file replays slot size digest file before after ks tells fits found in
    record {
      recovers = inr (file_journal slot size digest ks file is);
      file = subst (IsFile slot size digest ks) (sym same) is;
      replayed = found.replayed;
    }

-- what a head tells of a file that is no journal yet
pub tells_unbegun : (file : List ℕ) → Tells (take 41 file) (length file) Unbegun → IsUnbegun file
tells_unbegun file (inl short) = inl short
tells_unbegun file (inr zero) = inr (sym (take-take 1 41 file (omega arith)) ∙ zero.0, zero.1)

pub no_journal : (file : List ℕ) (ks : List Kept) → IsNoHead (take 41 file) (length file) → Recovers ks file → ⊥
no_journal file ks none_there (inl (inl short, none)) = none_there.0 (inl short)
no_journal file ks none_there (inl (inr zero, none)) = none_there.0 (inr (take-take 1 41 file (omega arith) ∙ zero.0, zero.1))
no_journal file ks none_there (inr is) = none_there.1 is.slot (length-take-le 41 file (omega (arith, is.long))) (take-take 9 41 file (omega arith) ∙ is.named)

-- a file with a name isn't one that is still to be begun
named_begun : (file : List ℕ) (m : ℕ) → 41 ≤ length file → take 9 file ≡ name ++ m ∷ [] → IsUnbegun file → ⊥
named_begun file m long named (inl short) = absurd (omega (arith, short, long))
named_begun file m long named (inr zero) = absurd (omega (arith, ap (λ (l : List ℕ). get_or l 0 0) (sym zero.0 ∙ sym (take-take 1 9 file (omega arith)) ∙ ap (take 1) named)))

same_slot : (s t : Bool) → mark s ≡ mark t → s ≡ t
same_slot false false e = refl
same_slot true true e = refl
same_slot false true e = absurd (omega (arith, e))
same_slot true false e = absurd (omega (arith, e))

-- the slot that a head tells of is that of the records for which the file stands
pub counted_is : (slot : Bool) (size digest : ℕ) (file : List ℕ) (ks : List Kept) → Tells (take 41 file) (length file) (Counts slot size digest) → length file < 2 ^ 64 → Recovers ks file
    → (41 + size ≤ length file) × (part 41 size file ≡ records ks) × (digest ≡ last_digest ks)
counted_is slot size digest file ks tells small (inl (unbegun, none)) =
    absurd (named_begun file (mark slot) (omega (arith, tells.2, length-take 41 file)) (sym (take-take 9 41 file (omega arith)) ∙ tells.0) unbegun)
counted_is slot size digest file ks tells small (inr is) =
    let named : name ++ mark slot ∷ [] ≡ name ++ mark is.slot ∷ [] = sym (sym (take-take 9 41 file (omega arith)) ∙ tells.0) ∙ is.named in
    let slots : slot ≡ is.slot = same_slot slot is.slot (ap (λ (l : List ℕ). get_or l 8 0) named) in
    let tallies : number size ++ number digest ≡ number (length (records ks)) ++ number (last_digest ks) = sym tells.1 ∙ slot_part slot file ∙ ap (λ (s : Bool). part (place_of s) 16 file) slots ∙ is.counts in
    let size_is : size ≡ length (records ks) = number_same size (length (records ks)) tells.3 (omega (arith, is.long, small))
    (sym (take_at (number size) (number digest) 8 (length-number size)) ∙ ap (take 8) tallies ∙ take_at (number (length (records ks))) (number (last_digest ks)) 8 (length-number (length (records ks)))) in
    let digest_is : digest ≡ last_digest ks = number_same digest (last_digest ks) tells.4 (last_fits digest_of_none ks (omega arith))
    (sym (drop_at (number size) (number digest) 8 (length-number size)) ∙ ap (drop 8) tallies ∙ drop_at (number (length (records ks))) (number (last_digest ks)) 8 (length-number (length (records ks)))) in
    (omega (arith, is.long, size_is), ap (λ (n : ℕ). part 41 n file) size_is ∙ is.holds, digest_is)

pub head_is : (n : ℕ) (file : List ℕ) → n ≤ 41 → length (take 41 file) ≤ n → take n file ≡ take 41 file
head_is n file short long = sym (take-take n 41 file short) ∙ take_all n (take 41 file) long
