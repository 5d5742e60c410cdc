-- What a flush makes of a file.
use Rattle.std.proofs.Common.{◌≡◌, ℕ, ◌+◌, ◌≤◌, Bool, true, false, List, [], ◌∷◌, ◌++◌, length, take, drop, sym, ◌∙◌, ap, subst, arith, append_assoc, length-append, length-drop}
use Rattle.std.specs.Prelude.{not}
use Rattle.std.proofs.lemmas.List.{take_at, drop_at, take-take, length-take-le}
use Rattle.pg_journal.specs.Device.{part}
use Rattle.pg_journal.specs.Digest.{digest_of_none}
use Rattle.pg_journal.specs.Records.{Kept, number, records, last_digest, all_written, digest_after_all}
use Rattle.pg_journal.specs.Files.{mark, place_of, IsJournalOf}
use Rattle.pg_journal.specs.Ready.{IsFile}
use Rattle.pg_journal.specs.Steps.{Spares, IsStaged, marked}
use Rattle.pg_journal.proofs.Appended.{written-append, digests-append}
use Rattle.pg_journal.proofs.Parts.{part_after, part_more}

pub file_journal : (slot : Bool) (size digest : ℕ) (ks : List Kept) (file : List ℕ) → IsFile slot size digest ks file → IsJournalOf ks file
file_journal slot size digest ks file is = record {
  slot = slot;
  named = is.named;
  counts = is.counts;
  holds = subst (λ (n : ℕ). part 41 n file ≡ records ks) is.size_is is.holds;
  long = omega (arith, is.room, is.size_is);
}

pub spared_file : (slot : Bool) (size digest : ℕ) (ks : List Kept) (old new : List ℕ) → IsFile slot size digest ks old → Spares slot size old new → IsFile slot size digest ks new
spared_file slot size digest ks old new is spares = record {
  named = spares.named ∙ is.named;
  counts = spares.counts ∙ is.counts;
  holds = spares.holds ∙ is.holds;
  size_is = is.size_is;
  sums = is.sums;
  room = omega (arith, is.room, spares.no_shorter);
}

module _ (slot : Bool) (file : List ℕ) (long : 41 ≤ length file) where
  first : length (take 8 file) ≡ 8
  first = length-take-le 8 file (omega (arith, long))

  front : take 8 (marked slot file) ≡ take 8 file
  front = take_at (take 8 file) (mark slot ∷ drop 9 file) 8 first

  rest : drop 9 (marked slot file) ≡ drop 9 file
  rest = ap (drop 9) (sym (append_assoc (take 8 file) (mark slot ∷ []) (drop 9 file))) ∙ drop_at (take 8 file ++ mark slot ∷ []) (drop 9 file) 9 (omega (arith, first, length-append (take 8 file) (mark slot ∷ [])))

  nine : take 9 (marked slot file) ≡ take 8 file ++ mark slot ∷ []
  nine = ap (take 9) (sym (append_assoc (take 8 file) (mark slot ∷ []) (drop 9 file))) ∙ take_at (take 8 file ++ mark slot ∷ []) (drop 9 file) 9 (omega (arith, first, length-append (take 8 file) (mark slot ∷ [])))

  pub length-marked : length (marked slot file) ≡ length file
  length-marked = omega (arith, first, length-append (take 8 file) (mark slot ∷ drop 9 file), length-drop 9 file)

  slots : (s : Bool) → part (place_of s) 16 (marked slot file) ≡ part (place_of s) 16 file
  slots false = part_after 9 9 16 file (marked slot file) rest (omega arith)
  slots true = part_after 9 25 16 file (marked slot file) rest (omega arith)

  behind : (n : ℕ) → part 41 n (marked slot file) ≡ part 41 n file
  behind n = part_after 9 41 n file (marked slot file) rest (omega arith)

-- the bytes that were staged count
pub marked_file : (slot : Bool) (size digest digest' : ℕ) (ks ws : List Kept) (bytes old new : List ℕ)
    → IsFile slot size digest ks old
    → bytes ≡ all_written digest ws → digest' ≡ digest_after_all digest ws
    → IsStaged slot size bytes (number (size + length bytes) ++ number digest') old new
    → IsFile (not slot) (size + length bytes) digest' (ks ++ ws) (marked (not slot) new)
marked_file slot size digest digest' ks ws bytes old new is bytes_are digest_is staged =
    let file = spared_file slot size digest ks old new is staged.spared in
    let long : 41 ≤ length new = omega (arith, file.room) in
    let all : records (ks ++ ws) ≡ records ks ++ bytes = written-append digest_of_none ks ws ∙ ap (λ (d : ℕ). records ks ++ all_written d ws) (sym is.sums) ∙ ap (λ (l : List ℕ). records ks ++ l) (sym bytes_are) in
    let sum : digest' ≡ last_digest (ks ++ ws) = digest_is ∙ ap (λ (d : ℕ). digest_after_all d ws) is.sums ∙ sym (digests-append digest_of_none ks ws) in
    let size_is : size + length bytes ≡ length (records (ks ++ ws)) = omega (arith, ap length all, length-append (records ks) bytes, is.size_is) in
    record {
      named = nine (not slot) new long ∙ ap (λ (l : List ℕ). l ++ mark (not slot) ∷ []) (sym (take-take 8 9 new (omega arith)) ∙ ap (take 8) file.named);
      counts = slots (not slot) new long (not slot) ∙ staged.tallied ∙ (λ i. number (size_is i) ++ number (sum i));
      holds = behind (not slot) new long (size + length bytes) ∙ part_more 41 size (length bytes) new ∙ (λ i. file.holds i ++ staged.behind i) ∙ sym all;
      size_is = size_is;
      sums = sum;
      room = omega (arith, staged.room, length-marked (not slot) new long);
    }
