-- The bytes that were read are a record's.
use Rattle.std.proofs.Common.{subst, ◌≡◌, ℕ, ◌+◌, List, [], ◌∷◌, ◌++◌, length, take, drop, refl, sym, ◌∙◌, ap, arith, append_assoc, length-drop}
use Rattle.std.proofs.Math.Seq.{take-add}
use Rattle.std.proofs.lemmas.List.{take_all, length-take}
use Rattle.pg_journal.specs.Device.{part}
use Rattle.pg_journal.specs.Digest.{with_byte, digest_on, digest_of_none}
use Rattle.pg_journal.specs.Records.{Kept, number, lengths, written, digest_after}
use Rattle.pg_journal.specs.Reading.{Replayed, IsNext, IsFound}
use Rattle.pg_journal.proofs.Appended.{written_push, digest_push}
use Rattle.pg_journal.proofs.Parts.{part_more}

pub digest_on-append : (d : ℕ) (xs ys : List ℕ) → digest_on (digest_on d xs) ys ≡ digest_on d (xs ++ ys)
digest_on-append d [] ys = refl
digest_on-append d (x ∷ xs) ys = digest_on-append (with_byte d x) xs ys

-- the first n + m bytes of a longer list
three : (n m : ℕ) (xs : List ℕ) → length xs ≡ (n + m) + 8 → xs ≡ (take n xs ++ take m (drop n xs)) ++ part (n + m) 8 xs
three n m xs long =
    sym (take_all ((n + m) + 8) xs (omega (arith, long))) ∙ take-add (n + m) 8 xs ∙ ap (λ (l : List ℕ). l ++ part (n + m) 8 xs) (take-add n m xs)

fields : (front : List ℕ) → length front ≡ 32 → front ≡ part 0 8 front ++ part 8 8 front ++ part 16 8 front ++ part 24 8 front
fields front long =
    sym (take_all 32 front (omega (arith, long)))
    ∙ part_more 0 24 8 front
    ∙ ap (λ (l : List ℕ). l ++ part 24 8 front) (part_more 0 16 8 front ∙ ap (λ (l : List ℕ). l ++ part 16 8 front) (part_more 0 8 8 front))

module _ (digest : ℕ) (front rest : List ℕ) (tenant body next reply_length reply_digest : ℕ)
    (long : length front ≡ 32) (rest_long : length rest ≡ (tenant + body) + 8)
    (t : number tenant ≡ part 0 8 front) (b : number body ≡ part 8 8 front) (l : number reply_length ≡ part 16 8 front) (d : number reply_digest ≡ part 24 8 front)
    (sum : next ≡ digest_on (digest_on digest front) (take (tenant + body) rest)) (kept_sum : number next ≡ part (tenant + body) 8 rest) where
  abbrev pub row : Kept
  row = record { tenant = take tenant rest; body = take body (drop tenant rest); reply_length = reply_length; reply_digest = reply_digest }

  tenant_is : tenant ≡ length (take tenant rest)
  tenant_is = omega (arith, length-take tenant rest, rest_long)

  body_is : body ≡ length (take body (drop tenant rest))
  body_is = omega (arith, length-take body (drop tenant rest), length-drop tenant rest, rest_long)

  front_is : front ≡ lengths row
  front_is =
      fields front long
      ∙ (λ i. ((sym t ∙ ap number tenant_is) i ++ (sym b ∙ ap number body_is) i ++ sym l i ++ sym d i))

  start : take (tenant + body) rest ≡ take tenant rest ++ take body (drop tenant rest)
  start = take-add tenant body rest

  pub sums_right : next ≡ digest_after digest row
  sums_right = sum ∙ digest_on-append digest front (take (tenant + body) rest) ∙ ap (digest_on digest) ((λ i. front_is i ++ start i) ∙ sym (append_assoc (lengths row) (take tenant rest) (take body (drop tenant rest))))

  pub bytes_right : front ++ rest ≡ written digest row
  bytes_right =
      (λ i. front_is i ++ (three tenant body rest rest_long ∙ ap (λ (m : List ℕ). (take tenant rest ++ take body (drop tenant rest)) ++ m) (sym kept_sum ∙ ap number sums_right)) i)
      ∙ sym (append_assoc (lengths row) (take tenant rest ++ take body (drop tenant rest)) (number (digest_after digest row)))
      ∙ ap (λ (m : List ℕ). m ++ number (digest_after digest row)) (sym (append_assoc (lengths row) (take tenant rest) (take body (drop tenant rest))))

-- one more is replayed
replayed_push : {R : Type 0} (replays : R → Kept → R → Type 0) (old : R) (ks : List Kept) (mid : R) (k : Kept) (new : R) → Replayed replays old ks mid → replays mid k new → Replayed replays old (ks ++ k ∷ []) new
replayed_push replays old [] mid k new same one = (new, subst (λ s. replays s k new) same one, refl)
replayed_push replays old (j ∷ ks) mid k new steps one = (steps.0, steps.1, replayed_push replays steps.0 ks mid k new steps.2 one)

-- one more record is found
pub found_more : {R : Type 0} (replays : R → Kept → R → Type 0) (at n digest next : ℕ) (file : List ℕ) (before mid after : R) (ks : List Kept) (k : Kept)
    → IsFound replays at digest file before mid ks → IsNext replays digest (part (41 + at) n file) next mid after k → IsFound replays (at + n) next file before after (ks ++ k ∷ [])
found_more replays at n digest next file before mid after ks k found one = record {
  bytes = part_more 41 at n file ∙ (λ i. found.bytes i ++ (one.bytes ∙ ap (λ (d : ℕ). written d k) found.sums) i) ∙ sym (written_push digest_of_none ks k);
  sums = one.sums ∙ ap (λ (d : ℕ). digest_after d k) found.sums ∙ sym (digest_push digest_of_none ks k);
  replayed = replayed_push replays before ks mid k after found.replayed one.replayed;
}
