-- Parts of a file that a write leaves, and the part that it writes.
use Rattle.std.proofs.Common.{◌≡◌, inr, ℕ, ◌+◌, ◌-◌, ◌≤◌, List, ◌++◌, length, take, drop, refl, sym, ◌∙◌, ap, subst, arith, append_assoc, length-append, length-drop}
use Rattle.std.proofs.Math.Seq.{take-add}
use Rattle.std.proofs.lemmas.List.{take_at, drop_at, take-take, drop-drop, drop-take, length-take-le}
use Rattle.pg_journal.specs.Device.{part, Holds, Torn}

-- a part that lies in equal beginnings
pub part_before : (at p n : ℕ) (old new : List ℕ) → take at new ≡ take at old → p + n ≤ at → part p n new ≡ part p n old
part_before at p n old new same le =
    sym (drop-take p n new)
    ∙ ap (drop p) (sym (take-take (p + n) at new le) ∙ ap (take (p + n)) same ∙ take-take (p + n) at old le)
    ∙ drop-take p n old

-- a part that lies in equal ends
pub part_after : (end p n : ℕ) (old new : List ℕ) → drop end new ≡ drop end old → end ≤ p → part p n new ≡ part p n old
part_after end p n old new same le = ap (take n) (behind new ∙ ap (drop (p - end)) same ∙ sym (behind old))
  where
    behind : (file : List ℕ) → drop p file ≡ drop (p - end) (drop end file)
    behind file = ap (λ (k : ℕ). drop k file) (omega (arith, le)) ∙ sym (drop-drop (p - end) end file)

pub part_more : (p n m : ℕ) (file : List ℕ) → part p (n + m) file ≡ part p n file ++ part (p + n) m file
part_more p n m file = take-add n m (drop p file) ∙ ap (λ (l : List ℕ). part p n file ++ take m l) (drop-drop n p file)

module _ (old new : List ℕ) (at : ℕ) (bytes : List ℕ) (fits : at ≤ length old) (holds : Holds old at bytes new) where
  first : length (take at old) ≡ at
  first = length-take-le at old fits

  pub held_before : take at new ≡ take at old
  held_before = ap (take at) holds ∙ ap (take at) (append_assoc (take at old) bytes (drop (at + length bytes) old)) ∙ take_at (take at old) (bytes ++ drop (at + length bytes) old) at first

  pub held_after : drop (at + length bytes) new ≡ drop (at + length bytes) old
  held_after = ap (drop (at + length bytes)) holds ∙ drop_at (take at old ++ bytes) (drop (at + length bytes) old) (at + length bytes) (omega (arith, first, length-append (take at old) bytes))

  pub held : part at (length bytes) new ≡ bytes
  held =
      ap (λ (l : List ℕ). take (length bytes) (drop at l)) (holds ∙ append_assoc (take at old) bytes (drop (at + length bytes) old))
      ∙ ap (take (length bytes)) (drop_at (take at old) (bytes ++ drop (at + length bytes) old) at first)
      ∙ take_at bytes (drop (at + length bytes) old) (length bytes) refl

  pub held_length : length new ≡ (at + length bytes) + (length old - (at + length bytes))
  held_length = omega (arith, ap length holds, first, length-append (take at old) bytes, length-append (take at old ++ bytes) (drop (at + length bytes) old), length-drop (at + length bytes) old)

  -- what was written whole is one of the outcomes of a write that is cut short
  pub held_torn : Torn at bytes old new
  held_torn = record {
    before = held_before;
    after = held_after;
    no_shorter = omega (arith, held_length);
    no_longer = omega (arith, held_length);
    one_byte = λ one there. inr (subst (λ (n : ℕ). part at n new ≡ bytes) one held);
  }
