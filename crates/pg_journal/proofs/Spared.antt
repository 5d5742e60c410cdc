-- What each step of a flush leaves.
use Rattle.std.proofs.Common.{◌≡◌, ◌⊎◌, inl, inr, ⊎_elim, ℕ, ◌+◌, ◌≤◌, Bool, true, false, List, [], ◌∷◌, ◌++◌, length, take, drop, refl, sym, ◌∙◌, ap, subst, arith, append_assoc, take-append-drop}
use Rattle.std.specs.Prelude.{not}
use Rattle.std.proofs.lemmas.List.{drop-drop}
use Rattle.pg_journal.specs.Device.{part, Holds, Torn}
use Rattle.pg_journal.specs.Files.{mark, place_of}
use Rattle.pg_journal.specs.Steps.{Spares, IsStaged, marked}
use Rattle.pg_journal.proofs.Parts.{part_before, part_after, held_before, held_after, held, held_length}

-- a change behind the records
pub spares_behind : (slot : Bool) (size : ℕ) (old new : List ℕ) → take (41 + size) new ≡ take (41 + size) old → length old ≤ length new → Spares slot size old new
spares_behind slot size old new same longer = record {
  named = part_before (41 + size) 0 9 old new same (omega arith);
  counts = slots slot;
  holds = part_before (41 + size) 41 size old new same (omega arith);
  no_shorter = longer;
}
  where
    slots : (s : Bool) → part (place_of s) 16 new ≡ part (place_of s) 16 old
    slots false = part_before (41 + size) 9 16 old new same (omega arith)
    slots true = part_before (41 + size) 25 16 old new same (omega arith)

-- a change of the other slot
pub spares_slot : (slot : Bool) (size : ℕ) (old new : List ℕ) → take (place_of (not slot)) new ≡ take (place_of (not slot)) old → drop (place_of (not slot) + 16) new ≡ drop (place_of (not slot) + 16) old → length old ≤ length new → Spares slot size old new
spares_slot false size old new before after longer = record {
  named = part_before 25 0 9 old new before (omega arith);
  counts = part_before 25 9 16 old new before (omega arith);
  holds = part_after 41 41 size old new after (omega arith);
  no_shorter = longer;
}
spares_slot true size old new before after longer = record {
  named = part_before 9 0 9 old new before (omega arith);
  counts = part_after 25 25 16 old new after (omega arith);
  holds = part_after 25 41 size old new after (omega arith);
  no_shorter = longer;
}

pub spares_self : (slot : Bool) (size : ℕ) (old : List ℕ) → Spares slot size old old
spares_self slot size old = record { named = refl; counts = refl; holds = refl; no_shorter = omega arith }

pub spares_then : (slot : Bool) (size : ℕ) (old mid new : List ℕ) → Spares slot size old mid → Spares slot size mid new → Spares slot size old new
spares_then slot size old mid new first second = record {
  named = second.named ∙ first.named;
  counts = second.counts ∙ first.counts;
  holds = second.holds ∙ first.holds;
  no_shorter = omega (arith, first.no_shorter, second.no_shorter);
}

pub torn_behind : (slot : Bool) (size : ℕ) (bytes old new : List ℕ) → Torn (41 + size) bytes old new → Spares slot size old new
torn_behind slot size bytes old new torn = spares_behind slot size old new torn.before torn.no_shorter

pub torn_slot : (slot : Bool) (size : ℕ) (tally old new : List ℕ) → length tally ≡ 16 → Torn (place_of (not slot)) tally old new → Spares slot size old new
torn_slot slot size tally old new long torn =
    spares_slot slot size old new torn.before (subst (λ (n : ℕ). drop (place_of (not slot) + n) new ≡ drop (place_of (not slot) + n) old) long torn.after) torn.no_shorter

pub place_fits : (slot : Bool) → place_of slot + 16 ≤ 41
place_fits false = omega arith
place_fits true = omega arith

-- both writes
pub staged : (slot : Bool) (size : ℕ) (bytes tally old mid new : List ℕ) → length tally ≡ 16 → 41 + size ≤ length old → Holds old (41 + size) bytes mid → Holds mid (place_of (not slot)) tally new → IsStaged slot size bytes tally old new
staged slot size bytes tally old mid new long fits first second =
    let mid_long = held_length old mid (41 + size) bytes fits first in
    let at = place_of (not slot) in
    let at_fits = place_fits (not slot) in
    let other_fits : at ≤ length mid = omega (arith, mid_long, at_fits) in
    let new_long = held_length mid new at tally other_fits second in
    let before = held_before mid new at tally other_fits second in
    let after = subst (λ (n : ℕ). drop (at + n) new ≡ drop (at + n) mid) long (held_after mid new at tally other_fits second) in
    let mid_spares = spares_behind slot size old mid (held_before old mid (41 + size) bytes fits first) (omega (arith, mid_long)) in
    record {
      spared = spares_then slot size old mid new mid_spares (spares_slot slot size mid new before after (omega (arith, new_long, long, mid_long, at_fits)));
      tallied = subst (λ (n : ℕ). part at n new ≡ tally) long (held mid new at tally other_fits second);
      behind = part_after (at + 16) (41 + size) (length bytes) mid new after (omega (arith, at_fits)) ∙ held old mid (41 + size) bytes fits first;
      room = omega (arith, new_long, long, mid_long, at_fits);
    }

-- ---- the mark

-- a file is its first eight bytes, its ninth and the rest
nine : (file : List ℕ) → file ≡ take 8 file ++ part 8 1 file ++ drop 9 file
nine file =
    sym (take-append-drop 8 file)
    ∙ ap (λ (l : List ℕ). take 8 file ++ l) (sym (take-append-drop 1 (drop 8 file)) ∙ ap (λ (l : List ℕ). part 8 1 file ++ l) (drop-drop 1 8 file))
    ∙ sym (append_assoc (take 8 file) (part 8 1 file) (drop 9 file))

pub marked_by : (slot : Bool) (old new : List ℕ) → Holds old 8 (mark slot ∷ []) new → new ≡ marked slot old
marked_by slot old new holds = holds ∙ append_assoc (take 8 old) (mark slot ∷ []) (drop 9 old)

pub torn_mark : (slot : Bool) (old new : List ℕ) → 41 ≤ length old → Torn 8 (mark slot ∷ []) old new → (new ≡ old) ⊎ (new ≡ marked slot old)
torn_mark slot old new fits torn =
    let around : (ninth : List ℕ) → part 8 1 new ≡ ninth → new ≡ take 8 old ++ ninth ++ drop 9 old = λ ninth is.
    nine new ∙ (λ i. torn.before i ++ is i ++ torn.after i) in
    ⊎_elim (λ same. inl (around (part 8 1 old) same ∙ sym (nine old))) (λ turned. inr (around (mark slot ∷ []) turned ∙ append_assoc (take 8 old) (mark slot ∷ []) (drop 9 old))) (torn.one_byte refl (omega (arith, fits)))
