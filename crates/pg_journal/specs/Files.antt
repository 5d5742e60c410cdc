-- What a file stands for.
use Rattle.std.specs.Prelude.{◌≡◌, ◌⊎◌, ℕ, ◌+◌, ◌≤◌, Bool, true, false, List, [], ◌∷◌, ◌++◌, length, take}
use Rattle.pg_journal.specs.Device.{part}
use Rattle.pg_journal.specs.Records.{Kept, number, records, last_digest}

-- "graphd j", the name of the format
abbrev pub name : List ℕ
name = 103 ∷ 114 ∷ 97 ∷ 112 ∷ 104 ∷ 100 ∷ 32 ∷ 106 ∷ []

-- the byte that tells which of two slots counts
abbrev pub mark : Bool → ℕ
mark false = 15
mark true = 51

-- where a slot stands
abbrev pub place_of : Bool → ℕ
place_of false = 9
place_of true = 25

-- where the records begin
abbrev pub first_record : ℕ
first_record = 41

-- what a slot says of the records: their length in bytes, and the last digest
abbrev pub tally : List Kept → List ℕ
tally kept = number (length (records kept)) ++ number (last_digest kept)

-- The file is a journal of these records: the slot that counts tells them. What stands behind them, and in the other slot, is free.
pub record IsJournalOf (kept : List Kept) (file : List ℕ) : Type 0 where
  pub slot : Bool
  pub named : take 9 file ≡ name ++ mark slot ∷ []
  pub counts : part (place_of slot) 16 file ≡ tally kept
  pub holds : part first_record (length (records kept)) file ≡ records kept
  pub long : first_record + length (records kept) ≤ length file

-- a file that is no journal yet: of at most one byte, or its first byte is zero and no record could stand in it
abbrev pub IsUnbegun : List ℕ → Type 0
IsUnbegun file = (length file ≤ 1) ⊎ ((take 1 file ≡ 0 ∷ []) × (length file ≤ first_record))

-- what a start finds in a file
abbrev pub Recovers : List Kept → List ℕ → Type 0
Recovers kept file = (IsUnbegun file × (kept ≡ [])) ⊎ IsJournalOf kept file
