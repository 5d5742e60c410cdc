-- The two steps by which waiting records get into a file.
use Rattle.std.specs.Prelude.{◌≡◌, ◌≤◌, Bool, not, ℕ, ◌+◌, List, ◌∷◌, ◌++◌, length, take, drop}
use Rattle.pg_journal.specs.Device.{part}
use Rattle.pg_journal.specs.Files.{mark, place_of, first_record}

-- what counts in a file is the same in another
pub record Spares (slot : Bool) (size : ℕ) (old new : List ℕ) : Type 0 where
  pub named : take 9 new ≡ take 9 old
  pub counts : part (place_of slot) 16 new ≡ part (place_of slot) 16 old
  pub holds : part first_record size new ≡ part first_record size old
  pub no_shorter : length old ≤ length new

-- the first step: the bytes stand behind what counts, and the other slot tells of them
pub record IsStaged (slot : Bool) (size : ℕ) (bytes tally old new : List ℕ) : Type 0 where
  pub spared : Spares slot size old new
  pub tallied : part (place_of (not slot)) 16 new ≡ tally
  pub behind : part (first_record + size) (length bytes) new ≡ bytes
  pub room : (first_record + size) + length bytes ≤ length new

-- the second: another slot counts
abbrev pub marked : Bool → List ℕ → List ℕ
marked slot file = take 8 file ++ mark slot ∷ drop 9 file
