-- A journal that can keep records: some are in the file, all of it on the disk, and others wait.
use Rattle.std.specs.Prelude.{◌≡◌, ◌⊎◌, ◌≤◌, Bool, ℕ, ◌+◌, List, [], ◌∷◌, ◌++◌, length, take, vec_len, vec_capacity}
use Rattle.pg_journal.specs.Device.{part, Only}
use Rattle.pg_journal.specs.Records.{Kept, records, last_digest, all_written, digest_after_all}
use Rattle.pg_journal.specs.Files.{name, mark, place_of, first_record, tally, IsJournalOf}
use Rattle.pg_journal.specs.declared.journal.Journal.{Journal}

abbrev pub device_of : {D : Type 0} → Journal D → D
device_of journal = journal.device

-- the file of a journal of these records, whose slot is this one
pub record IsFile (slot : Bool) (size digest : ℕ) (kept : List Kept) (file : List ℕ) : Type 0 where
  pub named : take 9 file ≡ name ++ mark slot ∷ []
  pub counts : part (place_of slot) 16 file ≡ tally kept
  pub holds : part first_record size file ≡ records kept
  pub size_is : size ≡ length (records kept)
  pub sums : digest ≡ last_digest kept
  pub room : first_record + size ≤ length file

pub record IsReady {D : Type 0} (seen : D → List ℕ) (may_leave : D → List ℕ → Type 0) (journal : Journal D) (kept waiting : List Kept) : Type 0 where
  pub file : IsFile journal.slot journal.size journal.digest kept (seen journal.device)
  pub durable : Only (seen journal.device) (may_leave journal.device)
  pub waits : journal.waiting.items ≡ all_written journal.digest waiting
  pub sums : journal.waiting_digest ≡ digest_after_all journal.digest waiting

-- the file stands for these records, with all those that waited or with none
abbrev pub IsBeforeOrAfter : List Kept → List Kept → List ℕ → Type 0
IsBeforeOrAfter kept waiting file = IsJournalOf kept file ⊎ IsJournalOf (kept ++ waiting) file

-- a record whose texts have so many bytes fits into the memory that there is for those that wait
abbrev pub HasRoom : {D : Type 0} → Journal D → ℕ → Type 0
HasRoom journal texts = vec_len journal.waiting + (40 + texts) ≤ vec_capacity journal.waiting
