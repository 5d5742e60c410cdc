-- What reading a file leaves, and what its head tells.
use Rattle.std.specs.Prelude.{◌≡◌, ◌⊎◌, ◌<◌, ◌≤◌, ◌^◌, Bool, ℕ, List, [], ◌∷◌, ◌++◌, length, take}
use Rattle.pg_journal.specs.Device.{part, LeavesOnly}
use Rattle.pg_journal.specs.Records.{Kept, number, records, last_digest, written, digest_after}
use Rattle.pg_journal.specs.Files.{name, mark, place_of, first_record, Recovers}
use Rattle.pg_journal.specs.Ready.{IsFile}
use Rattle.pg_journal.specs.declared.head.Head.{Head}
use Rattle.pg_journal.specs.declared.head.Head.TheVariants.{Unbegun, Foreign, Damaged, Counts}

-- the file is as it was, and a crash since then leaves no more than before
pub record IsRead {D : Type 0} (seen : D → List ℕ) (may_leave : D → List ℕ → Type 0) (moment : D → ℕ) (left_since : D → ℕ → List ℕ → Type 0) (old new : D) : Type 0 where
  pub same : seen new ≡ seen old
  pub fewer : (c : List ℕ) → may_leave new c → may_leave old c
  pub run : LeavesOnly moment left_since old new (may_leave old)

-- there is a journal neither by the head nor to be begun
abbrev pub IsNoHead : List ℕ → ℕ → Type 0
IsNoHead head size =
    ((size ≤ 1) ⊎ ((take 1 head ≡ 0 ∷ []) × (size ≤ first_record)) → ⊥)
    × ((slot : Bool) → length head ≡ first_record → take 9 head ≡ name ++ mark slot ∷ [] → ⊥)

-- its lengths are those of texts in memory
abbrev pub IsSized : Kept → Type 0
IsSized k = (length k.tenant < 2 ^ 64) × (length k.body < 2 ^ 64)

-- what the first bytes of a file of this length tell
abbrev pub Tells : List ℕ → ℕ → Head → Type 0
Tells head size Unbegun = (size ≤ 1) ⊎ ((take 1 head ≡ 0 ∷ []) × (size ≤ first_record))
Tells head size Foreign = IsNoHead head size
Tells head size Damaged = IsNoHead head size
Tells head size (Counts slot bytes digest) =
    (take 9 head ≡ name ++ mark slot ∷ []) × (part (place_of slot) 16 head ≡ number bytes ++ number digest) × (length head ≡ first_record) × (bytes < 2 ^ 64) × (digest < 2 ^ 64)

-- replaying these records in order leads from one state to the other
abbrev pub Replayed : {R : Type 0} → (R → Kept → R → Type 0) → R → List Kept → R → Type 0
Replayed replays old [] new = new ≡ old
Replayed {R} replays old (k ∷ ks) new = (mid : R) × replays old k mid × Replayed replays mid ks new

-- the bytes are this record's behind those with a digest, and it is replayed
pub record IsNext {R : Type 0} (replays : R → Kept → R → Type 0) (digest : ℕ) (bytes_read : List ℕ) (next : ℕ) (before after : R) (k : Kept) : Type 0 where
  pub bytes : bytes_read ≡ written digest k
  pub sums : next ≡ digest_after digest k
  pub replayed : replays before k after

-- so many bytes of the file are these records', and they are replayed
pub record IsFound {R : Type 0} (replays : R → Kept → R → Type 0) (size digest : ℕ) (file : List ℕ) (before after : R) (ks : List Kept) : Type 0 where
  pub bytes : part first_record size file ≡ records ks
  pub sums : digest ≡ last_digest ks
  pub replayed : Replayed replays before ks after

-- the old file stands for these records, the new one is their journal, and they are replayed
pub record FindsIn {R : Type 0} (replays : R → Kept → R → Type 0) (old new : List ℕ) (slot : Bool) (size digest : ℕ) (before after : R) (ks : List Kept) : Type 0 where
  pub recovers : Recovers ks old
  pub file : IsFile slot size digest ks new
  pub replayed : Replayed replays before ks after

-- a file stands for the records for which another one does
abbrev pub RecoversAlike : List ℕ → List ℕ → Type 0
RecoversAlike old new = (ks : List Kept) → Recovers ks old → Recovers ks new
