-- What the calls that read and write frames do to the bytes and to the counts of faults.
use Rattle.std.specs.Prelude.{◌≡◌, ℕ, ◌<◌, ◌≤◌, List, [], ◌++◌, length, take, Option, Result, OnOk, OnErr, slice_index}
use Rattle.std.specs.Io.KnownBytes.{Consumes, Appends, IsAtEnd}
use Rattle.pg_server.specs.declared.wire.Filled.{Filled}
use Rattle.pg_server.specs.declared.wire.Filled.TheVariants.{Whole, Ended, Failed as NotFilled}
use Rattle.pg_server.specs.declared.wire.Incoming.{Incoming}
use Rattle.pg_server.specs.declared.wire.Incoming.TheVariants.{NoFrame, Cut, TooLong, Failed, Body}
use Rattle.pg_server.specs.Counts.{next_count}
use Rattle.pg_server.specs.Frames.{frame, body_limit, IsPartial, IsTooLong}

abbrev pub AreBytes : List ℕ → Type 0
AreBytes bytes = (i : ℕ) → slice_index bytes i < 256

-- what was got, by how the filling of buf ended
abbrev pub IsFilled : Filled → List ℕ → List ℕ → Type 0 → ℕ → ℕ → Type 0
IsFilled Whole got buf at_end before after = (got ≡ buf) × (after ≡ before)
IsFilled (Ended n) got buf at_end before after = (length got ≡ n) × (n < length buf) × at_end × (after ≡ before)
IsFilled NotFilled got buf at_end before after = (length got < length buf) × (after ≡ next_count before)

-- the reader gave some bytes, at whose end the buffer is full, the input over or the reader failed
pub record Fills (old new : Option (List ℕ)) (before after : ℕ) (buf : List ℕ) (result : Filled) : Type 0 where
  pub got : List ℕ
  pub read : Consumes old new got
  pub filled : IsFilled result got buf (IsAtEnd new) before after

-- what was got, by how the reading of a frame ended
abbrev pub IsIncoming : Incoming → List ℕ → List ℕ → Type 0 → ℕ → ℕ → Type 0
IsIncoming NoFrame got buf at_end before after = (got ≡ []) × at_end × (after ≡ before)
IsIncoming Cut got buf at_end before after = IsPartial got × (0 < length got) × at_end × (after ≡ before)
IsIncoming TooLong got buf at_end before after = IsTooLong got × (after ≡ before)
IsIncoming Failed got buf at_end before after = IsPartial got × (after ≡ next_count before)
IsIncoming (Body n) got buf at_end before after = (got ≡ frame (take n buf)) × (n ≤ body_limit) × (after ≡ before)

pub record Receives (old new : Option (List ℕ)) (before after : ℕ) (buf : List ℕ) (result : Incoming) : Type 0 where
  pub got : List ℕ
  pub read : Consumes old new got
  pub incoming : IsIncoming result got buf (IsAtEnd new) before after

-- the writer took all of the bytes, or failed with some of them lacking
pub record Sends {T E : Type 0} (old new : Option (List ℕ)) (before after : ℕ) (bytes : List ℕ) (result : Result T E) : Type 0 where
  pub sent : List ℕ
  pub lacking : List ℕ
  pub wrote : Appends old new sent
  pub parts : bytes ≡ sent ++ lacking
  pub ok : OnOk result ((lacking ≡ []) × (after ≡ before))
  pub err : OnErr result ((0 < length lacking) × (after ≡ next_count before))
