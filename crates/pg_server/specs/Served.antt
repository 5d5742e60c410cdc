-- What serving a stream of frames promises: what was read, what was written, and the service's answers.
use Rattle.std.specs.Prelude.{◌≡◌, ℕ, ◌<◌, ◌≤◌, ◌⊎◌, List, [], ◌∷◌, ◌++◌, length, flat_map, Option, None, All}
use Rattle.std.specs.Io.KnownBytes.{Consumes, Appends, IsAtEnd}
use Rattle.pg_server.specs.declared.end.End.{End}
use Rattle.pg_server.specs.declared.end.End.TheVariants.{Done, Cut, TooLong, ReadFailed, WriteFailed, NoMemory}
use Rattle.pg_meaning.specs.declared.fault.Fault.TheVariants.{FrameTooLong}
use Rattle.pg_json.specs.Refusals.{refusal_text}
use Rattle.pg_server.specs.Counts.{next_count}
use Rattle.pg_server.specs.Frames.{frame, IsShort, IsPartial, IsTooLong}
use Rattle.pg_server.specs.Exchange.{Exchange, bodies_of, replies_of, Chain}

abbrev pub too_long_reply : List ℕ
too_long_reply = refusal_text FrameTooLong

abbrev pub frames : List (List ℕ) → List ℕ
frames bodies = flat_map frame bodies

-- so many frames of a stream are read in one way, whatever stands behind them
abbrev pub OneListOfBodies : Type 0
OneListOfBodies =
    (bodies bodies' : List (List ℕ)) (more more' : List ℕ)
    → All IsShort bodies → All IsShort bodies' → length bodies ≡ length bodies'
    → frames bodies ++ more ≡ frames bodies' ++ more'
    → bodies ≡ bodies'

-- all of these frames, but for some bytes of the last
pub record IsCutShort (output : List ℕ) (bodies : List (List ℕ)) : Type 0 where
  pub before : List (List ℕ)
  pub last : List ℕ
  pub sent : List ℕ
  pub lacking : List ℕ
  pub bodies_are : bodies ≡ before ++ last ∷ []
  pub output_is : output ≡ frames before ++ sent
  pub last_is : frame last ≡ sent ++ lacking
  pub some : 0 < length lacking

-- the bytes that a reader has still to give, or that a writer was given, before a run and after it; None where it states none
pub record Device : Type 0 where
  pub before : Option (List ℕ)
  pub after : Option (List ℕ)

abbrev pub device : (before after : Option (List ℕ)) → Device
device before after = record { before = before; after = after }

-- one that states nothing, as a socket
abbrev pub untold : Device
untold = device None None

-- what a run read and wrote: what was asked and answered, in order, what was read behind the last whole frame, and all that was written
pub record Transcript : Type 0 where
  pub exchanges : List Exchange
  pub rest : List ℕ
  pub output : List ℕ

-- How a run may end. Nothing is read once so many frames were served as were asked for.
abbrev pub Ends : End → (most : ℕ) → (at_end : Type 0) → Transcript → Type 0
-- the input ended between frames, or so many were served as were asked for
Ends Done most at_end t = (t.rest ≡ []) × (t.output ≡ frames (replies_of t.exchanges)) × (at_end ⊎ (length t.exchanges ≡ most))
-- it ended inside a frame
Ends Cut most at_end t = (IsPartial t.rest × (0 < length t.rest)) × (t.output ≡ frames (replies_of t.exchanges)) × at_end × (length t.exchanges < most)
Ends TooLong most at_end t = IsTooLong t.rest × (t.output ≡ frames (replies_of t.exchanges ++ too_long_reply ∷ [])) × (length t.exchanges < most)
Ends ReadFailed most at_end t = IsPartial t.rest × (t.output ≡ frames (replies_of t.exchanges)) × (length t.exchanges < most)
Ends WriteFailed most at_end t =
    ((t.rest ≡ []) × IsCutShort t.output (replies_of t.exchanges))
    ⊎ (IsTooLong t.rest × IsCutShort t.output (replies_of t.exchanges ++ too_long_reply ∷ []) × (length t.exchanges < most))
Ends NoMemory most at_end t = (t.rest ≡ []) × (t.exchanges ≡ []) × (t.output ≡ [])

pub record Served {S : Type 0} (answers : S → List ℕ → List ℕ → S → Type 0) (reader writer : Device) (old new : S) (most : ℕ) (end : End) : Type 0 where
  pub transcript : Transcript
  pub read : Consumes reader.before reader.after (frames (bodies_of transcript.exchanges) ++ transcript.rest)
  pub wrote : Appends writer.before writer.after transcript.output
  pub short : All IsShort (bodies_of transcript.exchanges)
  pub count : length transcript.exchanges ≤ most
  pub ends : Ends end most (IsAtEnd reader.after) transcript
  pub chain : Chain answers old transcript.exchanges new

-- a reader's count of faults after a run
abbrev pub read_faults : End → ℕ → ℕ
read_faults ReadFailed n = next_count n
read_faults _ n = n

-- a writer's
abbrev pub write_faults : End → ℕ → ℕ
write_faults WriteFailed n = next_count n
write_faults _ n = n
