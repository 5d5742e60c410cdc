-- A server beside its journal, moment by moment: nothing is sent before what was done is on the disk.
use Rattle.std.specs.Prelude.{◌≡◌, ◌⊎◌, ℕ, true, false, List, [], ◌∷◌, ◌++◌, Option}
use Rattle.pg_journal.specs.Device.{LeavesOnly}
use Rattle.pg_journal.specs.Files.{IsJournalOf}
use Rattle.pg_journal.specs.Reading.{Replayed}
use Rattle.pg_journal.specs.Records.{Kept}
use Rattle.pg_journal.specs.Ready.{IsReady, IsBeforeOrAfter, device_of}
use Rattle.pg_listen.specs.Courses.{Does, Course}
use Rattle.pg_listen.specs.Events.{Event, sent, exchanges_in}
use Rattle.pg_listen.specs.Keeping.{Again, IsKeptOf, HasKept}
use Rattle.pg_listen.specs.Listens.{Listens, IsRollback}
use Rattle.pg_listen.specs.declared.keeper.Keeper.{Keeper}
use Rattle.pg_server.specs.Handles.{Handles}
use Rattle.pg_server.specs.Runs.{Runs}
use Rattle.pg_server.specs.State.{ServerState, state_at}
use Rattle.pg_value.specs.Texts.{has_duplicate}

-- a server, its tenants' names and what keeps what it does, the records that are on the disk, and those that wait
pub record Moment (D : Type 0) : Type 0 where
  pub server : ServerState
  pub names : List (List ℕ)
  pub keeper : Keeper D
  pub kept : List Kept
  pub waiting : List Kept

abbrev pub moment_of : {D : Type 0} → ServerState → (names : List (List ℕ)) → Keeper D → (kept waiting : List Kept) → Moment D
moment_of server names keeper kept waiting = record { server = server; names = names; keeper = keeper; kept = kept; waiting = waiting }

abbrev pub file_of : {D : Type 0} → Moment D → D
file_of m = device_of m.keeper.journal

-- A request is answered, and what is kept of it waits behind the others. None is lost by that, and the file is left alone.
pub record AnswersKept {D : Type 0} (old : Moment D) (body reply : List ℕ) (new : Moment D) : Type 0 where
  pub handles : Handles old.server body reply new.server
  pub names : new.names ≡ old.names
  pub more : List Kept
  pub is_kept : IsKeptOf old.names old.server body reply new.server more
  pub kept : new.kept ≡ old.kept
  pub waiting : new.waiting ≡ old.waiting ++ more
  pub lost : new.keeper.lost ≡ old.keeper.lost
  pub file : file_of new ≡ file_of old

-- all that waited is written, or that failed
abbrev pub IsWritten : {D : Type 0} → Moment D → Moment D → Type 0
IsWritten old new =
    ((new.kept ≡ old.kept ++ old.waiting) × (new.waiting ≡ [])) ⊎ ((new.keeper.lost ≡ true) × (new.kept ≡ old.kept) × (new.waiting ≡ old.waiting))

-- What waits is written; a crash at any moment of that leaves the records from before, with all that waited or with none. Or nothing is done.
abbrev pub SettlesKept : {D : Type 0} → (D → ℕ) → (D → ℕ → List ℕ → Type 0) → Moment D → Moment D → Type 0
SettlesKept moment left_since old new =
    (new.server ≡ old.server) × (new.names ≡ old.names) × ((new ≡ old) ⊎ (LeavesOnly moment left_since (file_of old) (file_of new) (IsBeforeOrAfter old.kept old.waiting) × IsWritten old new))

-- nothing waits, and a crash leaves the records
abbrev pub AllIsKept : {D : Type 0} → (D → List ℕ) → (D → List ℕ → Type 0) → Moment D → Type 0
AllIsKept seen may_leave m = (m.waiting ≡ []) × IsReady seen may_leave m.keeper.journal m.kept []

-- what happens at each event: bytes are sent, whoever they are for, where all is kept
abbrev pub DoesKept : {D : Type 0} → (D → List ℕ) → (D → List ℕ → Type 0) → (D → ℕ) → (D → ℕ → List ℕ → Type 0) → Moment D → Event → Moment D → Type 0
DoesKept seen may_leave moment left_since = Does AnswersKept (SettlesKept moment left_since) (AllIsKept seen may_leave)

-- From a journal that has these records, the events lead from moment to moment, to one that has those.
abbrev pub KeepsAll : {D : Type 0} → (D → List ℕ) → (D → List ℕ → Type 0) → (D → ℕ) → (D → ℕ → List ℕ → Type 0) → ServerState → ServerState → (names names' : List (List ℕ)) → Keeper D → Keeper D → List Event → Type 0
KeepsAll seen may_leave moment left_since old new names names' keeper keeper' events =
    (kept waiting : List Kept) → HasKept seen may_leave kept waiting keeper
    → (kept' : List Kept) × (waiting' : List Kept) × Course (DoesKept seen may_leave moment left_since) (moment_of old names keeper kept waiting) events (moment_of new names' keeper' kept' waiting') × HasKept seen may_leave kept' waiting' keeper'

-- The server serves many, and nothing is sent before what was done is kept.
abbrev pub ServesKept : {D : Type 0} → Type 0 → (D → List ℕ) → (D → List ℕ → Type 0) → (D → ℕ) → (D → ℕ → List ℕ → Type 0) → Option (List Event) → Option (List Event) → ServerState → ServerState → (names names' : List (List ℕ)) → Keeper D → Keeper D → Type 0
ServesKept is_honest seen may_leave moment left_since trace trace' old new names names' keeper keeper' =
    (l : Listens Handles IsRollback trace trace' old new) × Runs old (exchanges_in l.events) new × (is_honest → KeepsAll seen may_leave moment left_since old new names names' keeper keeper' l.events)

-- the file is a journal of these records, and maybe of more behind them
abbrev pub HasAtLeast : List Kept → List ℕ → Type 0
HasAtLeast ks file = (more : List Kept) × IsJournalOf (ks ++ more) file

-- Wherever bytes are sent, what was done before is kept, and a crash at any moment from then on leaves a file that has it.
abbrev pub CrashesKeep : {D : Type 0} → (D → List ℕ) → (D → List ℕ → Type 0) → (D → ℕ) → (D → ℕ → List ℕ → Type 0) → Type 0
CrashesKeep {D} seen may_leave moment left_since =
    (old new : Moment D) (front back : List Event) (c : ℕ) (bytes : List ℕ) → Course (DoesKept seen may_leave moment left_since) old (front ++ sent c bytes ∷ back) new
    → (mid : Moment D) × Course (DoesKept seen may_leave moment left_since) old front mid × AllIsKept seen may_leave mid
    × ((file : List ℕ) → left_since (file_of new) (moment (file_of mid)) file → HasAtLeast mid.kept file)

-- each tenant of one server is as that of another
abbrev pub AreAlike : ServerState → ServerState → Type 0
AreAlike a b = (t : ℕ) → state_at a t ≡ state_at b t

-- To answer again what was kept between two moments, over the same names, leads each tenant from where it was at the first to where it was at the second.
abbrev pub LeadsAgain : {D : Type 0} → Moment D → Moment D → Type 0
LeadsAgain old new =
    (more : List Kept) × (new.kept ++ new.waiting ≡ (old.kept ++ old.waiting) ++ more)
    × ((again again' : ServerState) → AreAlike again old.server → Replayed (Again old.names) again more again' → AreAlike again' new.server)

-- so it is of each run where no two tenants have one name
abbrev pub RunsAgain : {D : Type 0} → (D → List ℕ) → (D → List ℕ → Type 0) → (D → ℕ) → (D → ℕ → List ℕ → Type 0) → Type 0
RunsAgain {D} seen may_leave moment left_since = (old new : Moment D) (events : List Event) → has_duplicate [] old.names ≡ false → Course (DoesKept seen may_leave moment left_since) old events new → LeadsAgain old new
