-- Listens: what serving many clients at once promises.
use Rattle.std.specs.Prelude.{◌≡◌, ℕ, true, false, List, ◌++◌, Option, Some, All}
use Rattle.pg_listen.specs.Courses.{Course}
use Rattle.pg_listen.specs.Events.{Event, received_from, sent_to, exchanges_by, exchanges_in, own_in, carried_in, Adds}
use Rattle.pg_json.specs.Requests.{rollback}
use Rattle.pg_server.specs.Exchange.{bodies_of, replies_of, Chain}
use Rattle.pg_server.specs.Frames.{IsShort}
use Rattle.pg_server.specs.Served.{frames}
use Rattle.pg_listen.specs.Frames.{BeginsTooLong}
use Rattle.pg_server.specs.Handles.{Handles}
use Rattle.pg_server.specs.Runs.{Runs, asked}
use Rattle.pg_server.specs.State.{ServerState}
use Rattle.pg_listen.specs.Moves.{Seen, refusal_of}

-- What was read of a client is the frames of its requests, in the order in which they were answered, and then what was not answered.
-- What its connection took is a beginning of the frames of the replies in that order; behind them stands the refusal of a length that is too long.
pub record StandsAt (c : ℕ) (events : List Event) (seen : Seen) : Type 0 where
  pub received : received_from c events ≡ frames (bodies_of (exchanges_by c events)) ++ seen.inbox
  pub sent : frames (replies_of (exchanges_by c events) ++ refusal_of false seen.refused) ≡ sent_to c events ++ seen.pending
  pub short : All IsShort (bodies_of (exchanges_by c events))
  pub why : seen.refused ≡ true → BeginsTooLong seen.inbox

abbrev pub Converses : ℕ → List Event → Type 0
Converses c events = (seen : Seen) × StandsAt c events seen

-- What happened, in order, as a course of the service; the server's own requests are of one kind; and each client converses, at each moment.
pub record Serves {S : Type 0} (does : S → Event → S → Type 0) (is_own : List ℕ → Type 0) (trace trace' : Option (List Event)) (old new : S) : Type 0 where
  pub events : List Event
  pub known : Adds trace trace' (carried_in events)
  pub course : Course does old events new
  pub own : All is_own (bodies_of (own_in events))
  pub moments : (front back : List Event) → front ++ back ≡ events → (c : ℕ) → Converses c front

-- What happened, in order: the requests of all clients, and the server's own, are one chain of answers; its own are of one kind; and each
-- client converses, at each moment.
pub record Listens {S : Type 0} (answers : S → List ℕ → List ℕ → S → Type 0) (is_own : List ℕ → Type 0) (trace trace' : Option (List Event)) (old new : S) : Type 0 where
  pub events : List Event
  pub known : Adds trace trace' (carried_in events)
  pub chain : Chain answers old (exchanges_in events) new
  pub own : All is_own (bodies_of (own_in events))
  pub moments : (front back : List Event) → front ++ back ≡ events → (c : ℕ) → Converses c front

-- the body rolls back the transaction of a token
abbrev pub IsRollback : List ℕ → Type 0
IsRollback body = (token : List ℕ) × (asked body ≡ Some (rollback token))

-- The requests of all clients and the server's own, which are rollbacks, are calls of `handle`, one after another, and for every tenant the run of its own requests alone.
abbrev pub ServesMany : Option (List Event) → Option (List Event) → ServerState → ServerState → Type 0
ServesMany trace trace' old new = (l : Listens Handles IsRollback trace trace' old new) × Runs old (exchanges_in l.events) new
