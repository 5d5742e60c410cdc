-- How one client's side goes on, and where it stands.
use Rattle.std.specs.Prelude.{◌≡◌, ◌≢◌, ℕ, Bool, true, false, List, [], ◌∷◌, ◌++◌, Option, Result, OnOk, All}
use Rattle.pg_listen.specs.Events.{Event, received_from, sent_to, exchanges_by, own_in, carried_in, Adds, IsSilent}
use Rattle.pg_listen.specs.Courses.{Course, OnlyCarried}
use Rattle.pg_server.specs.Exchange.{bodies_of, replies_of}
use Rattle.pg_server.specs.Frames.{IsShort}
use Rattle.pg_server.specs.Served.{frames, too_long_reply}
use Rattle.pg_listen.specs.Frames.{BeginsTooLong}

-- what was read and not yet answered, what was answered and not yet taken, and whether a frame that is too long was refused
pub record Seen : Type 0 where
  pub inbox : List ℕ
  pub pending : List ℕ
  pub refused : Bool

abbrev pub opening : Seen
opening = record { inbox = []; pending = []; refused = false }

-- the reply to a frame that is too long, between these two moments
abbrev pub refusal_of : Bool → Bool → List (List ℕ)
refusal_of false true = too_long_reply ∷ []
refusal_of false false = []
refusal_of true refused = []

-- between two moments of a client these events happen, and none of them is another client's or the server's own
pub record Goes (c : ℕ) (old new : Seen) (events : List Event) : Type 0 where
  pub only : (d : ℕ) → d ≢ c → IsSilent d events
  pub none_own : own_in events ≡ []
  pub received : old.inbox ++ received_from c events ≡ frames (bodies_of (exchanges_by c events)) ++ new.inbox
  pub sent : old.pending ++ frames (replies_of (exchanges_by c events) ++ refusal_of old.refused new.refused) ≡ sent_to c events ++ new.pending
  pub short : All IsShort (bodies_of (exchanges_by c events))
  -- after a refusal nothing is answered
  pub stays : old.refused ≡ true → (new.refused ≡ true) × (exchanges_by c events ≡ [])
  pub why : (old.refused ≡ true → BeginsTooLong old.inbox) → new.refused ≡ true → BeginsTooLong new.inbox

-- so it is at each moment between
pub record Passes (c : ℕ) (old new : Seen) (events : List Event) : Type 0 where
  pub whole : Goes c old new events
  pub moments : (front back : List Event) → front ++ back ≡ events → (mid : Seen) × Goes c old mid front

-- and so much of them the network and the service did
pub record Moves {S : Type 0} (does : S → Event → S → Type 0) (c : ℕ) (trace trace' : Option (List Event)) (s s' : S) (old new : Seen) (events : List Event) : Type 0 where
  pub passes : Passes c old new events
  pub known : Adds trace trace' (carried_in events)
  pub course : Course does s events s'

-- bytes went over the network, and nothing was answered
pub record Carries (may_send : Type 0) (c : ℕ) (trace trace' : Option (List Event)) (old new : Seen) (events : List Event) : Type 0 where
  pub passes : Passes c old new events
  pub known : Adds trace trace' (carried_in events)
  pub only : OnlyCarried may_send events

-- the service answered, and nothing went over the network
pub record Answers {S : Type 0} (does : S → Event → S → Type 0) (c : ℕ) (s s' : S) (old new : Seen) (events : List Event) : Type 0 where
  pub passes : Passes c old new events
  pub none : carried_in events ≡ []
  pub course : Course does s events s'

-- At Ok the client stands at `new`. At Err its side went on to somewhere too, of which the client itself tells nothing: it is let go.
abbrev pub CarriesOn : {T E : Type 0} → Type 0 → ℕ → Option (List Event) → Option (List Event) → Seen → Seen → Result T E → Type 0
CarriesOn may_send c trace trace' old new result = (after : Seen) × (events : List Event) × Carries may_send c trace trace' old after events × OnOk result (after ≡ new)

abbrev pub AnswersOn : {S T E : Type 0} → (S → Event → S → Type 0) → ℕ → S → S → Seen → Seen → Result T E → Type 0
AnswersOn does c s s' old new result = (after : Seen) × (events : List Event) × Answers does c s s' old after events × OnOk result (after ≡ new)

abbrev pub MovesOn : {S T E : Type 0} → (S → Event → S → Type 0) → ℕ → Option (List Event) → Option (List Event) → S → S → Seen → Seen → Result T E → Type 0
MovesOn does c trace trace' s s' old new result = (after : Seen) × (events : List Event) × Moves does c trace trace' s s' old after events × OnOk result (after ≡ new)
