-- All clients, and where each stands.
use Rattle.std.specs.Prelude.{◌≡◌, ℕ, ◌≤◌, List, [], ◌++◌, Option, Some, None, nat_eq, All}
use Rattle.std.specs.HashMap.{get}
use Rattle.pg_listen.specs.Client.{seen}
use Rattle.pg_listen.specs.Events.{Event, own_in, carried_in, Adds, IsSilent}
use Rattle.pg_server.specs.Exchange.{bodies_of}
use Rattle.pg_listen.specs.Courses.{Course}
use Rattle.pg_listen.specs.Listens.{StandsAt, Converses}
use Rattle.pg_listen.specs.declared.client.Client.{Client}
use Rattle.pg_listen.specs.declared.clients.Clients.{Clients}

-- at each moment of these events each client converses, and after them each that is served stands where the table has it, and nothing was received of those to come
pub record Stand (events : List Event) (at : ℕ → Option Client) (next : ℕ) : Type 0 where
  pub moments : (front back : List Event) → front ++ back ≡ events → (c : ℕ) → Converses c front
  pub live : (c : ℕ) (client : Client) → at c ≡ Some client → StandsAt c events (seen client)
  pub fresh : (c : ℕ) → next ≤ c → IsSilent c events × (at c ≡ None)

abbrev pub client_at : Clients → ℕ → Option Client
client_at clients c = get nat_eq clients.by_number c

abbrev pub AllStand : List Event → Clients → Type 0
AllStand events clients = Stand events (client_at clients) clients.next

-- all stand where they stood, whatever was before
abbrev pub Keeps : Clients → Clients → Type 0
Keeps old new = (before : List Event) → AllStand before old → AllStand before new

-- nothing is read, answered or written, whatever was before
pub record Rests (trace trace' : Option (List Event)) (old new : Clients) : Type 0 where
  pub known : Adds trace trace' []
  pub stand : Keeps old new

-- these events happen, whatever was before
pub record AllMove {S : Type 0} (does : S → Event → S → Type 0) (is_own : List ℕ → Type 0) (trace trace' : Option (List Event)) (s s' : S) (old new : Clients) (events : List Event) : Type 0 where
  pub known : Adds trace trace' (carried_in events)
  pub course : Course does s events s'
  pub own : All is_own (bodies_of (own_in events))
  pub stand : (before : List Event) → AllStand before old → AllStand (before ++ events) new

abbrev pub AllMoveOn : {S : Type 0} → (S → Event → S → Type 0) → (List ℕ → Type 0) → Option (List Event) → Option (List Event) → S → S → Clients → Clients → Type 0
AllMoveOn does is_own trace trace' s s' old new = (events : List Event) × AllMove does is_own trace trace' s s' old new events
