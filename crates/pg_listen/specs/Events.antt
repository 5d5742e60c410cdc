-- What happens between a server and its clients, in order, and what of it concerns one client.
use Rattle.std.specs.Prelude.{◌≡◌, ℕ, ◌==◌, List, [], ◌∷◌, ◌++◌, flat_map, Option, None, Some, if◌then◌else◌, ⊤}
use Rattle.pg_server.specs.Exchange.{Exchange}

-- bytes that were read from a client, a request of a client that was answered, bytes that a client's connection took, a request of the
-- server's own that was answered, whose reply goes to nobody, and that the server has kept what it had answered, or has tried to
pub data Event : Type 0 where
  received : (client : ℕ) → (bytes : List ℕ) → Event
  answered : (client : ℕ) → (exchange : Exchange) → Event
  sent : (client : ℕ) → (bytes : List ℕ) → Event
  by_server : (exchange : Exchange) → Event
  settling : Event

abbrev pub received_at : ℕ → Event → List ℕ
received_at c (received d bytes) = if d == c then bytes else []
received_at c (answered d exchange) = []
received_at c (sent d bytes) = []
received_at c (by_server exchange) = []
received_at c settling = []

abbrev pub sent_at : ℕ → Event → List ℕ
sent_at c (received d bytes) = []
sent_at c (answered d exchange) = []
sent_at c (sent d bytes) = if d == c then bytes else []
sent_at c (by_server exchange) = []
sent_at c settling = []

abbrev pub exchange_at : ℕ → Event → List Exchange
exchange_at c (received d bytes) = []
exchange_at c (answered d exchange) = if d == c then exchange ∷ [] else []
exchange_at c (sent d bytes) = []
exchange_at c (by_server exchange) = []
exchange_at c settling = []

abbrev pub exchange_of : Event → List Exchange
exchange_of (received d bytes) = []
exchange_of (answered d exchange) = exchange ∷ []
exchange_of (sent d bytes) = []
exchange_of (by_server exchange) = exchange ∷ []
exchange_of settling = []

abbrev pub own_of : Event → List Exchange
own_of (received d bytes) = []
own_of (answered d exchange) = []
own_of (sent d bytes) = []
own_of (by_server exchange) = exchange ∷ []
own_of settling = []

abbrev pub carried_at : Event → List Event
carried_at (received d bytes) = received d bytes ∷ []
carried_at (answered d exchange) = []
carried_at (sent d bytes) = sent d bytes ∷ []
carried_at (by_server exchange) = []
carried_at settling = []

-- all bytes that were read from a client
abbrev pub received_from : ℕ → List Event → List ℕ
received_from c events = flat_map (received_at c) events

-- all bytes that its connection took
abbrev pub sent_to : ℕ → List Event → List ℕ
sent_to c events = flat_map (sent_at c) events

-- its requests with their replies, in the order in which they were answered
abbrev pub exchanges_by : ℕ → List Event → List Exchange
exchanges_by c events = flat_map (exchange_at c) events

-- those of all clients, and the server's own
abbrev pub exchanges_in : List Event → List Exchange
exchanges_in events = flat_map exchange_of events

-- the server's own alone
abbrev pub own_in : List Event → List Exchange
own_in events = flat_map own_of events

-- what the network did of it
abbrev pub carried_in : List Event → List Event
carried_in events = flat_map carried_at events

-- what a network has done, where that is known, goes on by these
abbrev pub Adds : Option (List Event) → Option (List Event) → List Event → Type 0
Adds None new events = ⊤
Adds (Some xs) None events = ⊥
Adds (Some xs) (Some ys) events = ys ≡ xs ++ events

-- nothing of it concerns the client
pub record IsSilent (c : ℕ) (events : List Event) : Type 0 where
  pub received : received_from c events ≡ []
  pub exchanges : exchanges_by c events ≡ []
  pub sent : sent_to c events ≡ []
