-- What the calls of a network answer.
use Rattle.std.specs.Prelude.{ℕ, ◌≤◌, List, [], ◌∷◌, length, take, Option}
use Rattle.pg_listen.specs.Events.{Event, received, sent, Adds}
use Rattle.pg_listen.specs.declared.network.Received.{Received}
use Rattle.pg_listen.specs.declared.network.Received.TheVariants.{Bytes, Waits, Ended, Failed as Broken}
use Rattle.pg_listen.specs.declared.network.Sent.{Sent}
use Rattle.pg_listen.specs.declared.network.Sent.TheVariants.{Taken, Full, Failed}

abbrev pub IsReceived : Option (List Event) → Option (List Event) → ℕ → List ℕ → Received → Type 0
IsReceived old new c buf (Bytes n) = Adds old new (received c (take n buf) ∷ []) × (n ≤ length buf)
IsReceived old new c buf Waits = Adds old new []
IsReceived old new c buf Ended = Adds old new []
IsReceived old new c buf Broken = Adds old new []

abbrev pub IsSent : Option (List Event) → Option (List Event) → ℕ → List ℕ → Sent → Type 0
IsSent old new c bytes (Taken n) = Adds old new (sent c (take n bytes) ∷ []) × (n ≤ length bytes)
IsSent old new c bytes Full = Adds old new []
IsSent old new c bytes Failed = Adds old new []
