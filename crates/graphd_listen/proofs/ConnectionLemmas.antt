-- Where nothing is known of what a network did, the client's number says nothing.
use Rattle.std.proofs.Common.{ℕ, List, None}
use Rattle.pg_listen.specs.Network.{IsReceived, IsSent}
use Rattle.pg_listen.specs.declared.network.Received.{Received}
use Rattle.pg_listen.specs.declared.network.Received.TheVariants.{Bytes, Waits, Ended, Failed as Broken}
use Rattle.pg_listen.specs.declared.network.Sent.{Sent}
use Rattle.pg_listen.specs.declared.network.Sent.TheVariants.{Taken, Full, Failed}

pub received_of : (c : ℕ) (buf : List ℕ) (received : Received) → IsReceived None None 0 buf received → IsReceived None None c buf received
received_of c buf (Bytes n) h = h
received_of c buf Waits h = h
received_of c buf Ended h = h
received_of c buf Broken h = h

pub sent_of : (c : ℕ) (bytes : List ℕ) (sent : Sent) → IsSent None None 0 bytes sent → IsSent None None c bytes sent
sent_of c bytes (Taken n) h = h
sent_of c bytes Full h = h
sent_of c bytes Failed h = h
