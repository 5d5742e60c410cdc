-- What a service does at each event, and that nothing is sent before what was answered is kept.
use Rattle.std.specs.Prelude.{◌≡◌, ℕ, List, [], ◌∷◌, ⊤}
use Rattle.pg_listen.specs.Events.{Event, received, answered, sent, by_server, settling}

-- Bytes are sent only where all that was answered before is kept. Reading and sending leave the service as it was.
abbrev pub Does : {S : Type 0} (answers : S → List ℕ → List ℕ → S → Type 0) (settles : S → S → Type 0) (all_kept : S → Type 0) → S → Event → S → Type 0
Does answers settles all_kept old (received c bytes) new = new ≡ old
Does answers settles all_kept old (answered c e) new = answers old e.body e.reply new
Does answers settles all_kept old (sent c bytes) new = all_kept old × (new ≡ old)
Does answers settles all_kept old (by_server e) new = answers old e.body e.reply new
Does answers settles all_kept old settling new = settles old new

-- each event leads from the state that the one before left
abbrev pub Course : {S : Type 0} → (S → Event → S → Type 0) → S → List Event → S → Type 0
Course does old [] new = new ≡ old
Course {S} does old (event ∷ events) new = (next : S) × does old event next × Course does next events new

-- bytes went over the network, and none of them was sent but where this holds
abbrev pub OnlyCarried : (may_send : Type 0) → List Event → Type 0
OnlyCarried may_send [] = ⊤
OnlyCarried may_send (received c bytes ∷ events) = OnlyCarried may_send events
OnlyCarried may_send (answered c e ∷ events) = ⊥
OnlyCarried may_send (sent c bytes ∷ events) = may_send × OnlyCarried may_send events
OnlyCarried may_send (by_server e ∷ events) = ⊥
OnlyCarried may_send (settling ∷ events) = ⊥
