-- Who began the transaction that a tenant has open.
use Rattle.std.specs.Prelude.{ℕ, Bool, true, false, ◌==◌, Option, Some, None, if◌then◌else◌}
use Rattle.pg_listen.specs.declared.sessions.Session.{Session}

-- behind a request of a client that was done: where a transaction is open then, the client has begun it
abbrev pub session_after : (client : ℕ) → (is_open : Bool) → Session
session_after client true = record { begun = Some client; is_left = false }
session_after client false = record { begun = None; is_left = false }

abbrev pub has_begun : Option ℕ → ℕ → Bool
has_begun None client = false
has_begun (Some begun) client = begun == client

-- when a client is gone: what it has begun is left
abbrev pub session_left : (client : ℕ) → Session → Session
session_left client session = if has_begun session.begun client then record session { is_left = true } else session
