-- Serves: what one run of a server promises.
use Rattle.std.specs.Prelude.{ℕ}
use Rattle.pg_server.specs.declared.end.End.{End}
use Rattle.pg_server.specs.Handles.{Handles}
use Rattle.pg_server.specs.Runs.{Runs}
use Rattle.pg_server.specs.Served.{Device, Served}
use Rattle.pg_server.specs.State.{ServerState}

-- The frames that were read, a reply frame for each, and for every tenant the run of its own requests alone. The cache of plans
-- is looked up once for each query that passes the tests before its text is read, in the order of the frames, and changes in no other way.
abbrev pub Serves : (reader writer : Device) → (old new : ServerState) → (most : ℕ) → End → Type 0
Serves reader writer old new most end = (s : Served Handles reader writer old new most end) × Runs old s.transcript.exchanges new
