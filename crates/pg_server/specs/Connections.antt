-- Connections that are served one after the other, and what an operator is told where none can be accepted.
use Rattle.std.specs.Prelude.{◌≡◌, ℕ, zero, suc, List, [], ◌++◌, codes}
use Rattle.pg_server.specs.declared.counted_listener.CountedListener.{CountedListener}
use Rattle.pg_server.specs.declared.end.End.{End}
use Rattle.pg_server.specs.declared.serve_fault.ServeFault.{ServeFault}
use Rattle.pg_server.specs.declared.serve_fault.ServeFault.TheVariants.{Accept}
use Rattle.pg_server.specs.Counts.{accepted_at, counted, faults_at}
use Rattle.pg_server.specs.Exchange.{Exchange, Chain}
use Rattle.pg_server.specs.Handles.{Handles}
use Rattle.pg_server.specs.Runs.{Runs}
use Rattle.pg_server.specs.Served.{untold}
use Rattle.pg_server.specs.Serves.{Serves}
use Rattle.pg_server.specs.State.{ServerState}

-- more frames than any connection has
abbrev pub endless : ℕ
endless = 18446744073709551615

-- So many connections, each served by one run over the same tenants, and what was asked and answered at all of them. The bytes of a
-- socket are told by no clause.
abbrev pub ServesInTurn : (count : ℕ) → ServerState → List Exchange → ServerState → Type 0
ServesInTurn zero old es new = (es ≡ []) × (new ≡ old)
ServesInTurn (suc n) old es new =
    (mid : ServerState) × (before : List Exchange) × (end : End)
    × ServesInTurn n old before mid
    × (s : Serves untold untold mid new endless end)
    × (es ≡ before ++ s.0.transcript.exchanges)

-- all that changes the server is one chain of calls of `handle`, and so a run of each tenant alone
pub record AnswersInTurn (count : ℕ) (old new : ServerState) : Type 0 where
  pub exchanges : List Exchange
  pub turns : ServesInTurn count old exchanges new
  pub chain : Chain Handles old exchanges new
  pub runs : Runs old exchanges new

-- so many connections were accepted at a listener, and it failed so often
abbrev pub Accepts : (count faults : ℕ) → (old new : CountedListener) → Type 0
Accepts count faults old new = (accepted_at new ≡ counted count (accepted_at old)) × (faults_at new ≡ counted faults (faults_at old))

abbrev pub serve_line : ServeFault → List ℕ
serve_line Accept = codes "cannot listen"

abbrev pub serve_status : ServeFault → ℕ
serve_status Accept = 1
