-- Small runs with transactions: some that the definitions let in, and some that they refuse.
use Rattle.std.specs.Prelude.{◌≡◌, ◌⊎◌, ℕ, true, false, List, [], ◌∷◌, Some, None, codes}
use Rattle.pg_json.specs.Refusals.{refusal_text, done_text}
use Rattle.pg_json.specs.Requests.{query, status, begin, commit, rollback}
use Rattle.pg_meaning.specs.Value.{no_entries}
use Rattle.pg_meaning.specs.declared.fault.Fault.TheVariants.{OutOfMemory, NoTransaction, TenantBusy}
use Rattle.pg_server.specs.Exchange.{Exchange}
use Rattle.pg_server.specs.Handles.{key_asked}
use Rattle.pg_server.specs.InstancesOfRuns.{token, told}
use Rattle.pg_server.specs.Runs.{Runs, SoloRun, asked}
use Rattle.pg_server.specs.State.{ServerState, fresh_cache}
use Rattle.pg_server.specs.Transactions.{has_ended}
use Rattle.pg_tenant.specs.Answers.{limited}
use Rattle.pg_tenant.specs.InstancesOfTransactions.{idle, mid, one_node}
use Rattle.pg_tenant.specs.Settings.{TenantSettings}
use Rattle.pg_tenant.specs.Solo.{status_text}
use Rattle.pg_tenant.specs.State.{State, opening}
use Rattle.pg_tenant.specs.Step.{reply_of}

abbrev pub exchange : (body reply : List ℕ) → Exchange
exchange body reply = record { body = body; reply = reply }

-- it was answered by its success
abbrev pub done_by : (body : List ℕ) → Exchange
done_by body = exchange body done_text

-- runs of one tenant, whose token `w` may write: alone, and in a transaction in which it made a node
abbrev pub InstancesOfTransactions : Type 0
InstancesOfTransactions =
    (begins commits rolls_back : List ℕ) (new : State)
    → asked begins ≡ Some (begin (codes "w")) → asked commits ≡ Some (commit (codes "w")) → asked rolls_back ≡ Some (rollback (codes "w"))
    → SoloRun idle (done_by begins ∷ done_by rolls_back ∷ []) idle
    × (SoloRun idle (done_by begins ∷ []) idle → ⊥)
    × (SoloRun idle (done_by begins ∷ done_by begins ∷ []) new → ⊥)
    × (SoloRun idle (done_by commits ∷ []) new → ⊥)
    × (SoloRun idle (done_by rolls_back ∷ []) new → ⊥)
    × SoloRun idle (exchange rolls_back (refusal_text NoTransaction) ∷ []) idle
    × SoloRun mid (done_by commits ∷ []) (record idle { graph = one_node })
    × (SoloRun mid (done_by commits ∷ []) mid → ⊥)
    × SoloRun mid (done_by rolls_back ∷ []) idle
    × (SoloRun mid (done_by rolls_back ∷ []) (record idle { graph = one_node }) → ⊥)

-- an end counts where it was done
abbrev pub InstancesOfExchanges : Type 0
InstancesOfExchanges =
    (body : List ℕ) → (asked body ≡ Some (commit (codes "w")) → has_ended (done_by body) ≡ true)
    × (asked body ≡ Some (rollback (codes "w")) → has_ended (done_by body) ≡ true)
    × (asked body ≡ Some (rollback (codes "v")) → has_ended (exchange body (refusal_text TenantBusy)) ≡ false)
    × (asked body ≡ Some (begin (codes "w")) → has_ended (done_by body) ≡ false)
    × (asked body ≡ None → has_ended (done_by body) ≡ false)

-- a tenant with the token `b`
abbrev pub neighbour : TenantSettings
neighbour = record { max_steps = 3; max_elements = 2; max_held = 5; tokens = token (codes "b") ∷ [] }

-- the first of two tenants has a transaction open
abbrev pub one_open : ServerState
one_open = record { cache = fresh_cache 1; names = []; tenants = mid ∷ opening neighbour ∷ [] }

-- the other token of the first tenant waits, and the second tenant doesn't
abbrev pub InstancesOfWaiting : Type 0
InstancesOfWaiting =
    (body reply : List ℕ) (new : ServerState) → Runs one_open (told body reply) new →
    (asked body ≡ Some (status (codes "v")) → (reply ≡ refusal_text TenantBusy) ⊎ (reply ≡ refusal_text OutOfMemory))
    × (asked body ≡ Some (status (codes "b")) → (reply ≡ reply_of (limited (status_text (opening neighbour)))) ⊎ (reply ≡ refusal_text OutOfMemory))

-- who waits looks up no plan
abbrev pub InstancesOfKeysInTransactions : Type 0
InstancesOfKeysInTransactions =
    (key_asked one_open.tenants (query (codes "w") (codes "t") no_entries None) ≡ Some (codes "t", []))
    × (key_asked one_open.tenants (query (codes "w") (codes "t") no_entries (Some 1)) ≡ None)
    × (key_asked one_open.tenants (query (codes "v") (codes "t") no_entries None) ≡ None)
    × (key_asked one_open.tenants (query (codes "b") (codes "t") no_entries (Some 1)) ≡ Some (codes "t", []))
    × (key_asked one_open.tenants (query (codes "b") (codes "t") no_entries None) ≡ Some (codes "t", []))
    × (key_asked one_open.tenants (commit (codes "w")) ≡ None)
