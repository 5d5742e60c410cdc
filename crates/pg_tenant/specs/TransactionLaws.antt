-- What a transaction is to its tenant: its begin is written down, the requests in it change the graph alone, others wait, and it ends as its own token says.
use Rattle.std.specs.Prelude.{◌≡◌, ℕ, List, Bool, true, false, Some, None}
use Rattle.std.specs.Str.{bytes_eq}
use Rattle.pg_json.specs.Refusals.{refusal_text}
use Rattle.pg_json.specs.Requests.{Request, token_of, begin, commit, rollback}
use Rattle.pg_meaning.specs.declared.fault.Fault.{Fault}
use Rattle.pg_meaning.specs.declared.fault.Fault.TheVariants.{TenantBusy}
use Rattle.pg_tenant.specs.Settings.{may_write}
use Rattle.pg_tenant.specs.Solo.{done, replies, solo}
use Rattle.pg_tenant.specs.State.{State, Transaction}

-- a request that ends a transaction, where its token has one open
abbrev pub ends : Request → Bool
ends (commit token) = true
ends (rollback token) = true
ends request = false

-- where none is open, a token that may write begins one: its token and the graph are written down, and nothing else changes
abbrev pub BeginsAreWritten : Type 0
BeginsAreWritten =
    (s : State) (token : List ℕ) → s.transaction ≡ None → may_write s.settings token ≡ true
    → solo s (begin token) ≡ done (record s { transaction = Some (record { token = token; begun = s.graph }) })

-- while a transaction is open, a request that doesn't end it changes the graph alone, whoever's it is: what the begin wrote down stays
abbrev pub OnlyTheGraph : Type 0
OnlyTheGraph =
    (s : State) (t : Transaction) (request : Request) → s.transaction ≡ Some t → ends request ≡ false
    → (solo s request).state ≡ record s { graph = (solo s request).state.graph }

-- while a token has a transaction open, each other token of the tenant is refused, and nothing changes
abbrev pub OthersWait : Type 0
OthersWait =
    (s : State) (t : Transaction) (request : Request) → s.transaction ≡ Some t → bytes_eq t.token (token_of request) ≡ false
    → solo s request ≡ replies (refusal_text TenantBusy) s

-- its own token keeps what was done
abbrev pub CommitsKeep : Type 0
CommitsKeep =
    (s : State) (t : Transaction) → s.transaction ≡ Some t → may_write s.settings t.token ≡ true
    → solo s (commit t.token) ≡ done (record s { transaction = None })

-- or takes it back: the graph is that of the begin again, its counters too
abbrev pub RollbacksGoBack : Type 0
RollbacksGoBack =
    (s : State) (t : Transaction) → s.transaction ≡ Some t → may_write s.settings t.token ≡ true
    → solo s (rollback t.token) ≡ done (record s { graph = t.begun; transaction = None })

-- what is refused, whatever the refusal, leaves the tenant as it was, an open transaction too
abbrev pub RefusalsLeave : Type 0
RefusalsLeave = (s : State) (request : Request) (fault : Fault) → (solo s request).reply ≡ refusal_text fault → (solo s request).state ≡ s
