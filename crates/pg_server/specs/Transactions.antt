-- What transactions promise: what a rollback and a commit leave, and who waits meanwhile.
use Rattle.std.specs.Prelude.{◌≡◌, ◌≢◌, ℕ, Bool, true, false, ◌&&◌, List, [], ◌∷◌, ◌++◌, Option, Some, None, bytes_eq}
use Rattle.std.specs.List.{AllByRecursion}
use Rattle.pg_json.specs.Refusals.{refusal_text, done_text}
use Rattle.pg_json.specs.Requests.{Request, begin, commit, rollback, token_of}
use Rattle.pg_meaning.specs.Names.{is_among}
use Rattle.pg_meaning.specs.declared.fault.Fault.TheVariants.{OutOfMemory, TenantBusy}
use Rattle.pg_server.specs.Exchange.{Exchange}
use Rattle.pg_server.specs.Runs.{Runs, SoloRun, asked, own}
use Rattle.pg_server.specs.State.{ServerState, state_at}
use Rattle.pg_tenant.specs.Solo.{reported, serves}
use Rattle.pg_tenant.specs.State.{State, Transaction, tokens_of}
use Rattle.pg_tenant.specs.TransactionLaws.{ends}

-- the body asks for this, and is answered by its success
pub record IsDone (e : Exchange) (request : Request) : Type 0 where
  pub asks : asked e.body ≡ Some request
  pub reply : e.reply ≡ done_text

abbrev pub asks_end : Option Request → Bool
asks_end None = false
asks_end (Some request) = ends request

-- an exchange that ended a transaction: a commit or a rollback that was done
abbrev pub has_ended : Exchange → Bool
has_ended e = asks_end (asked e.body) && bytes_eq e.reply done_text

-- the exchanges of a tenant in one transaction: they begin it, none of them ends it, and the last one rolls it back
pub record IsTakenBack (es : List Exchange) : Type 0 where
  pub token : List ℕ
  pub ending : List ℕ
  pub first : Exchange
  pub between : List Exchange
  pub last : Exchange
  pub are : es ≡ first ∷ between ++ last ∷ []
  pub begun : IsDone first (begin token)
  pub stays : AllByRecursion (λ e. has_ended e ≡ false) between
  pub ended : IsDone last (rollback ending)

-- what a tenant asked in a transaction that is rolled back was never asked, whatever it was and whichever of its tokens it showed
abbrev pub RollbackTakesBack : Type 0
RollbackTakesBack = (old new : State) (es : List Exchange) → IsTakenBack es → SoloRun old es new → new ≡ old

-- so it is for each tenant of a server, whatever others asked meanwhile
abbrev pub RollbacksTakeBack : Type 0
RollbacksTakeBack =
    (old new : ServerState) (es : List Exchange) (t : ℕ) → Runs old es new → IsTakenBack (own (tokens_of (state_at old t)) es)
    → state_at new t ≡ state_at old t

-- the transaction that is open is the token's
abbrev pub HasOpen : State → (token : List ℕ) → Type 0
HasOpen s token = (t : Transaction) × (s.transaction ≡ Some t) × (t.token ≡ token)

-- the request rolls back the transaction that is open
abbrev pub RollsBack : State → Option Request → Type 0
RollsBack s request = (t : Transaction) × (s.transaction ≡ Some t) × (request ≡ Some (rollback t.token))

-- a commit that is done ends the transaction of its token, and all else stays as it is
abbrev pub CommitKeeps : Type 0
CommitKeeps =
    (old new : State) (token : List ℕ) (e : Exchange) → IsDone e (commit token) → SoloRun old (e ∷ []) new
    → HasOpen old token × (new ≡ record old { transaction = None })

-- while a token has a transaction open, each other token of the tenant is refused, and nothing changes
abbrev pub OthersWait : Type 0
OthersWait =
    (old new : State) (t : Transaction) (request : Request) (e : Exchange) → old.transaction ≡ Some t → asked e.body ≡ Some request
    → bytes_eq t.token (token_of request) ≡ false → SoloRun old (e ∷ []) new → (e.reply ≡ refusal_text TenantBusy) × (new ≡ old)

-- A tenant that has none open is answered what it asks, unless memory runs out: whatever transactions of other tenants are open, it doesn't wait for them.
abbrev pub NoneWaitsForOthers : Type 0
NoneWaitsForOthers =
    (old new : ServerState) (e : Exchange) (request : Request) (t : ℕ) → Runs old (e ∷ []) new
    → asked e.body ≡ Some request → is_among (tokens_of (state_at old t)) (token_of request) ≡ true
    → (state_at old t).transaction ≡ None → e.reply ≢ refusal_text OutOfMemory
    → e.reply ≡ (reported (state_at old t) (serves (state_at old t) request)).reply
