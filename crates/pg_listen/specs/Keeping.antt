-- A journal beside a server: which requests are kept, how they are answered again, and what a keeper of them does.
use Rattle.std.specs.Prelude.{◌≡◌, ◌⊎◌, ℕ, true, false, List, [], ◌∷◌, ◌++◌, length, bytes_eq, position, slice_index_or, Option, Some, None, option_map, ⊤}
use Rattle.pg_journal.specs.Device.{LeavesOnly}
use Rattle.pg_journal.specs.Digest.{digest_of}
use Rattle.pg_journal.specs.Files.{Recovers}
use Rattle.pg_journal.specs.Reading.{Replayed}
use Rattle.pg_journal.specs.Records.{Kept}
use Rattle.pg_journal.specs.Ready.{IsReady, IsBeforeOrAfter, device_of}
use Rattle.pg_listen.specs.declared.keeper.Keeper.{Keeper}
use Rattle.pg_server.specs.Handles.{Handles, HandlesFor, tenant_asked}
use Rattle.pg_server.specs.Runs.{asked, is_want_of_memory}
use Rattle.pg_server.specs.State.{ServerState}
use Rattle.pg_tenant.specs.Changes.{IsNoRefusal, may_change}

abbrev pub record_of : (tenant body reply : List ℕ) → Kept
record_of tenant body reply = record { tenant = tenant; body = body; reply_length = length reply; reply_digest = digest_of reply }

-- the name of the tenant at a place, which is empty where there is none
abbrev pub name_of : (names : List (List ℕ)) → Option ℕ → List ℕ
name_of names None = []
name_of names (Some t) = slice_index_or names t []

-- What is kept of a request that leads from one state to another: it, with the name of the tenant whose token it shows, where its kind may change a tenant and it was not refused; or nothing, where every tenant is as it was.
abbrev pub IsKeptOf : (names : List (List ℕ)) (old : ServerState) (body reply : List ℕ) (new : ServerState) (more : List Kept) → Type 0
IsKeptOf names old body reply new more =
    ((more ≡ record_of (name_of names (tenant_asked old.tenants body)) body reply ∷ []) × IsNoRefusal reply × (option_map may_change (asked body) ≡ Some true))
    ⊎ ((more ≡ []) × (new.tenants ≡ old.tenants))

-- where the tenant of a name stands
abbrev pub place_named : (names : List (List ℕ)) (name : List ℕ) → Option ℕ
place_named names name = position (bytes_eq name) names

-- A body is answered for the tenant at a place. Where no tenant is meant there is no reply, and nothing changes.
abbrev pub AnswersFor : Option ℕ → (old : ServerState) (body : List ℕ) (reply : Option (List ℕ)) (new : ServerState) → Type 0
AnswersFor None old body None new = new ≡ old
AnswersFor None old body (Some reply) new = ⊥
AnswersFor (Some t) old body None new = ⊥
AnswersFor (Some t) old body (Some reply) new = HandlesFor t old body reply new

-- so it is for the tenant of a name; what has no name is answered by its token
abbrev pub AnswersNamed : (names : List (List ℕ)) (tenant : List ℕ) (old : ServerState) (body : List ℕ) (reply : Option (List ℕ)) (new : ServerState) → Type 0
AnswersNamed names [] old body None new = ⊥
AnswersNamed names [] old body (Some reply) new = Handles old body reply new
AnswersNamed names (x ∷ xs) old body reply new = AnswersFor (place_named names (x ∷ xs)) old body reply new

-- a reply has the length and the digest that were kept, and is no want of memory
abbrev pub IsReplyOf : Kept → Option (List ℕ) → Type 0
IsReplyOf k None = ⊤
IsReplyOf k (Some reply) = (is_want_of_memory reply ≡ false) × (k.reply_length ≡ length reply) × (k.reply_digest ≡ digest_of reply)

-- A record is answered again: for the tenant of its name, with a reply of the length and the digest that were kept. It is passed over where no tenant has its name.
abbrev pub Again : (names : List (List ℕ)) → ServerState → Kept → ServerState → Type 0
Again names old k new = (reply : Option (List ℕ)) × AnswersNamed names k.tenant old k.body reply new × IsReplyOf k reply

-- Unless one was lost, the journal has these records on the disk, and those wait, of which there is none where all is settled.
abbrev pub HasKept : {D : Type 0} → (D → List ℕ) → (D → List ℕ → Type 0) → (kept waiting : List Kept) → Keeper D → Type 0
HasKept seen may_leave kept waiting keeper = keeper.lost ≡ false → IsReady seen may_leave keeper.journal kept waiting × (keeper.is_settled ≡ true → waiting ≡ [])

-- a server is started with a file: it has answered again the records that the file stands for, in order, and its journal has them on the disk
abbrev pub StartsWith : {D : Type 0} → (D → List ℕ) → (D → List ℕ → Type 0) → (names : List (List ℕ)) → List ℕ → ServerState → ServerState → Keeper D → Type 0
StartsWith seen may_leave names file old new keeper = (ks : List Kept) × Recovers ks file × Replayed (Again names) old ks new × HasKept seen may_leave ks [] keeper

abbrev pub IsSettled : {D : Type 0} → Keeper D → Type 0
IsSettled keeper = (keeper.is_settled ≡ true) × (keeper.lost ≡ false)

-- A keeper took these records: they wait behind the others, none is lost, and the file is left alone.
pub record Takes {D : Type 0} (seen : D → List ℕ) (may_leave : D → List ℕ → Type 0) (old new : Keeper D) (more : List Kept) : Type 0 where
  pub has : (kept waiting : List Kept) → HasKept seen may_leave kept waiting old → HasKept seen may_leave kept (waiting ++ more) new
  pub lost : new.lost ≡ old.lost
  pub file : device_of new.journal ≡ device_of old.journal

-- A keeper wrote what waited, or tried to; a crash at any moment of that leaves the records from before, with all that waited or with none. Or it did nothing.
abbrev pub Writes : {D : Type 0} → (D → List ℕ) → (D → List ℕ → Type 0) → (D → ℕ) → (D → ℕ → List ℕ → Type 0) → (old new : Keeper D) → Type 0
Writes seen may_leave moment left_since old new =
    (kept waiting : List Kept) → HasKept seen may_leave kept waiting old
    → (new ≡ old) ⊎ (LeavesOnly moment left_since (device_of old.journal) (device_of new.journal) (IsBeforeOrAfter kept waiting) × (HasKept seen may_leave (kept ++ waiting) [] new ⊎ (new.lost ≡ true)))
