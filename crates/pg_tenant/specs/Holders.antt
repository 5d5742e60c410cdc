-- Whose a request is, where its tenant is known and its token may have been replaced since: a transaction that is open and a page that is held have a token of their own.
use Rattle.std.specs.Prelude.{◌≡◌, ℕ, List, Option, Some, None}
use Rattle.pg_json.specs.Requests.{Request, token_of, query, status, create_index, drop_index, begin, commit, rollback, pull, drop_page}
use Rattle.pg_pages.specs.Held.{Held, puller_of}
use Rattle.pg_tenant.specs.Changes.{IsNoRefusal}
use Rattle.pg_tenant.specs.Solo.{solo}
use Rattle.pg_tenant.specs.State.{State}

-- the token that holds the page that a request pulls or drops
abbrev pub page_holder : Held → Request → Option (List ℕ)
page_holder held (pull token page) = puller_of held token page
page_holder held (drop_page token page) = puller_of held token page
page_holder held (query token text parameters page) = None
page_holder held (status token) = None
page_holder held (create_index token label key) = None
page_holder held (drop_index token label key) = None
page_holder held (begin token) = None
page_holder held (commit token) = None
page_holder held (rollback token) = None

-- the token that has a transaction open, or else the one that holds the page
abbrev pub holder_of : State → Request → Option (List ℕ)
holder_of s request = elim s.transaction [
  | Some t ↦ Some t.token
  | None ↦ page_holder s.held request
]

-- what isn't refused is asked by its holder, where there is one
abbrev pub HoldersAsk : Type 0
HoldersAsk =
    (s : State) (request : Request) (token : List ℕ) → IsNoRefusal (solo s request).reply
    → holder_of s request ≡ Some token → token ≡ token_of request
