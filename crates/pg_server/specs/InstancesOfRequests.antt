-- Small requests, openings, and what is answered to no tenant's requests: some that the definitions let in, and some that they refuse.
use Rattle.std.specs.Prelude.{◌≡◌, ◌⊎◌, ℕ, negsuc, true, false, List, [], ◌∷◌, length, Some, None, codes}
use Rattle.serde_json.specs.Data.{Data, null, number, negative, string, array, object, Members, no_members, member, no_items}
use Rattle.pg_cache.specs.Cache.{CacheSeen}
use Rattle.pg_json.specs.Refusals.{refusal_text}
use Rattle.pg_json.specs.Replies.{natural}
use Rattle.pg_json.specs.Requests.{query, status, create_index, drop_index, begin, commit, rollback, pull, drop_page, request_of, meaning}
use Rattle.pg_meaning.specs.Value.{no_entries}
use Rattle.pg_meaning.specs.declared.fault.Fault.TheVariants.{FrameTooLong, BadRequest, UnknownToken, OutOfMemory}
use Rattle.pg_server.specs.InstancesOfRuns.{reader, one_reader, told}
use Rattle.pg_server.specs.Runs.{Runs, is_short}
use Rattle.pg_server.specs.State.{ServerState, opening_server, state_at}
use Rattle.pg_tenant.specs.InstancesOfTenants.{writer, bare}
use Rattle.pg_tenant.specs.State.{opening, no_state}

-- ---- requests

-- an object with a token and some more
abbrev pub asks : (op : List ℕ) → Members → Data
asks op more = object (member (codes "op") (string op) (member (codes "token") (string (codes "a")) more))

abbrev pub of_text : (key text : List ℕ) → Members → Members
of_text key text more = member key (string text) more

abbrev pub InstancesOfRequests : Type 0
InstancesOfRequests =
    (request_of (asks (codes "status") no_members) ≡ Some (status (codes "a")))
    × (request_of (asks (codes "status") (of_text (codes "text") [] no_members)) ≡ None)
    × (request_of (asks (codes "query") (of_text (codes "text") (codes "t") no_members)) ≡ Some (query (codes "a") (codes "t") no_entries None))
    × (request_of (asks (codes "query") (of_text (codes "text") (codes "t") (member (codes "params") (object no_members) no_members))) ≡ Some (query (codes "a") (codes "t") no_entries None))
    × (request_of (asks (codes "query") (of_text (codes "text") (codes "t") (member (codes "params") null no_members))) ≡ None)
    × (request_of (asks (codes "query") no_members) ≡ None)
    × (request_of (asks (codes "create_index") (of_text (codes "label") (codes "P") (of_text (codes "key") (codes "k") no_members))) ≡ Some (create_index (codes "a") (codes "P") (codes "k")))
    × (request_of (asks (codes "drop_index") (of_text (codes "label") (codes "P") (of_text (codes "key") (codes "k") no_members))) ≡ Some (drop_index (codes "a") (codes "P") (codes "k")))
    × (request_of (asks (codes "create_index") (of_text (codes "label") [] (of_text (codes "key") (codes "k") no_members))) ≡ None)
    × (request_of (asks (codes "Status") no_members) ≡ None)
    × (request_of (asks (codes "begin") no_members) ≡ Some (begin (codes "a")))
    × (request_of (asks (codes "commit") no_members) ≡ Some (commit (codes "a")))
    × (request_of (asks (codes "rollback") no_members) ≡ Some (rollback (codes "a")))
    × (request_of (asks (codes "begin") (of_text (codes "text") [] no_members)) ≡ None)
    × (request_of (asks (codes "roll_back") no_members) ≡ None)
    × (request_of (array no_items) ≡ None)

-- a whole number at `page`, with some members more
abbrev pub with_page : Data → Members → Members
with_page page more = member (codes "page") page more

abbrev pub query_by_page : Data → Data
query_by_page page = asks (codes "query") (with_page page (of_text (codes "text") (codes "t") no_members))

abbrev pub InstancesOfPages : Type 0
InstancesOfPages =
    (request_of (query_by_page (natural 1)) ≡ Some (query (codes "a") (codes "t") no_entries (Some 1)))
    × (request_of (query_by_page (natural 10000)) ≡ Some (query (codes "a") (codes "t") no_entries (Some 10000)))
    × (request_of (query_by_page (natural 0)) ≡ None)
    × (request_of (query_by_page (natural 10001)) ≡ None)
    × (request_of (query_by_page null) ≡ None)
    × (request_of (query_by_page (string (codes "1"))) ≡ None)
    × (request_of (asks (codes "pull") (with_page (natural 0) no_members)) ≡ Some (pull (codes "a") 0))
    × (request_of (asks (codes "pull") (with_page (natural 9223372036854775807) no_members)) ≡ Some (pull (codes "a") 9223372036854775807))
    × (request_of (asks (codes "pull") (with_page (natural 9223372036854775808) no_members)) ≡ None)
    × (request_of (asks (codes "pull") (with_page (number (negative (negsuc 0))) no_members)) ≡ None)
    × (request_of (asks (codes "pull") no_members) ≡ None)
    × (request_of (asks (codes "pull") (with_page (natural 0) (of_text (codes "text") [] no_members))) ≡ None)
    × (request_of (asks (codes "drop_page") (with_page (natural 3) no_members)) ≡ Some (drop_page (codes "a") 3))
    × (request_of (asks (codes "drop_page") no_members) ≡ None)

-- ---- the server that a configuration begins

abbrev pub cache_of : ℕ → CacheSeen
cache_of capacity = record { capacity = capacity; keys = []; hits = 0; misses = 0 }

abbrev pub InstancesOfOpenings : Type 0
InstancesOfOpenings =
    let server : ServerState = opening_server (record { cache = 7; tenants = reader ∷ writer ∷ []; names = codes "A" ∷ codes "B" ∷ [] }) in
    (server.cache ≡ cache_of 7) × (state_at server 0 ≡ opening reader) × (state_at server 1 ≡ bare) × (state_at server 2 ≡ no_state) × (length server.tenants ≡ 2)

-- ---- requests of no tenant

-- each of them is answered by its refusal; those that aren't too long also by want of memory
abbrev pub StrangersAreRefused : Type 0
StrangersAreRefused =
    (body reply : List ℕ) (new : ServerState) → Runs one_reader (told body reply) new →
    (is_short body ≡ false → reply ≡ refusal_text FrameTooLong)
    × (is_short body ≡ true → meaning body ≡ None → (reply ≡ refusal_text BadRequest) ⊎ (reply ≡ refusal_text OutOfMemory))
    × (is_short body ≡ true → meaning body ≡ Some (status (codes "b")) → (reply ≡ refusal_text UnknownToken) ⊎ (reply ≡ refusal_text OutOfMemory))
