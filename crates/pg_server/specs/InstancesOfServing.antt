-- Small frames, ends of runs, runs of no frame and look-ups: some that the definitions let in, and some that they refuse.
use Rattle.std.specs.Prelude.{◌≡◌, ℕ, nat_le, true, false, List, [], ◌∷◌, length, Some, None, codes}
use Rattle.std.specs.Io.KnownBytes.{IsAtEnd}
use Rattle.pg_cache.specs.Cache.{CacheSeen, Key}
use Rattle.pg_json.specs.Refusals.{refusal_text, done_text}
use Rattle.pg_json.specs.Requests.{query, status, create_index}
use Rattle.pg_meaning.specs.Graph.{empty_graph}
use Rattle.pg_meaning.specs.Value.{no_entries}
use Rattle.pg_meaning.specs.declared.fault.Fault.TheVariants.{OutOfMemory}
use Rattle.pg_pages.specs.Held.{no_pages}
use Rattle.pg_plan.specs.Reading.{greatest_text}
use Rattle.pg_server.specs.Counts.{next_count}
use Rattle.pg_server.specs.Exchange.{Exchange}
use Rattle.pg_server.specs.Frames.{frame, IsPartial, IsTooLong}
use Rattle.pg_server.specs.Handles.{key_asked}
use Rattle.pg_server.specs.InstancesOfRuns.{reader, token, told}
use Rattle.pg_server.specs.Runs.{is_short}
use Rattle.pg_server.specs.Served.{Ends, Transcript, frames, too_long_reply, untold}
use Rattle.pg_server.specs.Serves.{Serves}
use Rattle.pg_server.specs.State.{ServerState, fresh_cache}
use Rattle.pg_tenant.specs.LookUps.{LooksUp}
use Rattle.pg_tenant.specs.State.{State, opening}
use Rattle.pg_server.specs.declared.end.End.{End}
use Rattle.pg_server.specs.declared.end.End.TheVariants.{Done, Cut, TooLong, ReadFailed, WriteFailed, NoMemory}

-- ---- frames

-- the length of a body of 1,048,576 bytes, and of one more
abbrev pub longest : List ℕ
longest = 0 ∷ 16 ∷ 0 ∷ 0 ∷ []

abbrev pub longer : List ℕ
longer = 0 ∷ 16 ∷ 0 ∷ 1 ∷ []

abbrev pub InstancesOfFrames : Type 0
InstancesOfFrames =
    (frame (codes "ab") ≡ 0 ∷ 0 ∷ 0 ∷ 2 ∷ codes "ab")
    × IsPartial (0 ∷ 0 ∷ 0 ∷ [])
    × IsPartial (0 ∷ 0 ∷ 0 ∷ 2 ∷ codes "a")
    × (IsPartial (frame (codes "ab")) → ⊥)
    × IsTooLong longer
    × (IsTooLong longest → ⊥)
    × ((body : List ℕ) → length body ≡ 1048576 → is_short body ≡ true)
    × ((body : List ℕ) → length body ≡ 1048577 → is_short body ≡ false)

-- ---- ends

abbrev pub once : List Exchange
once = told (codes "q") (codes "r")

-- the one reply as a frame
abbrev pub written : List ℕ
written = 0 ∷ 0 ∷ 0 ∷ 1 ∷ codes "r"

-- the input is over, or has a byte more
abbrev pub is_over : Type 0
is_over = IsAtEnd (Some [])

abbrev pub has_more : Type 0
has_more = IsAtEnd (Some (0 ∷ []))

abbrev pub transcript : (exchanges : List Exchange) → (rest output : List ℕ) → Transcript
transcript exchanges rest output = record { exchanges = exchanges; rest = rest; output = output }

abbrev pub InstancesOfEnds : Type 0
InstancesOfEnds =
    Ends Done 1 has_more (transcript once [] written)
    × Ends Done 2 is_over (transcript once [] written)
    × (Ends Done 2 has_more (transcript once [] written) → ⊥)
    × (Ends Done 1 has_more (transcript once (0 ∷ []) written) → ⊥)
    × (Ends Done 1 has_more (transcript once [] []) → ⊥)
    × Ends Cut 2 is_over (transcript once (0 ∷ []) written)
    × (Ends Cut 2 is_over (transcript once [] written) → ⊥)
    × (Ends Cut 2 has_more (transcript once (0 ∷ []) written) → ⊥)
    × (Ends Cut 1 is_over (transcript once (0 ∷ []) written) → ⊥)
    × Ends TooLong 1 has_more (transcript [] longer (frames (too_long_reply ∷ [])))
    × (Ends TooLong 1 has_more (transcript [] longer []) → ⊥)
    × Ends ReadFailed 2 has_more (transcript once (0 ∷ []) written)
    × (Ends ReadFailed 2 has_more (transcript once (0 ∷ []) []) → ⊥)

abbrev pub InstancesOfFailedWrites : Type 0
InstancesOfFailedWrites =
    Ends WriteFailed 1 has_more (transcript once [] (0 ∷ []))
    × (Ends WriteFailed 1 has_more (transcript once [] written) → ⊥)
    × (Ends WriteFailed 1 has_more (transcript [] [] []) → ⊥)
    × Ends NoMemory 1 has_more (transcript [] [] [])
    × (Ends NoMemory 1 has_more (transcript once [] written) → ⊥)
    × (next_count 0 ≡ 1)
    × (next_count 18446744073709551615 ≡ 0)

-- a run that is asked for no frame may end well, and leaves the server however it ends
abbrev pub RunsOfNoFrame : Type 0
RunsOfNoFrame =
    (old new : ServerState) (end : End)
    → Serves untold untold old old 0 Done × (Serves untold untold old new 0 end → new ≡ old)

-- ---- look-ups

abbrev pub one_tenant : List State
one_tenant = opening reader ∷ []

-- and one more, which has an index
abbrev pub two_tenants : List State
two_tenants =
    opening reader
    ∷ record { settings = record { max_steps = 3; max_elements = 2; max_held = 5; tokens = token (codes "b") ∷ [] }; graph = empty_graph; indexes = (codes "P", codes "k") ∷ []; transaction = None; held = no_pages }
    ∷ []

abbrev pub key : Key
key = (codes "t", [])

abbrev pub cache_of : List Key → ℕ → ℕ → CacheSeen
cache_of keys hits misses = record { capacity = 1; keys = keys; hits = hits; misses = misses }

abbrev pub InstancesOfKeys : Type 0
InstancesOfKeys =
    (key_asked one_tenant (query (codes "a") (codes "t") no_entries None) ≡ Some key)
    × (key_asked one_tenant (query (codes "b") (codes "t") no_entries None) ≡ None)
    × (key_asked two_tenants (query (codes "b") (codes "t") no_entries None) ≡ Some (codes "t", (codes "P", codes "k") ∷ []))
    × (key_asked one_tenant (status (codes "a")) ≡ None)
    × (key_asked one_tenant (create_index (codes "a") (codes "t") (codes "k")) ≡ None)
    × ((text : List ℕ) → nat_le (length text) greatest_text ≡ false → key_asked one_tenant (query (codes "a") text no_entries None) ≡ None)

abbrev pub InstancesOfLookUps : Type 0
InstancesOfLookUps =
    LooksUp (Some key) done_text (fresh_cache 1) (cache_of [] 0 1)
    × (LooksUp (Some key) done_text (fresh_cache 1) (fresh_cache 1) → ⊥)
    × LooksUp (Some key) (refusal_text OutOfMemory) (fresh_cache 1) (fresh_cache 1)
    × (LooksUp None done_text (fresh_cache 1) (cache_of [] 0 1) → ⊥)
    × LooksUp (Some key) done_text (cache_of (key ∷ []) 0 1) (cache_of (key ∷ []) 1 1)
    × (LooksUp (Some key) done_text (cache_of (key ∷ []) 0 1) (cache_of (key ∷ []) 0 2) → ⊥)
