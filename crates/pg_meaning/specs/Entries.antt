-- The entries of a map: what stands at a key, and the entries with keys set. openCypher 9, section 2.
use Rattle.std.specs.Prelude.{ℕ, Bool, true, cond, ◌&&◌, List, bytes_eq, Option, Some, None, unwrap_or, fold}
use Rattle.std.specs.Ordering.{is_lt, match_ordering}
use Rattle.pg_meaning.specs.Order.{text_order}
use Rattle.pg_meaning.specs.Value.{Value, null, Entries, no_entries, entry}

-- the key stands before the first of the entries
abbrev pub is_before_first : List ℕ → Entries → Bool
is_before_first k no_entries = true
is_before_first k (entry l w es) = is_lt (text_order k l)

-- keys in byte order, each once
abbrev pub are_rising : Entries → Bool
are_rising no_entries = true
are_rising (entry k v es) = is_before_first k es && are_rising es

abbrev pub at_key : List ℕ → Entries → Option Value
at_key k no_entries = None
at_key k (entry l v es) = cond (bytes_eq k l) (Some v) (at_key k es)

-- an absent key reads as null
abbrev pub value_at : List ℕ → Entries → Value
value_at k es = unwrap_or (at_key k es) null

-- the entries, with v at k
abbrev pub with_entry : List ℕ → Value → Entries → Entries
with_entry k v no_entries = entry k v no_entries
with_entry k v (entry l w es) = match_ordering (text_order k l) (entry k v (entry l w es)) (entry k v es) (entry l w (with_entry k v es))

abbrev pub without_key : List ℕ → Entries → Entries
without_key k no_entries = no_entries
without_key k (entry l v es) = cond (bytes_eq k l) es (entry l v (without_key k es))

-- null is never stored
abbrev pub set_key : List ℕ → Value → Entries → Entries
set_key k null es = without_key k es
set_key k v es = with_entry k v es

-- one after the other
abbrev pub set_keys : List (List ℕ × Value) → Entries → Entries
set_keys pairs es = fold (λ fs p. set_key p.0 p.1 fs) es pairs
