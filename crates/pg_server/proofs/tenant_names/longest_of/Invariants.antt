use Rattle.std.proofs.Common.{ℕ, ◌<◌, ◌≤◌, [], length, map, slice_index_or, string_bytes}
use Rattle.pg_server.proofs.tenant_names.longest_of.Given as goal

abbrev pub invariant-loop-name : goal.invariant-loop-name
invariant-loop-name l = (place : ℕ) → place < l.name-index → length (slice_index_or (map string_bytes l.names) place []) ≤ l.longest
