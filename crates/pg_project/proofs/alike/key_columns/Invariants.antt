use Rattle.std.proofs.Common.{ℕ, List, drop, ◌++◌}
use Rattle.pg_project.specs.Alike.{ReadEach}
use Rattle.pg_project.specs.ReadyItems.{keys_of}
use Rattle.pg_project.proofs.alike.key_columns.Given as goal

abbrev pub invariant-loop-key : goal.invariant-loop-key
invariant-loop-key l =
    (rest : List ℕ) → ReadEach l.names (keys_of l.names (drop l.key-index l.keys.items)) rest → ReadEach l.names (keys_of l.names l.keys.items) (l.columns.items ++ rest)
