use Rattle.std.proofs.Common.{◌≡◌, ℕ, true, false, drop}
use Rattle.std.specs.FinMap as map
use Rattle.pg_graph.specs.Records.{Properties}
use Rattle.pg_index.specs.Properties.{has_pair, pairs_of}
use Rattle.pg_store.proofs.node_changes.keeps_indexed.Given as goal
use Rattle.pg_store.specs.Edits.{properties_before}

abbrev pub invariant-loop-index : goal.invariant-loop-index
invariant-loop-index l = (label key : ℕ) → has_pair (label, key) (pairs_of l.indexes) ≡ true → has_pair (label, key) (pairs_of (drop l.index-index l.indexes)) ≡ false → (ps : Properties) → map.get (properties_before l.before ps) key ≡ map.get ps key
