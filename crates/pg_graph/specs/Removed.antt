-- Content without the elements that are marked as removed.
use Rattle.std.specs.Prelude.{ℕ, Bool, not, List, filter}
use Rattle.std.specs.Ordering.{nat_cmp}
use Rattle.std.specs.FinMap as map
use Rattle.std.specs.FinMap.{FinMap}
use Rattle.pg_graph.specs.Content.{Content}

-- a set of ids
abbrev pub Ids : Type 0
Ids = FinMap nat_cmp (Unit {0})

abbrev pub has_id : Ids → ℕ → Bool
has_id ids id = map.contains_key ids id

abbrev pub without_ids : {X : Type 0} → FinMap nat_cmp X → Ids → FinMap nat_cmp X
without_ids m ids = map.retain_keys m (λ id. not (has_id ids id))

-- the content without the removed nodes and relationships
abbrev pub live_content : Content → Ids → Ids → Content
live_content c nodes rels = record { nodes = without_ids c.nodes nodes; rels = without_ids c.rels rels }

-- the ids of a list that are none of the set
abbrev pub live_ids : Ids → List ℕ → List ℕ
live_ids ids list = filter (λ id. not (has_id ids id)) list
