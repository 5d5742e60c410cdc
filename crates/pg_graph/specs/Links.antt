-- What lists of ids under nodes say of relationships.
use Rattle.std.specs.Prelude.{◌≡◌, ℕ, List, [], map as map_list}
use Rattle.std.specs.Option.{option_map_or}
use Rattle.std.specs.Ordering.{nat_cmp}
use Rattle.std.specs.FinMap as map
use Rattle.std.specs.FinMap.{FinMap}
use Rattle.pg_value_core.specs.declared.ids.RelId.{RelId}
use Rattle.pg_graph.specs.Content.{outgoing_of, incoming_of}
use Rattle.pg_graph.specs.Sorted.{Rises, with_element, without}
use Rattle.pg_graph.specs.declared.links.Links.{Links}
use Rattle.pg_graph.specs.declared.links.Incidence.{Incidence}
use Rattle.pg_graph.specs.declared.records.RelRecord.{RelRecord}

-- a rising list with one more id, and without one
abbrev pub with_id : ℕ → List ℕ → List ℕ
with_id = with_element (λ n. n)

abbrev pub without_id : ℕ → List ℕ → List ℕ
without_id = without (λ n. n)

abbrev pub numbers : List RelId → List ℕ
numbers = map_list (λ r. r.0)

-- the ids under a node
abbrev pub links_at : Links → ℕ → List ℕ
links_at links node = option_map_or (λ v. numbers v.items) (map.get links.lists node) []

abbrev pub AllRise : Links → Type 0
AllRise links = (node : ℕ) → Rises (λ n. n) (links_at links node)

-- the lists are those of these relationships
pub record IsIncidence (i : Incidence) (rels : FinMap nat_cmp RelRecord) : Type 0 where
  pub outgoing : (node : ℕ) → links_at i.outgoing node ≡ outgoing_of rels node
  pub incoming : (node : ℕ) → links_at i.incoming node ≡ incoming_of rels node
