-- What lists of ids, each in a place of its own, say of relationships.
use Rattle.std.specs.Prelude.{◌≡◌, ◌==◌, ℕ, List, [], Option, None, Some, IsSome, if◌then◌else◌}
use Rattle.std.specs.Ordering.{nat_cmp}
use Rattle.std.specs.FinMap as map
use Rattle.std.specs.FinMap.{FinMap}
use Rattle.pg_pool.specs.Slab.{Slab, get, Updates}
use Rattle.pg_value_core.specs.declared.ids.NodeId.{NodeId}
use Rattle.pg_value_core.specs.declared.ids.RelId.{RelId}
use Rattle.pg_graph.specs.Content.{outgoing_of, incoming_of}
use Rattle.pg_graph.specs.Links.{numbers}
use Rattle.pg_graph.specs.Sorted.{Rises}
use Rattle.pg_graph.specs.declared.records.RelRecord.{RelRecord}
use Rattle.pg_pool.specs.Places.{ids_of}
use Rattle.pg_pool.specs.declared.ids.Ids.{Ids}
use Rattle.pg_pool.specs.declared.links.Links.{Links}
use Rattle.pg_pool.specs.declared.links.Incidence.{Incidence}

abbrev pub Rels : Type 0
Rels = FinMap nat_cmp RelRecord

abbrev pub ids_in : Option Ids → List ℕ
ids_in None = []
ids_in (Some ids) = numbers (ids_of ids)

abbrev pub list_at : Slab Ids → Option ℕ → List ℕ
list_at lists None = []
list_at lists (Some key) = ids_in (get lists key)

-- the list under one key is another, which the one before tells, and the others stay
pub record Replaces (key : ℕ) (f : List ℕ → List ℕ) (old new : Slab Ids) : Type 0 where
  pub ids : Ids
  pub updates : Updates old new key (Some ids)
  pub told : numbers (ids_of ids) ≡ f (list_at old (Some key))

-- the ids under a node
abbrev pub links_at : Links → ℕ → List ℕ
links_at links node = list_at links.lists (map.get links.places node)

-- the list under one node is another, which the one before may tell, and the others stay
abbrev pub ChangesAt : ℕ → (List ℕ → List ℕ) → Links → Links → Type 0
ChangesAt node f old new = (q : ℕ) → links_at new q ≡ (if q == node then f (links_at old q) else links_at old q)

abbrev pub AllStay : Links → Links → Type 0
AllStay old new = (q : ℕ) → links_at new q ≡ links_at old q

-- each node has a list at its key, and no other node has the same key
pub record AreApart (places : FinMap nat_cmp ℕ) (lists : Slab Ids) : Type 0 where
  pub there : (node key : ℕ) → map.get places node ≡ Some key → IsSome (get lists key)
  pub once : (node other key : ℕ) → map.get places node ≡ Some key → map.get places other ≡ Some key → node ≡ other

-- each list rises and has a key of its own
pub record IsSound (links : Links) : Type 0 where
  pub rises : (node : ℕ) → Rises (λ n. n) (links_at links node)
  pub apart : AreApart links.places links.lists

-- the lists are those of these relationships
pub record IsIncidence (i : Incidence) (rels : Rels) : Type 0 where
  pub outgoing : (node : ℕ) → links_at i.outgoing node ≡ outgoing_of rels node
  pub incoming : (node : ℕ) → links_at i.incoming node ≡ incoming_of rels node
  pub outgoing_apart : AreApart i.outgoing.places i.outgoing.lists
  pub incoming_apart : AreApart i.incoming.places i.incoming.lists

-- a relationship between these nodes is new, or gone, or nothing changed
abbrev pub Gains : Incidence → Incidence → RelId → NodeId → NodeId → Type 0
Gains old new id source target =
    (rels : Rels) (rel : RelRecord) → rel.source ≡ source → rel.target ≡ target → map.get rels id.0 ≡ None → IsIncidence old rels → IsIncidence new (map.insert rels id.0 rel)

abbrev pub Loses : Incidence → Incidence → RelId → NodeId → NodeId → Type 0
Loses old new id source target =
    (rels : Rels) (rel : RelRecord) → rel.source ≡ source → rel.target ≡ target → map.get rels id.0 ≡ Some rel → IsIncidence old rels → IsIncidence new (map.remove rels id.0)

abbrev pub Stays : Incidence → Incidence → RelId → Type 0
Stays old new id = (rels : Rels) → map.get rels id.0 ≡ None → IsIncidence old rels → IsIncidence new rels

-- these are the ids of the relationships from a node, and to it
abbrev pub AreOutgoing : Incidence → ℕ → List ℕ → Type 0
AreOutgoing i node ids = (rels : Rels) → IsIncidence i rels → ids ≡ outgoing_of rels node

abbrev pub AreIncoming : Incidence → ℕ → List ℕ → Type 0
AreIncoming i node ids = (rels : Rels) → IsIncidence i rels → ids ≡ incoming_of rels node
