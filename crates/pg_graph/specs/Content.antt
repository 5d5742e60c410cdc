-- What tables hold: finite maps from ids to records; and what a shared part keeps for other tables.
use Rattle.std.specs.Prelude.{◌≡◌, ◌≢◌, ◌==◌, ℕ, Bool, List, map as map_list}
use Rattle.std.specs.List.{filter}
use Rattle.std.specs.Option.{option_map_or}
use Rattle.std.specs.Ordering.{nat_cmp}
use Rattle.std.specs.FinMap as map
use Rattle.std.specs.FinMap.{FinMap}
use Rattle.pg_graph.specs.Records.{Properties}
use Rattle.pg_graph.specs.declared.records.NodeRecord.{NodeRecord}
use Rattle.pg_graph.specs.declared.records.RelRecord.{RelRecord}

-- the nodes and the relationships, by their ids
pub record Content : Type 0 where
  pub nodes : FinMap nat_cmp NodeRecord
  pub rels : FinMap nat_cmp RelRecord

abbrev pub empty_content : Content
empty_content = record { nodes = map.empty; rels = map.empty }

abbrev pub with_node : Content → ℕ → NodeRecord → Content
with_node c id node = record { nodes = map.insert c.nodes id node; rels = c.rels }

abbrev pub without_node : Content → ℕ → Content
without_node c id = record { nodes = map.remove c.nodes id; rels = c.rels }

abbrev pub with_rel : Content → ℕ → RelRecord → Content
with_rel c id rel = record { nodes = c.nodes; rels = map.insert c.rels id rel }

abbrev pub without_rel : Content → ℕ → Content
without_rel c id = record { nodes = c.nodes; rels = map.remove c.rels id }

-- a relationship with other properties: its type and its ends stay
abbrev pub with_rel_properties : Content → ℕ → Properties → Content
with_rel_properties c id properties = option_map_or (λ rel. with_rel c id (record rel { properties = properties })) (map.get c.rels id) c

-- the ids of the entries that pass the test, rising
abbrev pub ids_where : {X : Type 0} → (X → Bool) → FinMap nat_cmp X → List ℕ
ids_where p m = map_list (λ e. e.0) (filter (λ e. p e.1) (map.entries m))

-- the ids of the relationships from a node, and to it
abbrev pub outgoing_of : FinMap nat_cmp RelRecord → ℕ → List ℕ
outgoing_of rels node = ids_where (λ r. r.source.0 == node) rels

abbrev pub incoming_of : FinMap nat_cmp RelRecord → ℕ → List ℕ
incoming_of rels node = ids_where (λ r. r.target.0 == node) rels

-- How tables of type T are seen over a shared part of type S: their owner, whether the part is theirs,
-- what they hold, and which owners have no tables there.
pub record Seen (T S : Type 0) : Type 1 where
  pub owner : T → ℕ
  pub fits : T → S → Type 0
  pub content : T → S → Content
  pub is_unused : ℕ → S → Type 0

-- From the shared part `old` to `new`, nothing changed that is not owner o's.
pub record OthersStay {T S : Type 0} (seen : Seen T S) (o : ℕ) (old new : S) : Type 0 where
  pub fit : (other : T) → seen.owner other ≢ o → seen.fits other old → seen.fits other new
  pub same : (other : T) → seen.owner other ≢ o → seen.fits other old → seen.content other new ≡ seen.content other old
  pub unused : (n : ℕ) → n ≢ o → seen.is_unused n old → seen.is_unused n new

-- A call on tables t, lent the shared part `old`, left the tables t' and the part `new`, which are each
-- other's, of the same owner. Nothing of other owners changed.
pub record Keeps {T S : Type 0} (seen : Seen T S) (t : T) (old : S) (t' : T) (new : S) : Type 0 where
  pub fits : seen.fits t' new
  pub owner : seen.owner t' ≡ seen.owner t
  pub others : OthersStay seen (seen.owner t) old new
