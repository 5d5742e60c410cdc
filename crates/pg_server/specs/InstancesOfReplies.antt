-- Whole bodies and their replies, byte for byte: what a fresh tenant answers alone.
use Rattle.std.specs.Prelude.{◌≡◌, ℕ, List, [], ◌∷◌, Option, Some, option_map, codes}
use Rattle.pg_meaning.specs.Graph.{Graph, empty_graph}
use Rattle.pg_meaning.specs.Value.{text, no_entries, entry}
use Rattle.pg_server.specs.Frames.{frame}
use Rattle.pg_server.specs.Runs.{asked}
use Rattle.pg_tenant.specs.Solo.{Replied, replies, solo}
use Rattle.pg_tenant.specs.State.{State, opening}
use Rattle.pg_tenant.specs.declared.settings.Rights.TheVariants.{Write}

abbrev pub fresh : State
fresh = opening (record { max_steps = 1000; max_elements = 10; max_held = 0; tokens = record { text = codes "a1"; rights = Write } ∷ [] })

-- the reply to a body, and the state behind it
abbrev pub answered_body : State → (body : List ℕ) → Option Replied
answered_body state body = option_map (solo state) (asked body)

-- a tenant with this graph
abbrev pub over : Graph → State
over graph = record fresh { graph = graph }

-- ---- values

abbrev pub null_body : List ℕ
null_body = codes "{\"op\":\"query\",\"token\":\"a1\",\"text\":\"RETURN null = null AS a, 1 IN [2,null] AS b, null IN [] AS c\"}"

abbrev pub null_reply : List ℕ
null_reply = codes "{\"code\":0,\"columns\":[\"a\",\"b\",\"c\"],\"rows\":[[null,null,false]],\"steps\":1}"

-- ---- a node

abbrev pub node_body : List ℕ
node_body = codes "{\"op\":\"query\",\"token\":\"a1\",\"text\":\"CREATE (n:P {name:'x'}) RETURN n\"}"

abbrev pub node_reply : List ℕ
node_reply = codes "{\"code\":0,\"columns\":[\"n\"],\"rows\":[[{\"$node\":0,\"labels\":[\"P\"],\"properties\":{\"name\":\"x\"}}]],\"steps\":2}"

abbrev pub one_named : Graph
one_named = record empty_graph { nodes = (0, record { labels = codes "P" ∷ []; properties = entry (codes "name") (text (codes "x")) no_entries }) ∷ []; next_node = 1 }

-- ---- a relationship from a node to itself, walked once without a direction

abbrev pub loop_body : List ℕ
loop_body = codes "{\"op\":\"query\",\"token\":\"a1\",\"text\":\"CREATE (a:L)-[:K]->(a)\"}"

abbrev pub loop_reply : List ℕ
loop_reply = codes "{\"code\":0,\"columns\":[],\"rows\":[],\"steps\":2}"

abbrev pub one_loop : Graph
one_loop = record {
  nodes = (0, record { labels = codes "L" ∷ []; properties = no_entries }) ∷ [];
  relationships = (0, record { type = codes "K"; source = 0; target = 0; properties = no_entries }) ∷ [];
  next_node = 1;
  next_relationship = 1;
}

abbrev pub walk_body : List ℕ
walk_body = codes "{\"op\":\"query\",\"token\":\"a1\",\"text\":\"MATCH (a:L)-[r]-(b) RETURN id(r)\"}"

abbrev pub walk_reply : List ℕ
walk_reply = codes "{\"code\":0,\"columns\":[\"id(r)\"],\"rows\":[[0]],\"steps\":4}"

-- ---- the instances

-- three answers of null and false, whose frame has 71 bytes behind its length; a node with what it holds; two requests, one after the other
abbrev pub InstancesOfReplies : Type 0
InstancesOfReplies =
    (answered_body fresh null_body ≡ Some (replies null_reply fresh))
    × (frame null_reply ≡ 0 ∷ 0 ∷ 0 ∷ 71 ∷ null_reply)
    × (answered_body fresh node_body ≡ Some (replies node_reply (over one_named)))
    × (answered_body fresh loop_body ≡ Some (replies loop_reply (over one_loop)))
    × (answered_body (over one_loop) walk_body ≡ Some (replies walk_reply (over one_loop)))
