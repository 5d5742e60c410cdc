-- Values as replies print them, byte for byte: elements with what they hold, paths, lists, maps, and what isn't there.
use Rattle.std.specs.Prelude.{◌≡◌, ℕ, true, List, [], ◌∷◌, pos, negsuc, codes}
use Rattle.serde_json.specs.Written.{compact_text}
use Rattle.pg_meaning.specs.Graph.{Graph}
use Rattle.pg_meaning.specs.Value.{Value, null, boolean, integer, text, list, mapping, node, relationship, path, no_items, item, no_entries, entry}
use Rattle.pg_run.specs.Printed.{printed}

-- (0:P:Q {k: 'x"y', l: [1, true]})-[0:K {w: -3}]->(1)
abbrev pub joined_pair : Graph
joined_pair = record {
  nodes =
      (0, record { labels = codes "P" ∷ codes "Q" ∷ []; properties = entry (codes "k") (text (codes "x\"y")) (entry (codes "l") (list (item (integer (pos 1)) (item (boolean true) no_items))) no_entries) })
      ∷ (1, record { labels = []; properties = no_entries }) ∷ [];
  relationships = (0, record { type = codes "K"; source = 0; target = 1; properties = entry (codes "w") (integer (negsuc 2)) no_entries }) ∷ [];
  next_node = 2;
  next_relationship = 1;
}

abbrev pub PrintsAs : Value → List ℕ → Type 0
PrintsAs v printed_text = compact_text (printed joined_pair v) ≡ printed_text

abbrev pub InstancesOfPrinted : Type 0
InstancesOfPrinted =
    PrintsAs (node 0) (codes "{\"$node\":0,\"labels\":[\"P\",\"Q\"],\"properties\":{\"k\":\"x\\\"y\",\"l\":[1,true]}}")
    × PrintsAs (relationship 0) (codes "{\"$rel\":0,\"end\":1,\"properties\":{\"w\":-3},\"start\":0,\"type\":\"K\"}")
    × PrintsAs (path (0 ∷ 0 ∷ 1 ∷ [])) (codes "{\"$path\":[{\"$node\":0,\"labels\":[\"P\",\"Q\"],\"properties\":{\"k\":\"x\\\"y\",\"l\":[1,true]}},{\"$rel\":0,\"end\":1,\"properties\":{\"w\":-3},\"start\":0,\"type\":\"K\"},{\"$node\":1,\"labels\":[],\"properties\":{}}]}")
    × PrintsAs (list (item (node 1) (item null (item (integer (negsuc 0)) no_items)))) (codes "[{\"$node\":1,\"labels\":[],\"properties\":{}},null,-1]")
    × PrintsAs (mapping (entry (codes "a") (relationship 0) (entry (codes "b") (boolean true) no_entries))) (codes "{\"a\":{\"$rel\":0,\"end\":1,\"properties\":{\"w\":-3},\"start\":0,\"type\":\"K\"},\"b\":true}")
    × PrintsAs (text (codes "a b")) (codes "\"a b\"")
    × PrintsAs (node 7) (codes "null")
    × PrintsAs (relationship 7) (codes "null")
