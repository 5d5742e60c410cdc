use Rattle.std.proofs.Common.{◌≡◌, List, [], ◌∷◌, map, String, Global, string_bytes, Some, refl, sym, ap, ◌∙◌}
use Rattle.serde_json.specs.Data.{item, string}
use Rattle.pg_json.specs.Replies.{named_outs, node_data}
use Rattle.pg_json.specs.Replies as reply
use Rattle.pg_meaning.specs.Graph.{node_at}
use Rattle.pg_graph.specs.InOrder.{listed_entries}
use Rattle.pg_json.proofs.Elements.{data_node}
use Rattle.pg_run.proofs.elements.whole_node.Goals as goal
use Rattle.pg_run.specs.Printed.{text_items, shown_node, stored_members}

same_texts : (ts : List (String Global)) → reply.text_items ts ≡ text_items (map string_bytes ts)
same_texts [] = refl
same_texts (t ∷ ts) = ap (item (string (string_bytes t))) (same_texts ts)

pub returns-in_ok-spell_properties-in-Some-clause-data : goal.returns-in_ok-spell_properties-in-Some-clause-data
returns-in_ok-spell_properties-in-Some-clause-data g c =
    let graph = c.args.graph.now in
    let id = c.args.id in
    let node = c.in-Some.node in
    let labels = c.in_ok-label_texts-in-Some.field-0 in
    let properties = c.in_ok-spell_properties-in-Some.field-0 in
    let there : node_at graph id.0 ≡ Some node = sym c.node.ensures ∙ c.in-Some.is in
    data_node id labels properties
    ∙ ap (λ ls. node_data id.0 ls (named_outs properties.items)) (same_texts labels.items ∙ ap text_items c.in_ok-label_texts-in-Some.ensures)
    ∙ ap (node_data id.0 (text_items node.labels)) (c.in_ok-spell_properties-in-Some.ensures ∙ ap (λ ps. stored_members (listed_entries ps)) c.deref.ensures.value ∙ ap stored_members c.in_ok-properties-in-Some.ensures)
    ∙ ap (shown_node graph id.0) (sym there)
