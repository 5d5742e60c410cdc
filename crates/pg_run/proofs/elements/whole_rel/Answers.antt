use Rattle.std.proofs.Common.{◌≡◌, Some, sym, ap, ◌∙◌}
use Rattle.pg_json.specs.Replies.{named_outs, rel_data}
use Rattle.pg_meaning.specs.Graph.{relationship_at}
use Rattle.pg_graph.specs.InOrder.{listed_entries}
use Rattle.pg_json.proofs.Elements.{data_rel}
use Rattle.pg_run.proofs.elements.whole_rel.Goals as goal
use Rattle.pg_run.specs.Printed.{shown_relationship, stored_members}

pub returns-in_ok-spell_properties-in-Some-clause-data : goal.returns-in_ok-spell_properties-in-Some-clause-data
returns-in_ok-spell_properties-in-Some-clause-data g c =
    let graph = c.args.graph.now in
    let id = c.args.id in
    let rel = c.in-Some.rel in
    let kind = c.in_ok-from_str-in-Some.field-0 in
    let properties = c.in_ok-spell_properties-in-Some.field-0 in
    let there : relationship_at graph id.0 ≡ Some rel = sym c.rel.ensures.is ∙ c.in-Some.is in
    data_rel id kind c.source.result c.target.result properties
    ∙ (λ j. rel_data id.0 (c.target.ensures j) (named_outs properties.items) (c.source.ensures j) ((c.in_ok-from_str-in-Some.ensures.ok ∙ c.kind.ensures) j))
    ∙ ap (λ ms. rel_data id.0 rel.target ms rel.source rel.type) (c.in_ok-spell_properties-in-Some.ensures ∙ ap (λ ps. stored_members (listed_entries ps)) c.deref.ensures.value ∙ ap stored_members c.in_ok-properties-in-Some.ensures)
    ∙ ap (shown_relationship graph id.0) (sym there)
