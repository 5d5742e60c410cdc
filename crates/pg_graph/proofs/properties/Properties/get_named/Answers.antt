use Rattle.std.proofs.Common.{sym, ap, ◌∙◌}
use Rattle.pg_graph.proofs.NamedChanges.{property_found, property_missing}
use Rattle.pg_graph.proofs.properties.Properties.get_named.Goals as goal
use Rattle.pg_graph.specs.Records.{shown}

pub returns-in-Some : goal.returns-in-Some
returns-in-Some g c =
    c.shown.ensures ∙ ap shown c.get.ensures
    ∙ sym (property_found c.args.names.now c.args.self.now c.args.key.now c.in-Some.name c.in-Some.ensures.distinct c.requires (sym c.in-Some.ensures.found))

pub returns-in-None : goal.returns-in-None
returns-in-None g c = sym (property_missing c.args.names.now c.args.self.now c.args.key.now c.in-None.ensures.distinct c.requires (sym c.in-None.ensures.found))
