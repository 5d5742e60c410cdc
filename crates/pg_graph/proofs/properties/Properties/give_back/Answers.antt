use Rattle.std.proofs.Common.{sym, ap, ◌∙◌}
use Rattle.std.specs.FinMap as map
use Rattle.pg_graph.proofs.Entries.{map_of, map_put}
use Rattle.pg_graph.specs.Records.{given_back}
use Rattle.pg_value_core.specs.View.{view}
use Rattle.pg_graph.proofs.properties.Properties.give_back.Goals as goal

pub returns-in-Some : goal.returns-in-Some
returns-in-Some c =
    ap (map_of view) c.replace_entry.ensures.replaced ∙ map_put view c.args.key c.in-Some.value c.self.inside.entries.items c.self.invariant
    ∙ ap (λ m. map.insert m c.args.key (view c.in-Some.value)) c.self.view_is ∙ ap (given_back c.args.self.now c.args.key) (sym c.in-Some.is)
