use Rattle.std.proofs.Common.{ap, ◌∙◌}
use Rattle.std.proofs.lemmas.Result.{IfOk-weaker, on_ok_weaker}
use Rattle.std.specs.FinMap as map
use Rattle.pg_graph.proofs.Entries.{map_of, map_put}
use Rattle.pg_value_core.specs.View.{view}
use Rattle.pg_graph.proofs.properties.Properties.exchange.Goals as goal

pub returns-clause-ok : goal.returns-clause-ok
returns-clause-ok c = on_ok_weaker c.exchange_entry.result (λ e.
    ap (map_of view) e ∙ map_put view c.args.key c.args.value c.self.inside.entries.items c.self.invariant
    ∙ ap (λ m. map.insert m c.args.key (view c.args.value)) c.self.view_is)
    c.exchange_entry.ensures.ok

pub returns-clause-before : goal.returns-clause-before
returns-clause-before c = IfOk-weaker c.exchange_entry.result _ _ (λ b is. is ∙ ap (λ m. map.get m c.args.key) c.self.view_is) c.exchange_entry.ensures.before
