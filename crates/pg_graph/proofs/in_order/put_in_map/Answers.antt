use Rattle.std.proofs.Common.{sym, ap, ◌∙◌}
use Rattle.pg_graph.proofs.InOrder.{listed_inserted, put_is_shown}
use Rattle.pg_graph.proofs.in_order.put_in_map.Goals as goal
use Rattle.pg_graph.specs.InOrder.{listed_entries}
use Rattle.pg_value_core.specs.View.{view}

pub returns : goal.returns
returns c =
    let entries = c.args.found.now.entries in
    ap listed_entries c.in_ok-insert.ensures.entries
    ∙ listed_inserted c.args.key c.args.value entries
    ∙ put_is_shown c.args.key.now (view c.args.value.now) (listed_entries entries) (sym c.is_null.ensures ∙ c.if-is_null.false)
