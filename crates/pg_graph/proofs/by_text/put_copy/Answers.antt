use Rattle.std.proofs.Common.{sym, ap, ◌∙◌}
use Rattle.pg_graph.proofs.InOrder.{put_is_shown}
use Rattle.pg_graph.proofs.by_text.put_copy.Goals as goal
use Rattle.pg_meaning.specs.Entries.{with_entry}
use Rattle.pg_value_core.proofs.Maps.{entries_view-insert_entry}
use Rattle.pg_value_core.specs.View.{view, entries_view}

pub returns : goal.returns
returns c =
    let es = c.args.found.now.entries in
    ap entries_view c.in_ok-insert.ensures.entries ∙ entries_view-insert_entry es c.in_ok-text.text c.in_ok-copy.copy
    ∙ (λ i. with_entry (c.in_ok-text.ensures.ok i) (c.in_ok-copy.ensures i) (entries_view es))
    ∙ put_is_shown c.args.text.now (view c.args.value.now) (entries_view es) (sym c.is_null.ensures ∙ c.if-is_null.false)
