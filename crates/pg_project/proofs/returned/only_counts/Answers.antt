use Rattle.std.proofs.Common.{map, ap}
use Rattle.pg_project.proofs.Counting.{counts_only, none_there}
use Rattle.pg_project.proofs.RowCounts.{alone}
use Rattle.pg_syntax_tree.specs.View.{item_view, projection_view}
use Rattle.pg_project.proofs.returned.only_counts.Goals as goal

pub returns-then-is_none : goal.returns-then-is_none
returns-then-is_none c = λ counts.
    let p = projection_view c.args.projection.now in
    counts_only p (item_view c.item-item.result) (none_there c.args.projection.now.star c.is_none.result c.is_none.ensures c.if-is_none.true)
    (ap (map item_view) (alone c.as_slice.result.now c.args.projection.now.items.items c.item-item.result c.as_slice.ensures.value c.in-len1.len_at_least c.in-len1.len_below c.item-item.is))
    (c.counts_rows.ensures counts)
