use Rattle.std.proofs.Common.{[], ◌∷◌, ap, ◌∙◌}
use Rattle.pg_project.proofs.RowCounts.{alone}
use Rattle.pg_project.specs.ReadyItems.{aggregates_view}
use Rattle.pg_project.proofs.group.count_rows_alone.Goals as goal

pub returns-in-len1-clause-aggregates : goal.returns-in-len1-clause-aggregates
returns-in-len1-clause-aggregates c = λ names h.
    ap (aggregates_view names) (alone c.as_slice.result.now c.args.items.now.aggregates.items c.aggregate-item.result c.as_slice.ensures.value c.in-len1.len_at_least c.in-len1.len_below c.aggregate-item.is)
    ∙ ap (λ a. a ∷ []) (c.counts_rows.ensures names h)
