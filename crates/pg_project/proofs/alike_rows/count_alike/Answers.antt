use Rattle.std.proofs.Common.{◌-◌, map, refl, subst, sym}
use Rattle.std.specs.Prelude.{IfSome}
use Rattle.pg_project.proofs.AlikeCounts.{paired_after, rows_counted}
use Rattle.pg_project.specs.Alike.{ReadEach}
use Rattle.pg_project.specs.Items.{expressions_view}
use Rattle.pg_project.specs.ReadyItems.{keys_of}
use Rattle.pg_rows.specs.Tables.{table}
use Rattle.pg_value_core.specs.Given.{parameters_view}
use Rattle.pg_value_core.specs.View.{view}
use Rattle.pg_project.proofs.alike_rows.count_alike.Goals as goal

pub returns-then-count_more-clause-counted : goal.returns-then-count_more-clause-counted
returns-then-count_more-clause-counted g c =
    let context = c.args.context.now in
    let grouping = c.args.grouping.now in
    let names = context.names.now in
    let end = c.alike_until-end.result in
    let keys = keys_of names grouping.items.now.keys.items in
    let reads = subst (λ cs. ReadEach names keys cs) (sym c.as_slice.ensures.value) (subst (λ o. IfSome o (λ cs. ReadEach names keys cs.items)) c.in-Some.is c.requires.columns) in
    rows_counted (parameters_view context.parameters.now) c.args._graph.now names (expressions_view grouping.expressions.now.items) grouping.items.now c.requires.ready c.args.groups.now c.count_more.new.groups c.args.number (end - c.args.at)
    (c.counts_rows.ensures names c.if-not-counts_rows.false) c.requires.paired (c.count_more.ensures.counted c.if-count_more.true) c.count_more.ensures.keys
    c.as_slice.result.now (table grouping.rows.now) c.args.at end (map view context.row.now) reads c.requires.group c.alike_until-end.ensures (map view context.row.now) c.requires.here refl

pub returns-then-count_more-clause-paired : goal.returns-then-count_more-clause-paired
returns-then-count_more-clause-paired g c =
    let context = c.args.context.now in
    let grouping = c.args.grouping.now in
    let names = context.names.now in
    let end = c.alike_until-end.result in
    paired_after (parameters_view context.parameters.now) c.args._graph.now names (expressions_view grouping.expressions.now.items) grouping.items.now c.requires.ready c.args.groups.now c.count_more.new.groups c.args.number (end - c.args.at)
    (c.counts_rows.ensures names c.if-not-counts_rows.false) c.requires.paired (c.count_more.ensures.counted c.if-count_more.true) c.count_more.ensures.keys
