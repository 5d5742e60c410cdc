use Rattle.std.proofs.Common.{◌≡◌, drop, length, map, sym, ap, subst, ◌∙◌}
use Rattle.pg_expr.proofs.ExitLemmas.{fault_passed}
use Rattle.pg_expr.specs.Contexts.{given}
use Rattle.pg_project.proofs.RowLemmas.{with_key}
use Rattle.pg_project.proofs.Turns.{step_fault, step_on}
use Rattle.pg_project.specs.Items.{expressions_view}
use Rattle.pg_project.specs.Kept.{answers_at, into_kept, kept_row, kept_rows}
use Rattle.pg_project.specs.KeptGroups.{HasNumber, groups_of, groups_view, parted}
use Rattle.pg_project.specs.Views.{takens_view}
use Rattle.pg_project.specs.declared.groups.Groups.{Groups}
use Rattle.pg_rows.specs.Groups.{keys_view}
use Rattle.pg_rows.specs.Tables.{table}
use Rattle.pg_value_core.specs.Given.{parameters_view}
use Rattle.pg_value_core.specs.View.{view}
use Rattle.pg_project.proofs.alike_rows.take_alike.Goals as goal

record Unchanged (old new : Groups) : Type 0 where
  taken : takens_view new.taken.items ≡ takens_view old.taken.items
  keys : new.keys ≡ old.keys

same_views : (each : _) (old new : Groups) → Unchanged old new → groups_view each old ≡ groups_view each new
same_views each old new u = λ i. groups_of (keys_view (sym u.keys i).keys) (parted (length (sym u.keys i).keys) each (sym u.taken i))

pub returns-clause-ok : goal.returns-clause-ok
returns-clause-ok g c =
    let context = c.args.context.now in
    let grouping = c.args.grouping.now in
    let names = context.names.now in
    let es = expressions_view grouping.expressions.now.items in
    let at = given context c.args.graph.now in
    let each = length grouping.items.now.aggregates.items in
    let old = c.args.groups.now in
    let now = c.count_alike.new.groups in
    let after = c.take_again.new.self in
    let rows = table grouping.rows.now in
    let row = map view context.row.now in
    let group = c.requires.standing.group in
    let unchanged : Unchanged old now = record { taken = c.in_default.ensures.none; keys = c.count_alike.ensures.keys } in
    let number = subst (λ ks. HasNumber ks.keys group.key c.args.number) (sym c.count_alike.ensures.keys) group.number in
    let taken = with_key at es (groups_view each now) group.key group.is ∙ ap (λ aggregates. into_kept at aggregates group.key (groups_view each now)) (sym c.requires.standing.ready.aggregates) ∙ c.in_ok-take_again.ensures.ok group.key number in
    ap (λ gs. kept_rows (parameters_view context.parameters.now) c.args.graph.now names es gs (drop c.args.at rows)) (same_views each old now unchanged)
    ∙ step_on (λ gs r. kept_row (answers_at (parameters_view context.parameters.now) c.args.graph.now names r) es gs) rows c.args.at row c.requires.standing.here (groups_view each now) (groups_view each after) taken
    ∙ ap (λ n. kept_rows (parameters_view context.parameters.now) c.args.graph.now names es (groups_view each after) (drop n rows)) (sym c.in-Some-checked_add.ensures.1)

pub returns-clause-paired : goal.returns-clause-paired
returns-clause-paired g c =
    let group = c.requires.standing.group in
    c.in_ok-take_again.ensures.paired group.key (subst (λ ks. HasNumber ks.keys group.key c.args.number) (sym c.count_alike.ensures.keys) group.number)

pub returns-in_err-take_again-clause-err : goal.returns-in_err-take_again-clause-err
returns-in_err-take_again-clause-err g c =
    let context = c.args.context.now in
    let grouping = c.args.grouping.now in
    let names = context.names.now in
    let es = expressions_view grouping.expressions.now.items in
    let at = given context c.args.graph.now in
    let each = length grouping.items.now.aggregates.items in
    let old = c.args.groups.now in
    let now = c.count_alike.new.groups in
    let rows = table grouping.rows.now in
    let row = map view context.row.now in
    let group = c.requires.standing.group in
    let f = c.in_err-take_again.field-0.0 in
    let unchanged : Unchanged old now = record { taken = c.in_default.ensures.none; keys = c.count_alike.ensures.keys } in
    let number = subst (λ ks. HasNumber ks.keys group.key c.args.number) (sym c.count_alike.ensures.keys) group.number in
    fault_passed _ f c.from_residual.result c.from_residual.ensures.1
    (λ other.
    ap (λ gs. kept_rows (parameters_view context.parameters.now) c.args.graph.now names es gs (drop c.args.at rows)) (same_views each old now unchanged)
    ∙ step_fault (λ gs r. kept_row (answers_at (parameters_view context.parameters.now) c.args.graph.now names r) es gs) rows c.args.at row c.requires.standing.here (groups_view each now) f
    (with_key at es (groups_view each now) group.key group.is ∙ ap (λ aggregates. into_kept at aggregates group.key (groups_view each now)) (sym c.requires.standing.ready.aggregates) ∙ c.in_err-take_again.ensures.err group.key number other))
