use Rattle.std.proofs.Common.{◌≡◌, ◌≤◌, ◌+◌, ℕ, [], Err, drop, length, map, sym, ap, subst, ◌∙◌}
use Rattle.pg_project.proofs.KeyColumns.{group_stays}
use Rattle.pg_project.proofs.Turns.{none_left, step_on, step_fault}
use Rattle.std.specs.Prelude.{IfSome}
use Rattle.pg_project.specs.Alike.{IsGroupOf, IsLatest, ReadEach}
use Rattle.pg_project.specs.Items.{aggregates_in, expressions_view, keys_in}
use Rattle.pg_project.specs.Kept.{answers_at, first_kept, kept_row, kept_rows}
use Rattle.pg_project.specs.KeptGroups.{Paired, groups_view}
use Rattle.pg_meaning.specs.declared.fault.Fault.{Fault}
use Rattle.pg_rows.specs.Tables.{table}
use Rattle.pg_value_core.specs.Given.{parameters_view}
use Rattle.pg_value_core.specs.View.{view}
use Rattle.pg_project.proofs.ExitLemmas.{fault_given, memory_given}
use Rattle.pg_project.specs.declared.groups.Groups.{Groups}
use Rattle.pg_project.proofs.rows.groups_of_rows.Goals as goal
use Rattle.pg_project.proofs.rows.groups_of_rows.Goals.{in-Some+in_ok-at-in-Some, in-None+in_ok-take_row-in-None}

pub returns-in_err-take_row-in-None : goal.returns-in_err-take_row-in-None
returns-in_err-take_row-in-None g c =
    let es = expressions_view c.args.expressions.now.items in
    let at = answers_at (parameters_view c.args.scope.now.query.now.parameters.now) c.args.graph.now c.args.scope.now.names.now in
    let refused : (f : Fault) → kept_row (at (map view c.row.result.now)) es (groups_view (length c.args.items.now.aggregates.items) c.loop-at.groups) ≡ Err f
    → kept_rows (parameters_view c.args.scope.now.query.now.parameters.now) c.args.graph.now c.args.scope.now.names.now es (first_kept (keys_in es) (aggregates_in es)) (table c.args.rows.now) ≡ Err f =
    λ f h. c.loop-at.invariant.0 ∙ step_fault (λ gs r. kept_row (at r) es gs) (table c.args.rows.now) c.loop-at.at (map view c.row.result.now) c.row.ensures (groups_view (length c.args.items.now.aggregates.items) c.loop-at.groups) f h in
    fault_given _ (groups_view (length c.args.items.now.aggregates.items)) c.in_err-take_row-in-None.field-0.0 c.from_residual-in_err-take_row-in-None.result c.from_residual-in_err-take_row-in-None.ensures.1 (λ other. refused c.in_err-take_row-in-None.field-0.0 (c.in_err-take_row-in-None.ensures.err other))

pub returns-in_err-groups : goal.returns-in_err-groups
returns-in_err-groups g c = memory_given _ (groups_view (length c.args.items.now.aggregates.items)) c.from_residual-in_err-groups.result c.from_residual-in_err-groups.ensures.1

pub loop-at-init : goal.loop-at-init
loop-at-init g c =
    let es = expressions_view c.args.expressions.now.items in (
      ap (λ gs. kept_rows (parameters_view c.args.scope.now.query.now.parameters.now) c.args.graph.now c.args.scope.now.names.now es gs (table c.args.rows.now)) (sym (c.in_ok-groups.ensures.groups c.args.scope.now.names.now ∙ (λ i. first_kept (c.requires.keys i) (c.requires.aggregates i)))),
      c.in_ok-groups.ensures.paired,
      subst (λ o. IfSome o (λ n. IsGroupOf (answers_at (parameters_view c.args.scope.now.query.now.parameters.now) c.args.graph.now c.args.scope.now.names.now []) (keys_in es) c.in_ok-groups.groups.keys.keys n)) (sym c.in_ok-groups.ensures.latest) tt,
    )

pub returns : goal.returns
returns g c =
    let none = none_left (table c.args.rows.now) c.loop-at.at (subst (λ n. n ≤ c.loop-at.at) c.len.ensures c.loop-at-test.false) in
    record {
      ok = c.loop-at.invariant.0 ∙ ap (kept_rows (parameters_view c.args.scope.now.query.now.parameters.now) c.args.graph.now c.args.scope.now.names.now (expressions_view c.args.expressions.now.items) (groups_view (length c.args.items.now.aggregates.items) c.loop-at.groups)) none;
      err = tt;
    }

pub take_row-requires-clause-paired : goal.take_row-requires-clause-paired
take_row-requires-clause-paired g c = c.loop-at.invariant.1

pub take_alike-requires-clause-standing : goal.take_alike-requires-clause-standing
take_alike-requires-clause-standing g c =
    let parameters = parameters_view c.args.scope.now.query.now.parameters.now in
    let names = c.args.scope.now.names.now in
    let es = expressions_view c.args.expressions.now.items in
    let columns = c.in_ok-key_columns.field-0 in
    let reads = subst (λ ks. IfSome columns (λ cs. ReadEach names ks cs.items)) c.requires.keys c.in_ok-key_columns.ensures in
    record {
      ready = c.requires;
      columns = c.in_ok-key_columns.ensures;
      paired = c.loop-at.invariant.1;
      group = group_stays parameters c.args.graph.now names (map view c.row.result.now) (map view c.loop-at.before.now) columns (keys_in es) reads c.in-Some.ensures.alike c.loop-at.groups.keys.keys c.loop-at.groups.latest c.in-Some.number c.in-Some.ensures.latest c.loop-at.invariant.2;
      here = c.row.ensures;
    }

pub loop-at-preserved : goal.loop-at-preserved
loop-at-preserved g c =
    let es = expressions_view c.args.expressions.now.items in
    let answers = answers_at (parameters_view c.args.scope.now.query.now.parameters.now) c.args.graph.now c.args.scope.now.names.now in
    let each = length c.args.items.now.aggregates.items in
    let rows_kept = kept_rows (parameters_view c.args.scope.now.query.now.parameters.now) c.args.graph.now c.args.scope.now.names.now es in
    let whole = rows_kept (first_kept (keys_in es) (aggregates_in es)) (table c.args.rows.now) in
    let so_far : Groups → ℕ → Type 0 = λ groups at. (whole ≡ rows_kept (groups_view each groups) (drop at (table c.args.rows.now))) × Paired each groups × IsLatest (answers (map view c.row.result.now)) (keys_in es) groups in
    elim c.match-group_again.branch as (λ _. so_far c.match-group_again.groups c.match-group_again.at) [
      | in-Some+in_ok-at-in-Some w ↦
          subst (λ n. so_far c.match-group_again.groups n) (sym w.at-is) (subst (λ gs. so_far gs w.in_ok-at-in-Some.at) (sym w.groups-is)
          (c.loop-at.invariant.0 ∙ w.in_ok-at-in-Some.ensures.ok, w.in_ok-at-in-Some.ensures.paired, w.in_ok-at-in-Some.ensures.latest))
      | in-None+in_ok-take_row-in-None w ↦
          subst (λ n. so_far c.match-group_again.groups n) (sym w.at-is) (subst (λ gs. so_far gs (c.loop-at.at + 1)) (sym w.groups-is) (
            c.loop-at.invariant.0 ∙ step_on (λ gs r. kept_row (answers r) es gs) (table c.args.rows.now) c.loop-at.at (map view c.row.result.now) c.row.ensures (groups_view each c.loop-at.groups) (groups_view each w.take_row.new.groups) w.in_ok-take_row-in-None.ensures.ok,
            w.in_ok-take_row-in-None.ensures.paired,
            w.in_ok-take_row-in-None.ensures.latest,
          ))
    ]
