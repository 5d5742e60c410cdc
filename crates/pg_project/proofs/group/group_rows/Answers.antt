use Rattle.std.proofs.Common.{◌≡◌, [], ◌∷◌, pos, rules, length, map, Ok, sym, ap, ◌∙◌}
use Rattle.std.proofs.lemmas.List.{length-map}
use Rattle.std.proofs.lemmas.Result.{IfOk-from_err}
use Rattle.pg_project.proofs.ExitLemmas.{fault_given, memory_given}
use Rattle.pg_project.proofs.RowCounts.{counted_gives, groups_told, rows_counted}
use Rattle.pg_project.specs.Items.{aggregates_in, expressions_view, is_aggregate, item_of, keys_in}
use Rattle.pg_project.specs.Kept.{kept_values, row_count}
use Rattle.pg_project.specs.ReadyItems.{keys_of}
use Rattle.pg_meaning.specs.Answer.{◌>>=◌}
use Rattle.pg_meaning.specs.Value.{integer}
use Rattle.pg_rows.specs.Tables.{table}
use Rattle.pg_syntax_tree.specs.View.{expression_view}
use Rattle.pg_value_core.specs.Given.{parameters_view}
use Rattle.pg_project.proofs.group.group_rows.Goals as goal

pub groups_of_rows-requires : goal.groups_of_rows-requires
groups_of_rows-requires g c =
    let made = c.in_ok-ready.ensures in
    record { keys = made.keys; aggregates = made.aggregates; kinds = made.kinds }

pub returns-in_err-ready-clause-rows : goal.returns-in_err-ready-clause-rows
returns-in_err-ready-clause-rows g c = memory_given _ table c.from_residual.result c.from_residual.ensures.1

pub returns-in_err-ready-clause-width : goal.returns-in_err-ready-clause-width
returns-in_err-ready-clause-width g c = IfOk-from_err c.from_residual.result _ c.from_residual.ensures.0

pub returns-in_err-groups-clause-rows : goal.returns-in_err-groups-clause-rows
returns-in_err-groups-clause-rows g c =
    let values = kept_values (expressions_view c.args.items.now.items) in
    fault_given _ table c.in_err-groups.field-0.0 c.from_residual-in_err-groups.result c.from_residual-in_err-groups.ensures.1 (λ other. ap (λ a. a >>= λ gs. Ok (map values gs)) (c.in_err-groups.ensures.err other))

pub returns-in_err-groups-clause-width : goal.returns-in_err-groups-clause-width
returns-in_err-groups-clause-width g c = IfOk-from_err c.from_residual-in_err-groups.result _ c.from_residual-in_err-groups.ensures.0

pub returns-in_err-told_rows-clause-rows : goal.returns-in_err-told_rows-clause-rows
returns-in_err-told_rows-clause-rows g c = memory_given _ table c.from_residual-in_err-told_rows.result c.from_residual-in_err-told_rows.ensures.1

pub returns-in_err-told_rows-clause-width : goal.returns-in_err-told_rows-clause-width
returns-in_err-told_rows-clause-width g c = IfOk-from_err c.from_residual-in_err-told_rows.result _ c.from_residual-in_err-told_rows.ensures.0

pub returns-clause-rows : goal.returns-clause-rows
returns-clause-rows g c =
    let es = expressions_view c.args.items.now.items in
    let made = c.in_ok-ready.ensures in
    let found = c.in_ok-told_rows.field-0 in
    record {
      ok =
          ap (λ a. a >>= λ gs. Ok (map (kept_values es) gs)) c.in_ok-groups.ensures.ok
          ∙ ap Ok (groups_told c.args.scope.now.names.now es c.in_ok-ready.ready (record { keys = made.keys; aggregates = made.aggregates; kinds = made.kinds }) c.in_ok-groups.groups (table found) c.in_ok-told_rows.ensures.rows);
      err = tt;
    }

pub returns-clause-width : goal.returns-clause-width
returns-clause-width g c =
    let items = c.args.items.now.items in
    c.in_ok-told_rows.ensures.width ∙ ap length c.in_ok-ready.ensures.kinds ∙ length-map (expressions_view items) (λ e. is_aggregate (item_of e)) ∙ length-map items (λ e. expression_view e.now)

pub returns-then-count_rows_alone-clause-rows : goal.returns-then-count_rows_alone-clause-rows
returns-then-count_rows_alone-clause-rows g c =
    let names = c.args.scope.now.names.now in
    let items = c.args.items.now.items in
    let es = expressions_view items in
    let rows = table c.args.rows.now in
    let made = c.in_ok-ready.ensures in
    let alone = c.count_rows_alone.ensures in
    let lone : length items ≡ 1 = search rules in
    let none : keys_in es ≡ [] = sym made.keys ∙ ap (keys_of names) (alone.keys c.if-count_rows_alone.true) in
    let one : aggregates_in es ≡ row_count ∷ [] = sym made.aggregates ∙ alone.aggregates names c.if-count_rows_alone.true in
    let long : length es ≡ 1 = length-map items (λ e. expression_view e.now) ∙ lone in
    counted_gives ((integer (pos c.len-then-count_rows_alone.result) ∷ []) ∷ []) c.counted.result
    (rows_counted (parameters_view c.args.scope.now.query.now.parameters.now) c.args.graph.now names es none one rows long
    ∙ ap (λ n. Ok ((integer (pos n) ∷ []) ∷ [])) (sym c.len-then-count_rows_alone.ensures))
    c.counted.ensures.rows c.counted.ensures.err
