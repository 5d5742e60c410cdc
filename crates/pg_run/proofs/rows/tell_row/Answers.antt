use Rattle.std.proofs.Common.{rules, ◌≡◌, true, map, sym, subst}
use Rattle.pg_project.specs.Given.{trees_of, values_given}
use Rattle.pg_run.specs.Returning.{RowPassed}
use Rattle.pg_value_core.specs.Given.{parameters_view}
use Rattle.pg_value_core.specs.View.{view}
use Rattle.pg_run.proofs.rows.tell_row.Goals as goal

pub returns-clause-ok : goal.returns-clause-ok
returns-clause-ok g c =
    let graph = c.args.graph.now in
    let given = values_given (parameters_view c.args.items.now.query.now.parameters.now) graph c.args.items.now.names.now (trees_of c.args.items.now.names.now c.args.items.now.ready.now) (map view c.args.row.now) in
    let is_in : c.args.is_in ≡ true = search rules in
    let made = c.in_ok-tell_items.ensures.ok in
    subst (λ b. RowPassed graph b given c.args.telling.now c.end_row.new.self) (sym is_in)
    (record {
      values = made.values;
      are = made.are;
      telling = λ notes columns rows h.
          c.in_ok-end_row.ensures.telling notes graph columns rows made.values (made.telling notes columns rows h);
    })
