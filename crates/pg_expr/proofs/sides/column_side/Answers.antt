use Rattle.std.proofs.Common.{sym, ap, ◌∙◌}
use Rattle.std.specs.Prelude.{bytes_eq, position}
use Rattle.pg_expr.proofs.SideLemmas.{of_variable}
use Rattle.pg_syntax_tree.specs.View.{name_view}
use Rattle.pg_expr.proofs.sides.column_side.Goals as goal

pub returns-in-Some : goal.returns-in-Some
returns-in-Some c = λ parameters.
    of_variable c.args.names.now parameters (name_view c.args.name.now) c.in-Some.at
    (ap (λ k. position (bytes_eq k) c.args.names.now) (sym c.as_str.ensures.value) ∙ sym c.in-Some.ensures)
