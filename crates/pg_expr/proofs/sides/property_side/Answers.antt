use Rattle.std.proofs.Common.{sym, ap, ◌∙◌}
use Rattle.std.specs.Prelude.{bytes_eq, position}
use Rattle.pg_expr.proofs.SideLemmas.{of_property}
use Rattle.pg_meaning.specs.Answer.{◌>>=◌}
use Rattle.pg_meaning.specs.Expressions.{evaluate, property_of}
use Rattle.pg_expr.specs.Sides.{in_column}
use Rattle.pg_rows.specs.Named.{row_of}
use Rattle.pg_syntax_tree.specs.View.{name_view}
use Rattle.pg_expr.proofs.sides.property_side.Goals as goal

pub returns-in-Some-find : goal.returns-in-Some-find
returns-in-Some-find c = λ parameters values g.
    ap (evaluate (row_of c.args.names.now values) parameters g) c.in-Some.ensures
    ∙ of_property c.args.names.now parameters (name_view c.in-Some.name.now) c.in-Some-find.at
    (ap (λ k. position (bytes_eq k) c.args.names.now) (sym c.as_str.ensures.value) ∙ sym c.in-Some-find.ensures)
    (name_view c.in-Some.key.now) values g
    ∙ ap (λ k. in_column values c.in-Some-find.at >>= λ v. property_of g v k) (sym c.as_str-in-Some-find.ensures.value)
