use Rattle.std.proofs.Common.{◌≡◌, rules, sym, subst, to_z, of_z, Ok, [], ◌∷◌}
use Rattle.std.specs.Int.{w64}
use Rattle.std.specs.Prelude.{IfSome}
use Rattle.pg_expr.proofs.ScalarLemmas.{compared_told, nothing_then}
use Rattle.pg_expr.specs.Operators.{truth_compared}
use Rattle.pg_expr.specs.Scalars.{scalar_view, ThenTells}
use Rattle.pg_expr.specs.declared.scalar.Scalar.{Scalar}
use Rattle.pg_meaning.specs.Expressions.{compared}
use Rattle.pg_meaning.specs.Value.{integer}
use Rattle.pg_expr.proofs.scalar_operators.integer_compared.Goals as goal

pub returns-in-Int : goal.returns-in-Int
returns-in-Int c =
    let same_x : to_z w64 (of_z w64 c.args.x) ≡ c.args.x = search rules in
    let same_y : to_z w64 (of_z w64 c.in-Int.y) ≡ c.in-Int.y = search rules in
    let truth = c.integers_compared.result in
    subst (λ (u : Scalar). ThenTells (scalar_view u) (scalar_view c.judged.result) (λ y. truth_compared (integer c.args.x) ((c.args.operator, y) ∷ []))) (sym c.in-Int.is)
    (compared_told c.args.operator (integer c.args.x) (integer c.in-Int.y) truth (scalar_view c.judged.result) c.judged.ensures
    (subst (λ i. IfSome truth (λ t. compared c.args.operator (integer c.args.x) (integer i) ≡ Ok t)) same_y
    (subst (λ i. IfSome truth (λ t. compared c.args.operator (integer i) (integer (to_z w64 (of_z w64 c.in-Int.y))) ≡ Ok t)) same_x c.integers_compared.ensures)))

pub returns-in_default : goal.returns-in_default
returns-in_default c = nothing_then (scalar_view c.args.w) (λ y. truth_compared (integer c.args.x) ((c.args.operator, y) ∷ []))
