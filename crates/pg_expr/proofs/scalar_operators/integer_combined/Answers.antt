use Rattle.std.proofs.Common.{◌≡◌, rules, sym, subst, to_z, of_z}
use Rattle.std.specs.Int.{w64}
use Rattle.pg_expr.proofs.ScalarLemmas.{nothing_then}
use Rattle.pg_expr.specs.Scalars.{scalar_view, Tells, ThenTells}
use Rattle.pg_expr.specs.declared.scalar.Scalar.{Scalar}
use Rattle.pg_meaning.specs.Expressions.{combined}
use Rattle.pg_meaning.specs.Value.{integer}
use Rattle.pg_expr.proofs.scalar_operators.integer_combined.Goals as goal

pub returns-in-Int : goal.returns-in-Int
returns-in-Int c =
    let same_x : to_z w64 (of_z w64 c.args.x) ≡ c.args.x = search rules in
    let same_y : to_z w64 (of_z w64 c.in-Int.y) ≡ c.in-Int.y = search rules in
    let told = scalar_view c.integers.result in
    subst (λ (u : Scalar). ThenTells (scalar_view u) told (combined c.args.operator (integer c.args.x))) (sym c.in-Int.is)
    (subst (λ i. Tells told (combined c.args.operator (integer c.args.x) (integer i))) same_y
    (subst (λ i. Tells told (combined c.args.operator (integer i) (integer (to_z w64 (of_z w64 c.in-Int.y))))) same_x c.integers.ensures))

pub returns-in_default : goal.returns-in_default
returns-in_default c = nothing_then (scalar_view c.args.w) (combined c.args.operator (integer c.args.x))
