use Rattle.std.proofs.Common.{◌≡◌, rules, sym, subst, to_z, of_z}
use Rattle.std.specs.Int.{w64}
use Rattle.pg_expr.specs.Scalars.{scalar_view, BothTell, ThenTells}
use Rattle.pg_expr.specs.declared.scalar.Scalar.{Scalar}
use Rattle.pg_meaning.specs.Expressions.{combined}
use Rattle.pg_meaning.specs.Value.{integer}
use Rattle.pg_expr.proofs.scalar_operators.combined.Goals as goal

pub returns-in-Int : goal.returns-in-Int
returns-in-Int c =
    let same : to_z w64 (of_z w64 c.in-Int.x) ≡ c.in-Int.x = search rules in
    let told = scalar_view c.integer_combined.result in
    subst (λ (u : Scalar). BothTell (scalar_view u) (scalar_view c.args.w) told (combined c.args.operator)) (sym c.in-Int.is)
    (subst (λ i. ThenTells (scalar_view c.args.w) told (combined c.args.operator (integer i))) same c.integer_combined.ensures)

pub returns-in_default : goal.returns-in_default
returns-in_default c = c.logic.ensures
