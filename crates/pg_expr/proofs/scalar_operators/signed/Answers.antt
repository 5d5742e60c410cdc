use Rattle.std.proofs.Common.{◌≡◌, rules, sym, subst, to_z, of_z}
use Rattle.std.specs.Int.{w64}
use Rattle.pg_expr.proofs.ScalarLemmas.{nothing_then}
use Rattle.pg_expr.specs.Scalars.{scalar_view, Tells, ThenTells}
use Rattle.pg_expr.specs.declared.scalar.Scalar.{Scalar}
use Rattle.pg_meaning.specs.Expressions.{all_signed}
use Rattle.pg_meaning.specs.Value.{integer}
use Rattle.pg_expr.proofs.scalar_operators.signed.Goals as goal

pub returns-in-Int : goal.returns-in-Int
returns-in-Int c =
    let same : to_z w64 (of_z w64 c.in-Int.i) ≡ c.in-Int.i = search rules in
    let told = scalar_view c.with_signs.result in
    subst (λ (u : Scalar). ThenTells (scalar_view u) told (all_signed c.args.signs.now.items)) (sym c.in-Int.is)
    (subst (λ i. Tells told (all_signed c.args.signs.now.items (integer i))) same c.with_signs.ensures)

pub returns-in_default : goal.returns-in_default
returns-in_default c = nothing_then (scalar_view c.args.v) (all_signed c.args.signs.now.items)
