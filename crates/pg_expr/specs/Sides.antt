-- What the sides of a comparison give at a row, where they are known once a clause, and what a conjunct gives that is such a comparison.
use Rattle.std.specs.Prelude.{◌≡◌, ℕ, Bool, List, [], ◌∷◌, Result, slice_get}
use Rattle.pg_expr.specs.Conditions.{is_true_at}
use Rattle.pg_expr.specs.Operators.{truth_compared}
use Rattle.pg_expr.specs.Scalars.{scalar_view}
use Rattle.pg_expr.specs.declared.sides.KnownComparison.{KnownComparison}
use Rattle.pg_expr.specs.declared.sides.Side.{Side}
use Rattle.pg_expr.specs.declared.sides.Side.TheVariants.{Told, Column, Property}
use Rattle.pg_meaning.specs.Answer.{Answer, ◌>>=◌}
use Rattle.pg_meaning.specs.Expressions.{evaluate, or_fault, property_of}
use Rattle.pg_meaning.specs.Graph.{Graph}
use Rattle.pg_meaning.specs.Tree.{Expression}
use Rattle.pg_meaning.specs.Value.{Value as Datum, Entries}
use Rattle.pg_meaning.specs.declared.fault.Fault.{Fault}
use Rattle.pg_meaning.specs.declared.fault.Fault.TheVariants.{UndefinedVariable}
use Rattle.pg_rows.specs.Named.{row_of}

-- what a row of these values has in a column
abbrev pub in_column : List Datum → ℕ → Answer
in_column values at = or_fault (slice_get values at) UndefinedVariable

-- what a side gives at a row of these values
abbrev pub side_given : Side → List Datum → Graph → Answer
side_given (Told told) values g = or_fault (scalar_view told) UndefinedVariable
side_given (Column at) values g = in_column values at
side_given (Property at key) values g = in_column values at >>= λ v. property_of g v key.now

-- the side of an expression, at whatever row under these names
abbrev pub IsSideOf : (names : List (List ℕ)) → Entries → Side → Expression → Type 0
IsSideOf names parameters side e = (values : List Datum) (g : Graph) → evaluate (row_of names values) parameters g e ≡ side_given side values g

-- whether the comparison is true at a row of these values
abbrev pub comparison_given : KnownComparison → List Datum → Graph → Result Bool Fault
comparison_given known values g = (side_given known.left values g >>= λ v. side_given known.right values g >>= λ w. truth_compared v ((known.operator, w) ∷ [])) >>= is_true_at

-- the comparison that a conjunct is, at whatever row under these names
abbrev pub IsComparisonOf : (names : List (List ℕ)) → Entries → KnownComparison → Expression → Type 0
IsComparisonOf names parameters known e = (values : List Datum) (g : Graph) → (evaluate (row_of names values) parameters g e >>= is_true_at) ≡ comparison_given known values g
