-- The conjuncts of a condition one after the other.
use Rattle.std.specs.Prelude.{Bool, List, Result, Ok}
use Rattle.pg_expr.specs.Contexts.{given, row_at, parameters_at}
use Rattle.pg_expr.specs.declared.row_context.RowContext.{RowContext}
use Rattle.pg_meaning.specs.Answer.{◌>>=◌}
use Rattle.pg_meaning.specs.Conditions.{all_true}
use Rattle.pg_meaning.specs.Graph.{Graph}
use Rattle.pg_meaning.specs.Logic.{truth_of, is_true}
use Rattle.pg_meaning.specs.Tree as tree
use Rattle.pg_meaning.specs.Value.{Value}
use Rattle.pg_meaning.specs.declared.fault.Fault.{Fault}

abbrev pub is_true_at : Value → Result Bool Fault
is_true_at v = truth_of v >>= λ t. Ok (is_true t)

-- whether one conjunct is true
abbrev pub is_met_by : RowContext → Graph → tree.Expression → Result Bool Fault
is_met_by s g e = given s g e >>= is_true_at

abbrev pub all_met_by : RowContext → Graph → List tree.Expression → Result Bool Fault
all_met_by s g es = all_true (row_at s) (parameters_at s) g es
