-- The parts of operators.
use Rattle.std.specs.Prelude.{ℕ, Bool, true, false, List, Option, Result, Ok}
use Rattle.pg_meaning.specs.Answer.{Answer, ◌>>=◌}
use Rattle.pg_meaning.specs.Expressions.{condition_of, all_compared}
use Rattle.pg_meaning.specs.Logic.{truth_of, value_of_truth, negated, is_true}
use Rattle.pg_meaning.specs.Value.{Value}
use Rattle.pg_meaning.specs.declared.fault.Fault.{Fault}
use Rattle.pg_meaning.specs.declared.operators.Operator.{Operator}
use Rattle.pg_meaning.specs.declared.operators.Operator.TheVariants.{Plus}

-- NOT, so many times
abbrev pub all_negated : ℕ → Value → Answer
all_negated n v = truth_of v >>= λ t. Ok (value_of_truth (negated n t))

-- whether a condition of CASE is true
abbrev pub is_chosen : Option Value → Value → Result Bool Fault
is_chosen subject v = condition_of subject v >>= λ t. Ok (is_true t)

-- what a chain of comparisons gives
abbrev pub truth_compared : Value → List (Operator × Value) → Answer
truth_compared v ps = all_compared v ps >>= λ t. Ok (value_of_truth t)

-- a sum takes its operands; the others only look at them
abbrev pub takes_operands : Operator → Bool
takes_operands Plus = true
takes_operands o = false
