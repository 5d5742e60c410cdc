use Rattle.std.proofs.Common.{ap, ◌∙◌}
use Rattle.pg_expr.proofs.ScalarLemmas.{true_boolean}
use Rattle.pg_expr.specs.Conditions.{is_true_at}
use Rattle.pg_meaning.specs.Answer.{◌>>=◌}
use Rattle.pg_expr.proofs.conditions.is_told_true.Goals as goal

pub returns-in-Bool : goal.returns-in-Bool
returns-in-Bool g c = record { ok = ap (λ r. r >>= is_true_at) c.in-Bool.ensures ∙ true_boolean c.in-Bool.b; err = tt }

pub returns-in-Null : goal.returns-in-Null
returns-in-Null g c = record { ok = ap (λ r. r >>= is_true_at) c.in-Null.ensures; err = tt }

pub returns-in_default : goal.returns-in_default
returns-in_default g c = c.is_found_true-in_default.ensures
