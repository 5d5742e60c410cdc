use Rattle.std.proofs.Common.{sym, ◌∙◌}
use Rattle.pg_project.proofs.Numbers.{one_value}
use Rattle.pg_value_core.specs.View.{view}
use Rattle.pg_project.proofs.groups.is_same.Goals as goal

pub returns-in_default : goal.returns-in_default
returns-in_default c = λ h. one_value (view c.args.held.now) (view c.args.value.now) (sym c.equivalent.ensures ∙ h)
