use Rattle.std.proofs.Common.{ap, subst, ◌∙◌}
use Rattle.pg_meaning.specs.Names.{is_among}
use Rattle.pg_meaning.specs.StaticFaults.{found_if}
use Rattle.pg_meaning.specs.declared.fault.Fault.TheVariants.{VariableAlreadyBound}
use Rattle.pg_scope.proofs.FirstLemmas.{in_turn}
use Rattle.pg_scope.specs.First.{IsFirst}
use Rattle.pg_scope.specs.Names.{names_in}
use Rattle.pg_scope.proofs.steps.fault_before.Goals as goal

pub returns-in-Unwind : goal.returns-in-Unwind
returns-in-Unwind c =
    let bound = c.is_among-bound.ensures ∙ ap (is_among (names_in c.args.scope.now)) c.as_str.ensures.value in
    let noted = subst (λ b. IsFirst c.fault_in_expression-first.result (found_if b c.in-Unwind.name.place VariableAlreadyBound) c.noted.result) bound c.noted.ensures in
    rw c.in-Unwind.is (in_turn c.fault_in_expression-first.ensures noted)
