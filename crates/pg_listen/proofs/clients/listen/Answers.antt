use Rattle.pg_listen.proofs.ListenLemmas.{nothing_yet, after_moves, listens}
use Rattle.pg_listen.proofs.clients.listen.Goals as goal

pub returns-in_default : goal.returns-in_default
returns-in_default g c = nothing_yet _ _ _ _

pub returns-then-clients : goal.returns-then-clients
returns-then-clients g c = listens _ _ _ _ _ _ _ (after_moves _ _ _ _ _ _ _ _ c.loop-step.invariant _ _ c.step.ensures)

pub returns-then-clients-2 : goal.returns-then-clients-2
returns-then-clients-2 g c = listens _ _ _ _ _ _ _ (after_moves _ _ _ _ _ _ _ _ c.loop-step.invariant _ _ c.step.ensures)

pub returns-then-is_over : goal.returns-then-is_over
returns-then-is_over g c = listens _ _ _ _ _ _ _ (after_moves _ _ _ _ _ _ _ _ c.loop-step.invariant _ _ c.step.ensures)

pub loop-step-preserved : goal.loop-step-preserved
loop-step-preserved g c = after_moves _ _ _ _ _ _ _ _ c.loop-step.invariant _ _ c.step.ensures
