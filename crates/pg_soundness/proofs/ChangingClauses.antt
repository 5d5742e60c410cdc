-- SET and REMOVE agree with their meaning.
use Rattle.std.proofs.Common.{◌*◌, inl, inr, length, Ok, refl}
use Rattle.pg_meaning.specs.Agreement.{given_in, AnswerAgrees}
use Rattle.pg_meaning.specs.Answer.{◌>>=◌, each_step}
use Rattle.pg_meaning.specs.AnswerLaws.{by_answer}
use Rattle.pg_meaning.specs.Meters.{spend}
use Rattle.pg_soundness.proofs.ProjectedParts.{spend_fault}
use Rattle.pg_meaning.specs.Tree.{set_items, remove_items}
use Rattle.pg_meaning.specs.Updates.{set_row, remove_row}
use Rattle.pg_soundness.specs.Changing.{SetAgrees, RemoveAgrees}
use Rattle.pg_soundness.proofs.ChangesComputed.{set_is_computed, set_fault_is_computed, remove_is_computed, remove_fault_is_computed}
use Rattle.pg_soundness.proofs.ChangesRows.{sets_keep, removes_keep}

pub set_agrees : SetAgrees
set_agrees items s state faults given_here planned g rows =
    by_answer (AnswerAgrees s (set_items items) state) (spend s state.steps (length state.rows * length items))
    (λ steps. each_step (set_row s items) state.graph state.rows >>= λ graph. Ok (record { graph = graph; rows = state.rows; steps = steps }))
    (λ steps e. by_answer (AnswerAgrees s (set_items items) state) (each_step (set_row s items) state.graph state.rows) (λ graph. Ok (record { graph = graph; rows = state.rows; steps = steps }))
    (λ graph is. let sets = (set_is_computed s items state.graph graph state.rows g).0 is in ((sets, refl), sets_keep (given_in s) items state.graph state.rows graph g sets, rows))
    (λ f is. inr ((set_fault_is_computed s items state.graph state.rows f g).0 is)))
    (λ f e. inl (spend_fault s state.steps (length state.rows * length items) f e))

pub remove_agrees : RemoveAgrees
remove_agrees items s state faults given_here planned g rows =
    by_answer (AnswerAgrees s (remove_items items) state) (spend s state.steps (length state.rows * length items))
    (λ steps. each_step (remove_row items) state.graph state.rows >>= λ graph. Ok (record { graph = graph; rows = state.rows; steps = steps }))
    (λ steps e. by_answer (AnswerAgrees s (remove_items items) state) (each_step (remove_row items) state.graph state.rows) (λ graph. Ok (record { graph = graph; rows = state.rows; steps = steps }))
    (λ graph is. let removes = (remove_is_computed items state.graph graph state.rows g).0 is in ((removes, refl), removes_keep items state.graph state.rows graph g removes, rows))
    (λ f is. inr ((remove_fault_is_computed items state.graph state.rows f g).0 is)))
    (λ f e. inl (spend_fault s state.steps (length state.rows * length items) f e))
