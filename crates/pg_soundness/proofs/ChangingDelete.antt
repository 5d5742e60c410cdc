-- DELETE agrees with its meaning.
use Rattle.std.proofs.Common.{◌≡◌, ℕ, ◌+◌, Bool, true, false, not, inl, inr, [], length, Result, Ok, refl, ap}
use Rattle.std.specs.List.{list_any}
use Rattle.pg_meaning.specs.Agreement.{given_in, AnswerAgrees}
use Rattle.pg_meaning.specs.Answer.{◌>>=◌, ◌>>◌, unless, each_step}
use Rattle.pg_meaning.specs.AnswerLaws.{by_answer}
use Rattle.pg_meaning.specs.Meters.{State, spend}
use Rattle.pg_soundness.proofs.ProjectedParts.{spend_fault}
use Rattle.pg_meaning.specs.Tree.{delete}
use Rattle.pg_meaning.specs.Updates.{Doomed, doom_row, is_connected, test_unconnected}
use Rattle.pg_meaning.specs.declared.fault.Fault.{Fault}
use Rattle.pg_meaning.specs.declared.fault.Fault.TheVariants.{NodeStillConnected}
use Rattle.pg_meaning.specs.Changes.{GoFaults}
use Rattle.pg_soundness.specs.Changing.{DeleteAgrees, RemovalFaults}
use Rattle.pg_soundness.proofs.ChangesDoomed.{rows_fault}
use Rattle.pg_soundness.proofs.DeletesComputed.{delete_is_computed, delete_fault_is_computed}
use Rattle.pg_soundness.proofs.ChangesRemoval.{gone_nodes, gone_relationships, left_over, cut_off, left_is_graph}

pub delete_agrees : DeleteAgrees
delete_agrees is_detach es s state faults given_here planned g rows =
    by_answer (AnswerAgrees s (delete is_detach es) state) (each_step (doom_row s state.graph es) ([], []) state.rows) charged
    (λ d named. by_answer (AnswerAgrees s (delete is_detach es) state) (spend s state.steps (length (gone_nodes is_detach state.graph d g) + length (gone_relationships is_detach state.graph d g))) (cut d)
    (λ steps e. by_test d named steps (list_any (is_connected (cut_off is_detach state.graph d g)) (gone_nodes is_detach state.graph d g)) refl)
    (λ f e. inl (spend_fault s state.steps (length (gone_nodes is_detach state.graph d g) + length (gone_relationships is_detach state.graph d g)) f e)))
    (λ f e. inr (fails f (inl (rows_fault s state.graph es state.rows f e))))
  where
    fails : (f : Fault) → RemovalFaults s is_detach es state.graph state.rows f → GoFaults (given_in s) is_detach es state.graph state.rows f
    fails f = (delete_fault_is_computed s is_detach es state.graph state.rows f g).0

    cut : Doomed → ℕ → Result State Fault
    cut d steps = test_unconnected (cut_off is_detach state.graph d g) (gone_nodes is_detach state.graph d g) >> Ok (record { graph = left_over is_detach state.graph d g; rows = state.rows; steps = steps })

    charged : Doomed → Result State Fault
    charged d = spend s state.steps (length (gone_nodes is_detach state.graph d g) + length (gone_relationships is_detach state.graph d g)) >>= λ steps. test_unconnected (cut_off is_detach state.graph d g) (gone_nodes is_detach state.graph d g) >> Ok (record { graph = left_over is_detach state.graph d g; rows = state.rows; steps = steps })

    by_test : (d : Doomed) → each_step (doom_row s state.graph es) ([], []) state.rows ≡ Ok d → (steps : ℕ) → (b : Bool) → list_any (is_connected (cut_off is_detach state.graph d g)) (gone_nodes is_detach state.graph d g) ≡ b
        → AnswerAgrees s (delete is_detach es) state (unless (not b) NodeStillConnected >> Ok (record { graph = left_over is_detach state.graph d g; rows = state.rows; steps = steps }))
    by_test d named steps false e =
        (((delete_is_computed s is_detach es state.graph (left_over is_detach state.graph d g) state.rows g).0 (record { doomed = d; named = named; connected = ap (λ b. unless (not b) NodeStillConnected) e; removed = refl }), refl), left_is_graph is_detach state.graph d g e, rows)
    by_test d named steps true e = inr (fails NodeStillConnected (inr (d, named, ap (λ b. unless (not b) NodeStillConnected) e)))
