-- SET, REMOVE and DELETE have a result or a fault, and not both.
use Rattle.std.proofs.Common.{◌≡◌, Bool, true, false, not, ◌⊎◌, inl, inr, List, [], Result, Ok, Err, refl, sym, ap, subst, ◌∙◌}
use Rattle.std.specs.List.{AllByRecursion, list_any}
use Rattle.pg_meaning.specs.Answer.{unless, each_step}
use Rattle.pg_meaning.specs.AnswerLaws.{same_ok}
use Rattle.pg_meaning.specs.Changes.{HasDeletable, ElementsGo, GoFaults, Sets, SetFaults, Removes, RemoveFaults}
use Rattle.pg_meaning.specs.Graph.{Graph, IsGraph}
use Rattle.pg_meaning.specs.ListsLaws.{all_at}
use Rattle.pg_meaning.specs.Rows.{Row}
use Rattle.pg_meaning.specs.Tree.{Expression}
use Rattle.pg_meaning.specs.Turns.{Given}
use Rattle.pg_meaning.specs.Updates.{Doomed, set_row, remove_row, doom_row, is_connected, test_unconnected}
use Rattle.pg_meaning.specs.declared.fault.Fault.{Fault}
use Rattle.pg_meaning.specs.declared.fault.Fault.TheVariants.{NodeStillConnected}
use Rattle.pg_soundness.specs.Changing.{Removal, RemovalFaults, SetIsDecided, RemoveIsDecided, DeleteIsDecided}
use Rattle.pg_soundness.proofs.ChangesComputed.{no_sets_fault, no_removes_fault}
use Rattle.pg_soundness.proofs.ChangesDoomed.{rows_fault, row_goes}
use Rattle.pg_soundness.proofs.ChangesItems.{Verdict}
use Rattle.pg_soundness.proofs.ChangesOptions.{ok_or_err}
use Rattle.pg_soundness.proofs.ChangesRemoval.{gone_nodes, left_over, cut_off}
use Rattle.pg_soundness.proofs.ChangesRows.{sets_stand, removes_stand}
use Rattle.pg_soundness.proofs.DeletesComputed.{some_setting, delete_is_computed, delete_fault_is_computed}

of_verdict : (C : Graph → Type 0) (F : Fault → Type 0) (r : Result Graph Fault) (rows : List Row) → Verdict C F r → ((after : Graph) × (results : List Row) × (C after × (results ≡ rows))) ⊎ ((f : Fault) × F f)
of_verdict C F (Ok after) rows h = inl (after, rows, (h, refl))
of_verdict C F (Err f) rows h = inr (f, h)

pub set_is_decided : SetIsDecided
set_is_decided items g graph rows is =
    (of_verdict (Sets g items graph rows) (SetFaults g items graph rows) (each_step (set_row (some_setting g) items) graph rows) rows (sets_stand (some_setting g) items rows graph is), λ after results f s x. no_sets_fault g items graph rows after f s.0 x)

pub remove_is_decided : RemoveIsDecided
remove_is_decided items g graph rows is =
    (of_verdict (Removes items graph rows) (RemoveFaults items graph rows) (each_step (remove_row items) graph rows) rows (removes_stand items rows graph is), λ after results f s x. no_removes_fault items graph rows after f s.0 x)

module _ (is_detach : Bool) (es : List Expression) (g : Given) (graph : Graph) (rows : List Row) (is : IsGraph graph) where
  Decided : Type 0
  Decided = ((after : Graph) × (results : List Row) × (ElementsGo g is_detach es graph rows after × (results ≡ rows))) ⊎ ((f : Fault) × GoFaults g is_detach es graph rows f)

  goes : (after : Graph) → Removal (some_setting g) is_detach es graph rows after → Decided
  unfolding Decided
  goes after h = inl (after, rows, ((delete_is_computed (some_setting g) is_detach es graph after rows is).0 h, refl))

  fails : (f : Fault) → RemovalFaults (some_setting g) is_detach es graph rows f → Decided
  unfolding Decided
  fails f h = inr (f, (delete_fault_is_computed (some_setting g) is_detach es graph rows f is).0 h)

  by_doomed : (r : Result Doomed Fault) → each_step (doom_row (some_setting g) graph es) ([], []) rows ≡ r → Decided
  by_doomed (Err f) e = fails f (inl (rows_fault (some_setting g) graph es rows f e))
  by_doomed (Ok d) e = by_test (list_any (is_connected (cut_off is_detach graph d is)) (gone_nodes is_detach graph d is)) refl
    where
      by_test : (b : Bool) → list_any (is_connected (cut_off is_detach graph d is)) (gone_nodes is_detach graph d is) ≡ b → Decided
      by_test true t = fails NodeStillConnected (inr (d, e, ap (λ b. unless (not b) NodeStillConnected) t))
      by_test false t = goes (left_over is_detach graph d is) (record { doomed = d; named = e; connected = ap (λ b. unless (not b) NodeStillConnected) t; removed = refl })

  not_computed : (after : Graph) (f : Fault) → ElementsGo g is_detach es graph rows after → Removal (some_setting g) is_detach es graph rows after → RemovalFaults (some_setting g) is_detach es graph rows f → ⊥
  not_computed after f told h (inl x) =
      let goes = row_goes (some_setting g) graph x.0 es ([], []) (all_at (λ row. AllByRecursion (HasDeletable g graph row) es) x.0 rows told.evaluated x.1) in
      ok_or_err (doom_row (some_setting g) graph es ([], []) x.0) goes.0 f goes.1 x.2
  not_computed after f told h (inr x) =
      let same = same_ok x.0 h.doomed (sym x.1 ∙ h.named) in
      ok_or_err (test_unconnected (cut_off is_detach graph h.doomed is) (gone_nodes is_detach graph h.doomed is)) tt f h.connected
      (subst (λ d. test_unconnected (cut_off is_detach graph d is) (gone_nodes is_detach graph d is) ≡ Err f) same x.2)

  not_both : (after : Graph) (results : List Row) (f : Fault) → ElementsGo g is_detach es graph rows after × (results ≡ rows) → GoFaults g is_detach es graph rows f → ⊥
  not_both after results f h x = not_computed after f h.0 ((delete_is_computed (some_setting g) is_detach es graph after rows is).1 h.0) ((delete_fault_is_computed (some_setting g) is_detach es graph rows f is).1 x)

pub delete_is_decided : DeleteIsDecided
unfolding Decided
delete_is_decided is_detach es g graph rows is = (by_doomed is_detach es g graph rows is (each_step (doom_row (some_setting g) graph es) ([], []) rows) refl, not_both is_detach es g graph rows is)
