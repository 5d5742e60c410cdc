-- The definition of DELETE, from what is gathered, its cost and what its removal leaves.
use Rattle.std.proofs.Common.{◌≡◌, ◌≢◌, ◌+◌, ℕ, Bool, List, [], length, Result, Ok, Err, refl, sym, ap, subst, ◌∙◌}
use Rattle.std.proofs.lemmas.Result.{IfOk-weaker, IfErr-weaker}
use Rattle.std.specs.Prelude.{OnOk, IfErr}
use Rattle.pg_meaning.specs.Answer.{◌>>=◌, ◌>>◌, each_step}
use Rattle.pg_meaning.specs.AnswerLaws.{same_ok}
use Rattle.pg_meaning.specs.Graph.{Graph, IsGraph, remove_elements}
use Rattle.pg_meaning.specs.Meters.{Setting, State, spend}
use Rattle.pg_meaning.specs.Rows.{Row}
use Rattle.pg_meaning.specs.Tree.{Expression}
use Rattle.pg_meaning.specs.Updates.{Doomed, doom_row, doomed_nodes, doomed_relationships, test_unconnected, delete_clause}
use Rattle.pg_meaning.specs.Value.{Entries}
use Rattle.pg_meaning.specs.declared.fault.Fault.{Fault}
use Rattle.pg_meaning.specs.declared.fault.Fault.TheVariants.{OutOfMemory}
use Rattle.pg_rows.specs.States.{Named, named_rows, state_of}
use Rattle.pg_value_core.specs.Gives.{Gives}
use Rattle.pg_write_make.specs.Scenes.{reading}
use Rattle.pg_write.specs.Gathered.{put_row, put_detached, gathered, taken_out, AreThere}
use Rattle.pg_write.proofs.GatherLemmas.{Stands, Alike, rows_alike, nodes_stay, nodes_are, relationships_are, are_there}

module _ (s : Setting) (is_detach : Bool) (graph : Graph) (is : IsGraph graph) (t : Named) (used : ℕ) where
  -- behind what is gathered, and behind what is named
  abbrev charged : Doomed → Result State Fault
  charged d = spend s used (length d.0 + length d.1) >>= λ steps. taken_out d graph >>= λ after. Ok (state_of after t steps)

  abbrev charged_named : (ns rs : List ℕ) → Result State Fault
  charged_named ns rs = do
    steps ← spend s used (length ns + length rs)
    test_unconnected (remove_elements [] rs graph) ns
    Ok (state_of (remove_elements ns rs graph) t steps)

  by_charge : (ns rs : List ℕ) (cost : Result ℕ Fault) (test : Result (Unit {0}) Fault)
      → ◌≡◌ {A = Result State Fault} (cost >>= λ steps. (test >> Ok (remove_elements ns rs graph)) >>= λ after. Ok (state_of after t steps)) (cost >>= λ steps. test >> Ok (state_of (remove_elements ns rs graph) t steps))
  by_charge ns rs (Ok steps) (Ok u) = refl
  by_charge ns rs (Ok steps) (Err e) = refl
  by_charge ns rs (Err e) test = refl

  charged_alike : (c d : Doomed) → Stands graph c d → charged (put_detached is_detach graph c) ≡ charged_named (doomed_nodes graph d) (doomed_relationships is_detach graph d)
  charged_alike c d stands =
      (λ i. charged ((nodes_stay graph is_detach c ∙ nodes_are graph is c d stands) i, relationships_are graph is c d stands is_detach i))
      ∙ by_charge (doomed_nodes graph d) (doomed_relationships is_detach graph d) (spend s used (length (doomed_nodes graph d) + length (doomed_relationships is_detach graph d)))
      (test_unconnected (remove_elements [] (doomed_relationships is_detach graph d) graph) (doomed_nodes graph d))

  abbrev detached : Result Doomed Fault → Result Doomed Fault
  detached r = r >>= λ c. Ok (put_detached is_detach graph c)

  parts_alike : (a b : Result Doomed Fault) → Alike graph a b → (detached a >>= charged) ≡ (b >>= λ d. charged_named (doomed_nodes graph d) (doomed_relationships is_detach graph d))
  parts_alike (Ok c) (Ok d) h = charged_alike c d h
  parts_alike (Err e) (Err f) h = ap Err h
  parts_alike (Ok c) (Err f) h = absurd h
  parts_alike (Err e) (Ok d) h = absurd h

  all_there : (a b : Result Doomed Fault) → Alike graph a b → (c : Doomed) → detached a ≡ Ok c → AreThere graph c
  all_there (Ok c) (Ok d) h found e = subst (AreThere graph) (same_ok (put_detached is_detach graph c) found e) (are_there graph is c d h is_detach)
  all_there (Err f) b h found e = cc
  all_there (Ok c) (Err f) h found e = absurd h

  module _ (parameters : Entries) (same : s.parameters ≡ parameters) (read : Graph) (read_is : read ≡ graph) (es : List Expression) where
    abbrev found : Result Doomed Fault
    found = gathered is_detach parameters read es (named_rows t)

    by_parts : delete_clause s is_detach es (state_of graph t used) ≡ (found >>= charged)
    by_parts =
        sym (parts_alike (each_step (put_row s.parameters graph es) ([], []) (named_rows t)) (each_step (doom_row s graph es) ([], []) (named_rows t)) (rows_alike graph s es (named_rows t)))
        ∙ (λ i. gathered is_detach (same i) (sym read_is i) es (named_rows t) >>= charged)

    pub not_gathered : (e : Fault) → found ≡ Err e → delete_clause s is_detach es (state_of graph t used) ≡ Err e
    not_gathered e h = by_parts ∙ ap (λ r. r >>= charged) h

    module _ (d : Doomed) (h : found ≡ Ok d) where
      abbrev behind : Result ℕ Fault → Result State Fault
      behind cost = cost >>= λ steps. taken_out d graph >>= λ after. Ok (state_of after t steps)

      pub not_charged : (e : Fault) → spend s used (length d.0 + length d.1) ≡ Err e → delete_clause s is_detach es (state_of graph t used) ≡ Err e
      not_charged e cost = by_parts ∙ ap (λ r. r >>= charged) h ∙ ap behind cost

      -- what is taken out is what the clause gives
      pub taken_gives : (steps : ℕ) → spend s used (length d.0 + length d.1) ≡ Ok steps → (after : Graph) (r : Result (Unit {0}) Fault)
          → OnOk r (taken_out d graph ≡ Ok after) → IfErr r (λ e. e ≢ OutOfMemory → taken_out d graph ≡ Err e)
          → Gives r (delete_clause s is_detach es (state_of graph t used)) (λ _. state_of after t steps)
      taken_gives steps cost after r ok err =
          let so_far = by_parts ∙ ap (λ r. r >>= charged) h ∙ ap behind cost in
          record {
            ok = IfOk-weaker r _ _ (λ u left. so_far ∙ ap (λ r. r >>= λ after. Ok (state_of after t steps)) left) ok;
            err = IfErr-weaker r _ _ (λ e left. λ other. so_far ∙ ap (λ r. r >>= λ after. Ok (state_of after t steps)) (left other)) err;
          }

pub gathered_are_there : (is_detach : Bool) (parameters : Entries) (graph : Graph) → IsGraph graph → (read : Graph) → read ≡ graph → (es : List Expression) (rows : List Row) (d : Doomed) → gathered is_detach parameters read es rows ≡ Ok d → AreThere graph d
gathered_are_there is_detach parameters graph is read read_is es rows d h =
    let s : Setting = reading parameters in
    let none : Named = record { names = []; rows = [] } in
    all_there s is_detach graph is none 0 (each_step (put_row parameters graph es) ([], []) rows) (each_step (doom_row s graph es) ([], []) rows) (rows_alike graph s es rows) d
    (ap (λ g. gathered is_detach parameters g es rows) (sym read_is) ∙ h)
