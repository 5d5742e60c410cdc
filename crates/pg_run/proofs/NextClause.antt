-- A clause that runs leaves the run of the later ones.
use Rattle.std.proofs.Common.{◌≡◌, ℕ, List, ◌∷◌, Ok, Err, ap}
use Rattle.pg_meaning.specs.Answer.{◌>>=◌}
use Rattle.pg_meaning.specs.Meters.{State}
use Rattle.pg_meaning.specs.Plans.{Plan}
use Rattle.pg_meaning.specs.Queries.{clause_step, clauses_run, first_anchors, other_anchors}
use Rattle.pg_meaning.specs.Scopes.{scope_after}
use Rattle.pg_meaning.specs.Tree.{Clause}
use Rattle.pg_meaning.specs.Value.{Entries}
use Rattle.pg_meaning.specs.declared.fault.Fault.{Fault}
use Rattle.pg_run.specs.Runs.{quota_of, setting_of}

module _ (parameters : Entries) (max_steps max_elements : ℕ) (names : List (List ℕ)) (plan : Plan) (c : Clause) (cs : List Clause) (state : State) where
  pub next_clause : (next : State) → clause_step (setting_of parameters max_steps max_elements names (first_anchors plan)) c state ≡ Ok next
      → clauses_run parameters (quota_of max_steps max_elements) names plan (c ∷ cs) state ≡ clauses_run parameters (quota_of max_steps max_elements) (scope_after names c) (other_anchors plan) cs next
  next_clause next is = ap (λ r. r >>= λ n. clauses_run parameters (quota_of max_steps max_elements) (scope_after names c) (other_anchors plan) cs n) is

  pub no_clause : (fault : Fault) → clause_step (setting_of parameters max_steps max_elements names (first_anchors plan)) c state ≡ Err fault
      → clauses_run parameters (quota_of max_steps max_elements) names plan (c ∷ cs) state ≡ Err fault
  no_clause fault is = ap (λ r. r >>= λ n. clauses_run parameters (quota_of max_steps max_elements) (scope_after names c) (other_anchors plan) cs n) is
