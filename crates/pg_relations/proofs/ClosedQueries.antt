-- Queries that leave nothing open have one answer, and no fault beside it.
use Rattle.std.proofs.Common.{◌≡◌, ℕ, inl, inr, List, [], ◌∷◌, Option, None, Ok, refl, sym, ap, subst, ◌∙◌}
use Rattle.pg_soundness.proofs.ChangesComputed.{one_change, one_removal}
use Rattle.pg_soundness.proofs.ChangesDecided.{set_is_decided, remove_is_decided, delete_is_decided}
use Rattle.pg_soundness.proofs.ChangesOptions.{ok_or_err}
use Rattle.pg_soundness.proofs.DeletesComputed.{one_deletion}
use Rattle.pg_soundness.proofs.MatchScopes.{first_none, second_none}
use Rattle.pg_meaning.specs.Agreement.{AreRowsOf}
use Rattle.pg_meaning.specs.Graph.{Graph, IsGraph}
use Rattle.pg_meaning.specs.Lists.{IsIn}
use Rattle.pg_meaning.specs.ListsLaws.{all_at}
use Rattle.pg_meaning.specs.Meaning.{given_of, Steps, StepsFault, Projects, output_of}
use Rattle.pg_meaning.specs.Names.{Names}
use Rattle.pg_meaning.specs.Queries.{returns, output_rows, test_output}
use Rattle.pg_meaning.specs.Rows.{Row}
use Rattle.pg_meaning.specs.Scopes.{Column, with_columns, return_columns, scope_after}
use Rattle.pg_meaning.specs.StaticFaults.{clause_faults, clauses_faults, static_faults}
use Rattle.pg_meaning.specs.Tree.{Expression, Projection, Clause, match_paths, unwind, create, merge, set_items, remove_items, delete, with_rows, return_rows, Query}
use Rattle.pg_meaning.specs.Turns.{Given}
use Rattle.pg_meaning.specs.Value.{Entries}
use Rattle.pg_meaning.specs.declared.fault.Fault.{Fault}
use Rattle.pg_relations.proofs.ClausesExact.{create_gives_one, create_is_one}
use Rattle.pg_relations.proofs.ProjectsDetermined.{plain_projects_one}
use Rattle.pg_relations.proofs.ReadsDecided.{unwind_is_one}
use Rattle.pg_relations.proofs.ReadsDetermined.{unwind_gives_one}
use Rattle.pg_relations.proofs.RowsKept.{rows_keep, graph_keeps}
use Rattle.pg_relations.proofs.TestedCuts.{plain_cut_apart}
use Rattle.pg_relations.specs.Closed.{IsPlain, LeaveNothingOpen, ClosedStepGivesOne, ClosedStepIsOne, ClosedQueryMeansOne, ClosedQueryIsOne}

-- ---- clauses

plain_one : (g : Given) (graph after other : Graph) (columns : List Column) (p : Projection) (where_ : Option Expression) (rows results others : List Row) → IsPlain columns p
    → (after ≡ graph) × Projects g graph columns p where_ rows results → (other ≡ graph) × Projects g graph columns p where_ rows others → (after ≡ other) × (results ≡ others)
plain_one g graph after other columns p where_ rows results others plain s t = (s.0 ∙ sym t.0, plain_projects_one g graph columns p where_ rows results others plain.0 plain.1 plain.2 s.1 t.1)

pub closed_step_gives_one : ClosedStepGivesOne
closed_step_gives_one (match_paths is_optional paths where_) g graph after other rows results others closed are is s t = absurd closed
closed_step_gives_one (unwind e name) g graph after other rows results others closed are is s t = unwind_gives_one e name g graph after other rows results others s t
closed_step_gives_one (create paths) g graph after other rows results others closed are is s t = create_gives_one paths g graph after other rows results others closed are s t
closed_step_gives_one (merge p parts) g graph after other rows results others closed are is s t = absurd closed
closed_step_gives_one (set_items items) g graph after other rows results others closed are is s t = (one_change g items graph after other rows is s.0 t.0, s.1 ∙ sym t.1)
closed_step_gives_one (remove_items items) g graph after other rows results others closed are is s t = (one_removal items graph after other rows is s.0 t.0, s.1 ∙ sym t.1)
closed_step_gives_one (delete is_detach es) g graph after other rows results others closed are is s t = (one_deletion g is_detach es graph after other rows is s.0 t.0, s.1 ∙ sym t.1)
closed_step_gives_one (with_rows p where_) g graph after other rows results others closed are is s t = plain_one g graph after other (with_columns g.scope p) p where_ rows results others closed s t
closed_step_gives_one (return_rows p) g graph after other rows results others closed are is s t = plain_one g graph after other (return_columns g.scope p) p None rows results others closed s t

pub closed_step_is_one : ClosedStepIsOne
closed_step_is_one (match_paths is_optional paths where_) g graph after rows results f closed are is fine s x = absurd closed
closed_step_is_one (unwind e name) g graph after rows results f closed are is fine s x = unwind_is_one e name g graph after rows results f s x
closed_step_is_one (create paths) g graph after rows results f closed are is fine s x = create_is_one paths g graph after rows results f closed are is fine s x
closed_step_is_one (merge p parts) g graph after rows results f closed are is fine s x = absurd closed
closed_step_is_one (set_items items) g graph after rows results f closed are is fine s x = (set_is_decided items g graph rows is).1 after results f s x
closed_step_is_one (remove_items items) g graph after rows results f closed are is fine s x = (remove_is_decided items g graph rows is).1 after results f s x
closed_step_is_one (delete is_detach es) g graph after rows results f closed are is fine s x = (delete_is_decided is_detach es g graph rows is).1 after results f s x
closed_step_is_one (with_rows p where_) g graph after rows results f closed are is fine s x = plain_cut_apart g graph (with_columns g.scope p) p where_ rows results f closed s.1 x
closed_step_is_one (return_rows p) g graph after rows results f closed are is fine s x = plain_cut_apart g graph (return_columns g.scope p) p None rows results f closed s.1 x

-- ---- queries

module _ (parameters : Entries) (most : ℕ) where
  steps_one : (cs : List Clause) (scope : Names) (graph after other : Graph) (rows results others : List Row) → LeaveNothingOpen scope cs → AreRowsOf scope rows → IsGraph graph
      → Steps parameters most scope cs graph rows after results → Steps parameters most scope cs graph rows other others → (after ≡ other) × (results ≡ others)
  steps_one [] scope graph after other rows results others closed are is s t = (s.0 ∙ sym t.0, s.1 ∙ sym t.1)
  steps_one (c ∷ cs) scope graph after other rows results others closed are is s t =
      let first = closed_step_gives_one c (given_of parameters most scope) graph s.0 t.0 rows s.1 t.1 closed.0 are is s.2 t.2 in
      steps_one cs (scope_after scope c) t.0 after other t.1 results others closed.1 (rows_keep c (given_of parameters most scope) graph t.0 rows t.1 closed.0 are t.2)
      (graph_keeps c (given_of parameters most scope) graph t.0 rows t.1 closed.0 is t.2)
      (subst (λ m. Steps parameters most (scope_after scope c) cs m t.1 after results) first.0 (subst (λ rs. Steps parameters most (scope_after scope c) cs s.0 rs after results) first.1 s.3)) t.3

  steps_apart : (q : Query) (cs : List Clause) (scope : Names) (graph after : Graph) (rows results : List Row) (f : Fault) → LeaveNothingOpen scope cs → clauses_faults scope cs ≡ [] → AreRowsOf scope rows → IsGraph graph
      → Steps parameters most scope cs graph rows after results → ((v : _) → IsIn v (output_of q results) → test_output after v ≡ Ok tt) → StepsFault parameters most q scope cs graph rows f → ⊥
  steps_apart q [] scope graph after rows results f closed fine are is s live x =
      ok_or_err (test_output graph x.1) tt _ (subst (λ m. test_output m x.1 ≡ Ok tt) s.0 (live x.1 (subst (λ rs. IsIn x.1 (output_of q rs)) (sym s.1) x.2))) x.3
  steps_apart q (c ∷ cs) scope graph after rows results f closed fine are is s live (inl x) =
      closed_step_is_one c (given_of parameters most scope) graph s.0 rows s.1 f closed.0 are is (first_none (clause_faults scope c) (clauses_faults (scope_after scope c) cs) fine) s.2 x
  steps_apart q (c ∷ cs) scope graph after rows results f closed fine are is s live (inr x) =
      let first = closed_step_gives_one c (given_of parameters most scope) graph s.0 x.0 rows s.1 x.1 closed.0 are is s.2 x.2 in
      steps_apart q cs (scope_after scope c) x.0 after x.1 results f closed.1 (second_none (clause_faults scope c) (clauses_faults (scope_after scope c) cs) fine)
      (rows_keep c (given_of parameters most scope) graph x.0 rows x.1 closed.0 are x.2) (graph_keeps c (given_of parameters most scope) graph x.0 rows x.1 closed.0 is x.2)
      (subst (λ m. Steps parameters most (scope_after scope c) cs m x.1 after results) first.0 (subst (λ rs. Steps parameters most (scope_after scope c) cs s.0 rs after results) first.1 s.3)) live x.3

-- the one row at the beginning binds nothing
at_start : AreRowsOf [] ([] ∷ [])
at_start = ((λ name. refl), tt)

pub closed_query_means_one : ClosedQueryMeansOne
closed_query_means_one q parameters most graph columns names rows others after other closed is m n =
    let same = steps_one parameters most q.clauses [] graph after other ([] ∷ []) m.results n.results closed at_start is m.steps n.steps in
    (m.named ∙ sym n.named, m.shown ∙ ap (output_rows (returns q.clauses)) same.1 ∙ sym n.shown, same.0)

pub closed_query_is_one : ClosedQueryIsOne
unfolding static_faults
closed_query_is_one q parameters most graph columns rows after f closed fine is m x =
    steps_apart parameters most q q.clauses [] graph after ([] ∷ []) m.results f closed fine at_start is m.steps (λ v i. all_at (λ v. test_output after v ≡ Ok tt) v (output_of q m.results) m.live i) x
