-- Queries that read and delete, without SKIP, LIMIT and aggregates, have the same rows, leave one graph, and have no fault beside an answer.
use Rattle.std.proofs.Common.{◌≡◌, ℕ, Bool, true, false, inl, inr, List, [], ◌∷◌, map, None, Ok, Err, refl, sym, ap, subst, ◌∙◌}
use Rattle.std.specs.List.{AllByRecursion}
use Rattle.pg_soundness.proofs.ChangesDecided.{delete_is_decided}
use Rattle.pg_soundness.proofs.ChangesOptions.{ok_or_err}
use Rattle.pg_soundness.proofs.DeletesComputed.{one_deletion}
use Rattle.pg_soundness.proofs.MatchLists.{all_members}
use Rattle.pg_meaning.specs.AnswerLaws.{same_ok}
use Rattle.pg_meaning.specs.Changes.{NodeGoes, RelationshipGoes, HasDeletable, ElementsGo}
use Rattle.pg_meaning.specs.Graph.{Graph, IsGraph}
use Rattle.pg_meaning.specs.Lists.{IsIn}
use Rattle.pg_meaning.specs.ListsLaws.{all_at, in_mapped}
use Rattle.pg_meaning.specs.Meaning.{given_of, Step, MatchRow, MatchFaults, UnwindRow, items_at, Steps, StepsFault, output_of}
use Rattle.pg_meaning.specs.Names.{Names}
use Rattle.pg_meaning.specs.Queries.{returns, output_rows, test_output}
use Rattle.pg_meaning.specs.Rows.{Row, values_in, bind_new}
use Rattle.pg_meaning.specs.Scopes.{with_columns, return_columns, scope_after}
use Rattle.pg_meaning.specs.Tree.{Expression, Name, Clause, match_paths, unwind, create, merge, set_items, remove_items, delete, with_rows, return_rows, Query}
use Rattle.pg_meaning.specs.Turns.{Given}
use Rattle.pg_meaning.specs.Value.{Value, Entries}
use Rattle.pg_meaning.specs.declared.fault.Fault.{Fault}
use Rattle.pg_relations.proofs.Counted.{of_mapped}
use Rattle.pg_relations.proofs.CreatesPlaces.{of_flat, in_flat}
use Rattle.pg_relations.proofs.Lists.{in_moved}
use Rattle.pg_relations.proofs.Members.{same_on, apart_on, projects_on, projects_apart}
use Rattle.pg_relations.proofs.ReadsDecided.{match_apart}
use Rattle.pg_relations.proofs.ReadsDetermined.{row_moved}
use Rattle.pg_relations.specs.AnyOrder.{SameMembers, TakesAnyOrder, TakeAnyOrder, AnyOrderStepGivesOne, AnyOrderStepIsOne, AnyOrderQueryMeansOne, AnyOrderQueryIsOne}

-- ---- DELETE

module _ (g : Given) (is_detach : Bool) (es : List Expression) (graph : Graph) where
  node_goes_on : (rows those : List Row) → ((row : Row) → IsIn row rows → IsIn row those) → (n : ℕ) → NodeGoes g es graph rows n → NodeGoes g es graph those n
  node_goes_on rows those into n (v, (row, e, i, j, is), has) = (v, (row, e, into row i, j, is), has)

  relationship_goes_on : (rows those : List Row) → ((row : Row) → IsIn row rows → IsIn row those) → (r : ℕ) → RelationshipGoes g is_detach es graph rows r → RelationshipGoes g is_detach es graph those r
  relationship_goes_on rows those into r (inl (v, (row, e, i, j, is), has)) = inl (v, (row, e, into row i, j, is), has)
  relationship_goes_on rows those into r (inr (detach, e, there, inl x)) = inr (detach, e, there, inl (node_goes_on rows those into e.source x))
  relationship_goes_on rows those into r (inr (detach, e, there, inr x)) = inr (detach, e, there, inr (node_goes_on rows those into e.target x))

  -- of the same rows the same goes
  moved_goes : (rows those : List Row) → SameMembers rows those → (after : Graph) → ElementsGo g is_detach es graph rows after → ElementsGo g is_detach es graph those after
  moved_goes rows those same after h = record {
    evaluated = all_members (λ row. AllByRecursion (HasDeletable g graph row) es) those (λ row i. all_at (λ row. AllByRecursion (HasDeletable g graph row) es) row rows h.evaluated (same.1 row i));
    nodes_gone = λ n x. h.nodes_gone n (node_goes_on those rows same.1 n x);
    nodes_kept = λ n no. h.nodes_kept n (λ x. no (node_goes_on rows those same.0 n x));
    relationships_gone = λ r x. h.relationships_gone r (relationship_goes_on those rows same.1 r x);
    relationships_kept = λ r no. h.relationships_kept r (λ x. no (relationship_goes_on rows those same.0 r x));
    next_node = h.next_node;
    next_relationship = h.next_relationship;
    graph_again = h.graph_again;
  }

-- ---- clauses

unwound_one : (g : Given) (graph : Graph) (e : Expression) (name : Name) (row : Row) (first other : List Row) → UnwindRow g graph e name row first → UnwindRow g graph e name row other → (x : Row) → IsIn x first → IsIn x other
unwound_one g graph e name row first other s t x i = subst (IsIn x) (s.2 ∙ ap (map (λ v. bind_new name.text v row)) (same_ok s.0 t.0 (sym s.1 ∙ t.1)) ∙ sym t.2) i

pub any_order_step_gives_one : AnyOrderStepGivesOne
any_order_step_gives_one (match_paths is_optional paths where_) g graph after other rows those results others reads same is s t =
    (s.0 ∙ sym t.0, same_on (MatchRow g graph is_optional paths where_) (λ row first other m n x i. in_moved first other x (row_moved g graph is_optional paths where_ row first other m n) i) rows those results others same s.1 t.1)
any_order_step_gives_one (unwind e name) g graph after other rows those results others reads same is s t = (s.0 ∙ sym t.0, same_on (UnwindRow g graph e name) (unwound_one g graph e name) rows those results others same s.1 t.1)
any_order_step_gives_one (create paths) g graph after other rows those results others reads same is s t = absurd reads
any_order_step_gives_one (merge p parts) g graph after other rows those results others reads same is s t = absurd reads
any_order_step_gives_one (set_items items) g graph after other rows those results others reads same is s t = absurd reads
any_order_step_gives_one (remove_items items) g graph after other rows those results others reads same is s t = absurd reads
any_order_step_gives_one (delete is_detach es) g graph after other rows those results others reads same is s t =
    (one_deletion g is_detach es graph after other those is (moved_goes g is_detach es graph rows those same after s.0) t.0, subst (λ rs. SameMembers rs others) (sym s.1) (subst (SameMembers rows) (sym t.1) same))
any_order_step_gives_one (with_rows p where_) g graph after other rows those results others reads same is s t = (s.0 ∙ sym t.0, projects_on g graph (with_columns g.scope p) p reads where_ rows those results others same s.1 t.1)
any_order_step_gives_one (return_rows p) g graph after other rows those results others reads same is s t = (s.0 ∙ sym t.0, projects_on g graph (return_columns g.scope p) p reads None rows those results others same s.1 t.1)

pub any_order_step_is_one : AnyOrderStepIsOne
any_order_step_is_one (match_paths is_optional paths where_) g graph after rows those results f reads same is s x =
    apart_on (MatchRow g graph is_optional paths where_) (MatchFaults g graph paths where_) f (match_apart g graph is_optional paths where_ f) rows those results same s.1 x
any_order_step_is_one (unwind e name) g graph after rows those results f reads same is s x =
    apart_on (UnwindRow g graph e name) (λ row y. items_at g graph e row ≡ Err y) f (λ row first u. ok_or_err (items_at g graph e row) u.0 f u.1) rows those results same s.1 x
any_order_step_is_one (create paths) g graph after rows those results f reads same is s x = absurd reads
any_order_step_is_one (merge p parts) g graph after rows those results f reads same is s x = absurd reads
any_order_step_is_one (set_items items) g graph after rows those results f reads same is s x = absurd reads
any_order_step_is_one (remove_items items) g graph after rows those results f reads same is s x = absurd reads
any_order_step_is_one (delete is_detach es) g graph after rows those results f reads same is s x = (delete_is_decided is_detach es g graph those is).1 after those f (moved_goes g is_detach es graph rows those same after s.0, refl) x
any_order_step_is_one (with_rows p where_) g graph after rows those results f reads same is s x = projects_apart g graph (with_columns g.scope p) p reads where_ rows those results f same s.1 x
any_order_step_is_one (return_rows p) g graph after rows those results f reads same is s x = projects_apart g graph (return_columns g.scope p) p reads None rows those results f same s.1 x

pub any_order_keeps : (c : Clause) (g : Given) (graph after : Graph) (rows results : List Row) → TakesAnyOrder g.scope c → IsGraph graph → Step g c graph rows after results → IsGraph after
any_order_keeps (match_paths is_optional paths where_) g graph after rows results reads is s = subst IsGraph (sym s.0) is
any_order_keeps (unwind e name) g graph after rows results reads is s = subst IsGraph (sym s.0) is
any_order_keeps (create paths) g graph after rows results reads is s = absurd reads
any_order_keeps (merge p parts) g graph after rows results reads is s = absurd reads
any_order_keeps (set_items items) g graph after rows results reads is s = absurd reads
any_order_keeps (remove_items items) g graph after rows results reads is s = absurd reads
any_order_keeps (delete is_detach es) g graph after rows results reads is s = (s.0).graph_again
any_order_keeps (with_rows p where_) g graph after rows results reads is s = subst IsGraph (sym s.0) is
any_order_keeps (return_rows p) g graph after rows results reads is s = subst IsGraph (sym s.0) is

-- ---- queries

shown_on : (b : Bool) (rows those : List Row) → ((row : Row) → IsIn row rows → IsIn row those) → (vs : List Value) → IsIn vs (output_rows b rows) → IsIn vs (output_rows b those)
shown_on true rows those into vs i =
    let row = of_mapped values_in vs rows i in
    subst (λ ws. IsIn ws (map values_in those)) (sym row.2) (in_mapped values_in row.0 those (into row.0 row.1))
shown_on false rows those into vs i = i

shown_in : (q : Query) (rows those : List Row) → ((row : Row) → IsIn row rows → IsIn row those) → (v : Value) → IsIn v (output_of q rows) → IsIn v (output_of q those)
shown_in q rows those into v i =
    let vs = of_flat (λ (r : List Value). r) v (output_rows (returns q.clauses) rows) i in
    in_flat (λ (r : List Value). r) vs.0 v (output_rows (returns q.clauses) those) (shown_on (returns q.clauses) rows those into vs.0 vs.1) vs.2

module _ (parameters : Entries) (most : ℕ) where
  steps_one : (cs : List Clause) (scope : Names) (graph after other : Graph) (rows those results others : List Row) → TakeAnyOrder scope cs → SameMembers rows those → IsGraph graph
      → Steps parameters most scope cs graph rows after results → Steps parameters most scope cs graph those other others → (after ≡ other) × SameMembers results others
  steps_one [] scope graph after other rows those results others reads same is s t =
      (s.0 ∙ sym t.0, subst (λ rs. SameMembers rs others) (sym s.1) (subst (SameMembers rows) (sym t.1) same))
  steps_one (c ∷ cs) scope graph after other rows those results others reads same is s t =
      let first = any_order_step_gives_one c (given_of parameters most scope) graph s.0 t.0 rows those s.1 t.1 reads.0 same is s.2 t.2 in
      steps_one cs (scope_after scope c) t.0 after other s.1 t.1 results others reads.1 first.1 (any_order_keeps c (given_of parameters most scope) graph t.0 those t.1 reads.0 is t.2)
      (subst (λ m. Steps parameters most (scope_after scope c) cs m s.1 after results) first.0 s.3) t.3

  steps_apart : (q : Query) (cs : List Clause) (scope : Names) (graph after : Graph) (rows those results : List Row) (f : Fault) → TakeAnyOrder scope cs → SameMembers rows those → IsGraph graph
      → Steps parameters most scope cs graph rows after results → ((v : Value) → IsIn v (output_of q results) → test_output after v ≡ Ok tt) → StepsFault parameters most q scope cs graph those f → ⊥
  steps_apart q [] scope graph after rows those results f reads same is s live x =
      ok_or_err (test_output graph x.1) tt _ (subst (λ m. test_output m x.1 ≡ Ok tt) s.0 (live x.1 (subst (λ rs. IsIn x.1 (output_of q rs)) (sym s.1) (shown_in q those rows same.1 x.1 x.2)))) x.3
  steps_apart q (c ∷ cs) scope graph after rows those results f reads same is s live (inl x) = any_order_step_is_one c (given_of parameters most scope) graph s.0 rows those s.1 f reads.0 same is s.2 x
  steps_apart q (c ∷ cs) scope graph after rows those results f reads same is s live (inr x) =
      let first = any_order_step_gives_one c (given_of parameters most scope) graph s.0 x.0 rows those s.1 x.1 reads.0 same is s.2 x.2 in
      steps_apart q cs (scope_after scope c) x.0 after s.1 x.1 results f reads.1 first.1 (any_order_keeps c (given_of parameters most scope) graph x.0 those x.1 reads.0 is x.2)
      (subst (λ m. Steps parameters most (scope_after scope c) cs m s.1 after results) first.0 s.3) live x.3

same_itself : (rows : List Row) → SameMembers rows rows
same_itself rows = ((λ x i. i), (λ x i. i))

pub any_order_query_means_one : AnyOrderQueryMeansOne
any_order_query_means_one q parameters most graph columns names rows others after other reads is m n =
    let same = steps_one parameters most q.clauses [] graph after other ([] ∷ []) ([] ∷ []) m.results n.results reads (same_itself ([] ∷ [])) is m.steps n.steps in
    let shown : SameMembers (output_rows (returns q.clauses) m.results) (output_rows (returns q.clauses) n.results) = (shown_on (returns q.clauses) m.results n.results same.1.0, shown_on (returns q.clauses) n.results m.results same.1.1) in
    (m.named ∙ sym n.named, subst (λ rs. SameMembers rs others) (sym m.shown) (subst (SameMembers (output_rows (returns q.clauses) m.results)) (sym n.shown) shown), same.0)

pub any_order_query_is_one : AnyOrderQueryIsOne
any_order_query_is_one q parameters most graph columns rows after f reads is m x =
    steps_apart parameters most q q.clauses [] graph after ([] ∷ []) ([] ∷ []) m.results f reads (same_itself ([] ∷ [])) is m.steps (λ v i. all_at (λ v. test_output after v ≡ Ok tt) v (output_of q m.results) m.live i) x
