-- The laws of whole queries.
use Rattle.std.proofs.Common.{◌≡◌, ℕ, Bool, true, false, List, [], ◌∷◌, Ok, refl, sym, ap, subst, ◌∙◌, true≢false}
use Rattle.std.specs.Bool.{⊤}
use Rattle.std.specs.List.{AllByRecursion}
use Rattle.pg_meaning.specs.Agreement.{AreGiven, ClauseAgrees, OutcomeAgrees}
use Rattle.pg_meaning.specs.AgreementLaws.{clauses_make_queries}
use Rattle.pg_meaning.specs.Grammar.{parameters_of}
use Rattle.pg_meaning.specs.Graph.{Graph, IsGraph}
use Rattle.pg_meaning.specs.Meaning.{Means}
use Rattle.pg_meaning.specs.Names.{Names}
use Rattle.pg_meaning.specs.Plans.{Catalogue, Plan, plan_of, plan_over, IsPlanOf}
use Rattle.pg_meaning.specs.Queries.{Outcome, under_plan, output_rows, returns}
use Rattle.pg_meaning.specs.Scopes.{scope_after, columns_from}
use Rattle.pg_meaning.specs.StaticFaults.{static_faults}
use Rattle.pg_meaning.specs.Tree.{Clause, match_paths, unwind, create, merge, set_items, remove_items, delete, with_rows, return_rows, Query}
use Rattle.pg_meaning.specs.Value.{Value, Entries}
use Rattle.pg_soundness.specs.WholeQueries.{MeaningOfQueries, makes, changes, removes, GraphsStayGraphs, Continues, IdsAreGivenOnce, Fits, RoomIsKept, ReadingLeavesTheGraph, SameElements, ChangingKeepsElements, NothingNew, OnlyMakersMake, NothingLost, OnlyDeleteLoses, MakingLeavesTheOld, NoReturnNoRows, AnswersAreMeant, AnswersContinue, ReadingAnswersLeaveTheGraph, AnswersFitColumns}
use Rattle.pg_soundness.proofs.ChangingClauses.{set_agrees, remove_agrees}
use Rattle.pg_soundness.proofs.ChangingDelete.{delete_agrees}
use Rattle.pg_soundness.proofs.WholeQueriesRows.{rows_fit_columns}
use Rattle.pg_soundness.proofs.WholeQueriesSteps.{means_law}
use Rattle.pg_soundness.proofs.MakingClauses.{create_agrees}
use Rattle.pg_soundness.proofs.Matching.{match_agrees}
use Rattle.pg_soundness.proofs.MergingClauses.{merge_agrees}
use Rattle.pg_soundness.proofs.PlanningPlans.{plan_of_is_plan}
use Rattle.pg_soundness.proofs.ProjectedRows.{with_agrees, return_agrees}
use Rattle.pg_soundness.proofs.UnwoundRows.{unwind_agrees}
use Rattle.pg_soundness.proofs.WholeQueriesGraphs.{changed_same, changed_continues, changed_fits, changed_new, changed_lost, made_continues, made_fits, made_lost, made_old, removed_continues, removed_fits, removed_new, continues_on, fits_on, same_on, new_on, lost_on, Old, old_on, continues_itself, fits_itself, same_itself, new_itself, lost_itself, old_itself}

-- ---- the one answer stands in the meaning

pub meaning_of_queries : MeaningOfQueries
meaning_of_queries q = clauses_make_queries q (all_agree q.clauses)
  where
    each_agrees : (c : Clause) → ClauseAgrees c
    each_agrees (match_paths is_optional paths where_) = match_agrees is_optional paths where_
    each_agrees (unwind e name) = unwind_agrees e name
    each_agrees (create paths) = create_agrees paths
    each_agrees (merge p parts) = merge_agrees p parts
    each_agrees (set_items items) = set_agrees items
    each_agrees (remove_items items) = remove_agrees items
    each_agrees (delete is_detach es) = delete_agrees is_detach es
    each_agrees (with_rows p where_) = with_agrees p where_
    each_agrees (return_rows p) = return_agrees p

    all_agree : (cs : List Clause) → AllByRecursion ClauseAgrees cs
    all_agree [] = tt
    all_agree (c ∷ cs) = (each_agrees c, all_agree cs)

pub answers_are_meant : AnswersAreMeant
answers_are_meant catalogue q parameters graph max_steps max_elements faults given g = meaning_of_queries q (plan_of catalogue q) catalogue parameters graph max_steps max_elements faults given (plan_of_is_plan catalogue q) g

-- ---- which clauses there are

never : {X : Type 0} (b : Bool) → b ≡ false → b ≡ true → X
never b e h = absurd (true≢false (sym h ∙ e))

module _ (M C D : Type 0) where
  abbrev May : Clause → Type 0
  May c = (makes c ≡ true → M) × (changes c ≡ true → C) × (removes c ≡ true → D)

  may_all : M → C → D → (cs : List Clause) → AllByRecursion May cs
  may_all m c d [] = tt
  may_all m c d (x ∷ xs) = ((λ e. m, λ e. c, λ e. d), may_all m c d xs)

may_change : (cs : List Clause) → AllByRecursion (λ c. makes c ≡ false) cs → AllByRecursion (λ c. removes c ≡ false) cs → AllByRecursion (May ⊥ ⊤ ⊥) cs
may_change [] g h = tt
may_change (c ∷ cs) g h = ((never (makes c) g.0, λ e. tt, never (removes c) h.0), may_change cs g.1 h.1)

may_not_make : (cs : List Clause) → AllByRecursion (λ c. makes c ≡ false) cs → AllByRecursion (May ⊥ ⊤ ⊤) cs
may_not_make [] g = tt
may_not_make (c ∷ cs) g = ((never (makes c) g.0, λ e. tt, λ e. tt), may_not_make cs g.1)

may_not_remove : (cs : List Clause) → AllByRecursion (λ c. removes c ≡ false) cs → AllByRecursion (May ⊤ ⊤ ⊥) cs
may_not_remove [] g = tt
may_not_remove (c ∷ cs) g = ((λ e. tt, λ e. tt, never (removes c) g.0), may_not_remove cs g.1)

may_make : (cs : List Clause) → AllByRecursion (λ c. changes c ≡ false) cs → AllByRecursion (λ c. removes c ≡ false) cs → AllByRecursion (May ⊤ ⊥ ⊥) cs
may_make [] g h = tt
may_make (c ∷ cs) g h = ((λ e. tt, never (changes c) g.0, never (removes c) h.0), may_make cs g.1 h.1)

may_read : (cs : List Clause) → AllByRecursion (λ c. makes c ≡ false) cs → AllByRecursion (λ c. changes c ≡ false) cs → AllByRecursion (λ c. removes c ≡ false) cs → AllByRecursion (May ⊥ ⊥ ⊥) cs
may_read [] f g h = tt
may_read (c ∷ cs) f g h = ((never (makes c) f.0, never (changes c) g.0, never (removes c) h.0), may_read cs f.1 g.1 h.1)

-- ---- the graph before and after

continues_graph : (q : Query) (parameters : Entries) (most : ℕ) (graph : Graph) (columns : List (List ℕ)) (rows : List (List Value)) (after : Graph) → IsGraph graph → Means q parameters most graph columns rows after → Continues graph after × IsGraph after
continues_graph q parameters most graph columns rows after =
    means_law most Continues ⊤ ⊤ ⊤ continues_itself (λ a b c ga gb. continues_on a b c)
    (λ m ps scope paths g row a rs is h. made_continues ps most scope paths g row a rs is h)
    (λ m g a is h. changed_continues g a is h)
    (λ m ns rs g is. removed_continues ns rs g is)
    q parameters graph columns rows after (may_all ⊤ ⊤ ⊤ tt tt tt q.clauses)

pub graphs_stay_graphs : GraphsStayGraphs
graphs_stay_graphs q parameters most graph columns rows after any g h = (continues_graph q parameters most graph columns rows after g h).1

pub ids_are_given_once : IdsAreGivenOnce
ids_are_given_once q parameters most graph columns rows after any g h = (continues_graph q parameters most graph columns rows after g h).0

pub room_is_kept : RoomIsKept
room_is_kept q parameters most graph columns rows after any g h =
    (means_law most (Fits most) ⊤ ⊤ ⊤ (λ x. fits_itself x most) (λ a b c ga gb. fits_on a b c most)
    (λ m ps scope paths x row a rs is y. made_fits ps most scope paths x row a rs is y)
    (λ m x a is y. changed_fits x a most is y)
    (λ m ns rs x is. removed_fits ns rs x is most)
    q parameters graph columns rows after (may_all ⊤ ⊤ ⊤ tt tt tt q.clauses) g h).0

pub reading_leaves_the_graph : ReadingLeavesTheGraph
reading_leaves_the_graph q parameters most graph columns rows after none g h =
    (means_law most (λ x y. y ≡ x) ⊥ ⊥ ⊥ (λ x. refl) (λ a b c ga gb e f. f ∙ e)
    (λ m ps scope paths x row a rs is y. absurd m)
    (λ m x a is y. absurd m)
    (λ m ns rs x is. absurd m)
    q parameters graph columns rows after (may_read q.clauses none.0 none.1 none.2) g h).0

pub changing_keeps_elements : ChangingKeepsElements
changing_keeps_elements q parameters most graph columns rows after none g h =
    (means_law most SameElements ⊥ ⊤ ⊥ same_itself (λ a b c ga gb. same_on a b c)
    (λ m ps scope paths x row a rs is y. absurd m)
    (λ m x a is y. changed_same x a is y)
    (λ m ns rs x is. absurd m)
    q parameters graph columns rows after (may_change q.clauses none.0 none.1) g h).0

pub only_makers_make : OnlyMakersMake
only_makers_make q parameters most graph columns rows after none g h =
    (means_law most NothingNew ⊥ ⊤ ⊤ new_itself (λ a b c ga gb. new_on a b c)
    (λ m ps scope paths x row a rs is y. absurd m)
    (λ m x a is y. changed_new x a is y)
    (λ m ns rs x is. removed_new ns rs x is)
    q parameters graph columns rows after (may_not_make q.clauses none) g h).0

pub only_delete_loses : OnlyDeleteLoses
only_delete_loses q parameters most graph columns rows after none g h =
    (means_law most NothingLost ⊤ ⊤ ⊥ lost_itself (λ a b c ga gb. lost_on a b c)
    (λ m ps scope paths x row a rs is y. made_lost ps most scope paths x row a rs is y)
    (λ m x a is y. changed_lost x a is y)
    (λ m ns rs x is. absurd m)
    q parameters graph columns rows after (may_not_remove q.clauses none) g h).0

pub making_leaves_the_old : MakingLeavesTheOld
making_leaves_the_old q parameters most graph columns rows after none g h =
    (means_law most Old ⊤ ⊥ ⊥ old_itself (λ a b c ga gb. old_on a b c)
    (λ m ps scope paths x row a rs is y. made_old ps most scope paths x row a rs is y)
    (λ m x a is y. absurd m)
    (λ m ns rs x is. absurd m)
    q parameters graph columns rows after (may_make q.clauses none.0 none.1) g h).0.0

-- ---- rows

no_columns : (cs : List Clause) (scope : Names) → returns cs ≡ false → columns_from scope cs ≡ []
no_columns [] scope h = refl
no_columns (match_paths is_optional paths where_ ∷ cs) scope h = no_columns cs (scope_after scope (match_paths is_optional paths where_)) h
no_columns (unwind e name ∷ cs) scope h = no_columns cs (scope_after scope (unwind e name)) h
no_columns (create paths ∷ cs) scope h = no_columns cs (scope_after scope (create paths)) h
no_columns (merge p parts ∷ cs) scope h = no_columns cs (scope_after scope (merge p parts)) h
no_columns (set_items items ∷ cs) scope h = no_columns cs scope h
no_columns (remove_items items ∷ cs) scope h = no_columns cs scope h
no_columns (delete is_detach es ∷ cs) scope h = no_columns cs scope h
no_columns (with_rows p where_ ∷ cs) scope h = no_columns cs (scope_after scope (with_rows p where_)) h
no_columns (return_rows p ∷ cs) scope h = absurd (true≢false h)

pub no_return_no_rows : NoReturnNoRows
no_return_no_rows q parameters most graph columns rows after none h = (h.named ∙ no_columns q.clauses [] none, h.shown ∙ ap (λ b. output_rows b h.results) none)

-- ---- the answer

-- what is meant of a query is so of its answer
answer_means : (q : Query) (plan : Plan) (catalogue : Catalogue) (parameters : Entries) (graph : Graph) (max_steps max_elements : ℕ) (answer : Outcome) → static_faults q ≡ [] → AreGiven (parameters_of q) parameters → IsPlanOf plan q → IsGraph graph
    → under_plan (plan_over catalogue plan) q parameters graph max_steps max_elements ≡ Ok answer → Means q parameters max_elements graph answer.columns answer.rows answer.graph × IsGraph answer.graph
answer_means q plan catalogue parameters graph max_steps max_elements answer faults given_here planned g is =
    subst (OutcomeAgrees q parameters max_elements graph) is (meaning_of_queries q plan catalogue parameters graph max_steps max_elements faults given_here planned g)

pub answers_continue : AnswersContinue
answers_continue q plan catalogue parameters graph max_steps max_elements answer any faults given_here planned g is =
    let means = answer_means q plan catalogue parameters graph max_steps max_elements answer faults given_here planned g is in
    (means.1, ids_are_given_once q parameters max_elements graph answer.columns answer.rows answer.graph tt g means.0, room_is_kept q parameters max_elements graph answer.columns answer.rows answer.graph tt g means.0)

pub reading_answers_leave_the_graph : ReadingAnswersLeaveTheGraph
reading_answers_leave_the_graph q plan catalogue parameters graph max_steps max_elements answer none faults given_here planned g is =
    reading_leaves_the_graph q parameters max_elements graph answer.columns answer.rows answer.graph none g (answer_means q plan catalogue parameters graph max_steps max_elements answer faults given_here planned g is).0

pub answers_fit_columns : AnswersFitColumns
answers_fit_columns q plan catalogue parameters graph max_steps max_elements answer ends faults given_here planned g is =
    rows_fit_columns q parameters max_elements graph answer.columns answer.rows answer.graph ends (answer_means q plan catalogue parameters graph max_steps max_elements answer faults given_here planned g is).0
