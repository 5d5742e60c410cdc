-- What holds of every query: its answer stands in its meaning, and what the meaning does to a graph.
use Rattle.std.specs.Prelude.{◌≡◌, ⊤, ℕ, ◌<◌, ◌≤◌, max, Bool, true, false, ◌⊎◌, List, [], ◌∷◌, ◌++◌, length, Ok, Option, Some, None}
use Rattle.std.specs.List.{AllByRecursion}
use Rattle.pg_meaning.specs.Agreement.{AreGiven, OutcomeAgrees, QueryAgrees}
use Rattle.pg_meaning.specs.Grammar.{parameters_of}
use Rattle.pg_meaning.specs.Graph.{Graph, Relationship, IsGraph, node_at, relationship_at, has_node, has_relationship, element_count, ids_of}
use Rattle.pg_meaning.specs.Lists.{IsIn}
use Rattle.pg_meaning.specs.Meaning.{Means}
use Rattle.pg_meaning.specs.Meters.{greatest_id}
use Rattle.pg_meaning.specs.Plans.{Catalogue, Plan, plan_over, IsPlanOf}
use Rattle.pg_meaning.specs.Queries.{Outcome, under_plan, answer_of, returns}
use Rattle.pg_meaning.specs.StaticFaults.{static_faults}
use Rattle.pg_meaning.specs.Tree.{Projection, Clause, create, merge, set_items, remove_items, delete, return_rows, Query}
use Rattle.pg_meaning.specs.Value.{Value, list, mapping, node, relationship, path, Values, no_items, item, Entries, no_entries, entry}
use Rattle.pg_meaning.specs.Changes.{path_nodes, path_relationships}

-- ---- the one answer stands in the meaning

-- for every query, plan and graph
abbrev pub MeaningOfQueries : Type 0
MeaningOfQueries = (q : Query) → QueryAgrees q

-- ---- kinds of clauses

abbrev pub makes : Clause → Bool
makes (create paths) = true
makes (merge p parts) = true
makes c = false

-- a MERGE changes elements where it has ON items
abbrev pub changes : Clause → Bool
changes (merge p []) = false
changes (merge p (part ∷ parts)) = true
changes (set_items items) = true
changes (remove_items items) = true
changes c = false

abbrev pub removes : Clause → Bool
removes (delete is_detach es) = true
removes c = false

abbrev pub NoneMakes : Query → Type 0
NoneMakes q = AllByRecursion (λ c. makes c ≡ false) q.clauses

abbrev pub NoneChanges : Query → Type 0
NoneChanges q = AllByRecursion (λ c. changes c ≡ false) q.clauses

abbrev pub NoneRemoves : Query → Type 0
NoneRemoves q = AllByRecursion (λ c. removes c ≡ false) q.clauses

-- ---- the graph before and after

-- under a condition on the query
abbrev pub OfGraphs : (Query → Type 0) → (ℕ → Graph → Graph → Type 0) → Type 0
OfGraphs If Then =
    (q : Query) (parameters : Entries) (max_elements : ℕ) (graph : Graph) (columns : List (List ℕ)) (rows : List (List Value)) (after : Graph) → If q → IsGraph graph
    → Means q parameters max_elements graph columns rows after → Then max_elements graph after

abbrev pub OfEveryQuery : (ℕ → Graph → Graph → Type 0) → Type 0
OfEveryQuery Then = OfGraphs (λ q. ⊤) Then

abbrev pub GraphsStayGraphs : Type 0
GraphsStayGraphs = OfEveryQuery (λ most graph after. IsGraph after)

-- what is gone stays gone, and a relationship keeps its type and its ends
abbrev pub RelationshipStays : Option Relationship → Option Relationship → Type 0
RelationshipStays None o = o ≡ None
RelationshipStays (Some e) None = ⊤
RelationshipStays (Some e) (Some f) = (f.type ≡ e.type) × (f.source ≡ e.source) × (f.target ≡ e.target)

-- counters never fall, and an id below its counter stands for what it stood for, or for nothing
pub record Continues (graph after : Graph) : Type 0 where
  pub next_node : graph.next_node ≤ after.next_node
  pub next_relationship : graph.next_relationship ≤ after.next_relationship
  pub nodes : (n : ℕ) → n < graph.next_node → node_at graph n ≡ None → node_at after n ≡ None
  pub relationships : (r : ℕ) → r < graph.next_relationship → RelationshipStays (relationship_at graph r) (relationship_at after r)

abbrev pub IdsAreGivenOnce : Type 0
IdsAreGivenOnce = OfEveryQuery (λ most graph after. Continues graph after)

-- no more elements than the quota allows, or than there were
pub record Fits (most : ℕ) (graph after : Graph) : Type 0 where
  pub elements : element_count after ≤ max most (element_count graph)
  pub next_node : after.next_node ≤ max greatest_id graph.next_node
  pub next_relationship : after.next_relationship ≤ max greatest_id graph.next_relationship

abbrev pub RoomIsKept : Type 0
RoomIsKept = OfEveryQuery Fits

abbrev pub ReadingLeavesTheGraph : Type 0
ReadingLeavesTheGraph = OfGraphs (λ q. NoneMakes q × NoneChanges q × NoneRemoves q) (λ most graph after. after ≡ graph)

abbrev pub SameEnds : Option Relationship → Option Relationship → Type 0
SameEnds None None = ⊤
SameEnds None (Some f) = ⊥
SameEnds (Some e) None = ⊥
SameEnds (Some e) (Some f) = (f.type ≡ e.type) × (f.source ≡ e.source) × (f.target ≡ e.target)

-- the same elements with the same types and ends, and the same ids next
pub record SameElements (graph after : Graph) : Type 0 where
  pub nodes : ids_of after.nodes ≡ ids_of graph.nodes
  pub relationships : ids_of after.relationships ≡ ids_of graph.relationships
  pub ends : (r : ℕ) → SameEnds (relationship_at graph r) (relationship_at after r)
  pub next_node : after.next_node ≡ graph.next_node
  pub next_relationship : after.next_relationship ≡ graph.next_relationship

-- SET and REMOVE leave which elements there are
abbrev pub ChangingKeepsElements : Type 0
ChangingKeepsElements = OfGraphs (λ q. NoneMakes q × NoneRemoves q) (λ most graph after. SameElements graph after)

-- each element that is there was there, and no id is taken
pub record NothingNew (graph after : Graph) : Type 0 where
  pub nodes : (n : ℕ) → node_at graph n ≡ None → node_at after n ≡ None
  pub relationships : (r : ℕ) → relationship_at graph r ≡ None → relationship_at after r ≡ None
  pub next_node : after.next_node ≡ graph.next_node
  pub next_relationship : after.next_relationship ≡ graph.next_relationship

abbrev pub OnlyMakersMake : Type 0
OnlyMakersMake = OfGraphs NoneMakes (λ most graph after. NothingNew graph after)

-- each element that was there is there
pub record NothingLost (graph after : Graph) : Type 0 where
  pub nodes : (n : ℕ) → has_node graph n ≡ true → has_node after n ≡ true
  pub relationships : (r : ℕ) → has_relationship graph r ≡ true → has_relationship after r ≡ true

abbrev pub OnlyDeleteLoses : Type 0
OnlyDeleteLoses = OfGraphs NoneRemoves (λ most graph after. NothingLost graph after)

-- what was there is as it was
pub record OldStays (graph after : Graph) : Type 0 where
  pub nodes : (n : ℕ) → n < graph.next_node → node_at after n ≡ node_at graph n
  pub relationships : (r : ℕ) → r < graph.next_relationship → relationship_at after r ≡ relationship_at graph r

abbrev pub MakingLeavesTheOld : Type 0
MakingLeavesTheOld = OfGraphs (λ q. NoneChanges q × NoneRemoves q) (λ most graph after. OldStays graph after)

-- ---- rows

abbrev pub NoReturnNoRows : Type 0
NoReturnNoRows =
    (q : Query) (parameters : Entries) (max_elements : ℕ) (graph : Graph) (columns : List (List ℕ)) (rows : List (List Value)) (after : Graph) → returns q.clauses ≡ false
    → Means q parameters max_elements graph columns rows after → (columns ≡ []) × (rows ≡ [])

-- its last clause is its one RETURN
abbrev pub EndsInReturn : Query → Type 0
EndsInReturn q = (cs : List Clause) × (p : Projection) × (returns cs ≡ false) × (q.clauses ≡ cs ++ return_rows p ∷ [])

abbrev pub RowsFitColumns : Type 0
RowsFitColumns =
    (q : Query) (parameters : Entries) (max_elements : ℕ) (graph : Graph) (columns : List (List ℕ)) (rows : List (List Value)) (after : Graph) → EndsInReturn q
    → Means q parameters max_elements graph columns rows after → AllByRecursion (λ row. length row ≡ length columns) rows

-- the elements that a value shows, at any depth
abbrev mutual
  pub ShowsNode : Value → ℕ → Type 0
  ShowsNode (node n) m = m ≡ n
  ShowsNode (path ids) m = IsIn m (path_nodes ids)
  ShowsNode (list vs) m = ItemsShowNode vs m
  ShowsNode (mapping es) m = EntriesShowNode es m
  ShowsNode v m = ⊥

  pub ItemsShowNode : Values → ℕ → Type 0
  ItemsShowNode no_items m = ⊥
  ItemsShowNode (item v vs) m = ShowsNode v m ⊎ ItemsShowNode vs m

  pub EntriesShowNode : Entries → ℕ → Type 0
  EntriesShowNode no_entries m = ⊥
  EntriesShowNode (entry k v es) m = ShowsNode v m ⊎ EntriesShowNode es m

abbrev mutual
  pub ShowsRelationship : Value → ℕ → Type 0
  ShowsRelationship (relationship r) s = s ≡ r
  ShowsRelationship (path ids) s = IsIn s (path_relationships ids)
  ShowsRelationship (list vs) s = ItemsShowRelationship vs s
  ShowsRelationship (mapping es) s = EntriesShowRelationship es s
  ShowsRelationship v s = ⊥

  pub ItemsShowRelationship : Values → ℕ → Type 0
  ItemsShowRelationship no_items s = ⊥
  ItemsShowRelationship (item v vs) s = ShowsRelationship v s ⊎ ItemsShowRelationship vs s

  pub EntriesShowRelationship : Entries → ℕ → Type 0
  EntriesShowRelationship no_entries s = ⊥
  EntriesShowRelationship (entry k v es) s = ShowsRelationship v s ⊎ EntriesShowRelationship es s

-- what a query's rows show is in the graph that it leaves
abbrev pub RowsShowWhatIsThere : Type 0
RowsShowWhatIsThere =
    (q : Query) (parameters : Entries) (max_elements : ℕ) (graph : Graph) (columns : List (List ℕ)) (rows : List (List Value)) (after : Graph)
    → Means q parameters max_elements graph columns rows after → (row : List Value) (v : Value) → IsIn row rows → IsIn v row
    → ((n : ℕ) → ShowsNode v n → has_node after n ≡ true) × ((r : ℕ) → ShowsRelationship v r → has_relationship after r ≡ true)

-- ---- the answer

-- under a condition on the query
abbrev pub OfAnswers : (Query → Type 0) → (ℕ → Graph → Outcome → Type 0) → Type 0
OfAnswers If Then =
    (q : Query) (plan : Plan) (catalogue : Catalogue) (parameters : Entries) (graph : Graph) (max_steps max_elements : ℕ) (answer : Outcome) → If q → static_faults q ≡ [] → AreGiven (parameters_of q) parameters → IsPlanOf plan q → IsGraph graph
    → under_plan (plan_over catalogue plan) q parameters graph max_steps max_elements ≡ Ok answer → Then max_elements graph answer

-- under the plan that a catalogue fixes, where it is the tenant's own
abbrev pub AnswersAreMeant : Type 0
AnswersAreMeant =
    (catalogue : Catalogue) (q : Query) (parameters : Entries) (graph : Graph) (max_steps max_elements : ℕ) → static_faults q ≡ [] → AreGiven (parameters_of q) parameters → IsGraph graph
    → OutcomeAgrees q parameters max_elements graph (answer_of catalogue q parameters graph max_steps max_elements)

abbrev pub AnswersContinue : Type 0
AnswersContinue = OfAnswers (λ q. ⊤) (λ most graph answer. IsGraph answer.graph × Continues graph answer.graph × Fits most graph answer.graph)

abbrev pub ReadingAnswersLeaveTheGraph : Type 0
ReadingAnswersLeaveTheGraph = OfAnswers (λ q. NoneMakes q × NoneChanges q × NoneRemoves q) (λ most graph answer. answer.graph ≡ graph)

abbrev pub AnswersFitColumns : Type 0
AnswersFitColumns = OfAnswers EndsInReturn (λ most graph answer. AllByRecursion (λ row. length row ≡ length answer.columns) answer.rows)
