-- A query agrees with its meaning where its clauses do: the chain of answers is a chain of steps.
use Rattle.std.proofs.Common.{◌≡◌, ℕ, is_some, Bool, true, false, ◌⊎◌, inl, inr, List, [], ◌∷◌, ◌++◌, map, flat_map, Result, Ok, Err, Option, Some, None, cond, refl, subst}
use Rattle.std.specs.List.{AllByRecursion, AllZip}
use Rattle.pg_meaning.specs.Agreement.{AreGiven, AreRowsOf, AnswerAgrees, ClauseAgrees, OutcomeAgrees, ClausesMakeQueries}
use Rattle.pg_meaning.specs.Answer.{◌>>=◌, ◌>>◌, unless, each_step}
use Rattle.pg_meaning.specs.Entries.{at_key}
use Rattle.pg_meaning.specs.Grammar.{Mark, concatenated, clause_marks, parameter_name, clause_parameters}
use Rattle.pg_meaning.specs.Graph.{Graph, IsGraph, has_node, has_relationship}
use Rattle.pg_meaning.specs.Lists.{IsIn}
use Rattle.pg_meaning.specs.ListsLaws.{all_joined}
use Rattle.pg_meaning.specs.Meaning.{Steps, StepsFault, output_of}
use Rattle.pg_meaning.specs.Meters.{Setting, State, Quota}
use Rattle.pg_meaning.specs.Names.{Names}
use Rattle.pg_meaning.specs.Plans.{Catalogue, Plan, Anchor, Fixed, index_over, anchors_over, plan_over, leading_of, is_indexed, IndexSuits, IsAnchorOf, ArePlanned, IsPlanFrom}
use Rattle.pg_meaning.specs.Queries.{Outcome, clause_step, clauses_run, output_rows, returns, test_output, test_present, test_ids, test_items, test_entries}
use Rattle.pg_meaning.specs.Rows.{Row}
use Rattle.pg_meaning.specs.Scopes.{scope_after, columns}
use Rattle.pg_meaning.specs.StaticFaults.{clause_faults, clauses_faults, static_faults}
use Rattle.pg_meaning.specs.Tree.{NodePattern, PathPattern, Clause, match_paths, unwind, create, merge, set_items, remove_items, delete, with_rows, return_rows, Query}
use Rattle.pg_meaning.specs.Value.{Value, null, boolean, integer, text, list, mapping, node, relationship, path, Values, no_items, item, Entries, no_entries, entry}
use Rattle.pg_meaning.specs.declared.fault.Fault.{Fault}
use Rattle.pg_meaning.specs.declared.fault.Fault.TheVariants.{StepQuota, DeletedEntity}

no_first : {X : Type 0} (xs ys : List X) → xs ++ ys ≡ [] → xs ≡ []
no_first [] ys e = refl
no_first (x ∷ xs) ys e = cc

no_second : {X : Type 0} (xs ys : List X) → xs ++ ys ≡ [] → ys ≡ []
no_second [] ys e = e
no_second (x ∷ xs) ys e = cc

-- ---- parameters

abbrev pub named_in : List Mark → Names
named_in ms = flat_map (λ m. parameter_name m.what) ms

all_split : {X : Type 0} (P : X → Type 0) (xs ys : List X) → AllByRecursion P (xs ++ ys) → AllByRecursion P xs × AllByRecursion P ys
all_split P [] ys h = (tt, h)
all_split P (x ∷ xs) ys h = let rest = all_split P xs ys h.1 in ((h.0, rest.0), rest.1)

pub given_split : (parameters : Entries) (ms more : List Mark) → AreGiven (named_in (ms ++ more)) parameters → AreGiven (named_in ms) parameters × AreGiven (named_in more) parameters
given_split parameters [] more h = (tt, h)
given_split parameters (m ∷ ms) more h =
    let first = all_split (λ name. is_some (at_key name parameters) ≡ true) (parameter_name m.what) (named_in (ms ++ more)) h in
    let rest = given_split parameters ms more first.1 in
    (all_joined (λ name. is_some (at_key name parameters) ≡ true) (parameter_name m.what) (named_in ms) first.0 rest.0, rest.1)

-- a query's parameters are those of its clauses
given_each : (parameters : Entries) (cs : List Clause) → AreGiven (named_in (concatenated (map clause_marks cs))) parameters → AllByRecursion (λ c. AreGiven (clause_parameters c) parameters) cs
given_each parameters [] h = tt
given_each parameters (c ∷ cs) h = let both = given_split parameters (clause_marks c) (concatenated (map clause_marks cs)) h in (both.0, given_each parameters cs both.1)

-- ---- plans over the indexes that there are

index_suits_over : (catalogue : Catalogue) (leads : List Fixed) (n : NodePattern) (index : Option (List ℕ × List ℕ)) → IndexSuits leads n index → IndexSuits leads n (index_over catalogue index)
index_suits_over catalogue leads n None h = tt
index_suits_over catalogue leads n (Some i) h = elim (is_indexed catalogue i) as (λ b. IndexSuits leads n (cond b (Some i) None)) [ true ↦ h | false ↦ tt ]

anchors_planned_over : (catalogue : Catalogue) (leads : List Fixed) (ps : List PathPattern) (anchors : List Anchor) → AllZip (IsAnchorOf leads) ps anchors → AllZip (IsAnchorOf leads) ps (anchors_over catalogue anchors)
anchors_planned_over catalogue leads [] [] h = tt
anchors_planned_over catalogue leads [] (a ∷ anchors) h = absurd h
anchors_planned_over catalogue leads (p ∷ ps) [] h = absurd h
anchors_planned_over catalogue leads (p ∷ ps) (a ∷ anchors) h = ((h.0.0, h.0.1, index_suits_over catalogue leads h.0.0 a.index h.0.2), anchors_planned_over catalogue leads ps anchors h.1)

none_over : (catalogue : Catalogue) (anchors : List Anchor) → anchors ≡ [] → anchors_over catalogue anchors ≡ []
none_over catalogue [] e = refl
none_over catalogue (a ∷ anchors) e = cc

clause_planned_over : (catalogue : Catalogue) (scope : Names) (c : Clause) (anchors : List Anchor) → ArePlanned scope c anchors → ArePlanned scope c (anchors_over catalogue anchors)
clause_planned_over catalogue scope (match_paths is_optional paths where_) anchors h = anchors_planned_over catalogue (leading_of scope paths where_) paths anchors h
clause_planned_over catalogue scope (merge p items) anchors h = anchors_planned_over catalogue [] (p ∷ []) anchors h
clause_planned_over catalogue scope (unwind e n) anchors h = none_over catalogue anchors h
clause_planned_over catalogue scope (create paths) anchors h = none_over catalogue anchors h
clause_planned_over catalogue scope (set_items items) anchors h = none_over catalogue anchors h
clause_planned_over catalogue scope (remove_items items) anchors h = none_over catalogue anchors h
clause_planned_over catalogue scope (delete is_detach es) anchors h = none_over catalogue anchors h
clause_planned_over catalogue scope (with_rows p where_) anchors h = none_over catalogue anchors h
clause_planned_over catalogue scope (return_rows p) anchors h = none_over catalogue anchors h

-- without the indexes that are lacking a plan is a plan
pub planned_over : (catalogue : Catalogue) (scope : Names) (cs : List Clause) (plan : Plan) → IsPlanFrom scope cs plan → IsPlanFrom scope cs (plan_over catalogue plan)
planned_over catalogue scope [] [] h = tt
planned_over catalogue scope [] (anchors ∷ plan) h = absurd h
planned_over catalogue scope (c ∷ cs) [] h = absurd h
planned_over catalogue scope (c ∷ cs) (anchors ∷ plan) h = (clause_planned_over catalogue scope c anchors h.0, planned_over catalogue (scope_after scope c) cs plan h.1)

-- ---- clauses

abbrev setting : Entries → Quota → Names → List Anchor → Setting
setting parameters quota scope anchors = record { parameters = parameters; quota = quota; scope = scope; anchors = anchors }

-- what the rest of the clauses gives
abbrev RestAgrees : Entries → Quota → Query → Names → List Clause → State → Result State Fault → Type 0
RestAgrees parameters quota q scope cs state (Ok last) = Steps parameters quota.max_elements scope cs state.graph state.rows last.graph last.rows × IsGraph last.graph
RestAgrees parameters quota q scope cs state (Err f) = (f ≡ StepQuota) ⊎ StepsFault parameters quota.max_elements q scope cs state.graph state.rows f

first_then_rest : (parameters : Entries) (quota : Quota) (q : Query) (scope : Names) (c : Clause) (cs : List Clause) (anchors : List Anchor) (plan : Plan) (state : State)
    → (r : Result State Fault) → AnswerAgrees (setting parameters quota scope anchors) c state r
    → ((next : State) → IsGraph next.graph → AreRowsOf (scope_after scope c) next.rows → RestAgrees parameters quota q (scope_after scope c) cs next (clauses_run parameters quota (scope_after scope c) plan cs next))
    → RestAgrees parameters quota q scope (c ∷ cs) state (r >>= λ next. clauses_run parameters quota (scope_after scope c) plan cs next)
first_then_rest parameters quota q scope c cs anchors plan state (Err f) (inl e) rest = inl e
first_then_rest parameters quota q scope c cs anchors plan state (Err f) (inr e) rest = inr (inl e)
first_then_rest parameters quota q scope c cs anchors plan state (Ok next) h rest =
    joined (clauses_run parameters quota (scope_after scope c) plan cs next) (rest next h.1 h.2)
  where
    joined : (r : Result State Fault) → RestAgrees parameters quota q (scope_after scope c) cs next r → RestAgrees parameters quota q scope (c ∷ cs) state r
    joined (Ok last) g = ((next.graph, next.rows, h.0, g.0), g.1)
    joined (Err f) (inl e) = inl e
    joined (Err f) (inr e) = inr (inr (next.graph, next.rows, h.0, e))

rest_agrees : (parameters : Entries) (quota : Quota) (q : Query) (scope : Names) (cs : List Clause) (plan : Plan) (state : State)
    → AllByRecursion ClauseAgrees cs → clauses_faults scope cs ≡ [] → AllByRecursion (λ c. AreGiven (clause_parameters c) parameters) cs → IsPlanFrom scope cs plan → IsGraph state.graph → AreRowsOf scope state.rows
    → RestAgrees parameters quota q scope cs state (clauses_run parameters quota scope plan cs state)
rest_agrees parameters quota q scope [] plan state agrees faults given planned g rows = ((refl, refl), g)
rest_agrees parameters quota q scope (c ∷ cs) [] state agrees faults given planned g rows = absurd planned
rest_agrees parameters quota q scope (c ∷ cs) (anchors ∷ plan) state agrees faults given planned g rows =
    first_then_rest parameters quota q scope c cs anchors plan state
    (clause_step (setting parameters quota scope anchors) c state)
    (agrees.0 (setting parameters quota scope anchors) state (no_first (clause_faults scope c) _ faults) given.0 planned.0 g rows)
    (λ next h rows_after. rest_agrees parameters quota q (scope_after scope c) cs plan next agrees.1 (no_second (clause_faults scope c) _ faults) given.1 planned.1 h rows_after)

-- ---- output

is_deleted_fault : (b : Bool) (f : Fault) → unless b DeletedEntity ≡ Err f → f ≡ DeletedEntity
is_deleted_fault true f e = cc
is_deleted_fault false f e = cc

after_test : (P : Fault → Type 0) {Y : Type 0} (a : Result (Unit {0}) Fault) (b : Result Y Fault) (f : Fault) → (a >> b) ≡ Err f → (a ≡ Err f → P f) → (b ≡ Err f → P f) → P f
after_test P (Ok x) b f e p q = q e
after_test P (Err g) b f e p q = p (fault_is g f e)
  where
    fault_is : {A B : Type 0} (g f : Fault) → ◌≡◌ {A = Result A Fault} (Err g) (Err f) → ◌≡◌ {A = Result B Fault} (Err g) (Err f)
    fault_is g f h = cc

ids_deleted : (graph : Graph) (ids : List ℕ) (f : Fault) → test_ids graph ids ≡ Err f → f ≡ DeletedEntity
ids_deleted graph [] f e = cc
ids_deleted graph (n ∷ []) f e = is_deleted_fault (has_node graph n) f e
ids_deleted graph (n ∷ r ∷ ids) f e =
    after_test (λ f. f ≡ DeletedEntity) (test_present (has_node graph n) >> test_present (has_relationship graph r)) (test_ids graph ids) f e
    (λ a. after_test (λ f. f ≡ DeletedEntity) (test_present (has_node graph n)) (test_present (has_relationship graph r)) f a (is_deleted_fault _ f) (is_deleted_fault _ f))
    (ids_deleted graph ids f)

mutual
  output_deleted : (graph : Graph) (v : Value) (f : Fault) → test_output graph v ≡ Err f → f ≡ DeletedEntity
  output_deleted graph null f e = cc
  output_deleted graph (boolean b) f e = cc
  output_deleted graph (integer i) f e = cc
  output_deleted graph (text s) f e = cc
  output_deleted graph (list vs) f e = items_deleted graph vs f e
  output_deleted graph (mapping es) f e = entries_deleted graph es f e
  output_deleted graph (node n) f e = is_deleted_fault (has_node graph n) f e
  output_deleted graph (relationship r) f e = is_deleted_fault (has_relationship graph r) f e
  output_deleted graph (path ids) f e = ids_deleted graph ids f e

  items_deleted : (graph : Graph) (vs : Values) (f : Fault) → test_items graph vs ≡ Err f → f ≡ DeletedEntity
  items_deleted graph no_items f e = cc
  items_deleted graph (item v vs) f e = after_test (λ f. f ≡ DeletedEntity) (test_output graph v) (test_items graph vs) f e (output_deleted graph v f) (items_deleted graph vs f)

  entries_deleted : (graph : Graph) (es : Entries) (f : Fault) → test_entries graph es ≡ Err f → f ≡ DeletedEntity
  entries_deleted graph no_entries f e = cc
  entries_deleted graph (entry k v es) f e = after_test (λ f. f ≡ DeletedEntity) (test_output graph v) (test_entries graph es) f e (output_deleted graph v f) (entries_deleted graph es f)

abbrev Tested : Graph → List Value → Result (Unit {0}) Fault → Type 0
Tested graph vs (Ok x) = AllByRecursion (λ v. test_output graph v ≡ Ok tt) vs
Tested graph vs (Err f) = (f ≡ DeletedEntity) × (v : Value) × IsIn v vs × (test_output graph v ≡ Err DeletedEntity)

tested : (graph : Graph) (vs : List Value) → Tested graph vs (each_step (λ done v. test_output graph v) tt vs)
tested graph [] = tt
tested graph (v ∷ vs) = by_first (test_output graph v) refl (tested graph vs)
  where
    by_rest : test_output graph v ≡ Ok tt → (r : Result (Unit {0}) Fault) → Tested graph vs r → Tested graph (v ∷ vs) r
    by_rest e (Ok x) h = (e, h)
    by_rest e (Err f) h = (h.0, h.1, inr h.2, h.3)

    by_first : (r : Result (Unit {0}) Fault) → test_output graph v ≡ r → Tested graph vs (each_step (λ done v. test_output graph v) tt vs)
        → Tested graph (v ∷ vs) (r >>= λ done. each_step (λ done v. test_output graph v) done vs)
    by_first (Ok x) e rest = by_rest e (each_step (λ done v. test_output graph v) tt vs) rest
    by_first (Err f) e rest = let is = output_deleted graph v f e in (is, v, inl refl, subst (λ g. test_output graph v ≡ Err g) is e)

-- a deleted element in the output of the last clause is a fault of the chain
at_the_end : (parameters : Entries) (max_elements : ℕ) (q : Query) (scope : Names) (cs : List Clause) (graph : Graph) (rows : List Row) (after : Graph) (results : List Row) (f : Fault)
    → Steps parameters max_elements scope cs graph rows after results
    → (f ≡ DeletedEntity) × (v : Value) × IsIn v (output_of q results) × (test_output after v ≡ Err DeletedEntity)
    → StepsFault parameters max_elements q scope cs graph rows f
at_the_end parameters max_elements q scope [] graph rows after results f s h =
    (h.0, h.1, subst (λ rs. IsIn h.1 (output_of q rs)) s.1 h.2, subst (λ g. test_output g h.1 ≡ Err DeletedEntity) s.0 h.3)
at_the_end parameters max_elements q scope (c ∷ cs) graph rows after results f s h =
    inr (s.0, s.1, s.2, at_the_end parameters max_elements q (scope_after scope c) cs s.0 s.1 after results f s.3 h)

-- ---- queries

abbrev finished : Query → State → Result Outcome Fault
finished q last =
    each_step (λ done v. test_output last.graph v) tt (flat_map (λ r. r) (output_rows (returns q.clauses) last.rows))
    >> Ok (record { columns = columns q; rows = output_rows (returns q.clauses) last.rows; graph = last.graph; steps = last.steps })

outcome_agrees : (q : Query) (parameters : Entries) (quota : Quota) (graph : Graph) (r : Result State Fault)
    → RestAgrees parameters quota q [] q.clauses (record { graph = graph; rows = [] ∷ []; steps = 0 }) r
    → OutcomeAgrees q parameters quota.max_elements graph (r >>= finished q)
outcome_agrees q parameters quota graph (Err f) (inl e) = inl e
outcome_agrees q parameters quota graph (Err f) (inr e) = inr e
outcome_agrees q parameters quota graph (Ok last) h =
    by_test (each_step (λ done v. test_output last.graph v) tt (output_of q last.rows)) (tested last.graph (output_of q last.rows))
  where
    by_test : (t : Result (Unit {0}) Fault) → Tested last.graph (output_of q last.rows) t
        → OutcomeAgrees q parameters quota.max_elements graph (t >> Ok (record { columns = columns q; rows = output_rows (returns q.clauses) last.rows; graph = last.graph; steps = last.steps }))
    by_test (Ok x) live = (record { results = last.rows; steps = h.0; named = refl; shown = refl; live = live }, h.1)
    by_test (Err f) dead = inr (at_the_end parameters quota.max_elements q [] q.clauses graph ([] ∷ []) last.graph last.rows f h.0 dead)

pub clauses_make_queries : ClausesMakeQueries
unfolding static_faults
clauses_make_queries q agrees plan catalogue parameters graph max_steps max_elements faults given planned g =
    let quota : Quota = record { max_steps = max_steps; max_elements = max_elements } in
    outcome_agrees q parameters quota graph (clauses_run parameters quota [] (plan_over catalogue plan) q.clauses (record { graph = graph; rows = [] ∷ []; steps = 0 }))
    (rest_agrees parameters quota q [] q.clauses (plan_over catalogue plan) (record { graph = graph; rows = [] ∷ []; steps = 0 }) agrees faults (given_each parameters q.clauses (given_split parameters (concatenated (map clause_marks q.clauses)) _ given).0) (planned_over catalogue [] q.clauses plan planned) g ((λ name. refl), tt))
