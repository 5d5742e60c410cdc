-- Steps that go well or end in a fault of a run, and queries of them.
use Rattle.std.proofs.Common.{◌≡◌, ℕ, Bool, true, false, List, [], ◌∷◌, ◌++◌, map, flat_map, Option, Some, None, Result, Ok, Err, refl, ◌∙◌}
use Rattle.std.specs.Bool.{⊤}
use Rattle.std.specs.List.{AllByRecursion}
use Rattle.pg_meaning.specs.Agreement.{AreGiven, AreRowsOf}
use Rattle.pg_meaning.specs.AgreementLaws.{named_in, given_split, planned_over}
use Rattle.pg_meaning.specs.Answer.{◌>>=◌, ◌>>◌, unless, each_answer, each_step}
use Rattle.pg_meaning.specs.Conditions.{conjuncts, operands_of, all_true, condition}
use Rattle.pg_soundness.proofs.RowNames.{BindsOnly}
use Rattle.pg_meaning.specs.Expressions.{evaluate}
use Rattle.pg_meaning.specs.Grammar.{mark, flag, sign, concatenated, marks, operand_marks, operator_what, optional_marks, keyed, clause_marks, clause_parameters, IsWellFormed, AreOperands, Each, IsClause}
use Rattle.pg_meaning.specs.Graph.{Graph, has_node, has_relationship}
use Rattle.pg_meaning.specs.Logic.{truth_of, is_true}
use Rattle.pg_meaning.specs.Meters.{Setting, State, Quota, spend}
use Rattle.pg_meaning.specs.Names.{Names}
use Rattle.pg_meaning.specs.Plans.{Plan, plan_over, IsPlanFrom}
use Rattle.pg_meaning.specs.Queries.{clause_step, clauses_run, output_rows, returns, test_output, test_present, test_ids, test_items, test_entries, under_plan}
use Rattle.pg_meaning.specs.Rows.{Row}
use Rattle.pg_meaning.specs.Scopes.{scope_after}
use Rattle.pg_meaning.specs.StaticFaults.{faults_of, faults_if_any, operand_faults, clause_faults, clauses_faults, static_faults}
use Rattle.pg_meaning.specs.Tree.{Expression, chain, Operands, no_operands, operand, Clause}
use Rattle.pg_meaning.specs.Value.{Value, null, boolean, integer, text, list, mapping, node, relationship, path, Values, no_items, item, Entries, no_entries, entry}
use Rattle.pg_meaning.specs.declared.fault.Fault.{Fault}
use Rattle.pg_meaning.specs.declared.lexemes.Keyword.{Keyword}
use Rattle.pg_meaning.specs.declared.lexemes.Symbol.TheVariants as s
use Rattle.pg_meaning.specs.declared.operators.Operator.TheVariants.{And}
use Rattle.pg_soundness.proofs.FaultsExpressions.{fine_evaluate}
use Rattle.pg_soundness.proofs.FaultsValues.{Fine, fine_fault, fine_all, fine_after, fine_unless, fine_truth}
use Rattle.pg_soundness.proofs.MatchScopes.{first_none, second_none}
use Rattle.pg_soundness.specs.Faults.{is_of_run, EndsWell, ClauseEndsWell, ClausesEndQueries}

-- what went well has the property
abbrev pub Ends : {X : Type 0} → (X → Type 0) → Result X Fault → Type 0
Ends P (Ok x) = P x
Ends P (Err f) = is_of_run f ≡ true

pub ends_fine : {X : Type 0} (P : X → Type 0) (r : Result X Fault) → Fine r → ((x : X) → r ≡ Ok x → P x) → Ends P r
ends_fine P (Ok x) h g = g x refl
ends_fine P (Err f) h g = h

pub fine_ends : {X : Type 0} (P : X → Type 0) (r : Result X Fault) → Ends P r → Fine r
fine_ends P (Ok x) h = tt
fine_ends P (Err f) h = h

pub ends_then : {X Y : Type 0} (P : X → Type 0) (Q : Y → Type 0) (r : Result X Fault) (next : X → Result Y Fault) → Ends P r → ((x : X) → P x → Ends Q (next x)) → Ends Q (r >>= next)
ends_then P Q (Ok x) next h g = g x h
ends_then P Q (Err f) next h g = h

pub ends_all : {X Y : Type 0} (Q : Y → Type 0) (r : Result X Fault) (next : X → Result Y Fault) → Fine r → ((x : X) → Ends Q (next x)) → Ends Q (r >>= next)
ends_all Q (Ok x) next h g = g x
ends_all Q (Err f) next h g = h

pub ends_after : {Y : Type 0} (Q : Y → Type 0) (r : Result (Unit {0}) Fault) (next : Result Y Fault) → Fine r → Ends Q next → Ends Q (r >> next)
ends_after Q (Ok x) next h g = g
ends_after Q (Err f) next h g = h

pub ends_each : {X Y : Type 0} (P : X → Type 0) (Q : Y → Type 0) (f : X → Result Y Fault) → ((x : X) → P x → Ends Q (f x)) → (xs : List X) → AllByRecursion P xs → Ends (AllByRecursion Q) (each_answer f xs)
ends_each P Q f g [] h = tt
ends_each P Q f g (x ∷ xs) h =
    ends_then Q (AllByRecursion Q) (f x) (λ y. each_answer f xs >>= λ ys. Ok (y ∷ ys)) (g x h.0)
    (λ y q. ends_then (AllByRecursion Q) (AllByRecursion Q) (each_answer f xs) (λ ys. Ok (y ∷ ys)) (ends_each P Q f g xs h.1) (λ ys qs. (q, qs)))

pub ends_steps : {S X : Type 0} (I : S → Type 0) (P : X → Type 0) (f : S → X → Result S Fault) → ((s : S) (x : X) → I s → P x → Ends I (f s x)) → (s : S) (xs : List X) → I s → AllByRecursion P xs → Ends I (each_step f s xs)
ends_steps I P f g s [] i h = i
ends_steps I P f g s (x ∷ xs) i h = ends_then I I (f s x) (λ t. each_step f t xs) (g s x i h.0) (λ t j. ends_steps I P f g t xs j h.1)

pub fine_steps : {S X : Type 0} (P : X → Type 0) (f : S → X → Result S Fault) → ((s : S) (x : X) → P x → Fine (f s x)) → (s : S) (xs : List X) → AllByRecursion P xs → Fine (each_step f s xs)
fine_steps P f g s [] h = tt
fine_steps P f g s (x ∷ xs) h = fine_all (f s x) (λ t. each_step f t xs) (g s x h.0) (λ t. fine_steps P f g t xs h.1)

pub fine_spend : (s : Setting) (steps more : ℕ) → Fine (spend s steps more)
fine_spend s steps more = fine_after (unless _ _) (Ok _) (fine_unless _ _ refl) tt

-- ---- conditions

abbrev pub Ready : Names → Entries → Expression → Type 0
Ready scope parameters e = IsWellFormed e × (faults_of scope e ≡ []) × AreGiven (named_in (marks e)) parameters

pub fine_ready : (scope : Names) (parameters : Entries) (graph : Graph) (row : Row) → BindsOnly scope row → (e : Expression) → Ready scope parameters e → Fine (evaluate row parameters graph e)
fine_ready scope parameters graph row b e r = fine_evaluate scope row parameters graph (λ q i. b q ∙ i) e r.0 r.1 r.2

operands_ready : (scope : Names) (parameters : Entries) (at : ℕ) (os : Operands) → AreOperands at os → operand_faults scope os ≡ [] → AreGiven (named_in (operand_marks os)) parameters → AllByRecursion (Ready scope parameters) (operands_of os)
operands_ready scope parameters at no_operands w e h = tt
operands_ready scope parameters at (operand o x os) w e h =
    let given = (given_split parameters (mark (operator_what o) ∷ []) (marks x ++ operand_marks os) h).1 in
    let parts = given_split parameters (marks x) (operand_marks os) given in
    ((w.1, first_none (faults_of scope x) (operand_faults scope os) e, parts.0), operands_ready scope parameters at os w.3 (second_none (faults_of scope x) (operand_faults scope os) e) parts.1)

conjuncts_ready : (scope : Names) (parameters : Entries) (e : Expression) → Ready scope parameters e → AllByRecursion (Ready scope parameters) (conjuncts e)
conjuncts_ready scope parameters (chain x (operand And y os)) r =
    let parts = given_split parameters (marks x) (operand_marks (operand And y os)) r.2 in (
      (r.0.1, first_none (faults_of scope x) (operand_faults scope (operand And y os)) r.1, parts.0),
      operands_ready scope parameters 3 (operand And y os) r.0.3 (second_none (faults_of scope x) (operand_faults scope (operand And y os)) r.1) parts.1,
    )
conjuncts_ready scope parameters e r = (r, tt)

fine_conjuncts : (scope : Names) (parameters : Entries) (graph : Graph) (row : Row) → BindsOnly scope row → (es : List Expression) → AllByRecursion (Ready scope parameters) es → Fine (all_true row parameters graph es)
fine_conjuncts scope parameters graph row b [] r = tt
fine_conjuncts scope parameters graph row b (e ∷ es) r =
    fine_all (evaluate row parameters graph e) _ (fine_ready scope parameters graph row b e r.0)
    (λ v. fine_all (truth_of v) _ (fine_truth v) (λ t. by_truth (is_true t) (fine_conjuncts scope parameters graph row b es r.1)))
  where
    by_truth : (b : Bool) → Fine (all_true row parameters graph es) → Fine (elim b as (λ b. Result Bool Fault) [ true ↦ all_true row parameters graph es | false ↦ Ok false ])
    by_truth true h = h
    by_truth false h = tt

abbrev pub ReadyIfAny : Names → Entries → Option Expression → Type 0
ReadyIfAny scope parameters None = ⊤
ReadyIfAny scope parameters (Some e) = Ready scope parameters e

pub fine_condition_at : (scope : Names) (parameters : Entries) (graph : Graph) (row : Row) → BindsOnly scope row → (where_ : Option Expression) → ReadyIfAny scope parameters where_ → Fine (condition where_ row parameters graph)
fine_condition_at scope parameters graph row b None r = tt
fine_condition_at scope parameters graph row b (Some e) r = fine_conjuncts scope parameters graph row b (conjuncts e) (conjuncts_ready scope parameters e r)

pub ready_if_any : (scope : Names) (parameters : Entries) (x : Keyword) (o : Option Expression) → Each IsWellFormed o → faults_if_any scope o ≡ [] → AreGiven (named_in (optional_marks (keyed x) o)) parameters → ReadyIfAny scope parameters o
ready_if_any scope parameters x None w e h = tt
ready_if_any scope parameters x (Some y) w e h = (w, e, h)

-- ---- output

fine_present : (b : Bool) → Fine (test_present b)
fine_present b = fine_unless b _ refl

fine_ids : (graph : Graph) (ids : List ℕ) → Fine (test_ids graph ids)
fine_ids graph [] = tt
fine_ids graph (n ∷ []) = fine_present (has_node graph n)
fine_ids graph (n ∷ r ∷ ids) = fine_after (test_present (has_node graph n) >> test_present (has_relationship graph r)) (test_ids graph ids) (fine_after (test_present (has_node graph n)) (test_present (has_relationship graph r)) (fine_present (has_node graph n)) (fine_present (has_relationship graph r))) (fine_ids graph ids)

mutual
  fine_output : (graph : Graph) (v : Value) → Fine (test_output graph v)
  fine_output graph (node n) = fine_present (has_node graph n)
  fine_output graph (relationship r) = fine_present (has_relationship graph r)
  fine_output graph (path ids) = fine_ids graph ids
  fine_output graph (list vs) = fine_items graph vs
  fine_output graph (mapping es) = fine_entries graph es
  fine_output graph null = tt
  fine_output graph (boolean b) = tt
  fine_output graph (integer i) = tt
  fine_output graph (text t) = tt

  fine_items : (graph : Graph) (vs : Values) → Fine (test_items graph vs)
  fine_items graph no_items = tt
  fine_items graph (item v vs) = fine_after (test_output graph v) (test_items graph vs) (fine_output graph v) (fine_items graph vs)

  fine_entries : (graph : Graph) (es : Entries) → Fine (test_entries graph es)
  fine_entries graph no_entries = tt
  fine_entries graph (entry k v es) = fine_after (test_output graph v) (test_entries graph es) (fine_output graph v) (fine_entries graph es)

all_given : {X : Type 0} (xs : List X) → AllByRecursion (λ x. ⊤) xs
all_given [] = tt
all_given (x ∷ xs) = (tt, all_given xs)

-- ---- queries

given_each : (parameters : Entries) (cs : List Clause) → AreGiven (named_in (concatenated (map clause_marks cs))) parameters → AllByRecursion (λ c. AreGiven (clause_parameters c) parameters) cs
given_each parameters [] h = tt
given_each parameters (c ∷ cs) h = let both = given_split parameters (clause_marks c) (concatenated (map clause_marks cs)) h in (both.0, given_each parameters cs both.1)

ends_state : (scope : Names) (r : Result State Fault) → EndsWell scope r → Ends (λ next. AreRowsOf scope next.rows) r
ends_state scope (Ok next) h = h
ends_state scope (Err f) h = h

fine_run : (parameters : Entries) (quota : Quota) (scope : Names) (plan : Plan) (cs : List Clause) (state : State) → AllByRecursion ClauseEndsWell cs → AllByRecursion IsClause cs → clauses_faults scope cs ≡ [] → AllByRecursion (λ c. AreGiven (clause_parameters c) parameters) cs → IsPlanFrom scope cs plan → AreRowsOf scope state.rows
    → Fine (clauses_run parameters quota scope plan cs state)
fine_run parameters quota scope plan [] state each are e given planned rows = tt
fine_run parameters quota scope [] (c ∷ cs) state each are e given planned rows = absurd planned
fine_run parameters quota scope (anchors ∷ plan) (c ∷ cs) state each are e given planned rows =
    let setting : Setting = record { parameters = parameters; quota = quota; scope = scope; anchors = anchors } in
    fine_ends (λ x. ⊤) (clause_step setting c state >>= λ next. clauses_run parameters quota (scope_after scope c) plan cs next)
    (ends_then (λ (next : State). AreRowsOf (scope_after scope c) next.rows) (λ x. ⊤) (clause_step setting c state) (λ next. clauses_run parameters quota (scope_after scope c) plan cs next)
    (ends_state (scope_after scope c) (clause_step setting c state) (each.0 setting state are.0 (first_none (clause_faults scope c) (clauses_faults (scope_after scope c) cs) e) given.0 planned.0 rows))
    (λ next after. ends_fine (λ x. ⊤) (clauses_run parameters quota (scope_after scope c) plan cs next)
    (fine_run parameters quota (scope_after scope c) plan cs next each.1 are.1 (second_none (clause_faults scope c) (clauses_faults (scope_after scope c) cs) e) given.1 planned.1 after) (λ x is. tt)))

pub clauses_end_queries : ClausesEndQueries
unfolding static_faults
clauses_end_queries q each plan catalogue parameters graph max_steps max_elements are e given planned f is =
    fine_fault (under_plan (plan_over catalogue plan) q parameters graph max_steps max_elements) f
    (fine_all (clauses_run parameters quota [] (plan_over catalogue plan) q.clauses begin) _
    (fine_run parameters quota [] (plan_over catalogue plan) q.clauses begin each are e (given_each parameters q.clauses (given_split parameters (concatenated (map clause_marks q.clauses)) (flag q.semicolon (sign s.Semicolon)) given).0) (planned_over catalogue [] q.clauses plan planned) ((λ name. refl), tt))
    (λ last. fine_after (each_step (λ done v. test_output last.graph v) tt (flat_map (λ r. r) (output_rows (returns q.clauses) last.rows))) (Ok _)
    (fine_steps (λ x. ⊤) (λ done v. test_output last.graph v) (λ done v t. fine_output last.graph v) tt (flat_map (λ r. r) (output_rows (returns q.clauses) last.rows)) (all_given _)) tt)) is
  where
    quota : Quota
    quota = record { max_steps = max_steps; max_elements = max_elements }

    begin : State
    begin = record { graph = graph; rows = [] ∷ []; steps = 0 }
