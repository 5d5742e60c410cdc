-- UNWIND, SET, REMOVE and DELETE go well or end in a fault of a run.
use Rattle.std.proofs.Common.{◌≡◌, ℕ, Bool, true, false, not, List, [], ◌∷◌, map, flat_map, Option, Some, None, Result, Ok, Err, refl}
use Rattle.std.specs.Bool.{⊤}
use Rattle.std.specs.List.{AllByRecursion, list_any}
use Rattle.pg_meaning.specs.Agreement.{AreGiven, AreRowsOf}
use Rattle.pg_meaning.specs.AgreementLaws.{named_in, given_split}
use Rattle.pg_meaning.specs.Answer.{◌>>=◌, each_answer, each_step}
use Rattle.pg_soundness.proofs.RowNames.{BindsOnly, binds_new}
use Rattle.pg_meaning.specs.Entries.{set_keys}
use Rattle.pg_meaning.specs.Expressions.{evaluate}
use Rattle.pg_meaning.specs.Grammar.{Mark, key, var, flag, further, commas, marks, set_marks, IsWellFormed, IsSetItem}
use Rattle.pg_meaning.specs.Graph.{Graph, has_node, has_relationship, remove_elements}
use Rattle.pg_meaning.specs.ListsLaws.{all_joined, all_mapped, all_trivial}
use Rattle.pg_meaning.specs.Meters.{Setting, State, spend}
use Rattle.pg_meaning.specs.Names.{Names, add_name}
use Rattle.pg_meaning.specs.Reading.{unwound, unwound_at}
use Rattle.pg_meaning.specs.Rows.{Row, value_in, bind_new}
use Rattle.pg_meaning.specs.StaticFaults.{faults_of, target_faults, set_faults}
use Rattle.pg_meaning.specs.Tree.{Expression, Name, SetItem, set_property, set_all, set_more, set_labels, RemoveItem, remove_property, remove_labels, unwind, set_items, remove_items, delete}
use Rattle.pg_meaning.specs.Updates.{test_storable, mapping_pairs, Target, nothing, at_node, at_relationship, target_value, target_of, is_nothing, change_labels, set_pairs, on_target, set_item, set_row, remove_item, remove_row, Doomed, doom, doom_row, doomed_nodes, doomed_relationships, is_connected, test_unconnected}
use Rattle.pg_meaning.specs.Value.{Value, null, boolean, integer, text, list, mapping, node, relationship, path, Entries}
use Rattle.pg_meaning.specs.declared.fault.Fault.{Fault}
use Rattle.pg_meaning.specs.declared.fault.Fault.TheVariants.{DeletedEntity}
use Rattle.pg_meaning.specs.declared.lexemes.Keyword.TheVariants as k
use Rattle.pg_soundness.proofs.FaultsSteps.{Ends, ends_all, ends_after, ends_then, ends_each, fine_steps, fine_spend, Ready, fine_ready}
use Rattle.pg_soundness.proofs.FaultsValues.{Fine, fine_all, fine_after, fine_unless}
use Rattle.pg_soundness.proofs.MatchScopes.{first_none, second_none}
use Rattle.pg_soundness.specs.Faults.{EndsWell, ClauseEndsWell}

pub state_ends : (scope : Names) (r : Result State Fault) → Ends (λ next. AreRowsOf scope next.rows) r → EndsWell scope r
state_ends scope (Ok next) h = h
state_ends scope (Err f) h = h

-- ---- lists of expressions

pub further_given : (parameters : Entries) (mss : List (List Mark)) → AreGiven (named_in (further mss)) parameters → AllByRecursion (λ ms. AreGiven (named_in ms) parameters) mss
further_given parameters [] h = tt
further_given parameters (ms ∷ mss) h = let parts = given_split parameters ms (further mss) h in (parts.0, further_given parameters mss parts.1)

pub commas_given : (parameters : Entries) (mss : List (List Mark)) → AreGiven (named_in (commas mss)) parameters → AllByRecursion (λ ms. AreGiven (named_in ms) parameters) mss
commas_given parameters [] h = tt
commas_given parameters (ms ∷ mss) h = let parts = given_split parameters ms (further mss) h in (parts.0, further_given parameters mss parts.1)

pub none_each : {X Y : Type 0} (f : X → List Y) (xs : List X) → flat_map f xs ≡ [] → AllByRecursion (λ x. f x ≡ []) xs
none_each f [] e = tt
none_each f (x ∷ xs) e = (first_none (f x) (flat_map f xs) e, none_each f xs (second_none (f x) (flat_map f xs) e))

all_ready : (scope : Names) (parameters : Entries) (es : List Expression) → AllByRecursion IsWellFormed es → AllByRecursion (λ e. faults_of scope e ≡ []) es → AllByRecursion (λ ms. AreGiven (named_in ms) parameters) (map marks es) → AllByRecursion (Ready scope parameters) es
all_ready scope parameters [] w e h = tt
all_ready scope parameters (x ∷ es) w e h = ((w.0, e.0, h.0), all_ready scope parameters es w.1 e.1 h.1)

-- ---- UNWIND

fine_unwound : (v : Value) → Fine (unwound v)
fine_unwound null = tt
fine_unwound (list vs) = tt
fine_unwound v = refl

pub unwind_ends : (e : Expression) (name : Name) → ClauseEndsWell (unwind e name)
unwind_ends e name s state are faults given planned rows =
    state_ends (add_name s.scope name.text) _
    (ends_then (AllByRecursion (λ l. BindsOnly s.scope l.0)) (λ next. AreRowsOf (add_name s.scope name.text) next.rows) (each_answer (unwound_at s state.graph e) state.rows) _
    (ends_each (BindsOnly s.scope) (λ l. BindsOnly s.scope l.0) (unwound_at s state.graph e) at_row state.rows rows)
    (λ lists h. ends_all (λ next. AreRowsOf (add_name s.scope name.text) next.rows) (spend s state.steps _) _ (fine_spend s state.steps _) (λ steps. bound lists h)))
  where
    ready : Ready s.scope s.parameters e
    ready = (are, first_none (faults_of s.scope e) _ faults, (given_split s.parameters (marks e) (key k.As ∷ var name ∷ []) given).0)

    at_row : (row : Row) → BindsOnly s.scope row → Ends (λ (l : Row × List Value). BindsOnly s.scope l.0) (unwound_at s state.graph e row)
    at_row row b =
        ends_all (λ (l : Row × List Value). BindsOnly s.scope l.0) (evaluate row s.parameters state.graph e) (λ v. unwound v >>= λ vs. Ok (row, vs)) (fine_ready s.scope s.parameters state.graph row b e ready)
        (λ v. ends_all (λ (l : Row × List Value). BindsOnly s.scope l.0) (unwound v) (λ vs. Ok (row, vs)) (fine_unwound v) (λ vs. b))

    bound : (lists : List (Row × List Value)) → AllByRecursion (λ l. BindsOnly s.scope l.0) lists → AreRowsOf (add_name s.scope name.text) (flat_map (λ l. map (λ v. bind_new name.text v l.0) l.1) lists)
    bound [] h = tt
    bound (l ∷ lists) h =
        all_joined (BindsOnly (add_name s.scope name.text)) (map (λ v. bind_new name.text v l.0) l.1) (flat_map (λ l. map (λ v. bind_new name.text v l.0) l.1) lists)
        (all_mapped (λ v. bind_new name.text v l.0) (λ v. ⊤) (BindsOnly (add_name s.scope name.text)) (λ v t. binds_new s.scope l.0 name.text v h.0) l.1 (all_trivial l.1)) (bound lists h.1)

-- ---- SET and REMOVE

fine_target : (graph : Graph) (o : Option Value) → Fine (target_value graph o)
fine_target graph None = refl
fine_target graph (Some null) = tt
fine_target graph (Some (node n)) = elim (has_node graph n) as (λ b. Fine (elim b as (λ b. Result Target Fault) [ true ↦ Ok (at_node n) | false ↦ Err DeletedEntity ])) [ true ↦ tt | false ↦ refl ]
fine_target graph (Some (relationship r)) = elim (has_relationship graph r) as (λ b. Fine (elim b as (λ b. Result Target Fault) [ true ↦ Ok (at_relationship r) | false ↦ Err DeletedEntity ])) [ true ↦ tt | false ↦ refl ]
fine_target graph (Some (boolean b)) = refl
fine_target graph (Some (integer i)) = refl
fine_target graph (Some (text t)) = refl
fine_target graph (Some (list vs)) = refl
fine_target graph (Some (mapping es)) = refl
fine_target graph (Some (path ids)) = refl

fine_on_target : (graph : Graph) (row : Row) (name : Name) (f : Target → Result Graph Fault) → ((t : Target) → Fine (f t)) → Fine (on_target graph row name f)
fine_on_target graph row name f h =
    fine_all (target_of graph row name) _ (fine_target graph (value_in name.text row))
    (λ t. elim (is_nothing t) as (λ b. Fine (elim b as (λ b. Result Graph Fault) [ true ↦ Ok graph | false ↦ f t ])) [ true ↦ tt | false ↦ h t ])

pub fine_mapping : (v : Value) → Fine (mapping_pairs v)
fine_mapping (mapping es) = tt
fine_mapping v = refl

pub fine_storable : (pairs : List (List ℕ × Value)) → Fine (test_storable pairs)
fine_storable pairs = fine_unless _ _ refl

fine_set_pairs : (graph : Graph) (pairs_of : Value → Result (List (List ℕ × Value)) Fault) (change : List (List ℕ × Value) → Entries → Entries) (value : Result Value Fault) (t : Target) → ((v : Value) → Fine (pairs_of v)) → Fine value → Fine (set_pairs graph pairs_of change value t)
fine_set_pairs graph pairs_of change value t h g =
    fine_all value _ g (λ v. fine_all (pairs_of v) _ (h v) (λ pairs. fine_after (test_storable pairs) (Ok _) (fine_storable pairs) tt))

fine_labels : (f : List (List ℕ) → List (List ℕ)) (t : Target) (graph : Graph) → Fine (change_labels f t graph)
fine_labels f nothing graph = tt
fine_labels f (at_node n) graph = tt
fine_labels f (at_relationship r) graph = refl

abbrev pub SetReady : Names → Entries → SetItem → Type 0
SetReady scope parameters (set_property t n e) = Ready scope parameters e
SetReady scope parameters (set_all t e) = Ready scope parameters e
SetReady scope parameters (set_more t e) = Ready scope parameters e
SetReady scope parameters (set_labels t ls) = ⊤

fine_set_item : (scope : Names) (s : Setting) (row : Row) → BindsOnly scope row → (graph : Graph) (x : SetItem) → SetReady scope s.parameters x → Fine (set_item s row graph x)
fine_set_item scope s row b graph (set_property t n e) r = fine_on_target graph row t _ (λ target. fine_set_pairs graph (λ v. Ok ((n.text, v) ∷ [])) set_keys (evaluate row s.parameters graph e) target (λ v. tt) (fine_ready scope s.parameters graph row b e r))
fine_set_item scope s row b graph (set_all t e) r = fine_on_target graph row t _ (λ target. fine_set_pairs graph mapping_pairs _ (evaluate row s.parameters graph e) target fine_mapping (fine_ready scope s.parameters graph row b e r))
fine_set_item scope s row b graph (set_more t e) r = fine_on_target graph row t _ (λ target. fine_set_pairs graph mapping_pairs _ (evaluate row s.parameters graph e) target fine_mapping (fine_ready scope s.parameters graph row b e r))
fine_set_item scope s row b graph (set_labels t ls) r = fine_on_target graph row t _ (λ target. fine_labels _ target graph)

pub fine_set_row : (scope : Names) (s : Setting) (items : List SetItem) → AllByRecursion (SetReady scope s.parameters) items → (graph : Graph) (row : Row) → BindsOnly scope row → Fine (set_row s items graph row)
fine_set_row scope s items r graph row b = fine_steps (SetReady scope s.parameters) (set_item s row) (λ g x h. fine_set_item scope s row b g x h) graph items r

set_item_ready : (scope : Names) (parameters : Entries) (x : SetItem) → IsSetItem x → set_faults scope x ≡ [] → AreGiven (named_in (set_marks x)) parameters → SetReady scope parameters x
set_item_ready scope parameters (set_property t n e) w f h = (w, second_none (target_faults scope t) (faults_of scope e) f, h)
set_item_ready scope parameters (set_all t e) w f h = (w, second_none (target_faults scope t) (faults_of scope e) f, h)
set_item_ready scope parameters (set_more t e) w f h = (w, second_none (target_faults scope t) (faults_of scope e) f, h)
set_item_ready scope parameters (set_labels t ls) w f h = tt

pub set_items_ready : (scope : Names) (parameters : Entries) (xs : List SetItem) → AllByRecursion IsSetItem xs → AllByRecursion (λ x. set_faults scope x ≡ []) xs → AllByRecursion (λ ms. AreGiven (named_in ms) parameters) (map set_marks xs) → AllByRecursion (SetReady scope parameters) xs
set_items_ready scope parameters [] w f h = tt
set_items_ready scope parameters (x ∷ xs) w f h = (set_item_ready scope parameters x w.0 f.0 h.0, set_items_ready scope parameters xs w.1 f.1 h.1)

pub set_ends : (xs : List SetItem) → ClauseEndsWell (set_items xs)
set_ends xs s state are faults given planned rows =
    state_ends s.scope _
    (ends_all (λ next. AreRowsOf s.scope next.rows) (spend s state.steps _) _ (fine_spend s state.steps _)
    (λ steps. ends_all (λ next. AreRowsOf s.scope next.rows) (each_step (set_row s xs) state.graph state.rows) _
    (fine_steps (BindsOnly s.scope) (set_row s xs) (λ g row b. fine_set_row s.scope s xs (set_items_ready s.scope s.parameters xs are.1 (none_each (set_faults s.scope) xs faults) (commas_given s.parameters (map set_marks xs) given)) g row b) state.graph state.rows rows)
    (λ graph. rows)))

fine_remove_item : (row : Row) (graph : Graph) (x : RemoveItem) → Fine (remove_item row graph x)
fine_remove_item row graph (remove_property t n) = fine_on_target graph row t _ (λ target. tt)
fine_remove_item row graph (remove_labels t ls) = fine_on_target graph row t _ (λ target. fine_labels _ target graph)

pub remove_ends : (xs : List RemoveItem) → ClauseEndsWell (remove_items xs)
remove_ends xs s state are faults given planned rows =
    state_ends s.scope _
    (ends_all (λ next. AreRowsOf s.scope next.rows) (spend s state.steps _) _ (fine_spend s state.steps _)
    (λ steps. ends_all (λ next. AreRowsOf s.scope next.rows) (each_step (remove_row xs) state.graph state.rows) _
    (fine_steps (λ row. ⊤) (remove_row xs) (λ g row t. fine_steps (λ x. ⊤) (remove_item row) (λ h x u. fine_remove_item row h x) g xs (all_trivial xs)) state.graph state.rows (all_trivial state.rows))
    (λ graph. rows)))

-- ---- DELETE

fine_doom : (d : Doomed) (v : Value) → Fine (doom d v)
fine_doom d null = tt
fine_doom d (node n) = tt
fine_doom d (relationship r) = tt
fine_doom d (path ids) = tt
fine_doom d v = refl

fine_unconnected : (graph : Graph) (ns : List ℕ) → Fine (test_unconnected graph ns)
fine_unconnected graph ns = fine_unless (not (list_any (is_connected graph) ns)) _ refl

pub delete_ends : (is_detach : Bool) (es : List Expression) → ClauseEndsWell (delete is_detach es)
delete_ends is_detach es s state are faults given planned rows =
    state_ends s.scope _
    (ends_all (λ next. AreRowsOf s.scope next.rows) (each_step (doom_row s state.graph es) ([], []) state.rows) _
    (fine_steps (BindsOnly s.scope) (doom_row s state.graph es) (λ d row b. fine_steps (Ready s.scope s.parameters) (λ c e. evaluate row s.parameters state.graph e >>= doom c) (λ c e r. fine_all (evaluate row s.parameters state.graph e) (doom c) (fine_ready s.scope s.parameters state.graph row b e r) (fine_doom c)) d es ready) ([], []) state.rows rows)
    (λ d. ends_all (λ next. AreRowsOf s.scope next.rows) (spend s state.steps _) _ (fine_spend s state.steps _)
    (λ steps. ends_after (λ next. AreRowsOf s.scope next.rows) (test_unconnected (remove_elements [] (doomed_relationships is_detach state.graph d) state.graph) (doomed_nodes state.graph d))
    (Ok (record { graph = remove_elements (doomed_nodes state.graph d) (doomed_relationships is_detach state.graph d) state.graph; rows = state.rows; steps = steps }))
    (fine_unconnected (remove_elements [] (doomed_relationships is_detach state.graph d) state.graph) (doomed_nodes state.graph d)) rows)))
  where
    ready : AllByRecursion (Ready s.scope s.parameters) es
    ready = all_ready s.scope s.parameters es are.1 (none_each (faults_of s.scope) es faults) (commas_given s.parameters (map marks es) (given_split s.parameters (flag is_detach (key k.Detach)) (key k.Delete ∷ commas (map marks es)) given).1)
