-- MERGE of all rows, in the columns of the call.
use Rattle.std.proofs.Common.{◌≡◌, ◌≤◌, ◌+◌, ℕ, Bool, true, false, cond, List, [], ◌∷◌, ◌++◌, map, length, take, Option, Some, None, Result, Ok, Err, refl, sym, ap, ◌∙◌, arith}
use Rattle.std.proofs.lemmas.List.{append_assoc, append-nil, length-append}
use Rattle.std.proofs.Math.Seq.{take-append_seam}
use Rattle.std.specs.List.{AllByRecursion}
use Rattle.pg_meaning.specs.Answer.{◌>>=◌, ◌>>◌, each_step}
use Rattle.pg_meaning.specs.Graph.{Graph}
use Rattle.pg_meaning.specs.Meters.{Setting, State, spend}
use Rattle.pg_meaning.specs.Names.{Names, is_among}
use Rattle.pg_meaning.specs.Patterns.{add_hop_names, add_if_named, add_path_names, Assignment, bind_match, node_name, relationship_name, text_of}
use Rattle.pg_meaning.specs.Plans.{Anchor}
use Rattle.pg_meaning.specs.Reading.{test_paths}
use Rattle.pg_meaning.specs.Rows.{Row}
use Rattle.pg_meaning.specs.Tree.{NodePattern, PathPattern, RelationshipPattern, SetItem}
use Rattle.pg_meaning.specs.Updates.{items_on, merge_clause, merge_found, merge_row, test_not_null}
use Rattle.pg_meaning.specs.Value.{Value, Entries}
use Rattle.pg_meaning.specs.Walks.{paths_wanted}
use Rattle.pg_meaning.specs.declared.fault.Fault.{Fault}
use Rattle.pg_rows.specs.Named.{row_of, rows_named}
use Rattle.pg_rows.specs.States.{Named, state_of}
use Rattle.pg_write.proofs.FoundLemmas.{cut}
use Rattle.pg_write.specs.Mergings.{asked, found_at, row_merged, rows_merged}

each_step_same : {S X : Type 0} (f h : S → X → Result S Fault) → ((s : S) (x : X) → f s x ≡ h s x) → (s : S) (xs : List X) → each_step f s xs ≡ each_step h s xs
each_step_same f h e s [] = refl
each_step_same f h e s (x ∷ xs) = λ i. e s x i >>= λ t. each_step_same f h e t xs i

-- ---- names that a path adds

abbrev Longer : Names → Names → Type 0
Longer xs ys = (more : Names) × (ys ≡ xs ++ more)

one_longer : (o : Option (List ℕ)) (names : Names) → Longer names (add_if_named o names)
one_longer None names = ([], sym (append-nil names))
one_longer (Some n) names = by_test (is_among names n)
  where
    by_test : (b : Bool) → Longer names (cond b names (names ++ n ∷ []))
    by_test true = ([], sym (append-nil names))
    by_test false = (n ∷ [], refl)

both_longer : (xs ys zs : Names) → Longer xs ys → Longer ys zs → Longer xs zs
both_longer xs ys zs a b = (a.0 ++ b.0, b.1 ∙ ap (λ vs. vs ++ b.0) a.1 ∙ append_assoc xs a.0 b.0)

hops_longer : (hs : List (RelationshipPattern × NodePattern)) (names : Names) → Longer names (add_hop_names hs names)
hops_longer [] names = ([], sym (append-nil names))
hops_longer (h ∷ hs) names =
    let first = add_if_named (relationship_name h.0) names in
    let second = add_if_named (node_name h.1) first in
    both_longer names second (add_hop_names hs second) (both_longer names first second (one_longer (relationship_name h.0) names) (one_longer (node_name h.1) first)) (hops_longer hs second)

path_longer : (p : PathPattern) (names : Names) → Longer names (add_path_names (p ∷ []) names)
path_longer p names =
    let first = add_if_named (text_of p.variable) names in
    let second = add_if_named (node_name p.first) first in
    both_longer names second (add_hop_names p.hops second) (both_longer names first second (one_longer (text_of p.variable) names) (one_longer (node_name p.first) first)) (hops_longer p.hops second)

pub first_kept : (p : PathPattern) (names after : Names) (bound : ℕ) → after ≡ add_path_names (p ∷ []) names → bound ≡ length names → take bound after ≡ names
first_kept p names after bound is b =
    let e = path_longer p names in
    (λ i. take (b i) ((is ∙ e.1) i)) ∙ take-append_seam names e.0

pub not_fewer : (p : PathPattern) (names after : Names) (bound : ℕ) → after ≡ add_path_names (p ∷ []) names → bound ≡ length names → bound ≤ length after
not_fewer p names after bound is b =
    let e = path_longer p names in
    let all : length after ≡ length names + length e.0 = ap length (is ∙ e.1) ∙ length-append names e.0 in
    omega (arith, all, b)

-- rows under more names
rows_cut : (names scope : Names) (rows : List (List Value)) → take (length scope) names ≡ scope → AllByRecursion (λ v. length v ≡ length scope) rows → rows_named names rows ≡ rows_named scope rows
rows_cut names scope [] e wide = refl
rows_cut names scope (v ∷ rows) e wide =
    λ i. (cut names v ∙ ap (λ k. row_of (take k names) v) wide.0 ∙ ap (λ ns. row_of ns v) e) i ∷ rows_cut names scope rows e wide.1 i

-- ---- the clause, in its parts

regrouped : {X Z : Type 0} (t : Result (Unit {0}) Fault) (w : Result X Fault) (n : X → Result (Unit {0}) Fault) (f : X → Result Z Fault) → (t >> (w >>= λ v. n v >> f v)) ≡ ((t >> (w >>= λ v. n v >> Ok v)) >>= f)
regrouped (Err e) w n f = refl
regrouped (Ok u) (Err e) n f = refl
regrouped {X} {Z} (Ok u) (Ok v) n f = by_test (n v)
  where
    by_test : (r : Result (Unit {0}) Fault) → (r >> f v) ≡ ((r >> Ok v) >>= f)
    by_test (Ok u) = refl
    by_test (Err e) = refl

module _ (s : Setting) (p : PathPattern) (ons : List (Bool × List SetItem)) where
  found_is : (state : State) (row : Row) (as_ : List Assignment) (charge : ℕ)
      → merge_found s p ons state row (as_, charge) ≡ rows_merged s p (items_on true ons) (items_on false ons) state row (map (λ a. bind_match state.graph (p ∷ []) a row) as_)
  found_is state row [] charge = refl
  found_is state row (a ∷ as_) charge = refl

  row_is : (state : State) (row : Row) → merge_row s p ons state row ≡ row_merged s p (items_on true ons) (items_on false ons) state row
  row_is state row =
      let with_steps : ℕ → State = λ steps. record { graph = state.graph; rows = state.rows; steps = steps } in
      regrouped (test_paths false state.graph row (p ∷ [])) (paths_wanted row s.parameters state.graph (p ∷ [])) test_not_null
      (λ wanted. spend s state.steps (found_at s p state.graph row wanted).1 >>= λ steps. merge_found s p ons (with_steps steps) row (found_at s p state.graph row wanted))
      ∙ (λ i. asked s p state.graph row >>= λ wanted. spend s state.steps (found_at s p state.graph row wanted).1 >>= λ steps.
      found_is (with_steps steps) row (found_at s p state.graph row wanted).0 (found_at s p state.graph row wanted).1 i)

-- ---- the setting of the call

setting_same : (s : Setting) (parameters : Entries) (max_steps max_elements : ℕ) (scope : Names) (anchors : List Anchor) → s.parameters ≡ parameters → s.quota.max_steps ≡ max_steps → s.quota.max_elements ≡ max_elements → s.scope ≡ scope → s.anchors ≡ anchors
    → s ≡ record { parameters = parameters; quota = record { max_steps = max_steps; max_elements = max_elements }; scope = scope; anchors = anchors }
setting_same s parameters max_steps max_elements scope anchors a b c d e = λ i. record { parameters = a i; quota = record { max_steps = b i; max_elements = c i }; scope = d i; anchors = e i }

pub clause_is : (s : Setting) (p : PathPattern) (ons : List (Bool × List SetItem)) (graph : Graph) (t : Named) (used : ℕ) (parameters : Entries) (max_steps max_elements : ℕ) (anchors : List Anchor) (names scope : Names) (rows : List (List Value))
    → s.parameters ≡ parameters → s.quota.max_steps ≡ max_steps → s.quota.max_elements ≡ max_elements → s.scope ≡ t.names → s.anchors ≡ anchors
    → scope ≡ t.names → take (length scope) names ≡ scope → AllByRecursion (λ v. length v ≡ length scope) rows → rows ≡ t.rows → (first : Names) → first ≡ scope
    → merge_clause s p ons (state_of graph t used)
    ≡ each_step (row_merged (record { parameters = parameters; quota = record { max_steps = max_steps; max_elements = max_elements }; scope = first; anchors = anchors }) p (items_on true ons) (items_on false ons)) (record { graph = graph; rows = []; steps = used }) (rows_named names rows)
clause_is s p ons graph t used parameters max_steps max_elements anchors names scope rows a b c d e here kept wide same first is =
    let none : State = record { graph = graph; rows = []; steps = used } in
    let setting = setting_same s parameters max_steps max_elements first anchors a b c (d ∙ sym here ∙ sym is) e in
    let table_rows : rows_named t.names t.rows ≡ rows_named names rows = (λ i. rows_named (sym here i) (sym same i)) ∙ sym (rows_cut names scope rows kept wide) in
    each_step_same (merge_row s p ons) (row_merged s p (items_on true ons) (items_on false ons)) (row_is s p ons) none (rows_named t.names t.rows)
    ∙ (λ i. each_step (row_merged (setting i) p (items_on true ons) (items_on false ons)) none (table_rows i))
