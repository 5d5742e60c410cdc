-- SET and REMOVE of all rows, from their cost and what the rows give.
use Rattle.std.proofs.Common.{◌≡◌, ◌≢◌, ℕ, ◌*◌, List, [], ◌∷◌, map, length, Result, Ok, Err, refl, sym, ap, ◌∙◌}
use Rattle.std.proofs.lemmas.List.{length-map}
use Rattle.std.proofs.lemmas.Result.{IfOk-weaker, IfErr-weaker}
use Rattle.std.specs.Prelude.{OnOk, IfErr}
use Rattle.pg_meaning.specs.Answer.{◌>>=◌, each_step}
use Rattle.pg_meaning.specs.Entries.{set_keys}
use Rattle.pg_meaning.specs.Expressions.{evaluate}
use Rattle.pg_meaning.specs.Graph.{Graph}
use Rattle.pg_meaning.specs.Meters.{Setting, State, spend}
use Rattle.pg_meaning.specs.Rows.{Row}
use Rattle.pg_meaning.specs.Tree.{SetItem, set_property, set_all, set_more, set_labels, RemoveItem}
use Rattle.pg_meaning.specs.Updates.{on_target, set_pairs, mapping_pairs, set_item, set_row, set_clause, remove_row, remove_clause}
use Rattle.pg_meaning.specs.Value.{Value, Entries, no_entries}
use Rattle.pg_meaning.specs.declared.fault.Fault.{Fault}
use Rattle.pg_meaning.specs.declared.fault.Fault.TheVariants.{OutOfMemory}
use Rattle.pg_rows.specs.Named.{row_of, rows_named}
use Rattle.pg_rows.specs.States.{Named, Suits, named_rows, state_of}
use Rattle.pg_syntax_tree.specs.View.{set_item_view, remove_item_view}
use Rattle.pg_syntax_tree.specs.declared.clauses.RemoveItem.{RemoveItem as Removal}
use Rattle.pg_syntax_tree.specs.declared.clauses.SetItem.{SetItem as Item}
use Rattle.pg_value_core.specs.Gives.{Gives}
use Rattle.pg_write.specs.Items.{item_of}
use Rattle.pg_write.specs.declared.items.ReadySet.{ReadySet}
use Rattle.pg_write_make.specs.Scenes.{reading}

each_step_same : {S X : Type 0} (f h : S → X → Result S Fault) → ((s : S) (x : X) → f s x ≡ h s x) → (s : S) (xs : List X) → each_step f s xs ≡ each_step h s xs
each_step_same f h e s [] = refl
each_step_same f h e s (x ∷ xs) = λ i. e s x i >>= λ t. each_step_same f h e t xs i

module _ (s : Setting) (parameters : Entries) (is : s.parameters ≡ parameters) (row : Row) where
  item_same : (graph : Graph) (i : SetItem) → set_item s row graph i ≡ set_item (reading parameters) row graph i
  item_same graph (set_property t k e) = ap (λ (p : Entries). on_target graph row t (set_pairs graph (λ v. Ok ((k.text, v) ∷ [])) set_keys (evaluate row p graph e))) is
  item_same graph (set_all t e) = ap (λ (p : Entries). on_target graph row t (set_pairs graph mapping_pairs (λ ps es. set_keys ps no_entries) (evaluate row p graph e))) is
  item_same graph (set_more t e) = ap (λ (p : Entries). on_target graph row t (set_pairs graph mapping_pairs set_keys (evaluate row p graph e))) is
  item_same graph (set_labels t ls) = refl

  pub row_same : (items : List SetItem) (graph : Graph) → set_row s items graph row ≡ set_row (reading parameters) items graph row
  row_same items graph = each_step_same (set_item s row) (set_item (reading parameters) row) item_same graph items

-- a clause that changes the graph alone, row by row
module _ (s : Setting) (step step' : Graph → Row → Result Graph Fault) (same : (graph : Graph) (row : Row) → step graph row ≡ step' graph row) (graph : Graph) (t : Named) (used many : ℕ) where
  abbrev over_rows : Result State Fault
  over_rows = do
    steps ← spend s used (length (named_rows t) * many)
    after ← each_step step graph (named_rows t)
    Ok (record { graph = after; rows = named_rows t; steps = steps })

  abbrev rest : Result Graph Fault → ℕ → Result State Fault
  rest r steps = r >>= λ after. Ok (state_of after t steps)

  charged : over_rows ≡ (spend s used (length t.rows * many) >>= rest (each_step step' graph (named_rows t)))
  charged = λ i. spend s used (length-map t.rows (row_of t.names) i * many) >>= rest (each_step_same step step' same graph (named_rows t) i)

  pub rows_done : (after : Graph) (steps : ℕ) → spend s used (length t.rows * many) ≡ Ok steps → each_step step' graph (named_rows t) ≡ Ok after → over_rows ≡ Ok (state_of after t steps)
  rows_done after steps cost is = charged ∙ ap (λ r. r >>= rest (each_step step' graph (named_rows t))) cost ∙ ap (λ r. rest r steps) is

  pub rows_fault : (e : Fault) (steps : ℕ) → spend s used (length t.rows * many) ≡ Ok steps → each_step step' graph (named_rows t) ≡ Err e → over_rows ≡ Err e
  rows_fault e steps cost is = charged ∙ ap (λ r. r >>= rest (each_step step' graph (named_rows t))) cost ∙ ap (λ r. rest r steps) is

  pub rows_refused : (e : Fault) → spend s used (length t.rows * many) ≡ Err e → over_rows ≡ Err e
  rows_refused e cost = charged ∙ ap (λ r. r >>= rest (each_step step' graph (named_rows t))) cost

-- SET
module _ (s : Setting) (parameters : Entries) (is : s.parameters ≡ parameters) (items : List SetItem) (graph : Graph) (t : Named) (used : ℕ) where
  abbrev sets : Result Graph Fault
  sets = each_step (set_row (reading parameters) items) graph (named_rows t)

  pub set_done : (after : Graph) (steps : ℕ) → spend s used (length t.rows * length items) ≡ Ok steps → sets ≡ Ok after → set_clause s items (state_of graph t used) ≡ Ok (state_of after t steps)
  set_done = rows_done s (set_row s items) (set_row (reading parameters) items) (λ g row. row_same s parameters is row items g) graph t used (length items)

  pub set_fault : (e : Fault) (steps : ℕ) → spend s used (length t.rows * length items) ≡ Ok steps → sets ≡ Err e → set_clause s items (state_of graph t used) ≡ Err e
  set_fault = rows_fault s (set_row s items) (set_row (reading parameters) items) (λ g row. row_same s parameters is row items g) graph t used (length items)

  pub set_refused : (e : Fault) → spend s used (length t.rows * length items) ≡ Err e → set_clause s items (state_of graph t used) ≡ Err e
  set_refused = rows_refused s (set_row s items) (set_row (reading parameters) items) (λ g row. row_same s parameters is row items g) graph t used (length items)

-- REMOVE
module _ (s : Setting) (items : List RemoveItem) (graph : Graph) (t : Named) (used : ℕ) where
  abbrev removals : Result Graph Fault
  removals = each_step (remove_row items) graph (named_rows t)

  pub remove_done : (after : Graph) (steps : ℕ) → spend s used (length t.rows * length items) ≡ Ok steps → removals ≡ Ok after → remove_clause s items (state_of graph t used) ≡ Ok (state_of after t steps)
  remove_done = rows_done s (remove_row items) (remove_row items) (λ g row. refl) graph t used (length items)

  pub remove_fault : (e : Fault) (steps : ℕ) → spend s used (length t.rows * length items) ≡ Ok steps → removals ≡ Err e → remove_clause s items (state_of graph t used) ≡ Err e
  remove_fault = rows_fault s (remove_row items) (remove_row items) (λ g row. refl) graph t used (length items)

  pub remove_refused : (e : Fault) → spend s used (length t.rows * length items) ≡ Err e → remove_clause s items (state_of graph t used) ≡ Err e
  remove_refused = rows_refused s (remove_row items) (remove_row items) (λ g row. refl) graph t used (length items)

-- what the rows gave is what the clause gives
pub set_gives : (s : Setting) (parameters : Entries) (max_steps : ℕ) (t : Named) → Suits s parameters max_steps t.names → (items : List Item) (graph after : Graph) (used steps row_count item_count : ℕ)
    → row_count ≡ length t.rows → item_count ≡ length items
    → (names names' : List (List ℕ)) → names ≡ t.names → names' ≡ t.names
    → (rows : List (List Value)) → rows ≡ t.rows
    → (ready : List ReadySet) → map (item_of names) ready ≡ map set_item_view items
    → spend s used (row_count * item_count) ≡ Ok steps
    → (r : Result (Unit {0}) Fault)
    → OnOk r (each_step (set_row (reading parameters) (map (item_of names') ready)) graph (rows_named names' rows) ≡ Ok after)
    → IfErr r (λ e. e ≢ OutOfMemory → each_step (set_row (reading parameters) (map (item_of names') ready)) graph (rows_named names' rows) ≡ Err e)
    → Gives r (set_clause s (map set_item_view items) (state_of graph t used)) (λ _. state_of after t steps)
set_gives s parameters max_steps t suits items graph after used steps row_count item_count row_is item_is names names' here here' rows rows_are ready ready_are cost r ok err =
    let wanted = map set_item_view items in
    let same : each_step (set_row (reading parameters) wanted) graph (named_rows t) ≡ each_step (set_row (reading parameters) (map (item_of names') ready)) graph (rows_named names' rows) =
    ap (λ is. each_step (set_row (reading parameters) is) graph (named_rows t)) (sym ready_are ∙ ap (λ ns. map (item_of ns) ready) (here ∙ sym here'))
    ∙ (λ i. each_step (set_row (reading parameters) (map (item_of names') ready)) graph (rows_named (sym here' i) (sym rows_are i))) in
    let charge : spend s used (length t.rows * length wanted) ≡ Ok steps =
    (λ i. spend s used (sym row_is i * (length-map items set_item_view ∙ sym item_is) i)) ∙ cost in
    record {
      ok = IfOk-weaker r _ _ (λ u h. set_done s parameters suits.parameters_are wanted graph t used after steps charge (same ∙ h)) ok;
      err = IfErr-weaker r _ _ (λ e h. λ other. set_fault s parameters suits.parameters_are wanted graph t used e steps charge (same ∙ h other)) err;
    }

pub remove_gives : (s : Setting) (t : Named) (items : List Removal) (graph after : Graph) (used steps row_count item_count : ℕ)
    → row_count ≡ length t.rows → item_count ≡ length items
    → (names : List (List ℕ)) → names ≡ t.names
    → (rows : List (List Value)) → rows ≡ t.rows
    → spend s used (row_count * item_count) ≡ Ok steps
    → (r : Result (Unit {0}) Fault)
    → OnOk r (each_step (remove_row (map remove_item_view items)) graph (rows_named names rows) ≡ Ok after)
    → IfErr r (λ e. e ≢ OutOfMemory → each_step (remove_row (map remove_item_view items)) graph (rows_named names rows) ≡ Err e)
    → Gives r (remove_clause s (map remove_item_view items) (state_of graph t used)) (λ _. state_of after t steps)
remove_gives s t items graph after used steps row_count item_count row_is item_is names here rows rows_are cost r ok err =
    let wanted = map remove_item_view items in
    let all : Result Graph Fault = each_step (remove_row wanted) graph (named_rows t) in
    let given : Result Graph Fault = each_step (remove_row wanted) graph (rows_named names rows) in
    let same : all ≡ given = (λ i. each_step (remove_row wanted) graph (rows_named (sym here i) (sym rows_are i))) in
    let charge : spend s used (length t.rows * length wanted) ≡ Ok steps =
    (λ i. spend s used (sym row_is i * (length-map items remove_item_view ∙ sym item_is) i)) ∙ cost in
    record {
      ok = IfOk-weaker r (λ u. given ≡ Ok after) (λ u. remove_clause s wanted (state_of graph t used) ≡ Ok (state_of after t steps)) (λ u h. remove_done s wanted graph t used after steps charge (same ∙ h)) ok;
      err = IfErr-weaker r (λ e. e ≢ OutOfMemory → given ≡ Err e) (λ e. e ≢ OutOfMemory → remove_clause s wanted (state_of graph t used) ≡ Err e) (λ e h. λ other. remove_fault s wanted graph t used e steps charge (same ∙ h other)) err;
    }

-- a clause whose cost is refused
pub set_stops : (s : Setting) (parameters : Entries) → s.parameters ≡ parameters → (t : Named) (items : List Item) (graph : Graph) (used row_count item_count : ℕ)
    → row_count ≡ length t.rows → item_count ≡ length items
    → (e : Fault) → spend s used (row_count * item_count) ≡ Err e → set_clause s (map set_item_view items) (state_of graph t used) ≡ Err e
set_stops s parameters is t items graph used row_count item_count row_is item_is e cost =
    set_refused s parameters is (map set_item_view items) graph t used e ((λ i. spend s used (sym row_is i * (length-map items set_item_view ∙ sym item_is) i)) ∙ cost)

pub remove_stops : (s : Setting) (t : Named) (items : List Removal) (graph : Graph) (used row_count item_count : ℕ)
    → row_count ≡ length t.rows → item_count ≡ length items
    → (e : Fault) → spend s used (row_count * item_count) ≡ Err e → remove_clause s (map remove_item_view items) (state_of graph t used) ≡ Err e
remove_stops s t items graph used row_count item_count row_is item_is e cost =
    remove_refused s (map remove_item_view items) graph t used e ((λ i. spend s used (sym row_is i * (length-map items remove_item_view ∙ sym item_is) i)) ∙ cost)
