-- The ON items of a MERGE, row after row: they keep the graph a graph, and are those that the meaning runs.
use Rattle.std.proofs.Common.{◌≡◌, ℕ, true, false, ◌⊎◌, inl, inr, List, [], ◌∷◌, ◌++◌, length, IsTrue, Result, Ok, Err, refl, sym, ap, ◌∙◌, append_assoc, append-nil}
use Rattle.std.specs.Bool.{⊤}
use Rattle.std.specs.List.Sorted.{IsStrictlySortedBy}
use Rattle.pg_meaning.specs.Answer.{◌>>=◌, ◌>>◌, each_step}
use Rattle.pg_meaning.specs.Entries.{are_rising, set_keys}
use Rattle.pg_meaning.specs.EntriesLaws.{set_keys_keeps_rising}
use Rattle.pg_meaning.specs.Expressions.{evaluate}
use Rattle.pg_meaning.specs.Graph.{Graph, IsGraph, has_node}
use Rattle.pg_meaning.specs.GraphLaws.{change_node_keeps_graph, change_relationship_keeps_graph, found_among}
use Rattle.pg_meaning.specs.Meters.{Setting, State, spend}
use Rattle.pg_meaning.specs.Names.{put_texts}
use Rattle.pg_meaning.specs.NamesLaws.{put_texts_rise}
use Rattle.pg_meaning.specs.Order.{text_order}
use Rattle.pg_meaning.specs.Patterns.{texts_of}
use Rattle.pg_soundness.proofs.ProjectedParts.{spend_fault}
use Rattle.pg_meaning.specs.Rows.{Row}
use Rattle.pg_meaning.specs.Tree.{Name, SetItem, set_property, set_all, set_more, set_labels}
use Rattle.pg_meaning.specs.Updates.{Target, nothing, at_node, at_relationship, target_of, is_nothing, change_properties, change_labels, set_pairs, mapping_pairs, test_storable, on_target, set_item, set_row, merged_row}
use Rattle.pg_meaning.specs.Value.{Value, Entries, no_entries}
use Rattle.pg_meaning.specs.declared.fault.Fault.{Fault}
use Rattle.pg_meaning.specs.declared.fault.Fault.TheVariants.{StepQuota}

abbrev pub Keeps : Result Graph Fault → Type 0
Keeps (Ok after) = IsGraph after
Keeps (Err f) = ⊤

abbrev KeepsRising : (Entries → Entries) → Type 0
KeepsRising f = (es : Entries) → IsTrue (are_rising es) → IsTrue (are_rising (f es))

properties_keep : (f : Entries → Entries) (target : Target) (graph : Graph) → KeepsRising f → IsGraph graph → IsGraph (change_properties f target graph)
properties_keep f nothing graph rising g = g
properties_keep f (at_node n) graph rising g =
    change_node_keeps_graph (λ e. record e { properties = f e.properties }) n graph
    (λ e is. (
      found_among (λ x. IsStrictlySortedBy text_order x.1.labels) n e graph.nodes g.labels_rise is,
      rising e.properties (found_among (λ x. IsTrue (are_rising x.1.properties)) n e graph.nodes g.node_keys_rise is),
    )) g
properties_keep f (at_relationship r) graph rising g =
    change_relationship_keeps_graph (λ e. record e { properties = f e.properties }) r graph
    (λ e is. record {
      source = found_among (λ x. IsTrue (has_node graph x.1.source)) r e graph.relationships g.sources is;
      target = found_among (λ x. IsTrue (has_node graph x.1.target)) r e graph.relationships g.targets is;
      keys = rising e.properties (found_among (λ x. IsTrue (are_rising x.1.properties)) r e graph.relationships g.relationship_keys_rise is);
    }) g

labels_keep : (labels : List (List ℕ)) (target : Target) (graph : Graph) → IsGraph graph → Keeps (change_labels (put_texts labels) target graph)
labels_keep labels nothing graph g = g
labels_keep labels (at_node n) graph g =
    change_node_keeps_graph (λ e. record e { labels = put_texts labels e.labels }) n graph
    (λ e is. (
      put_texts_rise labels e.labels (found_among (λ x. IsStrictlySortedBy text_order x.1.labels) n e graph.nodes g.labels_rise is),
      found_among (λ x. IsTrue (are_rising x.1.properties)) n e graph.nodes g.node_keys_rise is,
    )) g
labels_keep labels (at_relationship r) graph g = tt

module _ (graph : Graph) (g : IsGraph graph) where
  pairs_keep : (pairs_of : Value → Result (List (List ℕ × Value)) Fault) (change : List (List ℕ × Value) → Entries → Entries) (value : Result Value Fault) (target : Target)
      → ((pairs : List (List ℕ × Value)) → KeepsRising (change pairs)) → Keeps (set_pairs graph pairs_of change value target)
  pairs_keep pairs_of change (Err f) target rising = tt
  pairs_keep pairs_of change (Ok v) target rising = by_pairs (pairs_of v)
    where
      by_test : (pairs : List (List ℕ × Value)) (t : Result (Unit {0}) Fault) → Keeps (t >> Ok (change_properties (change pairs) target graph))
      by_test pairs (Err f) = tt
      by_test pairs (Ok x) = properties_keep (change pairs) target graph (rising pairs) g

      by_pairs : (r : Result (List (List ℕ × Value)) Fault) → Keeps (r >>= λ pairs. test_storable pairs >> Ok (change_properties (change pairs) target graph))
      by_pairs (Err f) = tt
      by_pairs (Ok pairs) = by_test pairs (test_storable pairs)

  target_keeps : (row : Row) (name : Name) (f : Target → Result Graph Fault) → ((target : Target) → Keeps (f target)) → Keeps (on_target graph row name f)
  target_keeps row name f keeps = by_target (target_of graph row name)
    where
      by_target : (r : Result Target Fault) → Keeps (r >>= λ target. elim (is_nothing target) [ true ↦ Ok graph | false ↦ f target ])
      by_target (Err e) = tt
      by_target (Ok target) = elim (is_nothing target) as (λ b. Keeps (elim b [ true ↦ Ok graph | false ↦ f target ])) [ true ↦ g | false ↦ keeps target ]

  item_keeps : (s : Setting) (row : Row) (item : SetItem) → Keeps (set_item s row graph item)
  item_keeps s row (set_property t k e) =
      target_keeps row t (set_pairs graph (λ v. Ok ((k.text, v) ∷ [])) set_keys (evaluate row s.parameters graph e))
      (λ target. pairs_keep (λ v. Ok ((k.text, v) ∷ [])) set_keys (evaluate row s.parameters graph e) target (λ pairs es h. set_keys_keeps_rising pairs es h))
  item_keeps s row (set_all t e) =
      target_keeps row t (set_pairs graph mapping_pairs (λ ps es. set_keys ps no_entries) (evaluate row s.parameters graph e))
      (λ target. pairs_keep mapping_pairs (λ ps es. set_keys ps no_entries) (evaluate row s.parameters graph e) target (λ pairs es h. set_keys_keeps_rising pairs no_entries refl))
  item_keeps s row (set_more t e) =
      target_keeps row t (set_pairs graph mapping_pairs set_keys (evaluate row s.parameters graph e))
      (λ target. pairs_keep mapping_pairs set_keys (evaluate row s.parameters graph e) target (λ pairs es h. set_keys_keeps_rising pairs es h))
  item_keeps s row (set_labels t ls) = target_keeps row t (λ target. change_labels (put_texts (texts_of ls)) target graph) (λ target. labels_keep (texts_of ls) target graph g)

steps_keep : {X : Type 0} (f : Graph → X → Result Graph Fault) → ((graph : Graph) (x : X) → IsGraph graph → Keeps (f graph x)) → (xs : List X) (graph : Graph) → IsGraph graph → Keeps (each_step f graph xs)
steps_keep f keeps [] graph g = g
steps_keep {X} f keeps (x ∷ xs) graph g = by_first (f graph x) (keeps graph x g) (steps_keep f keeps xs)
  where
    by_first : (r : Result Graph Fault) → Keeps r → ((next : Graph) → IsGraph next → Keeps (each_step f next xs)) → Keeps (r >>= λ next. each_step f next xs)
    by_first (Err e) h rest = tt
    by_first (Ok next) h rest = rest next h

-- a SET of some rows keeps a graph a graph
pub rows_keep : (s : Setting) (items : List SetItem) (rows : List Row) (graph : Graph) → IsGraph graph → Keeps (each_step (set_row s items) graph rows)
rows_keep s items = steps_keep (set_row s items) (λ graph row. steps_keep (set_item s row) (λ graph item g. item_keeps graph g s row item) items graph)

-- ---- rows that result

abbrev pub ItemsRun : Setting → List SetItem → State → List Row → Result State Fault → Type 0
ItemsRun s items state rows (Ok next) = (each_step (set_row s items) state.graph rows ≡ Ok next.graph) × (next.rows ≡ state.rows ++ rows)
ItemsRun s items state rows (Err f) = (f ≡ StepQuota) ⊎ (each_step (set_row s items) state.graph rows ≡ Err f)

pub items_run : (s : Setting) (items : List SetItem) (rows : List Row) (state : State) → ItemsRun s items state rows (each_step (merged_row s items) state rows)
items_run s items [] state = (refl, sym (append-nil state.rows))
items_run s items (row ∷ rows) state = by_steps (spend s state.steps (length items)) (λ f e. spend_fault s state.steps (length items) f e) (items_run s items rows)
  where
    by_rest : (next : State) → set_row s items state.graph row ≡ Ok next.graph → next.rows ≡ state.rows ++ row ∷ [] → (r : Result State Fault) → ItemsRun s items next rows r → ItemsRun s items state (row ∷ rows) r
    by_rest next e f (Ok last) h =
        (ap (λ r. r >>= λ graph. each_step (set_row s items) graph rows) e ∙ h.0, h.1 ∙ ap (λ rs. rs ++ rows) f ∙ append_assoc state.rows (row ∷ []) rows)
    by_rest next e f (Err x) (inl h) = inl h
    by_rest next e f (Err x) (inr h) = inr (ap (λ r. r >>= λ graph. each_step (set_row s items) graph rows) e ∙ h)

    by_graph : (steps : ℕ) (r : Result Graph Fault) → set_row s items state.graph row ≡ r → ((next : State) → ItemsRun s items next rows (each_step (merged_row s items) next rows))
        → ItemsRun s items state (row ∷ rows) ((r >>= λ graph. Ok (record { graph = graph; rows = state.rows ++ row ∷ []; steps = steps })) >>= λ next. each_step (merged_row s items) next rows)
    by_graph steps (Err x) e rest = inr (ap (λ r. r >>= λ graph. each_step (set_row s items) graph rows) e)
    by_graph steps (Ok graph) e rest =
        by_rest (record { graph = graph; rows = state.rows ++ row ∷ []; steps = steps }) e refl (each_step (merged_row s items) (record { graph = graph; rows = state.rows ++ row ∷ []; steps = steps }) rows)
        (rest (record { graph = graph; rows = state.rows ++ row ∷ []; steps = steps }))

    by_steps : (r : Result ℕ Fault) → ((f : Fault) → r ≡ Err f → f ≡ StepQuota) → ((next : State) → ItemsRun s items next rows (each_step (merged_row s items) next rows))
        → ItemsRun s items state (row ∷ rows)
        ((r >>= λ steps. set_row s items state.graph row >>= λ graph. Ok (record { graph = graph; rows = state.rows ++ row ∷ []; steps = steps })) >>= λ next. each_step (merged_row s items) next rows)
    by_steps (Err x) is rest = inl (is x refl)
    by_steps (Ok steps) is rest = by_graph steps (set_row s items state.graph row) refl rest
