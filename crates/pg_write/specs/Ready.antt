-- What a MERGE that was made ready stands for.
use Rattle.std.specs.Prelude.{◌≡◌, ◌≤◌, ℕ, true, false, List, [], ◌∷◌, map, length, take}
use Rattle.pg_expr.specs.declared.query_context.QueryContext.{QueryContext}
use Rattle.pg_match_bindings.specs.Parts.{parts_of}
use Rattle.pg_match_stages.specs.View.{anchor_view}
use Rattle.pg_match_bindings.specs.Readiness.{AreReadyFor, paths_of}
use Rattle.pg_meaning.specs.Graph.{Graph}
use Rattle.pg_meaning.specs.Meters.{Setting, State}
use Rattle.pg_meaning.specs.Patterns.{add_path_names}
use Rattle.pg_meaning.specs.Tree as tree
use Rattle.pg_meaning.specs.Updates.{count_new, items_on}
use Rattle.pg_rows.specs.Named.{rows_named}
use Rattle.pg_rows.specs.Tables.{table}
use Rattle.pg_rows.specs.declared.table.Rows.{Rows}
use Rattle.pg_syntax_tree.specs.View.{on_view, path_view}
use Rattle.pg_value_core.specs.Given.{parameters_view}
use Rattle.pg_write.specs.Items.{item_of}
use Rattle.pg_write.specs.declared.items.ReadySet.{ReadySet}
use Rattle.pg_write_make.specs.Scenes.{max_elements_in, parameters_in}
use Rattle.pg_write.specs.declared.merging.Merge.{Merge}
use Rattle.pg_write.specs.declared.merging.Merging.{Merging}

abbrev pub names_in : Merging → List (List ℕ)
names_in m = m.scene.names.now

-- the variables of earlier clauses
abbrev pub scope_in : Merging → List (List ℕ)
scope_in m = take m.bound (names_in m)

abbrev pub path_in : Merging → tree.PathPattern
path_in m = path_view m.path.now

abbrev pub setting_in : Merging → (max_steps : ℕ) → Setting
setting_in m max_steps = record {
  parameters = parameters_in m.scene;
  quota = record { max_steps = max_steps; max_elements = max_elements_in m.scene };
  scope = scope_in m;
  anchors = map anchor_view m.anchors.now;
}

abbrev pub items_in : Merging → List ReadySet → List tree.SetItem
items_in m items = map (item_of (names_in m)) items

abbrev pub created_in : Merging → List tree.SetItem
created_in m = items_in m m.on_create.items

abbrev pub matched_in : Merging → List tree.SetItem
matched_in m = items_in m m.on_match.items

-- the rows so far, and the steps
abbrev pub state_in : Merging → Graph → Rows → (steps : ℕ) → State
state_in m graph rows steps = record { graph = graph; rows = rows_named (names_in m) (table rows); steps = steps }

pub record IsReady (m : Merging) : Type 0 where
  pub patterns : AreReadyFor (names_in m) m.patterns
  pub paths : paths_of m.patterns ≡ path_in m ∷ []
  pub within : m.bound ≤ length (names_in m)
  pub names : add_path_names (path_in m ∷ []) (scope_in m) ≡ names_in m
  pub parts : m.parts.items ≡ parts_of (scope_in m) (path_in m ∷ [])
  pub count : m.count ≡ count_new (scope_in m) (path_in m ∷ [])
  pub anchors : length m.anchors.now ≡ 1

-- ---- what a MERGE says

abbrev pub path_said : Merge → tree.PathPattern
path_said m = path_view m.path.now

abbrev pub setting_given : QueryContext → Merge → (scope : List (List ℕ)) → (max_steps : ℕ) → Setting
setting_given q m scope max_steps = record {
  parameters = parameters_view q.parameters.now;
  quota = record { max_steps = max_steps; max_elements = q.max_elements };
  scope = scope;
  anchors = map anchor_view m.anchors.now;
}

abbrev pub created_said : Merge → List tree.SetItem
created_said m = items_on true (map on_view m.items.now.items)

abbrev pub matched_said : Merge → List tree.SetItem
matched_said m = items_on false (map on_view m.items.now.items)

pub record IsMergingOf (query : QueryContext) (merge : Merge) (names : List (List ℕ)) (bound : ℕ) (m : Merging) : Type 0 where
  pub names_are : names_in m ≡ names
  pub setting_is : (max_steps : ℕ) → setting_in m max_steps ≡ setting_given query merge (take bound names) max_steps
  pub path_is : path_in m ≡ path_said merge
  pub created_are : created_in m ≡ created_said merge
  pub matched_are : matched_in m ≡ matched_said merge
  pub bound_is : m.bound ≡ bound
