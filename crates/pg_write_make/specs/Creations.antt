-- CREATE at one row, from what its expressions give.
use Rattle.std.specs.Prelude.{ℕ, ◌+◌, Bool, true, false, List, ◌∷◌, [], map, Result, Ok}
use Rattle.pg_meaning.specs.Answer.{◌>>=◌, ◌>>◌}
use Rattle.pg_meaning.specs.Graph.{Graph}
use Rattle.pg_meaning.specs.Patterns.{bind_match, texts_of, Trail}
use Rattle.pg_meaning.specs.Reading.{test_paths}
use Rattle.pg_meaning.specs.Rows.{Row}
use Rattle.pg_meaning.specs.Tree.{PathPattern}
use Rattle.pg_meaning.specs.Value.{Entries}
use Rattle.pg_meaning.specs.declared.fault.Fault.{Fault}
use Rattle.pg_write_make.specs.Outcomes.{path_made, path_outcomes, paths_made}
use Rattle.pg_write_make.specs.Scenes.{max_elements_in, parameters_in, reading, row_at}
use Rattle.pg_write_make.specs.declared.clause_scope.RowScene.{RowScene}

-- the new graph, and the row with the new variables
abbrev pub row_made : Entries → (max_elements : ℕ) → List PathPattern → Graph → Row → Result (Graph × Row) Fault
row_made parameters max_elements ps graph row = do
  made ← paths_made max_elements (map (path_outcomes (reading parameters) graph row) ps) ps (graph, row)
  Ok (made.0, bind_match made.0 ps made.1 row)

-- where its bound nodes are there
abbrev pub row_created : Entries → (max_elements : ℕ) → List PathPattern → Graph → Row → Result (Graph × Row) Fault
row_created parameters max_elements ps graph row = test_paths false graph row ps >> row_made parameters max_elements ps graph row

-- one more, where the pattern makes a node
abbrev pub count_one : Bool → ℕ → ℕ
count_one true count = 1 + count
count_one false count = count

-- row after row, each in the graph of those before
abbrev pub rows_created : Entries → (max_elements : ℕ) → List PathPattern → Graph → List Row → Result (Graph × List Row) Fault
rows_created parameters max_elements ps graph [] = Ok (graph, [])
rows_created parameters max_elements ps graph (row ∷ rows) = do
  made ← row_created parameters max_elements ps graph row
  others ← rows_created parameters max_elements ps made.0 rows
  Ok (others.0, made.1 ∷ others.1)

-- ---- a path by itself

-- the graph and the ids that a path leaves, which finds the graph as the row did
abbrev pub path_left : Entries → (max_elements : ℕ) → PathPattern → Graph → Row → Result (Graph × Trail) Fault
path_left parameters max_elements p graph row = path_made max_elements (path_outcomes (reading parameters) graph row p) p (graph, row) >>= λ made. Ok (made.0, made.2)

abbrev pub left_at : RowScene → PathPattern → Graph → Result (Graph × Trail) Fault
left_at at p graph = path_left (parameters_in at.scene.now) (max_elements_in at.scene.now) p graph (row_at at)

-- the graph alone
abbrev pub graph_at : RowScene → PathPattern → Graph → Result Graph Fault
graph_at at p graph = left_at at p graph >>= λ left. Ok left.0

-- the labels of the first node
abbrev pub first_labels : List PathPattern → List (List ℕ)
first_labels [] = []
first_labels (p ∷ ps) = texts_of p.first.labels
