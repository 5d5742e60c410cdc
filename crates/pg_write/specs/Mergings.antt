-- The parts of MERGE at a row, and what a match is read as.
use Rattle.std.specs.Prelude.{ℕ, zero, suc, false, List, [], ◌∷◌, ◌++◌, map, Result, Ok}
use Rattle.pg_match_bindings.specs.Readings.{behind_parts, read_values}
use Rattle.pg_match_bindings.specs.declared.part.Part.{Part}
use Rattle.pg_match_stages.specs.declared.match_element.MatchElement.{MatchElement}
use Rattle.pg_meaning.specs.Answer.{◌>>=◌, ◌>>◌, each_step}
use Rattle.pg_meaning.specs.Graph.{Graph}
use Rattle.pg_meaning.specs.Meters.{Setting, State, spend}
use Rattle.pg_meaning.specs.Patterns.{Assignment, bind_match}
use Rattle.pg_meaning.specs.Reading.{test_paths}
use Rattle.pg_meaning.specs.Rows.{Row}
use Rattle.pg_meaning.specs.Tree.{PathPattern, SetItem}
use Rattle.pg_meaning.specs.Updates.{count_new, make, merged_row, test_not_null}
use Rattle.pg_meaning.specs.Value.{Value}
use Rattle.pg_meaning.specs.Walks.{Listing, PathWanted, paths_wanted, walks}
use Rattle.pg_meaning.specs.declared.fault.Fault.{Fault}

module _ (s : Setting) (p : PathPattern) where
  -- what a row asks of the path, of which nothing is null
  abbrev pub asked : Graph → Row → Result (List PathWanted) Fault
  asked graph row = do
    test_paths false graph row (p ∷ [])
    wanted ← paths_wanted row s.parameters graph (p ∷ [])
    test_not_null wanted
    Ok wanted

  abbrev pub found_at : Graph → Row → List PathWanted → Listing Assignment
  found_at graph row wanted = walks graph s.parameters [] wanted s.anchors row

  abbrev pub rows_found : Graph → Row → List PathWanted → List Row
  rows_found graph row wanted = map (λ a. bind_match graph (p ∷ []) a row) (found_at graph row wanted).0

  -- the path made at a row where it isn't found
  abbrev pub row_made : (created : List SetItem) → State → Row → Result State Fault
  row_made created state row = do
    steps ← spend s state.steps (count_new s.scope (p ∷ []))
    made ← make s (p ∷ []) state.graph row
    let after : State = record { graph = made.0; rows = state.rows; steps = steps }
    merged_row s created after made.1

  abbrev pub rows_merged : (created matched : List SetItem) → State → Row → List Row → Result State Fault
  rows_merged created matched state row [] = row_made created state row
  rows_merged created matched state row (r ∷ rs) = each_step (merged_row s matched) state (r ∷ rs)

  abbrev pub row_merged : (created matched : List SetItem) → State → Row → Result State Fault
  row_merged created matched state row = do
    wanted ← asked state.graph row
    steps ← spend s state.steps (found_at state.graph row wanted).1
    let after : State = record { graph = state.graph; rows = state.rows; steps = steps }
    rows_merged created matched after row (rows_found state.graph row wanted)

-- so many matches behind the values of a row, read from their steps
abbrev pub rows_read : Graph → List Part → List Value → (count : ℕ) → List MatchElement → List (List Value)
rows_read graph parts values zero steps = []
rows_read graph parts values (suc n) steps = (values ++ read_values graph parts steps) ∷ rows_read graph parts values n (behind_parts parts steps)
