-- What expressions give at the rows of a clause, which share their names and the parameters.
use Rattle.std.specs.Prelude.{◌≡◌, ◌≤◌, ℕ, List, [], map, length, take}
use Rattle.pg_expr.specs.Prepared.{tree_of}
use Rattle.pg_expr.specs.declared.prepared.Prepared.{Prepared}
use Rattle.pg_meaning.specs.Answer.{Answer}
use Rattle.pg_meaning.specs.Expressions.{evaluate}
use Rattle.pg_meaning.specs.Graph.{Graph}
use Rattle.pg_meaning.specs.Meters.{Setting}
use Rattle.pg_meaning.specs.Patterns.{add_path_names}
use Rattle.pg_meaning.specs.Rows.{Row}
use Rattle.pg_meaning.specs.Tree.{Expression, PathPattern}
use Rattle.pg_meaning.specs.Value.{Entries}
use Rattle.pg_rows.specs.Named.{row_of}
use Rattle.pg_value_core.specs.Given.{parameters_view}
use Rattle.pg_value_core.specs.View.{view}
use Rattle.pg_value_core.specs.declared.value.Value.{Value}
use Rattle.pg_write_make.specs.declared.clause_scope.RowScene.{RowScene}
use Rattle.pg_write_make.specs.declared.clause_scope.ClauseScope.{ClauseScope}

abbrev pub parameters_in : ClauseScope → Entries
parameters_in s = parameters_view s.query.now.parameters.now

abbrev pub max_elements_in : ClauseScope → ℕ
max_elements_in s = s.query.now.max_elements

abbrev pub row_in : ClauseScope → List Value → Row
row_in s values = row_of s.names.now (map view values)

abbrev pub row_at : RowScene → Row
row_at r = row_in r.scene.now r.values.now

abbrev pub given : ClauseScope → Graph → List Value → Prepared → Answer
given s graph values p = evaluate (row_in s values) (parameters_in s) graph (tree_of s.names.now p)

-- what the tree of an expression gives
abbrev pub value_given : ClauseScope → Graph → List Value → Expression → Answer
value_given s graph values e = evaluate (row_in s values) (parameters_in s) graph e

-- a setting of which the parameters alone are read
abbrev pub reading : Entries → Setting
reading parameters = record { parameters = parameters; quota = record { max_steps = 0; max_elements = 0 }; scope = []; anchors = [] }

-- a row with a value for each name, which has the variables of all paths
pub record IsBare (at : RowScene) (ps : List PathPattern) : Type 0 where
  pub wide : length at.values.now ≡ length at.scene.now.names.now
  pub names : add_path_names ps (take (length at.values.now) at.scene.now.names.now) ≡ at.scene.now.names.now

-- a row that may get the variables of all paths
pub record IsReady (s : ClauseScope) (values : List Value) (ps : List PathPattern) : Type 0 where
  pub within : length values ≤ length s.names.now
  pub names : add_path_names ps (take (length values) s.names.now) ≡ s.names.now
