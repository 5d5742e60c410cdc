-- The parts of reads.
use Rattle.std.specs.Prelude.{ℕ, List, [], Ok, pos}
use Rattle.std.specs.List.{list_all}
use Rattle.pg_expr.specs.Contexts.{row_at}
use Rattle.pg_expr.specs.declared.row_context.RowContext.{RowContext}
use Rattle.pg_meaning.specs.Answer.{Answer, ◌>>=◌}
use Rattle.pg_meaning.specs.Expressions.{indexed, or_fault, property_of}
use Rattle.pg_meaning.specs.Functions.{of_node}
use Rattle.pg_meaning.specs.Graph.{Graph}
use Rattle.pg_meaning.specs.Names.{is_among}
use Rattle.pg_meaning.specs.Rows.{value_in}
use Rattle.pg_meaning.specs.Tree as tree
use Rattle.pg_meaning.specs.Tree.{Name}
use Rattle.pg_meaning.specs.Value.{boolean, integer}
use Rattle.pg_meaning.specs.declared.fault.Fault.TheVariants.{UndefinedVariable}

-- whether a node has all the labels
abbrev pub labels_tested : Graph → ℕ → List Name → Answer
labels_tested g n ls = of_node g n (λ x. Ok (boolean (list_all (λ l. is_among x.labels l.text) ls)))

-- `variable.key`
abbrev pub property_read : (variable key : Name) → tree.Expression
property_read x k = tree.suffixes (tree.variable x) (tree.property k tree.no_suffixes) []

-- what it gives
abbrev pub given_property : RowContext → Graph → (variable key : List ℕ) → Answer
given_property s g x k = or_fault (value_in x (row_at s)) UndefinedVariable >>= λ v. property_of g v k

-- `variable[place]`
abbrev pub item_read : (variable : Name) → (place : ℕ) → tree.Expression
item_read x i = tree.suffixes (tree.variable x) (tree.index (tree.literal (integer (pos i))) tree.no_suffixes) []

-- what it gives
abbrev pub given_item : RowContext → Graph → (variable : List ℕ) → (place : ℕ) → Answer
given_item s g x i = or_fault (value_in x (row_at s)) UndefinedVariable >>= λ v. indexed g v (integer (pos i))
