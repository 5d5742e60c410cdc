-- What the laws leave open is open: a WITH that tests what it cut of an open order may have a result and a fault. And what bounds an id from above in a row of CREATE follows from what else is said there.
use Rattle.std.specs.Prelude.{◌≡◌, ℕ, ◌<◌, false, [], ◌∷◌, Some, None, codes, pos}
use Rattle.pg_meaning.specs.ExampleTrees.{var, number, project, column, sort_by}
use Rattle.pg_meaning.specs.ExamplesOfSteps.{within, one, row_a}
use Rattle.pg_meaning.specs.Graph.{Graph, Node, Relationship, IsGraph, empty_graph, node_at, relationship_at}
use Rattle.pg_meaning.specs.Meaning.{Step, StepFaults}
use Rattle.pg_meaning.specs.Tree.{Projection, Expression, parentheses, chain, operand, no_operands, with_rows}
use Rattle.pg_meaning.specs.Value.{Value, integer}
use Rattle.pg_meaning.specs.declared.fault.Fault.TheVariants.{DivisionByZero}
use Rattle.pg_meaning.specs.declared.operators.Operator.TheVariants.{Divide, Equal}

abbrev pub none : Value
none = integer (pos 0)

-- WITH a ORDER BY 1 LIMIT 1
abbrev pub first_of_any : Projection
first_of_any = project false None (column (codes "a") (var "a") None ∷ []) (sort_by (number 1) None ∷ []) None (Some (number 1))

-- (1 / a) = 1
abbrev pub is_one : Expression
is_one = chain (parentheses (chain (number 1) (operand Divide (var "a") no_operands))) (operand Equal (number 1) no_operands)

abbrev pub WithMayHaveBoth : Type 0
WithMayHaveBoth =
    Step (within (codes "a" ∷ [])) (with_rows first_of_any (Some is_one)) empty_graph (row_a none ∷ row_a one ∷ []) empty_graph (row_a one ∷ [])
    × StepFaults (within (codes "a" ∷ [])) (with_rows first_of_any (Some is_one)) empty_graph (row_a none ∷ row_a one ∷ []) DivisionByZero

-- so that the id of what is made is below the next one says no more than that what is left is a graph
abbrev pub IdsAreBelow : Type 0
IdsAreBelow =
    (graph : Graph) → IsGraph graph
    → ((n : ℕ) (e : Node) → node_at graph n ≡ Some e → n < graph.next_node) × ((r : ℕ) (e : Relationship) → relationship_at graph r ≡ Some e → r < graph.next_relationship)
