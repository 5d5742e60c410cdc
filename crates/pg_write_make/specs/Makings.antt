-- What a row's elements were made of so far, and what making keeps.
use Rattle.std.specs.Prelude.{◌≡◌, ℕ, true, List, ◌++◌, map, Result}
use Rattle.std.specs.Borrow.{Bor}
use Rattle.std.specs.Global.{Vec}
use Rattle.std.specs.List.{AllByRecursion}
use Rattle.pg_meaning.specs.Graph.{Graph, has_node}
use Rattle.pg_meaning.specs.Rows.{Row}
use Rattle.pg_meaning.specs.Tree as tree
use Rattle.pg_meaning.specs.Updates.{Making}
use Rattle.pg_meaning.specs.Value.{node}
use Rattle.pg_meaning.specs.declared.fault.Fault.{Fault}
use Rattle.pg_syntax_tree.specs.View.{hop_view, node_view}
use Rattle.pg_syntax_tree.specs.declared.patterns.NodePattern.{NodePattern}
use Rattle.pg_syntax_tree.specs.declared.patterns.RelationshipPattern.{RelationshipPattern}
use Rattle.pg_value_core.specs.declared.ids.NodeId.{NodeId}
use Rattle.pg_value_core.specs.declared.ids.RelId.{RelId}
use Rattle.pg_value_core.specs.declared.value.Value as code
use Rattle.pg_write_make.specs.Outcomes.{Outcome, outcome_view}

-- the variables that the clause bound at the row
abbrev pub bindings : List (Bor (List ℕ) × NodeId) → Row
bindings named = map (λ b. (b.0.now, node b.1.0)) named

abbrev pub node_ids : List NodeId → List ℕ
node_ids ids = map (λ id. id.0) ids

abbrev pub relationship_ids : List RelId → List ℕ
relationship_ids ids = map (λ id. id.0) ids

-- the definition's state between two nodes of a path
abbrev pub making_of : Graph → Row → List (Bor (List ℕ) × NodeId) → List NodeId → Making
making_of graph row named ids = record { graph = graph; bound = row ++ bindings named; ids = node_ids ids }

-- the same with ids as numbers
abbrev pub making_with : Graph → Row → List (Bor (List ℕ) × NodeId) → List ℕ → Making
making_with graph row named ids = record { graph = graph; bound = row ++ bindings named; ids = ids }

abbrev pub outcomes_view : List (Result (Vec (Bor (List ℕ) × code.Value)) Fault) → List Outcome
outcomes_view os = map outcome_view os

abbrev pub patterns_view : List (Bor NodePattern) → List tree.NodePattern
patterns_view ns = map (λ n. node_view n.now) ns

-- the relationships of a path, and its nodes behind the first
abbrev pub relationships_view : List (RelationshipPattern × NodePattern) → List tree.RelationshipPattern
relationships_view hs = map (λ h. h.0) (map hop_view hs)

abbrev pub others_view : List (RelationshipPattern × NodePattern) → List tree.NodePattern
others_view hs = map (λ h. h.1) (map hop_view hs)

-- ---- what is there stays

abbrev pub AreThere : Graph → List ℕ → Type 0
AreThere graph ids = AllByRecursion (λ n. has_node graph n ≡ true) ids

abbrev pub named_ids : List (Bor (List ℕ) × NodeId) → List ℕ
named_ids named = map (λ b. b.1.0) named

abbrev pub Grows : Graph → Graph → Type 0
Grows before after = (n : ℕ) → has_node before n ≡ true → has_node after n ≡ true

-- all nodes that a row's making may name are there
pub record AllThere (graph : Graph) (named : List (Bor (List ℕ) × NodeId)) (ids : List NodeId) : Type 0 where
  pub bound : AreThere graph (named_ids named)
  pub made : AreThere graph (node_ids ids)
