-- What the relations of clauses are given, and how they go row after row, or one thing after the other, each in the graph that the one before it left.
use Rattle.std.specs.Prelude.{◌≡◌, ℕ, ◌⊎◌, List, [], ◌∷◌, ◌++◌}
use Rattle.pg_meaning.specs.Graph.{Graph}
use Rattle.pg_meaning.specs.Lists.{IsIn}
use Rattle.pg_meaning.specs.Names.{Names}
use Rattle.pg_meaning.specs.Rows.{Row}
use Rattle.pg_meaning.specs.Value.{Entries}
use Rattle.pg_meaning.specs.declared.fault.Fault.{Fault}

-- what a clause is given besides the rows and the graph: the request's parameters, how many elements there may be, and the variables of earlier clauses
pub record Given : Type 0 where
  pub parameters : Entries
  pub max_elements : ℕ
  pub scope : Names

-- ---- rows

-- row after row, each giving some rows
abbrev pub RowAfterRow : (Row → List Row → Type 0) → (rows results : List Row) → Type 0
RowAfterRow R [] results = results ≡ []
RowAfterRow R (row ∷ rows) results = (first : List Row) × (others : List Row) × R row first × RowAfterRow R rows others × (results ≡ first ++ others)

-- the same, where each row sees the graph that the row before it left
abbrev pub RowByRow : (Graph → Row → Graph → List Row → Type 0) → Graph → (rows : List Row) → Graph → (results : List Row) → Type 0
RowByRow R graph [] after results = (after ≡ graph) × (results ≡ [])
RowByRow R graph (row ∷ rows) after results =
    (middle : Graph) × (first : List Row) × (others : List Row) × R graph row middle first × RowByRow R middle rows after others × (results ≡ first ++ others)

-- a fault at some row
abbrev pub AtSomeRow : (Row → Fault → Type 0) → List Row → Fault → Type 0
AtSomeRow F rows f = (row : Row) × IsIn row rows × F row f

-- a fault at a row, in the graph that the rows before it left
abbrev pub AtSomeTurn : (Graph → Row → Graph → List Row → Type 0) → (Graph → Row → Fault → Type 0) → Graph → List Row → Fault → Type 0
AtSomeTurn R F graph [] f = ⊥
AtSomeTurn R F graph (row ∷ rows) f =
    F graph row f ⊎ ((middle : Graph) × (first : List Row) × R graph row middle first × AtSomeTurn R F middle rows f)

-- ---- changes of the graph alone

-- one after the other, each in the graph that the one before it left
abbrev pub InTurn : {X : Type 0} → (Graph → X → Graph → Type 0) → Graph → List X → Graph → Type 0
InTurn R graph [] after = after ≡ graph
InTurn R graph (x ∷ xs) after = (middle : Graph) × R graph x middle × InTurn R middle xs after

-- a fault at one of them, in the graph that those before it left
abbrev pub FaultInTurn : {X : Type 0} → (Graph → X → Graph → Type 0) → (Graph → X → Fault → Type 0) → Graph → List X → Fault → Type 0
FaultInTurn R F graph [] f = ⊥
FaultInTurn R F graph (x ∷ xs) f = F graph x f ⊎ ((middle : Graph) × R graph x middle × FaultInTurn R F middle xs f)
