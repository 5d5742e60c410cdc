-- What a WITH with WHERE and SKIP or LIMIT gives: one answer, and no fault beside it, where ORDER BY puts its rows in one order.
use Rattle.std.specs.Prelude.{◌≡◌, ◌≢◌, ◌⊎◌, List, [], Option, Ok, Err}
use Rattle.pg_meaning.specs.Answer.{each_answer}
use Rattle.pg_meaning.specs.Conditions.{condition}
use Rattle.pg_meaning.specs.Graph.{Graph}
use Rattle.pg_meaning.specs.Lists.{IsIn, AllPairsByRecursion}
use Rattle.pg_meaning.specs.Meaning.{Projects, ProjectFaults, keys_at}
use Rattle.pg_meaning.specs.Projections.{Projected, visible, skipped, limited}
use Rattle.pg_meaning.specs.Rows.{Row}
use Rattle.pg_meaning.specs.Scopes.{Column}
use Rattle.pg_meaning.specs.Tree.{Expression, SortItem, Projection}
use Rattle.pg_meaning.specs.Turns.{Given}
use Rattle.pg_meaning.specs.Value.{Value}
use Rattle.pg_meaning.specs.declared.fault.Fault.{Fault}
use Rattle.pg_relations.specs.Closed.{IsPlain}

-- WHERE has no fault at the rows that it takes of its own order
abbrev pub TestsItsOwn : Type 0
TestsItsOwn =
    (g : Given) (graph : Graph) (columns : List Column) (p : Projection) (where_ : Option Expression) (rows results : List Row) (h : Projects g graph columns p where_ rows results) (r : Projected) (f : Fault)
    → IsIn r (limited h.limit (skipped h.skip h.sorted)) → condition where_ (visible r) g.parameters graph ≡ Err f → ⊥

-- an ORDER BY, of which no two rows have one key
abbrev pub KeysDiffer : Given → Graph → List Column → List SortItem → List Projected → Type 0
KeysDiffer g graph columns order sorted = (order ≢ []) × (keys : List (List Value)) × (each_answer (keys_at g graph columns order) sorted ≡ Ok keys) × AllPairsByRecursion (λ k l. k ≢ l) keys

abbrev pub OneOrderGivesOne : Type 0
OneOrderGivesOne =
    (g : Given) (graph : Graph) (columns : List Column) (p : Projection) (where_ : Option Expression) (rows results others : List Row)
    → (h : Projects g graph columns p where_ rows results) → Projects g graph columns p where_ rows others → IsPlain columns p ⊎ KeysDiffer g graph columns p.order h.sorted → results ≡ others

abbrev pub OneOrderIsOne : Type 0
OneOrderIsOne =
    (g : Given) (graph : Graph) (columns : List Column) (p : Projection) (where_ : Option Expression) (rows results : List Row) (f : Fault)
    → (h : Projects g graph columns p where_ rows results) → IsPlain columns p ⊎ KeysDiffer g graph columns p.order h.sorted → ProjectFaults g graph columns p where_ rows f → ⊥
