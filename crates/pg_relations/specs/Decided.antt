-- A step has a result or a fault, never both.
use Rattle.std.specs.Prelude.{◌≡◌, ◌⊎◌, Bool, List, [], ◌∷◌, map, Option, None}
use Rattle.std.specs.List.{AllByRecursion}
use Rattle.pg_meaning.specs.Graph.{Graph, IsGraph}
use Rattle.pg_meaning.specs.Lists.{IsIn}
use Rattle.pg_meaning.specs.Meaning.{Step, StepFaults, all_nodes, new_places, CreateRow, CreateFaults, MergeRow, MergeFaults}
use Rattle.pg_meaning.specs.Rows.{Row}
use Rattle.pg_meaning.specs.StaticFaults.{clause_faults}
use Rattle.pg_meaning.specs.Tree.{Expression, Name, no_properties, PathPattern, SetItem, Projection, Clause, create, merge, unwind, match_paths, with_rows, return_rows}
use Rattle.pg_meaning.specs.Turns.{Given}
use Rattle.pg_meaning.specs.declared.fault.Fault.{Fault}

abbrev pub NeverBoth : Clause → Type 0
NeverBoth c = (g : Given) (graph after : Graph) (rows results : List Row) (f : Fault) → Step g c graph rows after results → StepFaults g c graph rows f → ⊥

abbrev pub UnwindIsOne : Type 0
UnwindIsOne = (e : Expression) (name : Name) → NeverBoth (unwind e name)

abbrev pub MatchIsOne : Type 0
MatchIsOne = (is_optional : Bool) (paths : List PathPattern) (where_ : Option Expression) → NeverBoth (match_paths is_optional paths where_)

abbrev pub ReturnIsOne : Type 0
ReturnIsOne = (p : Projection) → NeverBoth (return_rows p)

-- a cut of rows that stand in no one order may take or leave one at which WHERE has a fault
abbrev pub WithIsOne : Type 0
WithIsOne = (p : Projection) (where_ : Option Expression) → (where_ ≡ None) ⊎ ((p.skip ≡ None) × (p.limit ≡ None)) → NeverBoth (with_rows p where_)

-- a node place with properties is one where a node is made
abbrev pub DescribesNew : Given → List PathPattern → Type 0
DescribesNew g paths = AllByRecursion (λ n. (n.properties ≡ no_properties) ⊎ IsIn n (map (λ p. p.0) (new_places g.scope (map (λ n. (n, 0)) (all_nodes paths))))) (all_nodes paths)

-- so it is in every CREATE and MERGE without static faults
abbrev pub CreateDescribesNew : Type 0
CreateDescribesNew = (g : Given) (paths : List PathPattern) → clause_faults g.scope (create paths) ≡ [] → DescribesNew g paths

abbrev pub MergeDescribesNew : Type 0
MergeDescribesNew = (g : Given) (p : PathPattern) (parts : List (Bool × List SetItem)) → clause_faults g.scope (merge p parts) ≡ [] → DescribesNew g (p ∷ [])

-- so it is at each row of CREATE
abbrev pub CreateRowIsOne : Type 0
CreateRowIsOne =
    (g : Given) (paths : List PathPattern) (graph : Graph) (row : Row) (after : Graph) (results : List Row) (f : Fault) → IsGraph graph → DescribesNew g paths
    → CreateRow g paths graph row after results → CreateFaults g paths graph row f → ⊥

-- and of MERGE, but for the faults of its items
abbrev pub MergeRowIsOne : Type 0
MergeRowIsOne =
    (g : Given) (p : PathPattern) (parts : List (Bool × List SetItem)) (graph : Graph) (row : Row) (after : Graph) (results : List Row) (f : Fault) → IsGraph graph → DescribesNew g (p ∷ [])
    → MergeRow g p parts graph row after results → MergeFaults g p [] graph row f → ⊥
