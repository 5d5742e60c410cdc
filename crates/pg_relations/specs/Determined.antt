-- From the same rows a reading clause gives the same rows, up to the order that it leaves open.
use Rattle.std.specs.Prelude.{◌≡◌, Bool, false, List, [], Option, None, IsPermutation}
use Rattle.std.specs.List.{list_any}
use Rattle.pg_meaning.specs.Graph.{Graph}
use Rattle.pg_meaning.specs.Meaning.{Step, Arranged, Projects}
use Rattle.pg_meaning.specs.Projections.{Projected}
use Rattle.pg_meaning.specs.Rows.{Row}
use Rattle.pg_meaning.specs.Scopes.{Column, is_aggregate}
use Rattle.pg_meaning.specs.Tree.{Expression, Name, PathPattern, SortItem, Projection, unwind, match_paths, with_rows, return_rows}
use Rattle.pg_meaning.specs.Turns.{Given}

abbrev pub UnwindGivesOne : Type 0
UnwindGivesOne =
    (e : Expression) (name : Name) (g : Given) (graph after other : Graph) (rows results others : List Row)
    → Step g (unwind e name) graph rows after results → Step g (unwind e name) graph rows other others → (after ≡ other) × (results ≡ others)

abbrev pub MatchGivesOne : Type 0
MatchGivesOne =
    (is_optional : Bool) (paths : List PathPattern) (where_ : Option Expression) (g : Given) (graph after other : Graph) (rows results others : List Row)
    → Step g (match_paths is_optional paths where_) graph rows after results → Step g (match_paths is_optional paths where_) graph rows other others → (after ≡ other) × IsPermutation results others

-- before SKIP, LIMIT and WHERE stand the same rows; of these in one order all that follows is one
abbrev pub ProjectsOne : Type 0
ProjectsOne =
    (g : Given) (graph : Graph) (columns : List Column) (p : Projection) (where_ : Option Expression) (rows results others : List Row)
    → (h : Projects g graph columns p where_ rows results) → (m : Projects g graph columns p where_ rows others)
    → (h.skip ≡ m.skip) × (h.limit ≡ m.limit) × IsPermutation h.sorted m.sorted × (h.sorted ≡ m.sorted → results ≡ others)

-- however ORDER BY arranges some rows, their keys are one list
abbrev pub SortedKeysAreOne : Type 0
SortedKeysAreOne =
    (g : Given) (graph : Graph) (columns : List Column) (order : List SortItem) (all sorted others : List Projected)
    → (a : Arranged g graph columns order all sorted) → (b : Arranged g graph columns order all others) → a.keys ≡ b.keys

-- with neither ORDER BY nor DISTINCT nor an aggregate no order is open
abbrev pub PlainProjectsOne : Type 0
PlainProjectsOne =
    (g : Given) (graph : Graph) (columns : List Column) (p : Projection) (where_ : Option Expression) (rows results others : List Row)
    → p.order ≡ [] → p.distinct ≡ false → list_any is_aggregate columns ≡ false
    → Projects g graph columns p where_ rows results → Projects g graph columns p where_ rows others → results ≡ others

abbrev pub ReturnGivesOne : Type 0
ReturnGivesOne =
    (p : Projection) (g : Given) (graph after other : Graph) (rows results others : List Row) → p.skip ≡ None → p.limit ≡ None
    → Step g (return_rows p) graph rows after results → Step g (return_rows p) graph rows other others → (after ≡ other) × IsPermutation results others

abbrev pub WithGivesOne : Type 0
WithGivesOne =
    (p : Projection) (g : Given) (graph after other : Graph) (rows results others : List Row) → p.skip ≡ None → p.limit ≡ None
    → Step g (with_rows p None) graph rows after results → Step g (with_rows p None) graph rows other others → (after ≡ other) × IsPermutation results others
