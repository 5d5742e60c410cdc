-- WITH, RETURN and UNWIND agree with their meaning, every clause of these kinds.
use Rattle.std.specs.Prelude.{Option}
use Rattle.pg_meaning.specs.Agreement.{ClauseAgrees}
use Rattle.pg_meaning.specs.Tree.{Expression, Name, Projection, unwind, with_rows, return_rows}

abbrev pub WithAgrees : Type 0
WithAgrees = (p : Projection) (where_ : Option Expression) → ClauseAgrees (with_rows p where_)

abbrev pub ReturnAgrees : Type 0
ReturnAgrees = (p : Projection) → ClauseAgrees (return_rows p)

abbrev pub UnwindAgrees : Type 0
UnwindAgrees = (e : Expression) (name : Name) → ClauseAgrees (unwind e name)
