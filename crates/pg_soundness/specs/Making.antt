-- What is said of CREATE and MERGE: the one answer is one that the meaning gives.
use Rattle.std.specs.Prelude.{Bool, List}
use Rattle.pg_meaning.specs.Agreement.{ClauseAgrees}
use Rattle.pg_meaning.specs.Tree.{PathPattern, SetItem, create, merge}

-- for every CREATE
abbrev pub CreateAgrees : Type 0
CreateAgrees = (paths : List PathPattern) → ClauseAgrees (create paths)

-- for every MERGE
abbrev pub MergeAgrees : Type 0
MergeAgrees = (p : PathPattern) (parts : List (Bool × List SetItem)) → ClauseAgrees (merge p parts)
