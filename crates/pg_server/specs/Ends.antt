-- What an operator is told of the end of a run.
use Rattle.std.specs.Prelude.{ℕ, List, [], codes}
use Rattle.pg_server.specs.declared.end.End.{End}
use Rattle.pg_server.specs.declared.end.End.TheVariants.{Done, Cut, TooLong, ReadFailed, WriteFailed, NoMemory}

abbrev pub end_line : End → List ℕ
end_line Done = []
end_line Cut = codes "input ended inside a frame"
end_line TooLong = codes "frame too long"
end_line ReadFailed = codes "read failed"
end_line WriteFailed = codes "write failed"
end_line NoMemory = codes "out of memory"

abbrev pub end_status : End → ℕ
end_status Done = 0
end_status Cut = 1
end_status TooLong = 1
end_status ReadFailed = 1
end_status WriteFailed = 1
end_status NoMemory = 1
