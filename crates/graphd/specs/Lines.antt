-- What the program tells on standard error, and its exit status.
use Rattle.std.specs.Prelude.{ℕ, List, Result, Ok, Err, codes}
use Rattle.pg_server.specs.Connections.{serve_line, serve_status}
use Rattle.pg_server.specs.Ends.{end_line, end_status}
use Rattle.pg_server.specs.declared.end.End.{End}
use Rattle.pg_start.specs.Lines.{start_line, start_status}
use Rattle.graphd.specs.declared.fault.ProgramFault.{ProgramFault}
use Rattle.graphd.specs.declared.fault.ProgramFault.TheVariants.{Usage, Start, Serving}

abbrev pub program_line : ProgramFault → List ℕ
program_line Usage = codes "usage: graphd run CONFIG | graphd serve CONFIG PORT COUNT"
program_line (Start fault) = start_line fault
program_line (Serving fault) = serve_line fault

abbrev pub program_status : ProgramFault → ℕ
program_status Usage = 2
program_status (Start fault) = start_status fault
program_status (Serving fault) = serve_status fault

-- the program ends as its run does, or by a fault of its own
abbrev pub outcome_line : Result End ProgramFault → List ℕ
outcome_line (Ok end) = end_line end
outcome_line (Err fault) = program_line fault

abbrev pub outcome_status : Result End ProgramFault → ℕ
outcome_status (Ok end) = end_status end
outcome_status (Err fault) = program_status fault
