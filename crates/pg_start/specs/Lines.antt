-- What is told of a server that isn't started, and the exit status of its program.
use Rattle.std.specs.Prelude.{ℕ, List, codes}
use Rattle.pg_server.specs.ConfigLines.{config_line, config_status}
use Rattle.pg_start.specs.declared.start_fault.StartFault.{StartFault}
use Rattle.pg_start.specs.declared.start_fault.StartFault.TheVariants.{Unreadable, Config, NoRandomNumbers, OutOfMemory}

abbrev pub start_line : StartFault → List ℕ
start_line Unreadable = codes "cannot read the configuration"
start_line (Config fault) = config_line fault
start_line NoRandomNumbers = codes "no random numbers"
start_line OutOfMemory = codes "out of memory"

abbrev pub start_status : StartFault → ℕ
start_status Unreadable = 2
start_status (Config fault) = config_status fault
start_status NoRandomNumbers = 1
start_status OutOfMemory = 1
