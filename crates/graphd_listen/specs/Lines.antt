-- What the program tells on standard error, and its exit status.
use Rattle.std.specs.Prelude.{ℕ, List, codes}
use Rattle.pg_start.specs.Lines.{start_line, start_status}
use Rattle.graphd_listen.specs.declared.fault.ProgramFault.{ProgramFault}
use Rattle.graphd_listen.specs.declared.fault.ProgramFault.TheVariants.{Usage, Start, Log, OpenJournal, NameTwice, Journal, NotKept, Listen, Wait}
use Rattle.pg_journal.specs.declared.fault.JournalError.{JournalError}
use Rattle.pg_journal.specs.declared.fault.JournalError.TheVariants.{Memory, Failed, Full, Foreign, Damaged, Differs}

abbrev pub journal_line : JournalError → List ℕ
journal_line Memory = codes "out of memory"
journal_line Failed = codes "the disk of the journal has failed"
journal_line Full = codes "the journal can't grow further"
journal_line Foreign = codes "the file is no journal"
journal_line Damaged = codes "the journal is damaged"
journal_line Differs = codes "a request of the journal is answered otherwise than before"

abbrev pub journal_status : JournalError → ℕ
journal_status Memory = 1
journal_status Failed = 1
journal_status Full = 1
journal_status Foreign = 3
journal_status Damaged = 4
journal_status Differs = 5

abbrev pub program_line : ProgramFault → List ℕ
program_line Usage = codes "usage: graphd_listen CONFIG ADDRESS:PORT [--clients N] [--patience SECONDS] [--tenant-clients N] [--keep-open] [--log FILE] [--metrics ADDRESS:PORT] [--journal FILE] [--sync every|turn|SECONDS] | graphd_listen --check CONFIG"
program_line (Start fault) = start_line fault
program_line Log = codes "cannot open the log"
program_line OpenJournal = codes "cannot open the journal"
program_line NameTwice = codes "with a journal, each tenant needs a name of its own"
program_line (Journal fault) = journal_line fault
program_line NotKept = codes "cannot keep requests in the journal"
program_line Listen = codes "cannot listen"
program_line Wait = codes "cannot wait for connections"

abbrev pub program_status : ProgramFault → ℕ
program_status Usage = 2
program_status (Start fault) = start_status fault
program_status Log = 1
program_status OpenJournal = 1
program_status NameTwice = 2
program_status (Journal fault) = journal_status fault
program_status NotKept = 6
program_status Listen = 1
program_status Wait = 1
