-- What an operator is told of a faulty configuration.
use Rattle.std.specs.Prelude.{ℕ, List, codes}
use Rattle.pg_server.specs.declared.config_fault.ConfigFault.{ConfigFault}
use Rattle.pg_server.specs.declared.config_fault.ConfigFault.TheVariants.{NotJson, WrongShape, OutOfRange, TokenTwice, Memory}

abbrev pub config_line : ConfigFault → List ℕ
config_line NotJson = codes "configuration: not JSON"
config_line WrongShape = codes "configuration: wrong shape"
config_line OutOfRange = codes "configuration: number out of range"
config_line TokenTwice = codes "configuration: token used twice"
config_line Memory = codes "out of memory"

abbrev pub config_status : ConfigFault → ℕ
config_status NotJson = 2
config_status WrongShape = 2
config_status OutOfRange = 2
config_status TokenTwice = 2
config_status Memory = 1
