-- The entries that a request's parameters are.
use Rattle.pg_meaning.specs.Value.{Entries}
use Rattle.pg_value_core.specs.View.{entries_view}
use Rattle.pg_value_core.specs.declared.parameters.Parameters.{Parameters}

abbrev pub parameters_view : Parameters → Entries
parameters_view p = entries_view p.values.entries
