-- What a clause does with its patterns.
use Rattle.pg_meaning.specs.StaticFaults as faults
use Rattle.pg_scope.specs.declared.modes.Mode.{Mode}
use Rattle.pg_scope.specs.declared.modes.Mode.TheVariants.{Matching, Creating, Merging}

abbrev pub mode_view : Mode → faults.Mode
mode_view Matching = faults.matching
mode_view Creating = faults.creating
mode_view Merging = faults.merging
