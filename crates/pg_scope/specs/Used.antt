-- The variables of a clause so far, and the walk over the parts of its paths.
use Rattle.std.specs.Prelude.{◌≡◌, List, [], ◌++◌, Option}
use Rattle.pg_meaning.specs.Names.{Names}
use Rattle.pg_meaning.specs.StaticFaults.{PlacedFault, Mode, Part, least, parts_faults}
use Rattle.pg_meaning.specs.StaticFaults as faults
use Rattle.pg_scope.specs.Names.{names_in}
use Rattle.pg_scope.specs.declared.used.Used.{Used}

abbrev pub used_in : Used → faults.Used
used_in u = record { nodes = names_in u.nodes; others = names_in u.others }

abbrev pub nothing_used : faults.Used
nothing_used = record { nodes = []; others = [] }

-- past some parts: what is used, and the first fault
pub record Passes (mode : Mode) (outer : Names) (parts : List Part) (before : faults.Used) (first : Option PlacedFault) (after : faults.Used) (found : Option PlacedFault) : Type 0 where
  pub is : (rest : List Part) → least first (parts_faults mode outer before (parts ++ rest)) ≡ least found (parts_faults mode outer after rest)
