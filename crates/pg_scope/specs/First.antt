-- The first fault so far, with further ones.
use Rattle.std.specs.Prelude.{◌≡◌, List, Option}
use Rattle.pg_meaning.specs.StaticFaults.{PlacedFault, least}

pub record IsFirst (before : Option PlacedFault) (faults : List PlacedFault) (first : Option PlacedFault) : Type 0 where
  pub is : first ≡ least before faults
