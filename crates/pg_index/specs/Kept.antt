-- Sets of ids that are kept: none is empty.
use Rattle.std.specs.Prelude.{◌≢◌, List, All}
use Rattle.std.specs.FinMap as map
use Rattle.pg_graph.specs.Removed.{Ids}

abbrev pub NoneIsEmpty : List Ids → Type 0
NoneIsEmpty sets = All (λ ids. ids ≢ map.empty) sets
