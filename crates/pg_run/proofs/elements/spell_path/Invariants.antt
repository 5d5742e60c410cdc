use Rattle.std.proofs.Common.{drop}
use Rattle.pg_run.proofs.Places.{PlacesSpelt}
use Rattle.pg_run.proofs.elements.spell_path.Given as goal

abbrev pub invariant-loop-id : goal.invariant-loop-id
invariant-loop-id g l = PlacesSpelt l.graph l.initial.room l.room l.is_node l.id-items (drop l.id-index l.id-items) l.found.items
