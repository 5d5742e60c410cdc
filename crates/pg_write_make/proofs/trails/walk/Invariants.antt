use Rattle.std.proofs.Common.{◌≡◌, ◌++◌, ◌∷◌, drop}
use Rattle.pg_meaning.specs.Patterns.{walk_on}
use Rattle.pg_write_make.specs.Makings.{relationship_ids}
use Rattle.pg_write_make.proofs.trails.walk.Given as goal

abbrev pub invariant-loop-id : goal.invariant-loop-id
invariant-loop-id g l = l.fn.first.0 ∷ walk_on l.graph l.fn.first.0 (relationship_ids l.relationships.items) ≡ l.ids.items ++ walk_on l.graph l.at.0 (relationship_ids (drop l.id-index l.relationships.items))
