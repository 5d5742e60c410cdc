use Rattle.std.proofs.Common.{◌≡◌, drop}
use Rattle.pg_match_stages.specs.View.{wanted_pairs}
use Rattle.pg_meaning.specs.Updates.{has_null}
use Rattle.pg_write.proofs.nulls.has_null.Given as goal

abbrev pub invariant-loop-property : goal.invariant-loop-property
invariant-loop-property l = has_null (wanted_pairs l.properties.items) ≡ has_null (wanted_pairs (drop l.property-index l.properties.items))
