use Rattle.std.proofs.Common.{◌≡◌, ◌++◌, map}
use Rattle.std.specs.Prelude.{string_bytes}
use Rattle.pg_value_core.specs.View.{view}
use Rattle.pg_write.specs.Maps.{keys_of, values_of}
use Rattle.pg_write.proofs.maps.split.Given as goal

abbrev pub invariant-loop-key : goal.invariant-loop-key
invariant-loop-key l = record {
  keys : map string_bytes l.keys.items ++ keys_of l.key-iterator ≡ keys_of l.fn.entries.entries;
  values : map view l.values.items ++ values_of l.key-iterator ≡ values_of l.fn.entries.entries;
}
