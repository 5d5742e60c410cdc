use Rattle.std.proofs.Common.{◌≡◌, drop}
use Rattle.pg_match_bindings.specs.InTurn.{after}
use Rattle.pg_store.specs.Stores.{pairs_of}
use Rattle.pg_write_make.specs.Values.{pairs_given, pairs_wanted}
use Rattle.pg_write_make.proofs.values.pair_values.Given as goal

abbrev pub invariant-loop-pair : goal.invariant-loop-pair
invariant-loop-pair g l = pairs_given l.scene l.graph l.row (pairs_wanted l.pairs.items) ≡ after (pairs_of l.values.items) (pairs_given l.scene l.graph l.row (pairs_wanted (drop l.pair-index l.pairs.items)))
