use Rattle.std.proofs.Common.{◌≡◌, drop}
use Rattle.std.specs.List.{list_all}
use Rattle.pg_meaning.specs.Updates.{may_be_set}
use Rattle.pg_store.specs.Stores.{pairs_of}
use Rattle.pg_write_make.proofs.storable.test_storable.Given as goal

abbrev pub invariant-loop-pair : goal.invariant-loop-pair
invariant-loop-pair l = list_all (λ p. may_be_set p.1) (pairs_of l.pairs.items) ≡ list_all (λ p. may_be_set p.1) (pairs_of (drop l.pair-index l.pairs.items))
