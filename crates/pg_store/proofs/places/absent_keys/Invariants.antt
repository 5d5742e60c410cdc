use Rattle.std.proofs.Common.{◌≡◌, ◌<◌, ℕ, None}
use Rattle.std.specs.FinMap as map
use Rattle.std.specs.List.{AllByRecursion}
use Rattle.pg_graph.specs.Records.{AreKeys}
use Rattle.pg_store.proofs.places.absent_keys.Given as goal

abbrev pub invariant-loop-key : goal.invariant-loop-key
invariant-loop-key l = record {
  rising : AreKeys l.absent.items;
  absent : AllByRecursion (λ key. map.get l.properties key ≡ None) l.absent.items;
  bounded : (bound : ℕ) → AllByRecursion (λ key. key < bound) l.keys → AllByRecursion (λ key. key < bound) l.absent.items;
}
