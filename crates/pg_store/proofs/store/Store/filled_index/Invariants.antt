use Rattle.std.proofs.Common.{◌≡◌, ℕ, true, length}
use Rattle.pg_index.specs.Properties.{finds, is_found_by}
use Rattle.pg_store.specs.Covers.{passes}
use Rattle.pg_value_core.specs.declared.value.Value.{Value}
use Rattle.pg_store.proofs.Filling.{IsFilled}
use Rattle.pg_store.proofs.store.Store.filled_index.Given as goal

abbrev pub invariant-loop-id : goal.invariant-loop-id
invariant-loop-id g l = record {
  label : l.index.label ≡ l.fn.label;
  key : l.index.key ≡ l.fn.key;
  only : (v : Value) (i : ℕ) → finds l.index v i ≡ true → passes (is_found_by l.fn.label l.fn.key v) (g.T.Tables.seen.content l.self.tables l.shared.tables).nodes i ≡ true;
  filled : IsFilled (g.T.Tables.seen.content l.self.tables l.shared.tables).nodes l.fn.label l.fn.key l.index l.ids;
}

abbrev pub decreases-loop-id : goal.decreases-loop-id
decreases-loop-id g l = length l.ids
