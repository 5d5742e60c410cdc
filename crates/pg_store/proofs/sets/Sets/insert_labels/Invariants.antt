use Rattle.std.proofs.Common.{◌≡◌, ◌==◌, ℕ, true, false, drop}
use Rattle.std.specs.List.{list_any}
use Rattle.pg_store.proofs.CoverLemmas.{Grows}
use Rattle.pg_store.proofs.sets.Sets.insert_labels.Given as goal
use Rattle.pg_store.specs.Covers.{with_label, has_in}
use Rattle.pg_store.specs.Noted.{Gains}

abbrev pub invariant-loop-label : goal.invariant-loop-label
invariant-loop-label l = record {
  grown : Grows (has_in l.fn.self) (has_in l.self);
  gains : Gains l.fn.self l.self;
  labels : (m : ℕ) → list_any (λ n. n == m) l.label-items ≡ true → list_any (λ n. n == m) (drop l.label-index l.label-items) ≡ false → has_in l.self (with_label m) l.id ≡ true;
  items : l.label-items ≡ l.labels;
}
