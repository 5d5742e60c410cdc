use Rattle.std.proofs.Common.{◌≡◌, ◌==◌, ℕ, true, drop}
use Rattle.std.specs.List.{list_any}
use Rattle.std.specs.Prelude.{◌||◌}
use Rattle.pg_store.proofs.notes.note_labels.Given as goal
use Rattle.pg_store.specs.Covers.{with_label}
use Rattle.pg_store.specs.Noted.{StayNoted, is_noted}

abbrev pub invariant-loop-label : goal.invariant-loop-label
invariant-loop-label l = record {
  notes : StayNoted l.fn.stale_ids.items l.stale_ids.items;
  items : l.label-items ≡ l.labels;
  done : (m : ℕ) → list_any (λ x. x == m) l.label-items ≡ true → (is_noted l.stale_ids.items (with_label m) l.id || list_any (λ x. x == m) (drop l.label-index l.label-items)) ≡ true;
}
