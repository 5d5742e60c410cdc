use Rattle.std.proofs.Common.{◌≡◌, ◌≤◌, ◌-◌}
use Rattle.pg_expr_calls.specs.Ranges.{AllFit}
use Rattle.pg_meaning.specs.Arithmetic.{appended}
use Rattle.pg_meaning.specs.Functions.{integers_from}
use Rattle.pg_value_core.specs.View.{values_view}
use Rattle.pg_expr_calls.proofs.ranges.integers_from.Given as goal

-- the integers so far and those that are left make all, and those that are left fit
abbrev pub invariant-loop-k : goal.invariant-loop-k
invariant-loop-k l =
    (l._k ≤ l.count) × AllFit (l.count - l._k) l.next l.step × (appended (values_view l.items.items) (integers_from (l.count - l._k) l.next l.step) ≡ integers_from l.count l.start l.step)
