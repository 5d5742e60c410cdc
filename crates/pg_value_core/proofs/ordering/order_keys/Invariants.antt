use Rattle.std.proofs.Common.{◌≡◌, nat_cmp}
use Rattle.std.specs.Cmp.Lexicographic.{slice_cmp}
use Rattle.pg_meaning.specs.Order.{keys_of}
use Rattle.pg_value_core.specs.View.{entries_view}
use Rattle.pg_value_core.proofs.ordering.order_keys.Given as goal

-- what is left decides
abbrev pub invariant-loop-key : goal.invariant-loop-key
invariant-loop-key l = slice_cmp (slice_cmp nat_cmp) (keys_of (entries_view l.key-iterator)) (keys_of (entries_view l.others)) ≡ slice_cmp (slice_cmp nat_cmp) (keys_of (entries_view l.xs.entries)) (keys_of (entries_view l.ys.entries))
