use Rattle.std.proofs.Common.{◌≡◌, drop}
use Rattle.pg_tree_equality.specs.Codes.{with_flags}
use Rattle.pg_tree_equality.proofs.codes.add_flags.Given as goal

abbrev pub invariant-loop-flag : goal.invariant-loop-flag
invariant-loop-flag l = with_flags (drop l.flag-index l.flags.items) l.code.items ≡ with_flags l.flags.items l.fn.code.items
