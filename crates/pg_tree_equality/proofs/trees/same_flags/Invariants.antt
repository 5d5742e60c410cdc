use Rattle.std.proofs.Common.{◌≡◌, drop}
use Rattle.pg_meaning.specs.Trees.{same_flags}
use Rattle.pg_tree_equality.proofs.trees.same_flags.Given as goal

abbrev pub invariant-loop-i : goal.invariant-loop-i
invariant-loop-i l = same_flags l.a.items l.b.items ≡ same_flags (drop l.i l.a.items) (drop l.i l.b.items)
