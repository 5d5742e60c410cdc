use Rattle.std.proofs.Common.{◌≡◌, drop}
use Rattle.pg_meaning.specs.Trees.{same_names}
use Rattle.pg_syntax_tree.specs.View.{names_view}
use Rattle.pg_tree_equality.proofs.trees.same_names.Given as goal

abbrev pub invariant-loop-i : goal.invariant-loop-i
invariant-loop-i l = same_names (names_view l.a.items) (names_view l.b.items) ≡ same_names (names_view (drop l.i l.a.items)) (names_view (drop l.i l.b.items))
