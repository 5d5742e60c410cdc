use Rattle.std.proofs.Common.{◌≡◌, ◌++◌, map, drop}
use Rattle.pg_expr.specs.Prepared.{tree_of}
use Rattle.pg_syntax_tree.specs.View.{expression_view}
use Rattle.pg_write.proofs.gathering.prepare_all.Given as goal

abbrev pub invariant-loop-element : goal.invariant-loop-element
invariant-loop-element l = map (tree_of l.names) l.ready.items ++ map expression_view (drop l.element-index l.elements.items) ≡ map expression_view l.elements.items
