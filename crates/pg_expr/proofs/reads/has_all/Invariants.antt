use Rattle.std.proofs.Common.{◌≡◌, drop}
use Rattle.std.specs.List.{list_all}
use Rattle.pg_meaning.specs.Names.{is_among}
use Rattle.pg_syntax_tree.specs.View.{names_view}
use Rattle.pg_expr.proofs.reads.has_all.Given as goal

abbrev pub invariant-loop-label : goal.invariant-loop-label
invariant-loop-label g l =
    list_all (λ n. is_among l.node.labels n.text) (names_view l.labels.items) ≡ list_all (λ n. is_among l.node.labels n.text) (names_view (drop l.label-index l.labels.items))
