use Rattle.std.proofs.Common.{◌≡◌, map, option_copied, Option, sym, ap, ◌∙◌}
use Rattle.std.specs.Borrow.{Bor}
use Rattle.std.specs.List.{list_any}
use Rattle.std.specs.Prelude.{Vec}
use Rattle.std.specs.declared.alloc.Global.{Global}
use Rattle.pg_tree_equality.proofs.IndexLemmas.{found_there}
use Rattle.pg_tree_equality.specs.Index.{group, listed}
use Rattle.pg_meaning.specs.Trees.{same_expression}
use Rattle.pg_syntax_tree.specs.View.{expression_view, item_view}
use Rattle.pg_syntax_tree.specs.declared.expression.Expression.{Expression}
use Rattle.pg_tree_equality.proofs.index.is_item.Goals.{in-Some, in-None}
use Rattle.pg_tree_equality.proofs.index.is_item.Goals as goal

pub returns : goal.returns
returns c =
    let key = expression_view c.args.key.now in
    let code = c.in_ok-code.code in
    let here = λ (o : Option (Vec (Bor Expression) Global)). list_any (λ x. same_expression x key) (listed o) in
    let there : c.match-get.result ≡ list_any (λ x. same_expression x key) (group c.args.index.now code.items) = elim c.match-get.branch [
      | in-Some w ↦ w.result-is ∙ w.is_among.ensures ∙ ap here (sym (ap option_copied w.in-Some.is) ∙ c.get.ensures.value)
      | in-None w ↦ w.result-is ∙ ap here (sym (ap option_copied w.in-None.is) ∙ c.get.ensures.value)
    ] in
    there ∙ found_there c.args.index.now (map item_view c.args.items.now.items) key code c.in_ok-code.ensures c.requires
