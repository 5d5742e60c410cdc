use Rattle.std.proofs.Common.{◌≡◌, sym, ap, ◌∙◌}
use Rattle.std.specs.Borrow.{Bor}
use Rattle.std.specs.Prelude.{Vec}
use Rattle.std.specs.declared.alloc.Global.{Global}
use Rattle.pg_tree_equality.proofs.IndexLemmas.{begins, put, viewed, one_item, all_items}
use Rattle.pg_tree_equality.specs.Index.{group, listed}
use Rattle.pg_syntax_tree.specs.declared.expression.Expression.{Expression}
use Rattle.pg_tree_equality.proofs.index.index_of.Goals.{in-Some, in-None}
use Rattle.pg_tree_equality.proofs.index.index_of.Goals as goal

pub loop-item-init : goal.loop-item-init
loop-item-init c = begins _ _ c.new-index.ensures.empty

pub loop-item-preserved : goal.loop-item-preserved
loop-item-preserved c =
    let code = c.in_ok-code.code in
    let was : group c.loop-item.index code.items ≡ viewed c.match-remove.found.items = elim c.match-remove.branch [
      | in-Some w ↦ ap listed (sym c.remove.ensures.value ∙ w.in-Some.is) ∙ ap (λ (v : Vec (Bor Expression) Global). viewed v.items) (sym w.found-is)
      | in-None w ↦ ap listed (sym c.remove.ensures.value ∙ w.in-None.is) ∙ sym (ap (λ (v : Vec (Bor Expression) Global). viewed v.items) w.found-is ∙ ap viewed w.new-found.ensures.items)
    ] in
    let added = put c.loop-item.index c.remove.new.self c.insert.new.self code c.match-remove.found c.push.new.self _ c.remove.ensures.updates c.in_ok-insert.ensures.updates was c.in_ok-push.ensures.items in
    one_item _ _ code c.loop-item-test.true c.item-item.is c.deref-item-items.ensures.value c.in_ok-code.ensures added c.loop-item.invariant

pub returns : goal.returns
returns c = all_items _ c.loop-item-test.false c.deref-item-items.ensures.value c.loop-item.invariant
