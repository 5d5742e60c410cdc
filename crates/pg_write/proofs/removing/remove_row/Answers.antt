use Rattle.std.proofs.Common.{◌≡◌, map, Ok, refl, ◌∙◌}
use Rattle.std.proofs.lemmas.Result.{IfOk-from_err}
use Rattle.pg_expr.proofs.ExitLemmas.{fault_passed}
use Rattle.pg_meaning.specs.Updates.{remove_item, remove_row}
use Rattle.pg_syntax_tree.specs.View.{remove_item_view}
use Rattle.pg_write.proofs.StepLemmas.{next, fault, done}
use Rattle.pg_write_make.specs.Scenes.{row_in}
use Rattle.pg_write.proofs.removing.remove_row.Goals as goal

pub loop-item-init : goal.loop-item-init
loop-item-init g c = record { rest = refl; aside = refl }

pub loop-item-preserved : goal.loop-item-preserved
loop-item-preserved g c =
    let row = row_in c.args.scene.now c.args.row.now in
    let items = c.args.items.now.items in
    let l = c.loop-item in
    record {
      rest =
          next (remove_item row) remove_item_view items c.deref-item-items.result.now c.deref-item-items.ensures.value l.item-index
          (remove_row (map remove_item_view items) c.args.live.now.graph row) l.live.graph l.invariant.rest
          c.item-item.result c.loop-item-test.true c.item-item.is c.remove_item.new.live.graph c.in_ok-remove_item.ensures.ok;
      aside = c.remove_item.ensures.aside ∙ l.invariant.aside;
    }

pub returns-in_err-remove_item : goal.returns-in_err-remove_item
returns-in_err-remove_item g c =
    let row = row_in c.args.scene.now c.args.row.now in
    let items = c.args.items.now.items in
    let l = c.loop-item in
    let given = remove_row (map remove_item_view items) c.args.live.now.graph row in
    record {
      ok = IfOk-from_err c.from_residual.result (λ u. given ≡ Ok c.remove_item.new.live.graph) c.from_residual.ensures.0;
      err =
          fault_passed given c.in_err-remove_item.field-0.0 c.from_residual.result c.from_residual.ensures.1
          (λ other. fault (remove_item row) remove_item_view items c.deref-item-items.result.now c.deref-item-items.ensures.value l.item-index
          given l.live.graph l.invariant.rest
          c.item-item.result c.loop-item-test.true c.item-item.is c.in_err-remove_item.field-0.0 (c.in_err-remove_item.ensures.err other));
      aside = c.remove_item.ensures.aside ∙ l.invariant.aside;
    }

pub returns : goal.returns
returns g c =
    let row = row_in c.args.scene.now c.args.row.now in
    let items = c.args.items.now.items in
    let l = c.loop-item in
    record {
      ok =
          done (remove_item row) remove_item_view items c.deref-item-items.result.now c.deref-item-items.ensures.value l.item-index
          (remove_row (map remove_item_view items) c.args.live.now.graph row) l.live.graph l.invariant.rest c.loop-item-test.false;
      err = tt;
      aside = l.invariant.aside;
    }
