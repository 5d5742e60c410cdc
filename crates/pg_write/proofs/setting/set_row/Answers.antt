use Rattle.std.proofs.Common.{◌≡◌, map, Ok, refl, ◌∙◌}
use Rattle.std.proofs.lemmas.Result.{IfOk-from_err}
use Rattle.pg_expr.proofs.ExitLemmas.{fault_passed}
use Rattle.pg_meaning.specs.Updates.{set_item, set_row}
use Rattle.pg_write.proofs.StepLemmas.{next, fault, done}
use Rattle.pg_write.specs.Items.{item_of}
use Rattle.pg_write_make.specs.Scenes.{parameters_in, reading, row_in}
use Rattle.pg_write.proofs.setting.set_row.Goals as goal

pub loop-item-init : goal.loop-item-init
loop-item-init g c = record { rest = refl; aside = refl }

pub loop-item-preserved : goal.loop-item-preserved
loop-item-preserved g c =
    let scene = c.args.scene.now in
    let l = c.loop-item in
    let old = c.args.live.now.graph in
    record {
      rest =
          next (set_item (reading (parameters_in scene)) (row_in scene c.args.row.now)) (item_of scene.names.now) c.args.items.now.items c.deref-item-items.result.now c.deref-item-items.ensures.value l.item-index
          (set_row (reading (parameters_in scene)) (map (item_of scene.names.now) c.args.items.now.items) old (row_in scene c.args.row.now)) l.live.graph l.invariant.rest
          c.item-item.result c.loop-item-test.true c.item-item.is c.set_item.new.live.graph c.in_ok-set_item.ensures.ok;
      aside = c.set_item.ensures.aside ∙ l.invariant.aside;
    }

pub returns-in_err-set_item : goal.returns-in_err-set_item
returns-in_err-set_item g c =
    let scene = c.args.scene.now in
    let l = c.loop-item in
    let old = c.args.live.now.graph in
    let given = set_row (reading (parameters_in scene)) (map (item_of scene.names.now) c.args.items.now.items) old (row_in scene c.args.row.now) in
    record {
      ok = IfOk-from_err c.from_residual.result (λ u. given ≡ Ok c.set_item.new.live.graph) c.from_residual.ensures.0;
      err =
          fault_passed given c.in_err-set_item.field-0.0 c.from_residual.result c.from_residual.ensures.1
          (λ other. fault (set_item (reading (parameters_in scene)) (row_in scene c.args.row.now)) (item_of scene.names.now) c.args.items.now.items c.deref-item-items.result.now c.deref-item-items.ensures.value l.item-index
          given l.live.graph l.invariant.rest
          c.item-item.result c.loop-item-test.true c.item-item.is c.in_err-set_item.field-0.0 (c.in_err-set_item.ensures.err other));
      aside = c.set_item.ensures.aside ∙ l.invariant.aside;
    }

pub returns : goal.returns
returns g c =
    let scene = c.args.scene.now in
    let l = c.loop-item in
    let old = c.args.live.now.graph in
    record {
      ok =
          done (set_item (reading (parameters_in scene)) (row_in scene c.args.row.now)) (item_of scene.names.now) c.args.items.now.items c.deref-item-items.result.now c.deref-item-items.ensures.value l.item-index
          (set_row (reading (parameters_in scene)) (map (item_of scene.names.now) c.args.items.now.items) old (row_in scene c.args.row.now)) l.live.graph l.invariant.rest c.loop-item-test.false;
      err = tt;
      aside = l.invariant.aside;
    }
