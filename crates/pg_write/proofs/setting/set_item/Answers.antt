use Rattle.std.proofs.Common.{Ok, sym, ap, ◌∙◌, refl}
use Rattle.std.proofs.lemmas.Result.{err_from_is_err_and}
use Rattle.pg_meaning.specs.Updates.{set_item, target_of}
use Rattle.pg_syntax_tree.specs.View.{name_view}
use Rattle.pg_write.proofs.ExitLemmas.{ok_through, err_through}
use Rattle.pg_write.proofs.PartLemmas.{not_nothing, nothing_set, target_refused, target_set}
use Rattle.pg_write.specs.Items.{changed_by, item_of}
use Rattle.pg_write.specs.Targets.{target_view}
use Rattle.pg_write.specs.declared.items.ReadyChange.{ReadyChange}
use Rattle.pg_write.specs.declared.items.ReadyChange.TheVariants.{Key, Map, Labels}
use Rattle.pg_write_make.specs.Scenes.{parameters_in, reading, row_in}
use Rattle.pg_write.proofs.setting.set_item.Goals as goal

pub returns-in_err-target-clause-err : goal.returns-in_err-target-clause-err
returns-in_err-target-clause-err g c =
    let scene = c.args.scene.now in
    let graph = c.args.live.now.graph in
    let row = row_in scene c.args.row.now in
    let name = name_view c.args.item.now.target.now in
    let p = err_from_is_err_and c.from_residual.result c.from_residual.ensures.1 in
    rw (p.1, p.2)
    (λ other. target_refused scene.names.now (parameters_in scene) row graph name c.args.item.now.change c.in_err-target.field-0.0
    (ap (λ read. target_of read row name) (sym c.graph.ensures.is) ∙ c.in_err-target.ensures.err))

pub returns-in_err-target-clause-aside : goal.returns-in_err-target-clause-aside
returns-in_err-target-clause-aside g c = refl

pub returns-in-Nothing-clause-ok : goal.returns-in-Nothing-clause-ok
returns-in-Nothing-clause-ok g c =
    let scene = c.args.scene.now in
    let graph = c.args.live.now.graph in
    let row = row_in scene c.args.row.now in
    let name = name_view c.args.item.now.target.now in
    nothing_set scene.names.now (parameters_in scene) row graph name c.args.item.now.change
    (ap (λ read. target_of read row name) (sym c.graph.ensures.is) ∙ c.in_ok-target.ensures.ok ∙ ap (λ t. Ok (target_view t)) c.in-Nothing.is)

pub returns-in-Nothing-clause-aside : goal.returns-in-Nothing-clause-aside
returns-in-Nothing-clause-aside g c = refl

pub returns-in-Key : goal.returns-in-Key
returns-in-Key g c =
    let scene = c.args.scene.now in
    let graph = c.args.live.now.graph in
    let row = row_in scene c.args.row.now in
    let name = name_view c.args.item.now.target.now in
    let target = target_view c.in_ok-target.target in
    let change = c.args.item.now.change in
    let by = λ (change : ReadyChange). changed_by scene.names.now (parameters_in scene) row graph change target in
    let whole = set_item (reading (parameters_in scene)) row graph (item_of scene.names.now c.args.item.now) in
    let first =
    target_set scene.names.now (parameters_in scene) row graph name change target
    (ap (λ read. target_of read row name) (sym c.graph.ensures.is) ∙ c.in_ok-target.ensures.ok) (not_nothing c.in_ok-target.target c.in_default.not-Nothing)
    ∙ ap by c.in-Key.is in
    record {
      ok = ok_through c.set_key.result whole (by (Key c.in-Key.key c.in-Key.value)) (Ok c.set_key.new.live.graph) first c.set_key.ensures.ok;
      err = err_through c.set_key.result whole (by (Key c.in-Key.key c.in-Key.value)) first c.set_key.ensures.err;
      aside = c.set_key.ensures.aside;
    }

pub returns-in-Map : goal.returns-in-Map
returns-in-Map g c =
    let scene = c.args.scene.now in
    let graph = c.args.live.now.graph in
    let row = row_in scene c.args.row.now in
    let name = name_view c.args.item.now.target.now in
    let target = target_view c.in_ok-target.target in
    let change = c.args.item.now.change in
    let by = λ (change : ReadyChange). changed_by scene.names.now (parameters_in scene) row graph change target in
    let whole = set_item (reading (parameters_in scene)) row graph (item_of scene.names.now c.args.item.now) in
    let first =
    target_set scene.names.now (parameters_in scene) row graph name change target
    (ap (λ read. target_of read row name) (sym c.graph.ensures.is) ∙ c.in_ok-target.ensures.ok) (not_nothing c.in_ok-target.target c.in_default.not-Nothing)
    ∙ ap by c.in-Map.is in
    record {
      ok = ok_through c.set_map.result whole (by (Map c.in-Map.value c.in-Map.is_whole)) (Ok c.set_map.new.live.graph) first c.set_map.ensures.ok;
      err = err_through c.set_map.result whole (by (Map c.in-Map.value c.in-Map.is_whole)) first c.set_map.ensures.err;
      aside = c.set_map.ensures.aside;
    }

pub returns-in-Labels : goal.returns-in-Labels
returns-in-Labels g c =
    let scene = c.args.scene.now in
    let graph = c.args.live.now.graph in
    let row = row_in scene c.args.row.now in
    let name = name_view c.args.item.now.target.now in
    let target = target_view c.in_ok-target.target in
    let change = c.args.item.now.change in
    let by = λ (change : ReadyChange). changed_by scene.names.now (parameters_in scene) row graph change target in
    let whole = set_item (reading (parameters_in scene)) row graph (item_of scene.names.now c.args.item.now) in
    let first =
    target_set scene.names.now (parameters_in scene) row graph name change target
    (ap (λ read. target_of read row name) (sym c.graph.ensures.is) ∙ c.in_ok-target.ensures.ok) (not_nothing c.in_ok-target.target c.in_default.not-Nothing)
    ∙ ap by c.in-Labels.is in
    record {
      ok = ok_through c.change_labels.result whole (by (Labels c.in-Labels.labels)) (Ok c.change_labels.new.live.graph) first c.change_labels.ensures.ok;
      err = err_through c.change_labels.result whole (by (Labels c.in-Labels.labels)) first c.change_labels.ensures.err;
      aside = c.change_labels.ensures.aside;
    }
