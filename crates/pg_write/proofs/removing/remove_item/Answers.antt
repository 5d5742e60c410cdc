use Rattle.std.proofs.Common.{◌≡◌, Ok, sym, ap, ◌∙◌, refl}
use Rattle.std.proofs.lemmas.Result.{IfOk-from_err}
use Rattle.pg_expr.proofs.ExitLemmas.{fault_passed}
use Rattle.pg_meaning.specs.Updates.{remove_item, target_of}
use Rattle.pg_syntax_tree.specs.View.{remove_item_view}
use Rattle.pg_syntax_tree.specs.declared.clauses.RemoveItem.{RemoveItem as Code}
use Rattle.pg_write.proofs.ExitLemmas.{err_through, ok_through}
use Rattle.pg_write.proofs.PartLemmas.{not_nothing}
use Rattle.pg_write.proofs.RemoveLemmas.{nothing_removed, target_refused, target_removed}
use Rattle.pg_write.specs.Parts.{removed_by}
use Rattle.pg_write.specs.Targets.{target_view}
use Rattle.pg_write_make.specs.Scenes.{row_in}
use Rattle.pg_write.proofs.removing.remove_item.Goals as goal

pub returns-in_err-target : goal.returns-in_err-target
returns-in_err-target g c =
    let graph = c.args.live.now.graph in
    let row = row_in c.args.scene.now c.args.row.now in
    let item = remove_item_view c.args.item.now in
    let given = remove_item row graph item in
    record {
      ok = IfOk-from_err c.from_residual.result (λ u. given ≡ Ok graph) c.from_residual.ensures.0;
      err =
          fault_passed given c.in_err-target.field-0.0 c.from_residual.result c.from_residual.ensures.1
          (λ other. target_refused row graph item c.in_err-target.field-0.0
          ((λ i. target_of (sym c.graph.ensures.is i) row (sym c.target_name.ensures i)) ∙ c.in_err-target.ensures.err));
      aside = refl;
    }

pub returns-in-Nothing : goal.returns-in-Nothing
returns-in-Nothing g c =
    let graph = c.args.live.now.graph in
    let row = row_in c.args.scene.now c.args.row.now in
    record {
      ok =
          nothing_removed row graph (remove_item_view c.args.item.now)
          ((λ i. target_of (sym c.graph.ensures.is i) row (sym c.target_name.ensures i)) ∙ c.in_ok-target.ensures.ok ∙ ap (λ t. Ok (target_view t)) c.in-Nothing.is);
      err = tt;
      aside = refl;
    }

pub returns-in-Labels : goal.returns-in-Labels
returns-in-Labels g c =
    let graph = c.args.live.now.graph in
    let row = row_in c.args.scene.now c.args.row.now in
    let item = remove_item_view c.args.item.now in
    let target = target_view c.in_ok-target.target in
    let by = λ (i : Code). removed_by (remove_item_view i) graph target in
    let first =
    target_removed row graph item target ((λ i. target_of (sym c.graph.ensures.is i) row (sym c.target_name.ensures i)) ∙ c.in_ok-target.ensures.ok) (not_nothing c.in_ok-target.target c.in_default.not-Nothing)
    ∙ ap by c.in-Labels.is in
    record {
      ok = ok_through c.change_labels.result (remove_item row graph item) _ (Ok c.change_labels.new.live.graph) first c.change_labels.ensures.ok;
      err = err_through c.change_labels.result (remove_item row graph item) _ first c.change_labels.ensures.err;
      aside = c.change_labels.ensures.aside;
    }
