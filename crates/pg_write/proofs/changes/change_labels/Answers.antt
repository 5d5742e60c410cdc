use Rattle.std.proofs.Common.{◌≡◌, false, Ok, refl, sym, ap, subst, ◌∙◌}
use Rattle.std.proofs.lemmas.Result.{IfOk-from_err}
use Rattle.pg_expr.proofs.ExitLemmas.{fault_passed}
use Rattle.pg_meaning.specs.Graph.{Node as Element, change_node}
use Rattle.pg_meaning.specs.Names.{Names}
use Rattle.pg_meaning.specs.Patterns.{texts_of}
use Rattle.pg_meaning.specs.Updates.{change_labels}
use Rattle.pg_meaning.specs.declared.fault.Fault.TheVariants.{OutOfMemory}
use Rattle.pg_syntax_tree.specs.View.{names_view}
use Rattle.pg_write.specs.Parts.{labels_by}
use Rattle.pg_write.specs.Targets.{target_view, IsThere}
use Rattle.pg_write.specs.declared.targets.Target.{Target}
use Rattle.pg_write.proofs.changes.change_labels.Goals as goal

pub returns-in-Nothing : goal.returns-in-Nothing
returns-in-Nothing g c =
    let graph = c.args.live.now.graph in
    record {
      ok = ap (λ (t : Target). change_labels (labels_by c.args.is_put (texts_of (names_view c.args.labels.now.items))) (target_view t) graph) c.in-Nothing.is;
      err = tt;
      aside = refl;
    }

pub returns-in-Rel : goal.returns-in-Rel
returns-in-Rel g c =
    let graph = c.args.live.now.graph in
    record {
      ok = tt;
      err = λ other. ap (λ (t : Target). change_labels (labels_by c.args.is_put (texts_of (names_view c.args.labels.now.items))) (target_view t) graph) c.in-Rel.is;
      aside = refl;
    }

pub returns-in_err-texts-in-Node : goal.returns-in_err-texts-in-Node
returns-in_err-texts-in-Node g c =
    let graph = c.args.live.now.graph in
    let given = change_labels (labels_by c.args.is_put (texts_of (names_view c.args.labels.now.items))) (target_view c.args.target) graph in
    record {
      ok = IfOk-from_err c.from_residual.result (λ u. given ≡ Ok graph) c.from_residual.ensures.0;
      err = fault_passed given OutOfMemory c.from_residual.result c.from_residual.ensures.1 (λ other. absurd (other refl));
      aside = refl;
    }

pub add_labels-requires : goal.add_labels-requires
add_labels-requires g c =
    let graph = c.args.live.now.graph in
    record { there = subst (λ (t : Target). IsThere graph (target_view t)) c.in-Node.is c.requires.there }

pub returns-in_err-add_labels-in-Node : goal.returns-in_err-add_labels-in-Node
returns-in_err-add_labels-in-Node g c =
    let call = c.add_labels in
    let result = c.from_residual-in_err-add_labels-in-Node in
    let given = change_labels (labels_by c.args.is_put (texts_of (names_view c.args.labels.now.items))) (target_view c.args.target) c.args.live.now.graph in
    record {
      ok = IfOk-from_err result.result (λ u. given ≡ Ok call.new.self.graph) result.ensures.0;
      err = fault_passed given OutOfMemory result.result result.ensures.1 (λ other. absurd (other refl));
      aside = call.ensures.aside;
    }

pub returns-in_ok-remove_labels-in-Node : goal.returns-in_ok-remove_labels-in-Node
returns-in_ok-remove_labels-in-Node g c =
    let graph = c.args.live.now.graph in
    let call = c.remove_labels in
    let texts = texts_of (names_view c.args.labels.now.items) in
    record {
      ok =
          (λ i. change_labels (labels_by (c.if-is_put.false i) texts) (target_view (c.in-Node.is i)) graph)
          ∙ ap Ok (sym (c.in_ok-remove_labels-in-Node.ensures.ok ∙ ap (λ (ts : Names). change_node (λ (e : Element). record e { labels = labels_by false ts e.labels }) c.in-Node.id.0 graph) c.in_ok-texts-in-Node.ensures));
      err = tt;
      aside = call.ensures.aside;
    }
