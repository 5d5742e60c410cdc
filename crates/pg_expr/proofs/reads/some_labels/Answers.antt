use Rattle.std.proofs.Common.{◌≡◌, Ok, Err, IfOk, IfErr, sym, ap, subst, ◌∙◌}
use Rattle.pg_expr.proofs.LabelLemmas.{of_null, of_node, of_other}
use Rattle.pg_expr.specs.Contexts.{found_view}
use Rattle.pg_meaning.specs.Answer.{Answer}
use Rattle.pg_expr.proofs.reads.some_labels.Goals as goal

pub returns-in-Null-clause-ok : goal.returns-in-Null-clause-ok
returns-in-Null-clause-ok g c =
    of_null c.args.graph.now c.args.labels.now (found_view c.args.value) c.requires c.look.result.now c.look.ensures c.in-Null.is
    ∙ ap Ok (sym c.null.ensures)

pub returns-in-Null-clause-err : goal.returns-in-Null-clause-err
returns-in-Null-clause-err g c = tt

pub returns-in-Node-clause-ok : goal.returns-in-Node-clause-ok
returns-in-Node-clause-ok g c =
    subst (λ (r : Answer). IfOk c.node_labels.result (λ f. r ≡ Ok (found_view f)))
    (sym (of_node c.args.graph.now c.args.labels.now (found_view c.args.value) c.requires c.look.result.now c.look.ensures c.in-Node.id c.in-Node.is))
    c.node_labels.ensures.ok

pub returns-in-Node-clause-err : goal.returns-in-Node-clause-err
returns-in-Node-clause-err g c =
    subst (λ (r : Answer). IfErr c.node_labels.result (λ e. r ≡ Err e))
    (sym (of_node c.args.graph.now c.args.labels.now (found_view c.args.value) c.requires c.look.result.now c.look.ensures c.in-Node.id c.in-Node.is))
    c.node_labels.ensures.err

pub returns : goal.returns
returns g c = record {
  ok = tt;
  err = of_other c.args.graph.now c.args.labels.now (found_view c.args.value) c.requires c.look.result.now c.look.ensures c.in_default.not-Null c.in_default.not-Node;
}
