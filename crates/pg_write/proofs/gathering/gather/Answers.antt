use Rattle.std.proofs.Common.{◌≡◌, ◌≢◌, map, Ok, Err, Result, refl, sym, ap, ◌∙◌}
use Rattle.std.proofs.lemmas.Result.{IfOk-from_err, IfOk-weaker, IfErr-weaker}
use Rattle.pg_expr.proofs.ExitLemmas.{fault_passed}
use Rattle.pg_expr.specs.Prepared.{tree_of}
use Rattle.pg_meaning.specs.Updates.{Doomed}
use Rattle.pg_meaning.specs.declared.fault.Fault.{Fault}
use Rattle.pg_meaning.specs.declared.fault.Fault.TheVariants.{OutOfMemory}
use Rattle.pg_rows.specs.Named.{rows_named}
use Rattle.pg_rows.specs.States.{named_rows, seen}
use Rattle.pg_rows.specs.Tables.{table}
use Rattle.pg_syntax_tree.specs.View.{expression_view}
use Rattle.pg_value_core.specs.Given.{parameters_view}
use Rattle.pg_write.specs.Gathered.{gathered}
use Rattle.pg_write.proofs.gathering.gather.Goals as goal

pub returns-in_err-ready : goal.returns-in_err-ready
returns-in_err-ready g c =
    let wanted : Result Doomed Fault = gathered c.args.is_detach (parameters_view c.args.query.now.parameters.now) c.args.graph.now (map expression_view c.args.elements.now.items) (named_rows (seen c.args.table.now)) in
    record {
      ok = IfOk-from_err c.from_residual.result (λ d. wanted ≡ Ok d) c.from_residual.ensures.0;
      err = fault_passed wanted OutOfMemory c.from_residual.result c.from_residual.ensures.1 (λ other. absurd (other refl));
    }

pub returns : goal.returns
returns g c =
    let names = c.names-2.result.now in
    let ready = c.in_ok-ready.ready.items in
    let by = gathered c.args.is_detach (parameters_view c.args.query.now.parameters.now) c.args.graph.now in
    let wanted : Result Doomed Fault = by (map expression_view c.args.elements.now.items) (named_rows (seen c.args.table.now)) in
    let given : Result Doomed Fault = by (map (tree_of names) ready) (rows_named names (table c.rows.result.now)) in
    let trees : map (tree_of names) ready ≡ map expression_view c.args.elements.now.items =
    ap (λ ns. map (tree_of ns) ready) (c.names-2.ensures ∙ sym c.names.ensures) ∙ c.in_ok-ready.ensures in
    let same : wanted ≡ given = (λ i. by (sym trees i) (rows_named (sym c.names-2.ensures i) (sym c.rows.ensures.rows i))) in
    record {
      ok = IfOk-weaker c.gather_ready.result (λ d. given ≡ Ok d) (λ d. wanted ≡ Ok d) (λ d h. same ∙ h) c.gather_ready.ensures.ok;
      err = IfErr-weaker c.gather_ready.result (λ e. e ≢ OutOfMemory → given ≡ Err e) (λ e. e ≢ OutOfMemory → wanted ≡ Err e) (λ e h other. same ∙ h other) c.gather_ready.ensures.err;
    }
