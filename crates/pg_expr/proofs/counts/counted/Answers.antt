use Rattle.std.proofs.Common.{Ok, sym, ap, ◌∙◌}
use Rattle.pg_expr.proofs.AfterLemmas.{after_value}
use Rattle.pg_expr.proofs.Applied.{sized_deleted, sized_null, sized_whole}
use Rattle.pg_expr.proofs.Turns.{fault_gives}
use Rattle.pg_expr.specs.Contexts.{found_view}
use Rattle.pg_meaning.specs.Functions.{is_deleted, size_of}
use Rattle.pg_expr.proofs.counts.counted.Goals as goal

pub returns-then-is_deleted : goal.returns-then-is_deleted
returns-then-is_deleted g c =
    let f = c.in_ok-argument.argument in
    let graph = c.args.graph.now in
    after_value c.args.argument f c.in_ok-argument.was
    record { ok = tt; err = λ other. sized_deleted graph (found_view f) (ap (is_deleted graph) (sym c.look.ensures) ∙ sym c.is_deleted.ensures ∙ c.if-is_deleted.true) }

pub returns-then-is_null : goal.returns-then-is_null
returns-then-is_null g c =
    let f = c.in_ok-argument.argument in
    let graph = c.args.graph.now in
    after_value c.args.argument f c.in_ok-argument.was
    record {
      ok = sized_null graph (found_view f) (ap (is_deleted graph) (sym c.look.ensures) ∙ sym c.is_deleted.ensures ∙ c.if-is_deleted.false) (sym c.is_null.ensures ∙ c.if-is_null.true)
          ∙ ap Ok (sym c.null.ensures);
      err = tt;
    }

pub returns-in_err-size : goal.returns-in_err-size
returns-in_err-size g c =
    let f = c.in_ok-argument.argument in
    let graph = c.args.graph.now in
    after_value c.args.argument f c.in_ok-argument.was
    (fault_gives c.in_err-size.field-0.0 c.from_residual-in_err-size.result c.from_residual-in_err-size.ensures.1
    (λ n. sized_whole graph (found_view f) (ap (is_deleted graph) (sym c.look.ensures) ∙ sym c.is_deleted.ensures ∙ c.if-is_deleted.false) (sym c.is_null.ensures ∙ c.if-is_null.false)
    ∙ ap size_of (sym c.look-2.ensures)
    ∙ c.in_err-size.ensures.err))

pub returns : goal.returns
returns g c =
    let f = c.in_ok-argument.argument in
    let graph = c.args.graph.now in
    after_value c.args.argument f c.in_ok-argument.was
    record {
      ok = sized_whole graph (found_view f) (ap (is_deleted graph) (sym c.look.ensures) ∙ sym c.is_deleted.ensures ∙ c.if-is_deleted.false) (sym c.is_null.ensures ∙ c.if-is_null.false)
          ∙ ap size_of (sym c.look-2.ensures)
          ∙ c.in_ok-size.ensures.ok;
      err = tt;
    }
