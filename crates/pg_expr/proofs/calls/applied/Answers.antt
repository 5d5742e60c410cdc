use Rattle.std.proofs.Common.{Ok, sym, ap, ◌∙◌}
use Rattle.pg_expr.proofs.AfterLemmas.{after_value}
use Rattle.pg_expr.proofs.Applied.{range_when_whole, when_deleted, when_null, when_whole}
use Rattle.pg_expr.proofs.Turns.{fault_gives, gives_by, told}
use Rattle.pg_expr.specs.Contexts.{founds_view}
use Rattle.pg_meaning.specs.Answer.{◌>>=◌}
use Rattle.pg_meaning.specs.Functions.{applied}
use Rattle.pg_meaning.specs.Measure.{made}
use Rattle.pg_scope.specs.Calls.{function_view}
use Rattle.pg_expr.proofs.calls.applied.Goals as goal
use Rattle.pg_expr.proofs.calls.applied.Goals.{in-Range, in_default}

pub returns-then-has_deleted : goal.returns-then-has_deleted
returns-then-has_deleted g c =
    let fs = c.in_ok-arguments.arguments in
    after_value c.args.arguments fs c.in_ok-arguments.was
    record {
      ok = tt;
      err = λ other. when_deleted c.args.graph.now (function_view c.args.function) (founds_view fs.items) (sym c.has_deleted.ensures ∙ c.if-has_deleted.true);
    }

pub returns-then-has_null : goal.returns-then-has_null
returns-then-has_null g c =
    let fs = c.in_ok-arguments.arguments in
    after_value c.args.arguments fs c.in_ok-arguments.was
    record {
      ok = when_null c.args.graph.now (function_view c.args.function) (founds_view fs.items) (sym c.has_deleted.ensures ∙ c.if-has_deleted.false) (sym c.has_null.ensures ∙ c.if-has_null.true)
          ∙ ap Ok (sym c.null.ensures);
      err = tt;
    }

pub returns-in_err-value : goal.returns-in_err-value
returns-in_err-value g c =
    let fs = c.in_ok-arguments.arguments in
    after_value c.args.arguments fs c.in_ok-arguments.was
    (fault_gives c.in_err-value.field-0.0 c.from_residual-in_err-value.result c.from_residual-in_err-value.ensures.1
    (λ n. when_whole c.args.graph.now (function_view c.args.function) (founds_view fs.items) (sym c.has_deleted.ensures ∙ c.if-has_deleted.false) (sym c.has_null.ensures ∙ c.if-has_null.false)
    ∙ ap (λ r. r >>= made) (c.in_err-value.ensures.err n)))

pub returns : goal.returns
returns g c =
    let fs = c.in_ok-arguments.arguments in
    after_value c.args.arguments fs c.in_ok-arguments.was
    (gives_by c.made.result
    (when_whole c.args.graph.now (function_view c.args.function) (founds_view fs.items) (sym c.has_deleted.ensures ∙ c.if-has_deleted.false) (sym c.has_null.ensures ∙ c.if-has_null.false)
    ∙ ap (λ r. r >>= made) c.in_ok-value.ensures.ok)
    (told c.made.result c.made.ensures.ok c.made.ensures.err))

pub returns-then-matches : goal.returns-then-matches
returns-then-matches g c =
    let fs = c.in_ok-arguments.arguments in
    let graph = c.args.graph.now in
    let vs = founds_view fs.items in
    elim c.match-matches.branch [
      | in-Range w ↦ after_value c.args.arguments fs c.in_ok-arguments.was
          (gives_by c.range_of.result
          (ap (λ f. applied graph f vs) (ap function_view w.in-Range.is)
          ∙ range_when_whole graph vs (sym c.has_deleted.ensures ∙ c.if-has_deleted.false) (sym c.has_null.ensures ∙ c.if-has_null.false))
          record { ok = c.range_of.ensures.ok; err = c.range_of.ensures.err })
      | in_default w ↦ absurd (cc (w.matches-is, c.if-matches.true))
    ]
