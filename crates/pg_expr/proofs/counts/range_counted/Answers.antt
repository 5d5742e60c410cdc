use Rattle.std.proofs.Common.{Ok, sym, ap, ◌∙◌}
use Rattle.pg_expr.proofs.AfterLemmas.{after_value}
use Rattle.pg_expr.proofs.Applied.{range_sized_whole, when_deleted, when_null}
use Rattle.pg_expr.proofs.Turns.{gives_by}
use Rattle.pg_expr.specs.Calls.{sized}
use Rattle.pg_expr.specs.Contexts.{founds_view}
use Rattle.pg_meaning.specs.Answer.{◌>>=◌}
use Rattle.pg_meaning.specs.Functions as function
use Rattle.pg_expr.proofs.counts.range_counted.Goals as goal

pub returns-then-has_deleted : goal.returns-then-has_deleted
returns-then-has_deleted g c =
    let fs = c.in_ok-arguments.arguments in
    let graph = c.args.graph.now in
    after_value c.args.arguments fs c.in_ok-arguments.was
    record {
      ok = tt;
      err = λ other. ap (λ r. r >>= sized graph) (when_deleted graph function.range (founds_view fs.items) (sym c.has_deleted.ensures ∙ c.if-has_deleted.true));
    }

pub returns-then-has_null : goal.returns-then-has_null
returns-then-has_null g c =
    let fs = c.in_ok-arguments.arguments in
    let graph = c.args.graph.now in
    after_value c.args.arguments fs c.in_ok-arguments.was
    record {
      ok = ap (λ r. r >>= sized graph) (when_null graph function.range (founds_view fs.items) (sym c.has_deleted.ensures ∙ c.if-has_deleted.false) (sym c.has_null.ensures ∙ c.if-has_null.true))
          ∙ ap Ok (sym c.null.ensures);
      err = tt;
    }

pub returns : goal.returns
returns g c =
    let fs = c.in_ok-arguments.arguments in
    after_value c.args.arguments fs c.in_ok-arguments.was
    (gives_by c.size_of_range.result
    (range_sized_whole c.args.graph.now (founds_view fs.items) (sym c.has_deleted.ensures ∙ c.if-has_deleted.false) (sym c.has_null.ensures ∙ c.if-has_null.false))
    record { ok = c.size_of_range.ensures.ok; err = c.size_of_range.ensures.err })
