use Rattle.std.proofs.Common.{length, refl, sym, arith}
use Rattle.std.proofs.lemmas.Result.{err_from_is_err_and}
use Rattle.pg_lex.specs.View.{tokens_view}
use Rattle.pg_syntax_tokens.proofs.Rows.{passed, left_more, left_fails, left_ends, map_more}
use Rattle.pg_syntax_tokens.proofs.rules.many.Goals as goal

pub returns-in_err-read : goal.returns-in_err-read
returns-in_err-read g c =
    let r = err_from_is_err_and c.from_residual.result c.from_residual.ensures.1 in
    let seen = sym c.loop-found-test.ensures in
    rw (r.1, r.2) (passed c.in_err-read.field-0.0 (g.R.Rule.parser c.args.rule.now (tokens_view c.loop-found.tokens.rest.now)) _
    (λ none. left_fails _ _ _ _ _ c.loop-found.invariant (g.met.R.Row.none c.args.rule.now) seen none) c.in_err-read.ensures)

pub loop-found-init : goal.loop-found-init
loop-found-init g c = record { turns = length (tokens_view c.args.tokens.now.rest.now); enough = omega arith; is = refl }

pub loop-found-preserved : goal.loop-found-preserved
loop-found-preserved g c =
    let seen = sym c.loop-found-test.ensures in
    rw (c.in_ok-push.ensures.items, map_more g.R.Rule.view c.loop-found.found.items c.in_ok-read.field-0)
    (left_more _ _ _ _ _ _ _ c.loop-found.invariant seen c.in_ok-read.ensures ((g.met.R.Row.takes c.args.rule.now).left _ _ _ c.in_ok-read.ensures))

pub returns : goal.returns
returns g c = left_ends _ _ _ _ _ c.loop-found.invariant (sym c.loop-found-test.ensures)
