use Rattle.std.proofs.Common.{◌≡◌, ◌-◌, suc, ap, arith}
use Rattle.pg_lex.specs.View.{tokens_view}
use Rattle.pg_meaning.specs.Parse.{expr, disjunction, exclusion, conjunction}
use Rattle.pg_syntax_expressions.proofs.nesting.+expression.Goals as goal

pub returns : goal.returns
unfolding expr disjunction exclusion conjunction
returns t c = let e : c.args.depth ≡ suc (c.args.depth - 1) = omega arith in rw (ap (λ n. expr n (tokens_view c.args.tokens.now.rest.now)) e) c.expression.ensures
