use Rattle.std.proofs.Common.{List, []}
use Rattle.std.proofs.lemmas.List.{map-id}
use Rattle.pg_lex.specs.View.{tokens_view}
use Rattle.pg_meaning.specs.Parse as parse
use Rattle.pg_meaning.specs.declared.lexemes.Keyword.TheVariants as k
use Rattle.pg_syntax_expressions.proofs.Steps.{fails, gives, first_fails, second_fails, both}
use Rattle.pg_syntax_tree.specs.View.{expression_view}
use Rattle.pg_syntax_expressions.proofs.levels.NegationExpressions.expression.Goals as goal

abbrev nots : parse.Parser (List (Unit {0}))
nots = parse.many (parse.sees_keyword k.Not) (parse.keyword k.Not) []

pub returns-in_err-nots : goal.returns-in_err-nots
unfolding parse.negation parse.comparison
returns-in_err-nots g c =
    let whole = g.W.Expressions.parser c.args.self.now.0.now in
    let ts = tokens_view c.args.tokens.now.rest.now in
    fails expression_view (nots ts) (parse.negation whole ts) c.from_residual.result c.in_err-nots.field-0.0 _ c.from_residual.ensures.1 (first_fails nots (parse.comparison whole) parse.negated ts) c.in_err-nots.ensures

pub returns-in_err-operand : goal.returns-in_err-operand
unfolding parse.negation parse.comparison
returns-in_err-operand g c =
    let whole = g.W.Expressions.parser c.args.self.now.0.now in
    let ts = tokens_view c.args.tokens.now.rest.now in
    let us = tokens_view c.pieces.new.tokens.rest.now in
    fails expression_view (parse.comparison whole us) (parse.negation whole ts) c.from_residual-in_err-operand.result c.in_err-operand.field-0.0 _ c.from_residual-in_err-operand.ensures.1
    (second_fails nots (parse.comparison whole) parse.negated ts us _ c.in_ok-nots.ensures) c.in_err-operand.ensures

pub returns : goal.returns
unfolding parse.negation parse.comparison
returns g c =
    let whole = g.W.Expressions.parser c.args.self.now.0.now in
    let ts = tokens_view c.args.tokens.now.rest.now in
    let us = tokens_view c.pieces.new.tokens.rest.now in
    let x = expression_view c.in_ok-operand.operand in
    gives expression_view (parse.negation whole ts) (parse.negated c.in_ok-nots.nots.items x) c.negated.result c.expression.new.tokens.rest.now
    (rw (← map-id c.in_ok-nots.nots.items) (both nots (parse.comparison whole) parse.negated ts us _ _ x c.in_ok-nots.ensures c.in_ok-operand.ensures)) c.negated.ensures
