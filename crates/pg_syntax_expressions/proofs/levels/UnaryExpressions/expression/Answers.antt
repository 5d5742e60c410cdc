use Rattle.std.proofs.Common.{Bool, List, []}
use Rattle.std.proofs.lemmas.List.{map-id}
use Rattle.pg_lex.specs.View.{tokens_view}
use Rattle.pg_meaning.specs.Parse as parse
use Rattle.pg_syntax_expressions.proofs.Steps.{fails, gives, first_fails, second_fails, both}
use Rattle.pg_syntax_tree.specs.View.{expression_view}
use Rattle.pg_syntax_expressions.proofs.levels.UnaryExpressions.expression.Goals as goal

abbrev signs : parse.Parser (List Bool)
signs = parse.many parse.begins_sign parse.one_sign []

pub returns-in_err-signs : goal.returns-in_err-signs
unfolding parse.unary
returns-in_err-signs g c =
    let whole = g.W.Expressions.parser c.args.self.now.0.now in
    let ts = tokens_view c.args.tokens.now.rest.now in
    fails expression_view (signs ts) (parse.unary whole ts) c.from_residual.result c.in_err-signs.field-0.0 _ c.from_residual.ensures.1 (first_fails signs (parse.post whole) parse.signed ts) c.in_err-signs.ensures

pub returns-in_err-operand : goal.returns-in_err-operand
unfolding parse.unary
returns-in_err-operand g c =
    let whole = g.W.Expressions.parser c.args.self.now.0.now in
    let ts = tokens_view c.args.tokens.now.rest.now in
    let us = tokens_view c.pieces.new.tokens.rest.now in
    fails expression_view (parse.post whole us) (parse.unary whole ts) c.from_residual-in_err-operand.result c.in_err-operand.field-0.0 _ c.from_residual-in_err-operand.ensures.1
    (second_fails signs (parse.post whole) parse.signed ts us _ c.in_ok-signs.ensures) c.in_err-operand.ensures

pub returns : goal.returns
unfolding parse.unary
returns g c =
    let whole = g.W.Expressions.parser c.args.self.now.0.now in
    let ts = tokens_view c.args.tokens.now.rest.now in
    let us = tokens_view c.pieces.new.tokens.rest.now in
    let x = expression_view c.in_ok-operand.operand in
    gives expression_view (parse.unary whole ts) (parse.signed c.in_ok-signs.signs.items x) c.signed.result c.post.new.tokens.rest.now
    (rw (← map-id c.in_ok-signs.signs.items) (both signs (parse.post whole) parse.signed ts us _ _ x c.in_ok-signs.ensures c.in_ok-operand.ensures)) c.signed.ensures
