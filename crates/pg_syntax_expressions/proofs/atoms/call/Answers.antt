use Rattle.std.proofs.Common.{map, false, true}
use Rattle.pg_lex.specs.View.{tokens_view}
use Rattle.pg_meaning.specs.Parse as parse
use Rattle.pg_meaning.specs.declared.lexemes.Symbol.TheVariants as s
use Rattle.pg_syntax_expressions.proofs.Calls.{star_fails, with_star, with_nothing, arguments_fail, close_fails, with_arguments}
use Rattle.pg_syntax_expressions.proofs.Steps.{fails}
use Rattle.pg_syntax_tree.proofs.Views.{call_is}
use Rattle.pg_syntax_tree.specs.View.{expression_view, name_view}
use Rattle.pg_syntax_expressions.proofs.atoms.call.Goals as goal

pub returns-in_err-expect : goal.returns-in_err-expect
returns-in_err-expect g c =
    let whole = g.W.Expressions.parser c.args.whole.now in
    let ts = tokens_view c.args.tokens.now.rest.now in
    let us = tokens_view c.eat.new.self.rest.now in
    fails expression_view (parse.symbol s.CloseParenthesis us) (parse.call whole (name_view c.args.function) ts) c.from_residual.result c.in_err-expect.field-0.0 _ c.from_residual.ensures.1
    (star_fails whole (name_view c.args.function) ts us (rw c.if-eat.true at c.eat.ensures)) c.in_err-expect.ensures

pub returns-then-eat : goal.returns-then-eat
returns-then-eat g c =
    rw (call_is c.args.function true false c.new.result, c.new.ensures.items)
    (with_star (g.W.Expressions.parser c.args.whole.now) (name_view c.args.function) (tokens_view c.args.tokens.now.rest.now) (tokens_view c.eat.new.self.rest.now) _ (rw c.if-eat.true at c.eat.ensures) c.in_ok-expect.ensures)

pub returns-then-eat-2 : goal.returns-then-eat-2
returns-then-eat-2 g c =
    rw (call_is c.args.function false false c.new-then-eat-2.result, c.new-then-eat-2.ensures.items)
    (with_nothing (g.W.Expressions.parser c.args.whole.now) (name_view c.args.function) (tokens_view c.args.tokens.now.rest.now) (tokens_view c.eat.new.self.rest.now) _ (rw c.if-eat.false at c.eat.ensures) (rw c.if-eat-2.true at c.eat-2.ensures))

pub returns-in_err-arguments : goal.returns-in_err-arguments
returns-in_err-arguments g c =
    let whole = g.W.Expressions.parser c.args.whole.now in
    let ts = tokens_view c.args.tokens.now.rest.now in
    let ws = tokens_view c.eat_keyword-distinct.new.self.rest.now in
    fails expression_view (parse.separated whole ws) (parse.call whole (name_view c.args.function) ts) c.from_residual-in_err-arguments.result c.in_err-arguments.field-0.0 _ c.from_residual-in_err-arguments.ensures.1
    (arguments_fail whole (name_view c.args.function) ts (tokens_view c.eat.new.self.rest.now) (tokens_view c.eat-2.new.self.rest.now) ws c.eat_keyword-distinct.result (rw c.if-eat.false at c.eat.ensures) (rw c.if-eat-2.false at c.eat-2.ensures) c.eat_keyword-distinct.ensures)
    c.in_err-arguments.ensures

pub returns-in_err-expect-2 : goal.returns-in_err-expect-2
returns-in_err-expect-2 g c =
    let whole = g.W.Expressions.parser c.args.whole.now in
    let ts = tokens_view c.args.tokens.now.rest.now in
    let ys = tokens_view c.separated.new.tokens.rest.now in
    fails expression_view (parse.symbol s.CloseParenthesis ys) (parse.call whole (name_view c.args.function) ts) c.from_residual-in_err-expect-2.result c.in_err-expect-2.field-0.0 _ c.from_residual-in_err-expect-2.ensures.1
    (close_fails whole (name_view c.args.function) ts (tokens_view c.eat.new.self.rest.now) (tokens_view c.eat-2.new.self.rest.now) (tokens_view c.eat_keyword-distinct.new.self.rest.now) c.eat_keyword-distinct.result (rw c.if-eat.false at c.eat.ensures) (rw c.if-eat-2.false at c.eat-2.ensures) c.eat_keyword-distinct.ensures
    (map expression_view c.in_ok-arguments.arguments.items) ys c.in_ok-arguments.ensures) c.in_err-expect-2.ensures

pub returns : goal.returns
returns g c =
    rw (call_is c.args.function false c.eat_keyword-distinct.result c.in_ok-arguments.arguments)
    (with_arguments (g.W.Expressions.parser c.args.whole.now) (name_view c.args.function) (tokens_view c.args.tokens.now.rest.now) (tokens_view c.eat.new.self.rest.now) (tokens_view c.eat-2.new.self.rest.now) (tokens_view c.eat_keyword-distinct.new.self.rest.now) c.eat_keyword-distinct.result
    (rw c.if-eat.false at c.eat.ensures) (rw c.if-eat-2.false at c.eat-2.ensures) c.eat_keyword-distinct.ensures (map expression_view c.in_ok-arguments.arguments.items) (tokens_view c.separated.new.tokens.rest.now) _ c.in_ok-arguments.ensures c.in_ok-expect-2.ensures)
