use Rattle.std.proofs.Common.{rules, arith, sym, ◌∙◌, IsUtf8, length, ◌≤◌}
use Rattle.std.proofs.lemmas.Bool.{eqb-false, eqb-true}
use Rattle.pg_lex.specs.View.{tokens_view, lexeme_view}
use Rattle.pg_lex.proofs.Turns.{gap_step, found_step, bad_step, end_step, characters_some, tokens_more, tokens_are}
use Rattle.pg_lex.proofs.lexer.lexed.Goals as goal

pub loop-rest-smaller-in-Gap : goal.loop-rest-smaller-in-Gap
loop-rest-smaller-in-Gap c =
    let e = rw c.in-Gap.is at c.in_ok-more.ensures in
    let v : IsUtf8 c.in-Gap.more.now = search rules in
    (gap_step c.args.text.now c.loop-rest.rest.now c.in-Gap.more.now (tokens_view c.loop-rest.found.items) _ c.loop-rest.invariant.0 v c.loop-rest.invariant.1 e c.loop-rest.invariant.2).1

pub loop-rest-preserved-in-Gap : goal.loop-rest-preserved-in-Gap
loop-rest-preserved-in-Gap c =
    let e = rw c.in-Gap.is at c.in_ok-more.ensures in
    let v : IsUtf8 c.in-Gap.more.now = search rules in
    let step = gap_step c.args.text.now c.loop-rest.rest.now c.in-Gap.more.now (tokens_view c.loop-rest.found.items) _ c.loop-rest.invariant.0 v c.loop-rest.invariant.1 e c.loop-rest.invariant.2 in
    let le : length c.loop-rest.rest.now ≤ length c.args.text.now = c.loop-rest.invariant.1 in
    (v, omega (arith, step.0, le), step.2)

pub overflow_sub-text-in-Found : goal.overflow_sub-text-in-Found
overflow_sub-text-in-Found c =
    let e = rw c.in-Found.is at c.in_ok-more.ensures in
    let v : IsUtf8 c.in-Found.more.now = search rules in
    let step = found_step c.args.text.now c.loop-rest.rest.now c.in-Found.more.now (lexeme_view c.in-Found.lexeme) (tokens_view c.loop-rest.found.items) _ c.loop-rest.invariant.0 v c.loop-rest.invariant.1 e c.loop-rest.invariant.2 in
    let le : length c.loop-rest.rest.now ≤ length c.args.text.now = c.loop-rest.invariant.1 in
    omega (arith, step.0, le)

pub loop-rest-smaller : goal.loop-rest-smaller
loop-rest-smaller c =
    let e = rw c.in-Found.is at c.in_ok-more.ensures in
    let v : IsUtf8 c.in-Found.more.now = search rules in
    (found_step c.args.text.now c.loop-rest.rest.now c.in-Found.more.now (lexeme_view c.in-Found.lexeme) (tokens_view c.loop-rest.found.items) _ c.loop-rest.invariant.0 v c.loop-rest.invariant.1 e c.loop-rest.invariant.2).1

pub loop-rest-preserved : goal.loop-rest-preserved
loop-rest-preserved c =
    let e = rw c.in-Found.is at c.in_ok-more.ensures in
    let v : IsUtf8 c.in-Found.more.now = search rules in
    let step = found_step c.args.text.now c.loop-rest.rest.now c.in-Found.more.now (lexeme_view c.in-Found.lexeme) (tokens_view c.loop-rest.found.items) _ c.loop-rest.invariant.0 v c.loop-rest.invariant.1 e c.loop-rest.invariant.2 in
    let le : length c.loop-rest.rest.now ≤ length c.args.text.now = c.loop-rest.invariant.1 in
    (v, omega (arith, step.0, le), rw (c.in_ok-push-in-Found.ensures.items, tokens_more) step.2)

pub returns-in-Bad : goal.returns-in-Bad
returns-in-Bad c =
    let e = rw c.in-Bad.is at c.in_ok-more.ensures in
    bad_step c.args.text.now c.loop-rest.rest.now (tokens_view c.loop-rest.found.items) _ (characters_some c.loop-rest.rest.now c.loop-rest.invariant.0 (eqb-false _ 0 (sym c.loop-rest-test.ensures))) e c.loop-rest.invariant.2 ∙ tokens_are c.args.text.now

pub returns : goal.returns
returns c = end_step c.args.text.now c.loop-rest.rest.now (tokens_view c.loop-rest.found.items) _ (eqb-true _ 0 (sym c.loop-rest-test.ensures)) c.loop-rest.invariant.2 ∙ tokens_are c.args.text.now
