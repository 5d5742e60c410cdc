use Rattle.std.proofs.Common.{map, not, sym, ap, ◌∙◌}
use Rattle.pg_lex.specs.View.{tokens_view}
use Rattle.pg_meaning.specs.Parse as parse
use Rattle.pg_meaning.specs.declared.lexemes.Keyword.TheVariants as k
use Rattle.pg_syntax_expressions.proofs.Cases.{whens_part, subject_fails, whens_fail, otherwise_fails, end_fails, case_gives}
use Rattle.pg_syntax_expressions.proofs.Steps.{fails, maybe_eaten, maybe_seen}
use Rattle.pg_syntax_expressions.specs.Parts.{perhaps_view}
use Rattle.pg_syntax_tree.proofs.Views.{case_is}
use Rattle.pg_syntax_tree.specs.View.{expression_view, when_view}
use Rattle.pg_syntax_expressions.proofs.atoms.case.Goals as goal

pub returns-in_err-subject : goal.returns-in_err-subject
returns-in_err-subject g c =
    let whole = g.W.Expressions.parser c.args.whole.now in
    let ts = tokens_view c.args.tokens.now.rest.now in
    fails expression_view (parse.maybe (λ _. not c.sees_keyword.result) whole ts) (parse.case whole ts) c.from_residual.result c.in_err-subject.field-0.0 _ c.from_residual.ensures.1
    (λ none. subject_fails whole ts (maybe_seen (parse.not_yet k.When) whole (not c.sees_keyword.result) ts (ap not (sym c.sees_keyword.ensures)) ∙ none)) c.in_err-subject.ensures

pub returns-in_err-whens : goal.returns-in_err-whens
returns-in_err-whens g c =
    let whole = g.W.Expressions.parser c.args.whole.now in
    let ts = tokens_view c.args.tokens.now.rest.now in
    let us = tokens_view c.perhaps.new.tokens.rest.now in
    fails expression_view (whens_part whole us) (parse.case whole ts) c.from_residual-in_err-whens.result c.in_err-whens.field-0.0 _ c.from_residual-in_err-whens.ensures.1
    (whens_fail whole ts us (perhaps_view c.in_ok-subject.subject) (maybe_seen (parse.not_yet k.When) whole (not c.sees_keyword.result) ts (ap not (sym c.sees_keyword.ensures)) ∙ c.in_ok-subject.ensures)) c.in_err-whens.ensures

pub returns-in_err-otherwise : goal.returns-in_err-otherwise
returns-in_err-otherwise g c =
    let whole = g.W.Expressions.parser c.args.whole.now in
    let ts = tokens_view c.args.tokens.now.rest.now in
    let us = tokens_view c.perhaps.new.tokens.rest.now in
    let ws = tokens_view c.one_or_more.new.tokens.rest.now in
    fails expression_view (parse.maybe (λ _. c.eat_keyword.result) whole (tokens_view c.eat_keyword.new.self.rest.now)) (parse.case whole ts) c.from_residual-in_err-otherwise.result c.in_err-otherwise.field-0.0 _ c.from_residual-in_err-otherwise.ensures.1
    (λ none. otherwise_fails whole ts us (perhaps_view c.in_ok-subject.subject) (maybe_seen (parse.not_yet k.When) whole (not c.sees_keyword.result) ts (ap not (sym c.sees_keyword.ensures)) ∙ c.in_ok-subject.ensures) ws (map when_view c.in_ok-whens.whens.items) c.in_ok-whens.ensures
    (maybe_eaten k.Else whole c.eat_keyword.result ws (tokens_view c.eat_keyword.new.self.rest.now) c.eat_keyword.ensures ∙ none)) c.in_err-otherwise.ensures

pub returns-in_err-expect_keyword : goal.returns-in_err-expect_keyword
returns-in_err-expect_keyword g c =
    let whole = g.W.Expressions.parser c.args.whole.now in
    let ts = tokens_view c.args.tokens.now.rest.now in
    let us = tokens_view c.perhaps.new.tokens.rest.now in
    let ws = tokens_view c.one_or_more.new.tokens.rest.now in
    let xs = tokens_view c.perhaps-2.new.tokens.rest.now in
    fails expression_view (parse.keyword k.End xs) (parse.case whole ts) c.from_residual-in_err-expect_keyword.result c.in_err-expect_keyword.field-0.0 _ c.from_residual-in_err-expect_keyword.ensures.1
    (end_fails whole ts us (perhaps_view c.in_ok-subject.subject) (maybe_seen (parse.not_yet k.When) whole (not c.sees_keyword.result) ts (ap not (sym c.sees_keyword.ensures)) ∙ c.in_ok-subject.ensures) ws (map when_view c.in_ok-whens.whens.items) c.in_ok-whens.ensures xs (perhaps_view c.in_ok-otherwise.otherwise) (maybe_eaten k.Else whole c.eat_keyword.result ws (tokens_view c.eat_keyword.new.self.rest.now) c.eat_keyword.ensures ∙ c.in_ok-otherwise.ensures))
    c.in_err-expect_keyword.ensures

pub returns : goal.returns
returns g c =
    let whole = g.W.Expressions.parser c.args.whole.now in
    let ts = tokens_view c.args.tokens.now.rest.now in
    let us = tokens_view c.perhaps.new.tokens.rest.now in
    let ws = tokens_view c.one_or_more.new.tokens.rest.now in
    let xs = tokens_view c.perhaps-2.new.tokens.rest.now in
    rw (case_is c.in_ok-subject.subject c.in_ok-whens.whens c.in_ok-otherwise.otherwise)
    (case_gives whole ts us (perhaps_view c.in_ok-subject.subject) (maybe_seen (parse.not_yet k.When) whole (not c.sees_keyword.result) ts (ap not (sym c.sees_keyword.ensures)) ∙ c.in_ok-subject.ensures) ws (map when_view c.in_ok-whens.whens.items) c.in_ok-whens.ensures xs (perhaps_view c.in_ok-otherwise.otherwise) (maybe_eaten k.Else whole c.eat_keyword.result ws (tokens_view c.eat_keyword.new.self.rest.now) c.eat_keyword.ensures ∙ c.in_ok-otherwise.ensures)
    (tokens_view c.expect_keyword.new.self.rest.now) c.in_ok-expect_keyword.ensures)
