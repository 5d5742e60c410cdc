use Rattle.std.proofs.Common.{sym, ap, subst, ◌∙◌}
use Rattle.pg_lex.specs.View.{tokens_view}
use Rattle.pg_meaning.specs.Tokens.{Lexes}
use Rattle.pg_plan.specs.Parameters.{named_in_tokens}
use Rattle.pg_syntax_tree.specs.View.{query_view}
use Rattle.pg_plan.proofs.ReturnLemmas.{returns_last}
use Rattle.pg_plan.proofs.TextLemmas.{tokens_name_parameters}
use Rattle.pg_plan.proofs.reading.read.Goals as goal

pub returns-clause-parameters : goal.returns-clause-parameters
returns-clause-parameters c =
    let text = c.args.text.now in
    let same = sym c.deref.ensures.value in
    c.in_ok-parameters.ensures
    ∙ ap (λ ts. named_in_tokens (tokens_view ts)) same
    ∙ tokens_name_parameters text (tokens_view c.deref.result.now) (query_view c.in_ok-query.query) (c.in_ok-query.ensures.found (subst (λ ts. Lexes text (tokens_view ts)) same c.in_ok-tokens.ensures.lexes))

pub returns-clause-ends : goal.returns-clause-ends
returns-clause-ends c =
    let text = c.args.text.now in
    let same = sym c.deref.ensures.value in
    returns_last text (tokens_view c.deref.result.now) (query_view c.in_ok-query.query) (c.in_ok-query.ensures.found (subst (λ ts. Lexes text (tokens_view ts)) same c.in_ok-tokens.ensures.lexes))
