use Rattle.std.proofs.Common.{length, map}
use Rattle.pg_lex.specs.View.{tokens_view}
use Rattle.pg_meaning.specs.Parse.{many}
use Rattle.pg_syntax_tokens.proofs.Rows.{Left}
use Rattle.pg_syntax_tokens.proofs.rules.many.Given as goal

abbrev pub invariant-loop-found : goal.invariant-loop-found
invariant-loop-found g l =
    Left (g.R.Row.begins l.rule) (g.R.Rule.parser l.rule) (many (g.R.Row.begins l.rule) (g.R.Rule.parser l.rule) (map g.R.Rule.view l.fn.found.items) (tokens_view l.fn.tokens.rest.now))
    (map g.R.Rule.view l.found.items) (tokens_view l.tokens.rest.now)

abbrev pub decreases-loop-found : goal.decreases-loop-found
decreases-loop-found g l = length l.tokens.rest.now
