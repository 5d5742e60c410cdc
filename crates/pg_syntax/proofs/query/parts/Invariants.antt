use Rattle.std.proofs.Common.{length, map}
use Rattle.pg_lex.specs.View.{tokens_view}
use Rattle.pg_meaning.specs.Parse.{expr, parts}
use Rattle.pg_syntax_tree.specs.View.{clause_view}
use Rattle.pg_syntax.proofs.Parts.{LeftParts}
use Rattle.pg_syntax.proofs.query.parts.Given as goal

abbrev pub invariant-parts : goal.invariant-parts
invariant-parts l =
    LeftParts l.text (expr l.depth) (parts l.text (expr l.depth) (length l.fn.tokens.rest.now) (tokens_view l.fn.tokens.rest.now))
    (map clause_view l.found.items) l.updates (tokens_view l.tokens.rest.now)

abbrev pub decreases-parts : goal.decreases-parts
decreases-parts l = length l.tokens.rest.now
