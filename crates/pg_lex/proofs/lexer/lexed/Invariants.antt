use Rattle.std.proofs.Common.{◌≡◌, ◌≤◌, ◌-◌, length}
use denote.Text.{Utf8}
use denote.Shadow.{shadow}
use Rattle.pg_meaning.specs.Tokens.{characters, lex}
use Rattle.pg_lex.specs.Turns.{lex_at, continued}
use Rattle.pg_lex.specs.View.{tokens_view}
use Rattle.pg_lex.proofs.lexer.lexed.Given as goal

abbrev pub invariant-loop-rest : goal.invariant-loop-rest
invariant-loop-rest l = shadow (Utf8 l.rest) × (length l.rest ≤ length l.text) × (continued (tokens_view l.found.items) (lex_at (length l.text - length l.rest) (characters l.rest)) ≡ lex (characters l.text))

abbrev pub decreases-loop-rest : goal.decreases-loop-rest
decreases-loop-rest l = length (characters l.rest)
