use Rattle.std.proofs.Common.{◌≡◌, length, false}
use denote.Text.{Utf8}
use denote.Shadow.{shadow}
use Rattle.pg_meaning.specs.Tokens.{comment_from, characters}
use Rattle.pg_lex.proofs.gaps.after_comment.Given as goal

abbrev pub invariant-loop-first : goal.invariant-loop-first
invariant-loop-first l = shadow (Utf8 l.rest) × (comment_from l.is_star_before (characters l.rest) ≡ comment_from false (characters l.text))

abbrev pub decreases-loop-first : goal.decreases-loop-first
decreases-loop-first l = length l.rest
