use Rattle.std.proofs.Common.{◌≡◌, length, string_bytes, []}
use denote.Text.{Utf8}
use denote.Shadow.{shadow}
use Rattle.pg_meaning.specs.Tokens.{string_from, outside, characters}
use Rattle.pg_lex.specs.Scans.{behind_text}
use Rattle.pg_lex.proofs.strings.content.Given as goal

abbrev pub invariant-loop-first : goal.invariant-loop-first
invariant-loop-first l = shadow (Utf8 l.rest) × (behind_text (string_bytes l.content) (string_from l.quote outside (characters l.rest)) ≡ behind_text [] (string_from l.quote outside (characters l.text)))

abbrev pub decreases-loop-first : goal.decreases-loop-first
decreases-loop-first l = length l.rest
