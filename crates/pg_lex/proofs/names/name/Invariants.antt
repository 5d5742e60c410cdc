use Rattle.std.proofs.Common.{◌≡◌, length, string_bytes, [], false}
use denote.Text.{Utf8}
use denote.Shadow.{shadow}
use Rattle.pg_meaning.specs.Tokens.{quoted_from, characters}
use Rattle.pg_lex.specs.Scans.{behind_text}
use Rattle.pg_lex.proofs.names.name.Given as goal

abbrev pub invariant-loop-first : goal.invariant-loop-first
invariant-loop-first l = shadow (Utf8 l.rest) × (behind_text (string_bytes l.name) (quoted_from false (characters l.rest)) ≡ behind_text [] (quoted_from false (characters l.text)))

abbrev pub decreases-loop-first : goal.decreases-loop-first
decreases-loop-first l = length l.rest
