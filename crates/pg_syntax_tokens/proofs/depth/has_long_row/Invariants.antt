use Rattle.std.proofs.Common.{◌≡◌, ◌≤◌, drop}
use Rattle.pg_lex.specs.View.{tokens_view}
use Rattle.pg_meaning.specs.Depth.{has_long_row_from}
use Rattle.pg_syntax_tokens.proofs.depth.has_long_row.Given as goal

abbrev pub invariant-loop-token : goal.invariant-loop-token
invariant-loop-token l = (l.row ≤ 64) × (has_long_row_from l.row (tokens_view (drop l.token-index l.tokens)) ≡ has_long_row_from 0 (tokens_view l.tokens))
