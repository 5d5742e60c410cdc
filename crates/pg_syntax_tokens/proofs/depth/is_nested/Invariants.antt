use Rattle.std.proofs.Common.{◌≡◌, ◌+◌, ◌≤◌, length}
use Rattle.pg_lex.specs.View.{tokens_view}
use Rattle.pg_meaning.specs.Depth.{is_nested_from, turns_from, turns}
use Rattle.pg_syntax_tokens.specs.Turns.{beside}
use Rattle.pg_syntax_tokens.proofs.depth.is_nested.Given as goal

-- what is left decides
abbrev pub invariant-loop-token : goal.invariant-loop-token
invariant-loop-token l =
    (l.opened + length l.left.rest.now ≤ length l.fn.tokens) × (l.closed + length l.left.rest.now ≤ length l.fn.tokens)
    × (is_nested_from l.opened l.closed (turns_from (beside l.before) (tokens_view l.left.rest.now)) ≡ is_nested_from 0 0 (turns (tokens_view l.fn.tokens)))

abbrev pub decreases-loop-token : goal.decreases-loop-token
decreases-loop-token l = length l.left.rest.now
