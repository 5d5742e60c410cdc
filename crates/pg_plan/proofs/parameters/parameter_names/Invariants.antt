use Rattle.std.proofs.Common.{◌≡◌, ◌++◌, drop, map, string_bytes}
use Rattle.pg_lex.specs.View.{tokens_view}
use Rattle.pg_plan.specs.Parameters.{named_in_tokens}
use Rattle.pg_plan.proofs.parameters.parameter_names.Given as goal

-- what is copied, and what is left, are all
abbrev pub invariant-loop-token : goal.invariant-loop-token
invariant-loop-token l = map string_bytes l.names.items ++ named_in_tokens (tokens_view (drop l.token-index l.tokens.items)) ≡ named_in_tokens (tokens_view l.tokens.items)
