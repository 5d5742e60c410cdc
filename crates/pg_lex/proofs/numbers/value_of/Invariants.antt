use Rattle.std.proofs.Common.{◌≡◌, ◌≤◌, drop, fold}
use Rattle.pg_meaning.specs.Tokens.{digit_more, numeral_value}
use Rattle.pg_lex.proofs.numbers.value_of.Given as goal

abbrev pub invariant-loop-b : goal.invariant-loop-b
invariant-loop-b l = record { rest : fold digit_more l.value (drop l.b-index l.digits) ≡ numeral_value l.digits; small : l.value ≤ 9223372036854775807 }
