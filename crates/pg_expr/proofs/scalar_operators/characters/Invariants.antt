use Rattle.std.proofs.Common.{◌≡◌, take}
use Rattle.std.specs.Prelude.{count_by}
use Rattle.pg_meaning.specs.Functions.{is_first_byte}
use Rattle.pg_expr.proofs.scalar_operators.characters.Given as goal

-- as many as are seen
abbrev pub invariant-loop-b : goal.invariant-loop-b
invariant-loop-b l = l.n ≡ count_by is_first_byte (take l.b-index l.bytes)
