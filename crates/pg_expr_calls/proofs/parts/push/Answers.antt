use Rattle.std.proofs.Common.{refl}
use Rattle.pg_expr_calls.proofs.Joins.{one_more}
use Rattle.pg_expr_calls.proofs.parts.push.Goals as goal

pub returns : goal.returns
returns c = λ ws. one_more _ _ c.args.value _ ws c.in_ok-push.ensures.items refl
