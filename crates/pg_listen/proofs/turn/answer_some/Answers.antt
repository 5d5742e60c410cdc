use Rattle.std.proofs.Common.{refl, []}
use Rattle.pg_listen.proofs.MoveLemmas.{Answers-nil, answers_then, answers_more}
use Rattle.pg_listen.proofs.turn.answer_some.Goals as goal

pub loop-answered-init : goal.loop-answered-init
loop-answered-init g c = λ n. ([], Answers-nil _ n _ _)

pub returns-then-client : goal.returns-then-client
returns-then-client g c = λ n. (_, (c.loop-answered.invariant n).0, (c.loop-answered.invariant n).1, refl)

pub returns-in-Ok : goal.returns-in-Ok
returns-in-Ok g c = λ n. answers_then _ n _ _ _ _ _ _ (c.loop-answered.invariant n) (c.in-Ok.ensures n)

pub returns-in-Err : goal.returns-in-Err
returns-in-Err g c = λ n. answers_then _ n _ _ _ _ _ _ (c.loop-answered.invariant n) (c.in-Err.ensures n)

pub loop-answered-preserved : goal.loop-answered-preserved
loop-answered-preserved g c = λ n. answers_more _ n _ _ _ _ _ _ (c.loop-answered.invariant n) (c.in-Ok-More.ensures n)

pub returns : goal.returns
returns g c = λ n. (_, (c.loop-answered.invariant n).0, (c.loop-answered.invariant n).1, refl)

pub returns-then-not-has_tenant : goal.returns-then-not-has_tenant
returns-then-not-has_tenant g c = λ n.
    let m = answers_more _ n _ _ _ _ _ _ (c.loop-answered.invariant n) (c.in-Ok-More.ensures n) in
    (_, m.0, m.1, refl)
