use Rattle.pg_project.proofs.AlikeCounts.{counted_at, stays_at}
use Rattle.std.proofs.Common.{◌<◌, subst, ◌∙◌}
use Rattle.pg_project.proofs.groups.count_more.Goals as goal

pub returns-then-number-len-clause-counted : goal.returns-then-number-len-clause-counted
returns-then-number-len-clause-counted c = λ h.
    counted_at c.args.groups.now.taken.items c.args.number c.index_mut.result.now c.count_more.new.self c.args.more (subst (λ n. c.args.number < n) (c.len.ensures ∙ c.args.groups.now.taken.ok.0) c.if-number-len.true) c.index_mut.ensures.value (c.count_more.ensures.counted h)

pub returns-then-number-len-clause-same : goal.returns-then-number-len-clause-same
returns-then-number-len-clause-same c = λ h.
    stays_at c.args.groups.now.taken.items c.args.number c.index_mut.result.now c.count_more.new.self (subst (λ n. c.args.number < n) (c.len.ensures ∙ c.args.groups.now.taken.ok.0) c.if-number-len.true) c.index_mut.ensures.value (c.count_more.ensures.same h)
