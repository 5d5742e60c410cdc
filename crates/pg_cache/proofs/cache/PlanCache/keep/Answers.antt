use Rattle.std.proofs.Common.{sym, subst}
use Rattle.pg_cache.specs.Cache.{key_view}
use Rattle.pg_cache.proofs.LookUps.{either_way, put_or_not, put_leaves_planned}
use Rattle.pg_cache.proofs.cache.PlanCache.keep.Goals as goal
use Rattle.pg_plan.specs.Plans.{IsPlanOfText}
use Rattle.pg_plan.specs.declared.plan.Plan.{Plan}

pub invariant_of-self : goal.invariant_of-self
invariant_of-self g c =
    let is : IsPlanOfText (key_view c.args.key).0 (key_view c.args.key).1 c.in-Ok.plan.value = subst (λ (p : Plan). IsPlanOfText (key_view c.args.key).0 (key_view c.args.key).1 p) (sym c.in-Ok.ensures.cases) c.requires.planned in
    put_leaves_planned c.args.self.now c.self.inside.plans c.self.inside.hits c.self.inside.misses c.args.key (sym c.self.view_is) c.requires.absent
    c.in-Ok.plan c.put.new.self is c.self.invariant (either_way c.put.result _ _ c.put.ensures.entries c.put.ensures.err)

pub returns-in-Ok : goal.returns-in-Ok
returns-in-Ok g c =
    put_or_not c.args.self.now c.self.inside.plans c.self.inside.hits c.self.inside.misses c.args.key (sym c.self.view_is) c.requires.absent
    c.in-Ok.plan c.args.plan.now c.put.new.self c.in-Ok.ensures.cases (either_way c.put.result _ _ c.put.ensures.entries c.put.ensures.err)
