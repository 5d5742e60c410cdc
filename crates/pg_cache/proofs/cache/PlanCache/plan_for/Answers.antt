use Rattle.std.proofs.Common.{◌∙◌, sym, ap, subst, Vec, String, Global}
use Rattle.std.specs.declared.rc.Rc.{Rc}
use Rattle.pg_cache.specs.Cache.{Cache, kept, cache_key, IsMiss}
use Rattle.pg_cache.specs.declared.key.Key as kept_key
use Rattle.pg_cache.proofs.LookUps.{first_is_found, first_stays, is_hit, no_miss, no_hit, not_kept, stays, hit_is_planned, hit_leaves_planned}
use Rattle.pg_cache.proofs.cache.PlanCache.plan_for.Goals as goal

abbrev asked : String Global → Rc (Vec (String Global × String Global) Global) Global → kept_key.Key
asked text catalogue = record { text = text; catalogue = catalogue }

-- ---- the plan in front

pub returns-in-Some-clause-ok : goal.returns-in-Some-clause-ok
returns-in-Some-clause-ok g c =
    hit_is_planned c.args.self.now c.self.inside.plans c.self.inside.hits c.self.inside.misses (asked c.args.text c.args.catalogue) (sym c.self.view_is)
    c.in-Some.plan.now c.share.result c.self.invariant (first_is_found c.self.inside.plans (asked c.args.text c.args.catalogue) c.in-Some.plan.now c.in-Some.ensures) c.share.ensures.answer

pub returns-in-Some-clause-hit : goal.returns-in-Some-clause-hit
returns-in-Some-clause-hit g c = λ plan.
    is_hit c.args.self.now c.self.inside.plans c.self.inside.hits c.self.inside.misses (asked c.args.text c.args.catalogue) (sym c.self.view_is)
    c.self.inside.plans c.share.new.hits plan c.in-Some.plan.now c.share.result
    (first_stays c.self.inside.plans (asked c.args.text c.args.catalogue) c.in-Some.plan.now c.in-Some.ensures) c.share.ensures.count (first_is_found c.self.inside.plans (asked c.args.text c.args.catalogue) c.in-Some.plan.now c.in-Some.ensures) c.share.ensures.answer

pub returns-in-Some-clause-miss : goal.returns-in-Some-clause-miss
returns-in-Some-clause-miss g c = λ none.
    absurd (no_miss c.args.self.now c.self.inside.plans c.self.inside.hits c.self.inside.misses (asked c.args.text c.args.catalogue) (sym c.self.view_is) c.in-Some.plan.now (first_is_found c.self.inside.plans (asked c.args.text c.args.catalogue) c.in-Some.plan.now c.in-Some.ensures) none)

-- ---- one that is found behind it

pub invariant_of-self-in-Some-get : goal.invariant_of-self-in-Some-get
invariant_of-self-in-Some-get g c =
    hit_leaves_planned c.args.self.now c.self.inside.plans c.self.inside.hits c.self.inside.misses (asked c.args.text c.args.catalogue) (sym c.self.view_is)
    c.get.follows.lender-at-none c.self.invariant c.get.follows.holds-at-none

pub returns-in-Some-get-clause-ok : goal.returns-in-Some-get-clause-ok
returns-in-Some-get-clause-ok g c =
    hit_is_planned c.args.self.now c.self.inside.plans c.self.inside.hits c.self.inside.misses (asked c.args.text c.args.catalogue) (sym c.self.view_is)
    c.in-Some-get.plan.now c.share-in-Some-get.result c.self.invariant c.in-Some-get.ensures.value c.share-in-Some-get.ensures.answer

pub returns-in-Some-get-clause-hit : goal.returns-in-Some-get-clause-hit
returns-in-Some-get-clause-hit g c = λ plan.
    is_hit c.args.self.now c.self.inside.plans c.self.inside.hits c.self.inside.misses (asked c.args.text c.args.catalogue) (sym c.self.view_is)
    c.get.follows.lender-at-none c.share-in-Some-get.new.hits plan c.in-Some-get.plan.now c.share-in-Some-get.result
    c.get.follows.holds-at-none c.share-in-Some-get.ensures.count c.in-Some-get.ensures.value c.share-in-Some-get.ensures.answer

pub returns-in-Some-get-clause-miss : goal.returns-in-Some-get-clause-miss
returns-in-Some-get-clause-miss g c = λ none.
    absurd (no_miss c.args.self.now c.self.inside.plans c.self.inside.hits c.self.inside.misses (asked c.args.text c.args.catalogue) (sym c.self.view_is) c.in-Some-get.plan.now c.in-Some-get.ensures.value none)

-- ---- none

pub invariant_of-self-in_default-get : goal.invariant_of-self-in_default-get
invariant_of-self-in_default-get g c =
    hit_leaves_planned c.args.self.now c.self.inside.plans c.self.inside.hits c.self.inside.misses (asked c.args.text c.args.catalogue) (sym c.self.view_is)
    c.get.follows.lender-at-none c.self.invariant c.get.follows.holds-at-none

pub make_plan-requires : goal.make_plan-requires
make_plan-requires g c =
    ap (λ (a : Cache). kept a (cache_key c.args.text c.args.catalogue))
    (stays c.args.self.now c.self.inside.plans c.self.inside.hits c.self.inside.misses (asked c.args.text c.args.catalogue) (sym c.self.view_is) c.get.follows.lender-at-none c.in_default-get.ensures.value c.get.follows.holds-at-none)
    ∙ no_hit c.args.self.now c.self.inside.plans c.self.inside.hits c.self.inside.misses (asked c.args.text c.args.catalogue) (sym c.self.view_is) c.in_default-get.ensures.value

pub returns-clause-hit : goal.returns-clause-hit
returns-clause-hit g c = λ plan k.
    absurd (not_kept c.args.self.now c.self.inside.plans c.self.inside.hits c.self.inside.misses (asked c.args.text c.args.catalogue) (sym c.self.view_is) plan c.in_default-get.ensures.value k)

pub returns-clause-miss : goal.returns-clause-miss
returns-clause-miss g c = λ none.
    subst (λ (o : Cache). IsMiss o c.make_plan.new.self (cache_key c.args.text c.args.catalogue) c.make_plan.result)
    (stays c.args.self.now c.self.inside.plans c.self.inside.hits c.self.inside.misses (asked c.args.text c.args.catalogue) (sym c.self.view_is) c.get.follows.lender-at-none c.in_default-get.ensures.value c.get.follows.holds-at-none)
    c.make_plan.ensures.miss
