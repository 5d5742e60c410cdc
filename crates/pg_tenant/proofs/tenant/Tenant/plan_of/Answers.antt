use Rattle.std.proofs.Common.{◌≡◌, Ok, Vec, String, Global, rules, string_bytes, ap, subst}
use Rattle.pg_cache.proofs.Seen.{look_up_is_seen}
use Rattle.pg_cache.specs.Cache.{cache_seen, cache_key}
use Rattle.pg_meaning.specs.Plans.{Catalogue}
use Rattle.pg_plan.specs.Catalogue.{catalogue_view}
use Rattle.pg_plan.specs.Reading.{tested_length}
use Rattle.pg_tenant.proofs.LookUpLemmas.{found}
use Rattle.pg_tenant.specs.Indexes.{indexes_of}
use Rattle.pg_tenant.specs.LookUps.{FindsPlan}
use Rattle.pg_tenant.proofs.tenant.Tenant.plan_of.Goals as goal

pub returns : goal.returns
returns c =
    let text = string_bytes c.args.text in
    let short : tested_length text ≡ Ok tt = search rules in
    let copied : c.in_ok-indexes.indexes.value ≡ c.args.self.now.indexes.value = search rules in
    let own : indexes_of c.in_ok-indexes.indexes ≡ indexes_of c.args.self.now.indexes = ap (λ (v : Vec (String Global × String Global) Global). catalogue_view v.items) copied in
    let looks = look_up_is_seen c.args.cache.now c.plan_for.new.self (cache_key c.args.text c.in_ok-indexes.indexes) c.plan_for.result c.plan_for.ensures.ok c.plan_for.ensures.hit c.plan_for.ensures.miss in
    subst (λ (is : Catalogue). FindsPlan text is c.plan_for.result (cache_seen c.args.cache.now) (cache_seen c.plan_for.new.self)) own
    (found text (indexes_of c.in_ok-indexes.indexes) c.plan_for.result (cache_seen c.args.cache.now) (cache_seen c.plan_for.new.self) short c.plan_for.ensures.ok c.plan_for.ensures.err looks)
