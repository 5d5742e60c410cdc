use Rattle.std.proofs.Common.{◌≡◌, drop}
use Rattle.pg_plan.specs.Catalogue.{catalogue_view}
use Rattle.pg_meaning.specs.Plans as plans
use Rattle.pg_tenant.proofs.catalogue.is_indexed.Given as goal

abbrev pub invariant-loop-index : goal.invariant-loop-index
invariant-loop-index l = plans.is_indexed (catalogue_view l.catalogue.items) (l.label, l.key) ≡ plans.is_indexed (catalogue_view (drop l.index-index l.catalogue.items)) (l.label, l.key)
