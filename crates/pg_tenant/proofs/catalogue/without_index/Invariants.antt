use Rattle.std.proofs.Common.{◌≡◌, ◌++◌, drop}
use Rattle.pg_plan.specs.Catalogue.{catalogue_view}
use Rattle.pg_tenant.specs.Indexes.{without_index}
use Rattle.pg_tenant.proofs.catalogue.without_index.Given as goal

abbrev pub invariant-loop-index : goal.invariant-loop-index
invariant-loop-index l =
    catalogue_view l.indexes.items ++ without_index (l.label, l.key) (catalogue_view (drop l.index-index l.catalogue.items)) ≡ without_index (l.label, l.key) (catalogue_view l.catalogue.items)
