use Rattle.std.proofs.Common.{◌≡◌, ◌++◌, drop}
use Rattle.pg_plan.specs.Catalogue.{catalogue_view}
use Rattle.pg_tenant.proofs.catalogue.copy_indexes.Given as goal

abbrev pub invariant-loop-index : goal.invariant-loop-index
invariant-loop-index l = catalogue_view l.indexes.items ++ catalogue_view (drop l.index-index l.catalogue.items) ≡ catalogue_view l.catalogue.items
