use Rattle.std.proofs.Common.{◌≡◌, ◌++◌, drop, filter, not}
use Rattle.pg_plan.specs.Catalogue.{catalogue_view}
use Rattle.pg_tenant.specs.Indexes.{stands_before}
use Rattle.pg_tenant.proofs.catalogue.push_others.Given as goal

abbrev pub invariant-loop-index : goal.invariant-loop-index
invariant-loop-index l =
    catalogue_view l.indexes.items ++ filter (λ j. not (stands_before j (l.label, l.key))) (catalogue_view (drop l.index-index l.catalogue.items))
    ≡ catalogue_view l.fn.indexes.items ++ filter (λ j. not (stands_before j (l.label, l.key))) (catalogue_view l.catalogue.items)
