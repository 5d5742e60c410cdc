use Rattle.std.proofs.Common.{drop}
use Rattle.pg_cache.proofs.Feeding.{Feeds}
use Rattle.pg_cache.specs.Digests.{message}
use Rattle.pg_plan.specs.Catalogue.{catalogue_view}
use Rattle.pg_cache.proofs.digested.digest_list.Given as goal

abbrev pub invariant-loop-label : goal.invariant-loop-label
invariant-loop-label l = Feeds l.hasher (message (catalogue_view (drop l.label-index l.list.items))) (message (catalogue_view l.list.items))
