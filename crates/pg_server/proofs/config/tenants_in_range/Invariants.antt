use Rattle.std.proofs.Common.{◌≡◌, ◌++◌, option_map}
use Rattle.std.specs.Vec.Iter.{into_iter_items}
use Rattle.pg_server.specs.Configuration.{tenants_in_range}
use Rattle.pg_server.proofs.config.tenants_in_range.Given as goal

abbrev pub invariant-loop-draft : goal.invariant-loop-draft
invariant-loop-draft l =
    tenants_in_range l.fn.drafts.items ≡ option_map (λ more. l.tenants.items ++ more) (tenants_in_range (into_iter_items l.draft-iterator))
