use Rattle.std.proofs.Common.{◌≡◌, ◌++◌, drop, option_map}
use Rattle.serde_json.specs.View.{items_view}
use Rattle.pg_server.specs.Draft.{each, tenant_of}
use Rattle.pg_server.proofs.draft.tenants_of.Given as goal

abbrev pub invariant-loop-item : goal.invariant-loop-item
invariant-loop-item l =
    each tenant_of (items_view l.items.items) ≡ option_map (λ found. l.tenants.items ++ found) (each tenant_of (items_view (drop l.item-index l.items.items)))
