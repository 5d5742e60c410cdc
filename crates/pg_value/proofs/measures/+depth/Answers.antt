use Rattle.std.proofs.Common.{rules, ◌≡◌, ap}
use Rattle.pg_meaning.specs.Value.{mapping}
use Rattle.pg_value_core.proofs.Forms as value
use Rattle.pg_value_core.specs.View.{view, entries_view}
use Rattle.pg_value.proofs.measures.+depth.Goals as goal

pub depth-returns-in-Map : goal.depth-returns-in-Map
depth-returns-in-Map t c =
    let same : entries_view c.as_ref-in-Map.result.now.entries ≡ entries_view c.in-Map.entries.value.entries = ap (λ m. entries_view m.entries) c.as_ref-in-Map.ensures in
    let seen : view c.args.value.now ≡ mapping (entries_view c.in-Map.entries.value.entries) = value.map_seen c.in-Map.entries c.in-Map.is in
    search rules
