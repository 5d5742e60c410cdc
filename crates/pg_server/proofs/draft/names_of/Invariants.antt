use Rattle.std.proofs.Common.{◌≡◌, ◌++◌, drop, map, string_bytes, option_map}
use Rattle.serde_json.specs.View.{items_view}
use Rattle.pg_server.specs.Draft.{each, name_of}
use Rattle.pg_server.proofs.draft.names_of.Given as goal

abbrev pub invariant-loop-item : goal.invariant-loop-item
invariant-loop-item l =
    each name_of (items_view l.items.items) ≡ option_map (λ found. map string_bytes l.names.items ++ found) (each name_of (items_view (drop l.item-index l.items.items)))
