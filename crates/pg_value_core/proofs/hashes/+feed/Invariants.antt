use Rattle.std.proofs.Common.{◌≡◌, drop, fold}
use Rattle.pg_value_core.specs.Hashed.{hashed_items, hashed_entries}
use Rattle.pg_value_core.specs.View.{values_view, entries_view}
use Rattle.pg_value_core.proofs.hashes.+feed.Given as goal

-- what is left makes of the state what all makes of the first one
abbrev pub invariant-feed_items-loop-item : goal.invariant-feed_items-loop-item
invariant-feed_items-loop-item g l =
    fold g.H.Hasher.write l.state (hashed_items (values_view (drop l.item-index l.item-items))) ≡ fold g.H.Hasher.write l.initial.state (hashed_items (values_view l.item-items))

abbrev pub invariant-feed_entries-loop-key : goal.invariant-feed_entries-loop-key
invariant-feed_entries-loop-key g l =
    fold g.H.Hasher.write l.state (hashed_entries (entries_view l.key-iterator)) ≡ fold g.H.Hasher.write l.initial.state (hashed_entries (entries_view l.entries.entries))
