-- The property indexes that the graph at work has, by the texts of their labels and keys.
use Rattle.std.specs.Prelude.{ℕ, Bool, List}
use Rattle.std.specs.List.{list_any}
use Rattle.pg_live.specs.Live.{Live, pairs_at}
use Rattle.pg_store.specs.Indexed.{is_named}

abbrev pub has_index : {X : Type 0} → Live X → (label key : List ℕ) → Bool
has_index l label key = list_any (is_named l.names label key) (pairs_at l.aside)
