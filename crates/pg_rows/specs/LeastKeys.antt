-- The least of keys that come one after the other.
use Rattle.std.specs.Borrow.{Bor}
use Rattle.std.specs.Prelude.{◌≡◌, ℕ, Bool, false, not, List, map, take, length, Option, Some, None, option_map}
use Rattle.std.specs.List.{list_any}
use Rattle.std.specs.Ordering.{is_lt}
use Rattle.pg_meaning.specs.Value.{Value}
use Rattle.pg_value_core.specs.View.{view}
use Rattle.pg_value_core.specs.declared.value.Value.{Value as Code}
use Rattle.pg_rows.specs.Sorts.{directions_of, key_order, keyed_below, picked, sorted_by, entries_view}
use Rattle.pg_rows.specs.declared.sort_by.SortBy.{SortBy}
use Rattle.pg_rows.specs.declared.least_keys.LeastSoFar.{LeastSoFar}

abbrev pub bound_view : List SortBy → Option (Bor (List Code)) → Option (List Value)
bound_view sorts bound = option_map (λ b. picked sorts (map view b.now)) bound

-- whether a key isn't below the bound, where there is one
abbrev pub is_behind : (descending : List Bool) → List Value → Option (List Value) → Bool
is_behind descending key None = false
is_behind descending key (Some bound) = not (is_lt (key_order descending key bound))

-- the first of the keys with their places, sorted by the keys, at most so many
abbrev pub least_of : (most : ℕ) → (descending : List Bool) → List (List Value × ℕ) → List (List Value × ℕ)
least_of most descending keyed = take most (sorted_by (keyed_below descending) keyed)

-- where there is a bound, there are as many as are wanted, and none is above it
abbrev pub Bounds : (most : ℕ) → (descending : List Bool) → Option (List Value) → (least : List (List Value × ℕ)) → Type 0
Bounds most descending None least = Unit {0}
Bounds most descending (Some bound) least = (length least ≡ most) × (list_any (λ k. is_lt (key_order descending bound k.0)) least ≡ false)

-- the least of these entries are the least of all keys
pub record HoldsLeast (most : ℕ) (sorts : List SortBy) (l : LeastSoFar) (keyed : List (List Value × ℕ)) : Type 0 where
  pub same : least_of most (directions_of sorts) (entries_view sorts l.entries.items) ≡ least_of most (directions_of sorts) keyed
  pub bound : Bounds most (directions_of sorts) (bound_view sorts l.bound) (least_of most (directions_of sorts) keyed)
