-- Names that rise in byte order.
use Rattle.std.specs.List.Sorted.{IsStrictlySortedBy}
use Rattle.std.specs.Prelude.{◌≡◌, ℕ, ◌+◌, ◌≤◌, List, length, take, slice_index_or}
use Rattle.pg_meaning.specs.Order.{text_order}
use Rattle.std.specs.declared.cmp.Ordering.TheVariants.{Less}

-- so many of the first names are each below those after it, and all are so many where they all are
abbrev pub FirstRise : ℕ → List (List ℕ) → Type 0
FirstRise n names = (n ≤ length names) × IsStrictlySortedBy text_order (take n names) × (IsStrictlySortedBy text_order names → n ≡ length names)

-- the last of the names is below this one
abbrev pub IsLastBelow : (name : List ℕ) → List (List ℕ) → Type 0
IsLastBelow name names = (k : ℕ) (d : List ℕ) → k + 1 ≡ length names → text_order (slice_index_or names k d) name ≡ Less
