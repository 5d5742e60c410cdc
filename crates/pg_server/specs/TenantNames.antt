-- How long names are at most.
use Rattle.std.specs.Prelude.{ℕ, ◌≤◌, List, [], length, slice_index_or}

-- each of these texts, by its place, has so many bytes at most
abbrev pub AreWithin : ℕ → List (List ℕ) → Type 0
AreWithin most texts = (place : ℕ) → length (slice_index_or texts place []) ≤ most
