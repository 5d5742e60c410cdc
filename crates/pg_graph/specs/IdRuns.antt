-- Rising lists of ids, one after the other.
use Rattle.std.specs.Prelude.{◌<◌, ℕ, zero, suc, List, [], ◌∷◌, ◌++◌, length, map as map_list}
use Rattle.std.specs.List.{AllByRecursion}
use Rattle.std.specs.Ordering.{nat_cmp}
use Rattle.std.specs.FinMap.{FinMap, from_entries}
use Rattle.pg_graph.specs.Sorted.{Rises}

abbrev pub first_of : List ℕ → ℕ
first_of [] = 0
first_of (x ∷ xs) = x

abbrev pub flattened : List (List ℕ) → List ℕ
flattened [] = []
flattened (r ∷ rs) = r ++ flattened rs

-- lists that rise as one, none of which is empty
pub record AreRuns (rs : List (List ℕ)) : Type 0 where
  pub rise : Rises (λ n. n) (flattened rs)
  pub filled : AllByRecursion (λ r. 0 < length r) rs

-- of these runs, all ids before this place are below an id, and all ids after it above
abbrev pub IsRunOf : ℕ → List (List ℕ) → ℕ → Type 0
IsRunOf id [] i = ⊥
IsRunOf id (r ∷ rs) zero = AllByRecursion (λ n. id < n) (flattened rs)
IsRunOf id (r ∷ rs) (suc i) = AllByRecursion (λ n. n < id) r × IsRunOf id rs i

-- the set of these ids
abbrev pub entry_of : ℕ → ℕ × Unit {0}
entry_of id = (id, tt)

abbrev pub set_of : List ℕ → FinMap nat_cmp (Unit {0})
set_of ids = from_entries (map_list entry_of ids)
