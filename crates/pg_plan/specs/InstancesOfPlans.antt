-- Which queries may change a graph, and how long a text may be.
use Rattle.std.specs.Prelude.{◌≡◌, ℕ, true, false, List, [], ◌∷◌, length, Ok, Err, Some, None}
use Rattle.pg_meaning.specs.ExampleTrees.{named, number, project, query_of}
use Rattle.pg_meaning.specs.ExamplesOfSteps.{unnamed}
use Rattle.pg_meaning.specs.Tree.{Clause, match_paths, unwind, create, merge, set_items, remove_items, delete, with_rows, return_rows}
use Rattle.pg_meaning.specs.declared.fault.Fault.TheVariants.{TextTooLong}
use Rattle.pg_plan.specs.Reading.{tested_length}
use Rattle.pg_plan.specs.Updates.{updates}

abbrev pub returned : Clause
returned = return_rows (project false (Some 0) [] [] None None)

-- each clause alone, and one that changes the graph between two that don't
abbrev pub InstancesOfUpdates : Type 0
InstancesOfUpdates =
    (updates (query_of (match_paths false (unnamed ∷ []) None ∷ returned ∷ [])) ≡ false)
    × (updates (query_of (unwind (number 1) (named "a") ∷ with_rows (project false (Some 0) [] [] None None) None ∷ returned ∷ [])) ≡ false)
    × (updates (query_of (create (unnamed ∷ []) ∷ [])) ≡ true)
    × (updates (query_of (merge unnamed [] ∷ [])) ≡ true)
    × (updates (query_of (set_items [] ∷ [])) ≡ true)
    × (updates (query_of (remove_items [] ∷ [])) ≡ true)
    × (updates (query_of (delete false [] ∷ [])) ≡ true)
    × (updates (query_of (delete true [] ∷ [])) ≡ true)
    × (updates (query_of (match_paths true (unnamed ∷ []) None ∷ set_items [] ∷ returned ∷ [])) ≡ true)
    × (updates (query_of []) ≡ false)

abbrev pub InstancesOfLengths : Type 0
InstancesOfLengths =
    ((text : List ℕ) → length text ≡ 65536 → tested_length text ≡ Ok tt)
    × ((text : List ℕ) → length text ≡ 65537 → tested_length text ≡ Err TextTooLong)
