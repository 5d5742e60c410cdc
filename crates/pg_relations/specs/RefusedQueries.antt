-- What no query means, where no query ends, and what clauses that read don't leave.
use Rattle.std.specs.Prelude.{false, List, [], ◌∷◌, Some, None, codes}
use Rattle.pg_meaning.specs.ExampleTrees.{named, column, project, query_of}
use Rattle.pg_meaning.specs.ExamplesOfFits.{pair_graph}
use Rattle.pg_meaning.specs.ExamplesOfSteps.{within, one, one_item, row_a, return_one}
use Rattle.pg_meaning.specs.Graph.{empty_graph}
use Rattle.pg_meaning.specs.Meaning.{Step, StepFaults, Means, MayFault}
use Rattle.pg_meaning.specs.Rows.{Row}
use Rattle.pg_meaning.specs.Tree.{parameter, unwind, with_rows, return_rows, Query}
use Rattle.pg_meaning.specs.Value.{node, Entries, no_entries, entry}
use Rattle.pg_meaning.specs.declared.fault.Fault.{Fault}
use Rattle.pg_meaning.specs.declared.fault.Fault.TheVariants.{DeletedEntity}
use Rattle.pg_relations.specs.RefusedSteps.{faulty, one_cut}

-- RETURN $p
abbrev pub return_given : Query
return_given = query_of (return_rows (project false None (column (codes "$p") (parameter (named "p")) None ∷ []) [] None None) ∷ [])

-- a node that isn't there
abbrev pub gone_given : Entries
gone_given = entry (codes "p") (node 7) no_entries

-- UNWIND or WITH that changes the graph, an UNWIND with a row more, a fault at no row; a row more, a deleted element in a row, and a fault for one where there is none
abbrev pub RefusedQueries : Type 0
RefusedQueries =
    ((results : List Row) → Step (within []) (unwind one_item (named "a")) pair_graph ([] ∷ []) empty_graph results → ⊥)
    × ((results : List Row) → Step (within []) (with_rows (one_cut None None) None) pair_graph ([] ∷ []) empty_graph results → ⊥)
    × (Step (within []) (unwind one_item (named "a")) empty_graph ([] ∷ []) empty_graph (row_a one ∷ row_a one ∷ []) → ⊥)
    × ((f : Fault) → StepFaults (within []) (unwind faulty (named "a")) empty_graph [] f → ⊥)
    × (Means return_one no_entries 10 empty_graph (codes "a" ∷ []) ((one ∷ []) ∷ (one ∷ []) ∷ []) empty_graph → ⊥)
    × (Means return_given gone_given 10 empty_graph (codes "$p" ∷ []) ((node 7 ∷ []) ∷ []) empty_graph → ⊥)
    × (MayFault return_one no_entries 10 empty_graph DeletedEntity → ⊥)
