-- CREATE of all rows, from the parts of the code.
use Rattle.std.proofs.Common.{◌≡◌, ◌*◌, ℕ, List, map, length, Result, Ok, Err, sym, ap, ◌∙◌, arith}
use Rattle.pg_meaning.specs.Graph.{Graph}
use Rattle.pg_meaning.specs.Meters.{Setting, spend}
use Rattle.pg_meaning.specs.Patterns.{add_path_names}
use Rattle.pg_meaning.specs.Rows.{Row}
use Rattle.pg_meaning.specs.Tree.{PathPattern}
use Rattle.pg_meaning.specs.Updates.{count_new, create_clause}
use Rattle.pg_meaning.specs.Value.{Entries}
use Rattle.pg_meaning.specs.declared.fault.Fault.{Fault}
use Rattle.pg_rows.specs.Named.{rows_named}
use Rattle.pg_rows.specs.States.{Named, Suits, named_rows, state_of}
use Rattle.pg_rows.specs.Tables.{table}
use Rattle.pg_rows.specs.declared.table.Rows.{Rows}
use Rattle.pg_value_core.specs.View.{view}
use Rattle.pg_write_make.proofs.CreationLemmas.{create_done, create_fault, create_refused, rows_cut}
use Rattle.pg_write_make.proofs.ShapeLemmas.{more_names}
use Rattle.pg_write_make.specs.Creations.{rows_created}

module _ (s : Setting) (parameters : Entries) (max_steps max_elements : ℕ) (t : Named) (suits : Suits s parameters max_steps t.names) (most : s.quota.max_elements ≡ max_elements) (ps : List PathPattern) (graph : Graph) (used row_count count : ℕ) (rows_are : row_count ≡ length t.rows) (count_is : count ≡ count_new t.names ps) where
  abbrev charge : Result ℕ Fault
  charge = spend s used (length t.rows * count_new t.names ps)

  charged : spend s used (row_count * count) ≡ charge
  charged = λ i. spend s used (rows_are i * count_is i)

  pub clause_refused : (e : Fault) → spend s used (row_count * count) ≡ Err e → create_clause s ps (state_of graph t used) ≡ Err e
  clause_refused e cost = create_refused s parameters max_elements suits.parameters_are most ps graph t used suits.scope_is e (sym charged ∙ cost)

  module _ (steps : ℕ) (cost : spend s used (row_count * count) ≡ Ok steps) (names : List (List ℕ)) (names_are : names ≡ add_path_names ps t.names) (rows : Rows) (same : table rows ≡ t.rows) (wide : rows.width ≡ length t.names) where
    cut : rows_named names (table rows) ≡ named_rows t
    cut =
        let more = more_names ps t.names in
        ap (λ ns. rows_named ns (table rows)) (names_are ∙ more.1)
        ∙ rows_cut t.names more.0 rows.width rows.count (map view rows.values.items) (omega (arith, wide))
        ∙ ap (rows_named t.names) same

    pub clause_done : (after : Graph) (found : List Row) → rows_created parameters max_elements ps graph (rows_named names (table rows)) ≡ Ok (after, found) → create_clause s ps (state_of graph t used) ≡ Ok (record { graph = after; rows = found; steps = steps })
    clause_done after found is = create_done s parameters max_elements suits.parameters_are most ps graph t used suits.scope_is after found steps (sym charged ∙ cost) (ap (rows_created parameters max_elements ps graph) (sym cut) ∙ is)

    pub clause_fault : (e : Fault) → rows_created parameters max_elements ps graph (rows_named names (table rows)) ≡ Err e → create_clause s ps (state_of graph t used) ≡ Err e
    clause_fault e is = create_fault s parameters max_elements suits.parameters_are most ps graph t used suits.scope_is e steps (sym charged ∙ cost) (ap (rows_created parameters max_elements ps graph) (sym cut) ∙ is)
