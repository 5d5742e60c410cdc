-- RETURN whose rows come in turn: its rows are those that SKIP and LIMIT let in of what the items give at each row.
use Rattle.std.proofs.Common.{◌≡◌, ℕ, Bool, true, false, List, [], ◌∷◌, map, length, drop, Result, Ok, Err, None, refl, sym, ap, ◌∙◌}
use Rattle.std.specs.List.{AllByRecursion, list_any}
use Rattle.pg_meaning.specs.Answer.{◌>>=◌, each_answer}
use Rattle.pg_meaning.specs.Graph.{Graph}
use Rattle.pg_meaning.specs.Meters.{Setting}
use Rattle.pg_meaning.specs.Projections.{Projected, column_value, grouped, item_rows, limited, projected}
use Rattle.pg_meaning.specs.Rows.{Row, values_in}
use Rattle.pg_meaning.specs.Scopes.{Column, is_aggregate}
use Rattle.pg_meaning.specs.Tree.{Expression, Projection}
use Rattle.pg_meaning.specs.Value.{Value}
use Rattle.pg_meaning.specs.declared.fault.Fault.{Fault}
use Rattle.pg_rows.proofs.NamedRows.{values_are}
use Rattle.pg_rows.specs.Named.{row_of, rows_named}
use Rattle.pg_project.specs.Items.{columns_of}
use Rattle.pg_project.proofs.EachAnswer.{as_many, each_is, each_seen}
use Rattle.pg_project.proofs.Kept.{cut_map}
use Rattle.pg_project.proofs.Projecting.{behind, column_rows, columns_only, cut_later, cut_rows}
use Rattle.pg_project.proofs.Standing.{pairs_of}
use Rattle.pg_project.specs.Given.{Cut, cut_given, cut_of, value_given, values_given}
use Rattle.pg_project.specs.Parts.{rows_projected}
use Rattle.pg_project.specs.Returned.{ComeInTurn}

told_again : (columns : List (List ℕ)) (found : List (List Value)) → AllByRecursion (λ r. length r ≡ length columns) found → map values_in (rows_named columns found) ≡ found
told_again columns [] h = refl
told_again columns (r ∷ rs) h = λ i. values_are columns r h.0 i ∷ told_again columns rs h.1 i

module _ (s : Setting) (graph : Graph) (names columns : List (List ℕ)) (es : List Expression) (same : length columns ≡ length es) (rows : List (List Value)) where
  abbrev given : Result (List (List Value)) Fault
  given = each_answer (values_given s.parameters graph names es) rows

  abbrev all : List Column
  all = columns_of columns es

  abbrev input : List Row
  input = rows_named names rows

  each_row : column_rows s graph all input ≡ (given >>= λ found. Ok (rows_named columns found))
  each_row = each_seen (λ row. each_answer (column_value s.parameters graph row) all) (row_of names) (values_given s.parameters graph names es) (row_of columns) (λ r. pairs_of s graph (row_of names r) columns es same) rows

  abbrev by_kind : Bool → Result (List Projected) Fault
  by_kind aggregated = elim aggregated [ true ↦ grouped s graph all input | false ↦ each_answer (projected s.parameters graph false all) input ]

  module _ (apart : list_any is_aggregate all ≡ false) (c : Cut) where
    columns_cut : (a : Result (List (List Value)) Fault) → ((a >>= λ found. Ok (rows_named columns found)) >>= cut_rows s graph all c input) ≡ (a >>= λ found. Ok (rows_named columns (cut_of c found)))
    columns_cut (Ok found) = ap Ok (cut_map (row_of columns) c found)
    columns_cut (Err f) = refl

    each_cut : (item_rows s graph false all input >>= behind s graph all c input [] false None) ≡ (given >>= λ found. Ok (rows_named columns (cut_of c found)))
    each_cut =
        ap (λ b. by_kind b >>= behind s graph all c input [] false None) apart
        ∙ cut_later s graph all c input (each_answer (projected s.parameters graph false all) input)
        ∙ ap (λ a. a >>= cut_rows s graph all c input) (columns_only s graph all false input ∙ each_row)
        ∙ columns_cut given

  pub each_projected : (p : Projection) → ComeInTurn p all → rows_projected s graph all p None input ≡ (cut_given s.parameters graph p.skip p.limit >>= λ c. given >>= λ found. Ok (rows_named columns (cut_of c found)))
  each_projected p kept =
      (λ i. cut_given s.parameters graph p.skip p.limit >>= λ c. item_rows s graph (kept.distinct i) all input >>= behind s graph all c input (kept.order i) (kept.distinct i) None)
      ∙ (λ i. cut_given s.parameters graph p.skip p.limit >>= λ c. each_cut kept.apart c i)

  all_told : (found : List (List Value)) → given ≡ Ok found → map values_in (rows_named columns found) ≡ found
  all_told found h =
      told_again columns found (each_is (values_given s.parameters graph names es) (λ r. length r ≡ length columns) (λ row r e. as_many (value_given s.parameters graph names row) es r e ∙ sym same) rows found h)

  pub each_told : (c : Cut) (found : List (List Value)) → given ≡ Ok found → map values_in (rows_named columns (cut_of c found)) ≡ cut_of c found
  each_told c found h =
      ap (map values_in) (sym (cut_map (row_of columns) c found))
      ∙ sym (cut_map values_in c (rows_named columns found))
      ∙ ap (λ us. limited c.limit (drop c.skip us)) (all_told found h)
