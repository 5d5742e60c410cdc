-- What expressions give at a context: a row under names, with the parameters of the request.
use Rattle.std.specs.Prelude.{List, map, true, false, Option, Some, None, unwrap_or, Result, Ok}
use Rattle.pg_expr.specs.declared.value_ref.ValueRef.{ValueRef}
use Rattle.pg_expr.specs.declared.value_ref.ValueRef.TheVariants.{Lent, Made}
use Rattle.pg_expr.specs.declared.row_context.RowContext.{RowContext}
use Rattle.pg_meaning.specs.Answer.{Answer, ◌>>=◌}
use Rattle.pg_meaning.specs.Expressions as meaning
use Rattle.pg_meaning.specs.Graph.{Graph}
use Rattle.pg_meaning.specs.Logic.{value_of_truth}
use Rattle.pg_meaning.specs.Measure.{made}
use Rattle.pg_meaning.specs.Rows.{Row}
use Rattle.pg_meaning.specs.Tree as tree
use Rattle.pg_meaning.specs.Value.{Value as Datum, null, mapping, Values, values_of, Entries, no_entries}
use Rattle.pg_meaning.specs.declared.fault.Fault.{Fault}
use Rattle.pg_meaning.specs.declared.operators.Operator.{Operator}
use Rattle.pg_meaning.specs.declared.operators.TextTest.{TextTest}
use Rattle.pg_rows.specs.Named.{row_of}
use Rattle.pg_value_core.specs.Given.{parameters_view}
use Rattle.pg_value_core.specs.View.{view}

abbrev pub found_view : ValueRef → Datum
found_view (Lent v) = view v.now
found_view (Made v) = view v

abbrev pub founds_view : List ValueRef → Values
founds_view fs = values_of (map found_view fs)

abbrev pub row_at : RowContext → Row
row_at s = row_of s.names.now (map view s.row.now)

abbrev pub parameters_at : RowContext → Entries
parameters_at s = parameters_view s.parameters.now

abbrev pub given : RowContext → Graph → tree.Expression → Answer
given s g e = meaning.evaluate (row_at s) (parameters_at s) g e

abbrev pub pairs_view : List (Operator × ValueRef) → List (Operator × Datum)
pairs_view ps = map (λ p. (p.0, found_view p.1)) ps

-- ---- what parts of expressions give

abbrev pub given_each : RowContext → Graph → tree.Expressions → Result Values Fault
given_each s g es = meaning.evaluate_each (row_at s) (parameters_at s) g es

abbrev pub given_pairs : RowContext → Graph → Entries → tree.Pairs → Result Entries Fault
given_pairs s g found ps = meaning.evaluate_pairs (row_at s) (parameters_at s) g found ps

abbrev pub given_map : RowContext → Graph → tree.Pairs → Answer
given_map s g ps = given_pairs s g no_entries ps >>= λ es. made (mapping es)

abbrev pub given_first : RowContext → Graph → tree.Expressions → Answer
given_first s g es = meaning.first_given (row_at s) (parameters_at s) g es

abbrev pub given_perhaps : RowContext → Graph → tree.Perhaps → Result (Option Datum) Fault
given_perhaps s g e = meaning.evaluate_perhaps (row_at s) (parameters_at s) g e

abbrev pub given_true : RowContext → Graph → Option Datum → tree.Whens → Result (Option Datum) Fault
given_true s g subject ws = meaning.first_true (row_at s) (parameters_at s) g subject ws

-- what was chosen, else what is behind ELSE, else null
abbrev pub given_otherwise : RowContext → Graph → Option Datum → tree.Perhaps → Answer
given_otherwise s g chosen otherwise = elim chosen [
  | Some v ↦ Ok v
  | None ↦ given_perhaps s g otherwise >>= λ o. Ok (unwrap_or o null)
]

abbrev pub given_chain : RowContext → Graph → Datum → tree.Operands → Answer
given_chain s g v os = meaning.evaluate_chain (row_at s) (parameters_at s) g v os

abbrev pub given_operands : RowContext → Graph → tree.Operands → Result (List (Operator × Datum)) Fault
given_operands s g os = meaning.evaluate_operands (row_at s) (parameters_at s) g os

-- comparisons of neighbours, from a first value on
abbrev pub given_compared : RowContext → Graph → Datum → tree.Operands → Answer
given_compared s g v os = given_operands s g os >>= λ ps. meaning.all_compared v ps >>= λ t. Ok (value_of_truth t)

-- a chain behind its first value
abbrev pub given_chained : RowContext → Graph → Datum → tree.Operands → Answer
given_chained s g v os = elim (meaning.begins_comparison os) [ true ↦ given_compared s g v os | false ↦ given_chain s g v os ]

abbrev pub given_text_test : RowContext → Graph → Datum → TextTest → tree.Expression → Answer
given_text_test s g v t e = given s g e >>= λ w. meaning.tested t v w

abbrev pub given_tests : RowContext → Graph → Datum → tree.Tests → Answer
given_tests s g v ts = meaning.evaluate_tests (row_at s) (parameters_at s) g v ts

abbrev pub given_index : RowContext → Graph → Datum → tree.Expression → Answer
given_index s g v e = given s g e >>= λ i. meaning.indexed g v i

abbrev pub given_suffixes : RowContext → Graph → Datum → tree.Suffixes → Answer
given_suffixes s g v ss = meaning.evaluate_suffixes (row_at s) (parameters_at s) g v ss

-- properties and indexes, then labels
abbrev pub given_reads : RowContext → Graph → Datum → tree.Suffixes → List tree.Name → Answer
given_reads s g v ss ls = given_suffixes s g v ss >>= λ w. meaning.labelled g w ls
