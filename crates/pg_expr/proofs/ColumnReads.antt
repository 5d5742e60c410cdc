-- What a variable, and a property of one, give at rows that have the same in its column.
use Rattle.std.proofs.Common.{◌≡◌, ℕ, List, Option, Some, None, IfSome, sym, ap, ◌∙◌}
use Rattle.std.specs.Option.{option_and_then}
use Rattle.std.specs.Prelude.{bytes_eq, position, slice_get}
use Rattle.pg_expr.proofs.PlainReads.{of_held}
use Rattle.pg_expr.specs.LoneColumns.{ReadsColumn}
use Rattle.pg_expr.specs.Reads.{property_read}
use Rattle.pg_meaning.specs.Answer.{◌>>=◌}
use Rattle.pg_meaning.specs.Expressions.{or_fault, property_of}
use Rattle.pg_meaning.specs.Rows.{value_in}
use Rattle.pg_meaning.specs.Tree.{Expression, Name, variable}
use Rattle.pg_meaning.specs.Value.{Value}
use Rattle.pg_meaning.specs.declared.fault.Fault.TheVariants.{UndefinedVariable}
use Rattle.pg_rows.proofs.NamedRows.{values_stand}
use Rattle.pg_rows.specs.Named.{row_of}

module _ (x : Name) (names : List (List ℕ)) (at : ℕ) (first : position (bytes_eq x.text) names ≡ Some at) where
  stands : (r : List Value) → value_in x.text (row_of names r) ≡ slice_get r at
  stands r = values_stand x.text names r ∙ ap (option_and_then (slice_get r)) first

  alike : (r s : List Value) → slice_get r at ≡ slice_get s at → value_in x.text (row_of names r) ≡ value_in x.text (row_of names s)
  alike r s h = stands r ∙ h ∙ sym (stands s)

  pub variable_reads : ReadsColumn names (variable x) at
  variable_reads p g r s h = ap (λ o. or_fault o UndefinedVariable) (alike r s h)

  pub property_reads : (k : Name) → ReadsColumn names (property_read x k) at
  property_reads k p g r s h =
      of_held g k.text (or_fault (value_in x.text (row_of names r)) UndefinedVariable)
      ∙ ap (λ o. or_fault o UndefinedVariable >>= λ v. property_of g v k.text) (alike r s h)
      ∙ sym (of_held g k.text (or_fault (value_in x.text (row_of names s)) UndefinedVariable))

pub if_found : (x text : List ℕ) (names : List (List ℕ)) (e : Expression) (o : Option ℕ) → text ≡ x → o ≡ position (bytes_eq text) names → ((at : ℕ) → position (bytes_eq x) names ≡ Some at → ReadsColumn names e at) → IfSome o (λ at. ReadsColumn names e at)
if_found x text names e None is found reads = tt
if_found x text names e (Some at) is found reads = reads at (sym (found ∙ ap (λ t. position (bytes_eq t) names) is))
