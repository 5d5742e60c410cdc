-- What is known of a comparison's sides once a clause, and what that tells of a condition at a row.
use Rattle.std.proofs.Common.{◌≡◌, ◌<◌, ℕ, Bool, true, false, List, [], ◌∷◌, map, Option, Some, None, Ok, Err, get_or, length, refl, sym, ap, ◌∙◌}
use Rattle.std.proofs.lemmas.Option.{slice_get-map, slice_get_read}
use Rattle.std.specs.Option.{option_and_then}
use Rattle.std.specs.Prelude.{IfSome, bytes_eq, option_map, position, slice_get}
use Rattle.pg_expr.proofs.PlainReads.{of_held}
use Rattle.pg_expr.proofs.ScalarLemmas.{both_told_by}
use Rattle.pg_expr.proofs.Turns.{one_operand}
use Rattle.pg_expr.specs.Conditions.{is_true_at}
use Rattle.pg_expr.specs.Operators.{truth_compared}
use Rattle.pg_expr.specs.Reads.{property_read}
use Rattle.pg_expr.specs.Scalars.{BothTell, Chooses, Tells}
use Rattle.pg_expr.specs.Sides.{IsComparisonOf, IsSideOf, comparison_given, in_column, side_given}
use Rattle.pg_expr.specs.declared.sides.KnownComparison.{KnownComparison}
use Rattle.pg_expr.specs.declared.sides.Side.{Side}
use Rattle.pg_meaning.specs.Answer.{Answer, ◌>>=◌}
use Rattle.pg_meaning.specs.Expressions.{begins_comparison, evaluate, evaluate_chain, evaluate_operands, or_fault, property_of}
use Rattle.pg_meaning.specs.Graph.{Graph}
use Rattle.pg_meaning.specs.Rows.{Row, value_in}
use Rattle.pg_meaning.specs.Tree as tree
use Rattle.pg_meaning.specs.Value.{Value as Datum, Entries}
use Rattle.pg_meaning.specs.declared.fault.Fault.TheVariants.{UndefinedVariable}
use Rattle.pg_meaning.specs.declared.operators.Operator.{Operator}
use Rattle.pg_rows.proofs.NamedRows.{values_stand}
use Rattle.pg_rows.specs.Named.{row_of}
use Rattle.pg_syntax_tree.specs.View.{expression_view, name_view, view_step}
use Rattle.pg_syntax_tree.specs.declared.expression.Expression.TheFolds.{fold-roll-Expression}
use Rattle.pg_syntax_tree.specs.declared.expression.Expression.TheOpen.{Expression-F}
use Rattle.pg_syntax_tree.specs.declared.expression.Expression.TheVariants as expression
use Rattle.pg_syntax_tree.specs.declared.expression.Expression.TheViews.{rolls-Parameter, rolls-Variable}
use Rattle.pg_syntax_tree.specs.declared.expression.Name.{Name}
use Rattle.pg_value_core.specs.View.{view}
use Rattle.pg_value_core.specs.declared.value.Value.{Value}

-- a name's column holds what the name stands for
module _ (names : List (List ℕ)) (parameters : Entries) (x : tree.Name) (at : ℕ) (stands : position (bytes_eq x.text) names ≡ Some at) where
  pub of_variable : (values : List Datum) (g : Graph) → evaluate (row_of names values) parameters g (tree.variable x) ≡ in_column values at
  of_variable values g =
      ap (λ o. or_fault o UndefinedVariable) (values_stand x.text names values)
      ∙ ap (λ o. or_fault (option_and_then (slice_get values) o) UndefinedVariable) stands

  pub of_property : (k : tree.Name) (values : List Datum) (g : Graph) → evaluate (row_of names values) parameters g (property_read x k) ≡ (in_column values at >>= λ v. property_of g v k.text)
  of_property k values g =
      of_held g k.text (or_fault (value_in x.text (row_of names values)) UndefinedVariable)
      ∙ ap (λ a. a >>= λ v. property_of g v k.text) (of_variable values g)

-- an expression that is the same has the same side
pub side_as : (names : List (List ℕ)) (parameters : Entries) (e f : tree.Expression) (o : Option Side) → e ≡ f → IfSome o (λ side. IsSideOf names parameters side f)
    → IfSome o (λ side. IsSideOf names parameters side e)
side_as names parameters e f None same h = tt
side_as names parameters e f (Some side) same h = λ values g. ap (evaluate (row_of names values) parameters g) same ∙ h values g

pub at_parameters : (names : List (List ℕ)) (parameters : Entries) (e : tree.Expression) (o : Option Side) → IfSome o (λ side. (ps : Entries) → IsSideOf names ps side e)
    → IfSome o (λ side. IsSideOf names parameters side e)
at_parameters names parameters e None h = tt
at_parameters names parameters e (Some side) h = h parameters

pub at_names : (names : List (List ℕ)) (parameters : Entries) (e : tree.Expression) (o : Option Side) → IfSome o (λ side. (ns : List (List ℕ)) → IsSideOf ns parameters side e)
    → IfSome o (λ side. IsSideOf names parameters side e)
at_names names parameters e None h = tt
at_names names parameters e (Some side) h = h names

pub variable_is : (n : Name) → expression_view (expression.Variable n) ≡ tree.variable (name_view n)
variable_is n = ap expression_view (sym (rolls-Variable n)) ∙ fold-roll-Expression tree.Expression view_step (Expression-F.Variable n)

pub parameter_is : (n : Name) → expression_view (expression.Parameter n) ≡ tree.parameter (name_view n)
parameter_is n = ap expression_view (sym (rolls-Parameter n)) ∙ fold-roll-Expression tree.Expression view_step (Expression-F.Parameter n)

-- what a row has in a column that is there
pub held_in : (row : List Value) (at : ℕ) (x : Value) → at < length row → x ≡ get_or row at x → in_column (map view row) at ≡ Ok (view x)
held_in row at x within read =
    ap (λ o. or_fault o UndefinedVariable) (slice_get-map view row at ∙ ap (option_map view) (slice_get_read row (length row) at x refl within read))

-- one comparison
under : (a : Answer) (f h : Datum → Answer) → ((v : Datum) → f v ≡ h v) → (a >>= f) ≡ (a >>= h)
under (Ok v) f h same = same v
under (Err e) f h same = refl

module _ (row : Row) (parameters : Entries) (g : Graph) where
  abbrev by_kind : Datum → tree.Operands → Bool → Answer
  by_kind v os b = elim b [ true ↦ (evaluate_operands row parameters g os >>= λ ps. truth_compared v ps) | false ↦ evaluate_chain row parameters g v os ]

  pub compared_once : (e f : tree.Expression) (o : Operator) → begins_comparison (tree.operand o f tree.no_operands) ≡ true
      → evaluate row parameters g (tree.chain e (tree.operand o f tree.no_operands)) ≡ (evaluate row parameters g e >>= λ v. evaluate row parameters g f >>= λ w. truth_compared v ((o, w) ∷ []))
  compared_once e f o begins =
      under (evaluate row parameters g e) (λ v. by_kind v (tree.operand o f tree.no_operands) (begins_comparison (tree.operand o f tree.no_operands)))
      (λ v. evaluate row parameters g f >>= λ w. truth_compared v ((o, w) ∷ []))
      (λ v. ap (by_kind v (tree.operand o f tree.no_operands)) begins ∙ one_operand v o (evaluate row parameters g f))

module _ (names : List (List ℕ)) (parameters : Entries) where
  pub known : (e first second : tree.Expression) (k : KnownComparison) → e ≡ tree.chain first (tree.operand k.operator second tree.no_operands)
      → begins_comparison (tree.operand k.operator second tree.no_operands) ≡ true → IsSideOf names parameters k.left first → IsSideOf names parameters k.right second
      → IsComparisonOf names parameters k e
  known e first second k is begins left right values g =
      let row = row_of names values in
      ap (λ f. evaluate row parameters g f >>= is_true_at) is
      ∙ ap (λ a. a >>= is_true_at) (compared_once row parameters g first second k.operator begins)
      ∙ ap (λ a. (a >>= λ v. evaluate row parameters g second >>= λ w. truth_compared v ((k.operator, w) ∷ [])) >>= is_true_at) (left values g)
      ∙ ap (λ a. (side_given k.left values g >>= λ v. a >>= λ w. truth_compared v ((k.operator, w) ∷ [])) >>= is_true_at) (right values g)

-- what is told of the sides decides
module _ (k : KnownComparison) (values : List Datum) (g : Graph) where
  abbrev compared_given : Answer
  compared_given = side_given k.left values g >>= λ v. side_given k.right values g >>= λ w. truth_compared v ((k.operator, w) ∷ [])

  decided : (told : Option Datum) (b : Option Bool) → Tells told compared_given → Chooses told b → IfSome b (λ t. comparison_given k values g ≡ Ok t)
  decided told None h c = tt
  decided None (Some t) h c = absurd c
  decided (Some v) (Some t) h c = ap (λ a. a >>= is_true_at) h ∙ c

  pub truth_known : (left right told : Option Datum) (b : Option Bool) → Tells left (side_given k.left values g) → Tells right (side_given k.right values g)
      → BothTell left right told (λ v w. truth_compared v ((k.operator, w) ∷ [])) → Chooses told b → IfSome b (λ t. comparison_given k values g ≡ Ok t)
  truth_known left right told b h j both c =
      decided told b
      (both_told_by left right told (side_given k.left values g) (side_given k.right values g) (λ v w. truth_compared v ((k.operator, w) ∷ []))
      (λ v. side_given k.right values g >>= λ w. truth_compared v ((k.operator, w) ∷ [])) (λ v. refl) h j both)
      c
