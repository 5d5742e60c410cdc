-- What `variable.key` and `variable[place]` give.
use Rattle.std.proofs.Common.{◌≡◌, ℕ, List, pos, Option, Ok, Err, refl, ap, ◌∙◌}
use Rattle.pg_expr.proofs.ScalarLemmas.{tells_by}
use Rattle.pg_expr.specs.Contexts.{given, row_at}
use Rattle.pg_expr.specs.Reads.{given_item, given_property, item_read, property_read}
use Rattle.pg_expr.specs.Scalars.{Tells}
use Rattle.pg_expr.specs.declared.row_context.RowContext.{RowContext}
use Rattle.pg_meaning.specs.Answer.{Answer, ◌>>=◌}
use Rattle.pg_meaning.specs.Expressions.{indexed, or_fault, property_of}
use Rattle.pg_meaning.specs.Graph.{Graph}
use Rattle.pg_meaning.specs.Rows.{value_in}
use Rattle.pg_meaning.specs.Tree as tree
use Rattle.pg_meaning.specs.Value.{Value as Datum, integer}
use Rattle.pg_meaning.specs.declared.fault.Fault.TheVariants.{UndefinedVariable}
use Rattle.pg_syntax_tree.specs.View.{expression_view}
use Rattle.pg_syntax_tree.specs.declared.expression.Expression.{Expression}

pub as_it_is : (a : Answer) → ((a >>= λ w. Ok w) >>= λ w. Ok w) ≡ a
as_it_is (Ok v) = refl
as_it_is (Err e) = refl

pub of_held : (g : Graph) (k : List ℕ) (a : Answer) → (a >>= λ v. (property_of g v k >>= λ w. Ok w) >>= λ w. Ok w) ≡ (a >>= λ v. property_of g v k)
of_held g k (Ok v) = as_it_is (property_of g v k)
of_held g k (Err e) = refl

module _ (s : RowContext) (g : Graph) (x k : tree.Name) where
  pub of_property : given s g (property_read x k) ≡ given_property s g x.text k.text
  of_property = of_held g k.text (or_fault (value_in x.text (row_at s)) UndefinedVariable)

  -- of an expression that is such a read
  pub of_read : (e : Expression) → expression_view e ≡ property_read x k → given s g (expression_view e) ≡ given_property s g x.text k.text
  of_read e h = ap (given s g) h ∙ of_property

  pub read_told : (e : Expression) (tells : Option Datum) → expression_view e ≡ property_read x k → Tells tells (given_property s g x.text k.text) → Tells tells (given s g (expression_view e))
  read_told e tells h t = tells_by tells (of_read e h) t

of_place : (g : Graph) (i : ℕ) (a : Answer) → (a >>= λ v. (indexed g v (integer (pos i)) >>= λ w. Ok w) >>= λ w. Ok w) ≡ (a >>= λ v. indexed g v (integer (pos i)))
of_place g i (Ok v) = as_it_is (indexed g v (integer (pos i)))
of_place g i (Err e) = refl

-- of an expression that reads an item of a variable
module _ (s : RowContext) (g : Graph) (x : tree.Name) (i : ℕ) where
  of_item : given s g (item_read x i) ≡ given_item s g x.text i
  of_item = of_place g i (or_fault (value_in x.text (row_at s)) UndefinedVariable)

  pub item_told : (e : Expression) (tells : Option Datum) → expression_view e ≡ item_read x i → Tells tells (given_item s g x.text i) → Tells tells (given s g (expression_view e))
  item_told e tells h t = tells_by tells (ap (given s g) h ∙ of_item) t
