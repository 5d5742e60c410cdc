-- Items under the bytes of their expressions.
use Rattle.std.specs.Prelude.{◌≡◌, ℕ, List, [], map, filter, bytes_eq, Option, Some, None, Vec}
use Rattle.std.specs.Ordering.{nat_cmp}
use Rattle.std.specs.BTreeMap.{BTreeMap, get_by}
use Rattle.std.specs.Borrow.{Bor}
use Rattle.std.specs.Cmp.Lexicographic.{slice_cmp}
use Rattle.std.specs.declared.alloc.Global.{Global}
use Rattle.pg_tree_equality.specs.Codes.{with_expression}
use Rattle.pg_meaning.specs.Tree.{Item}
use Rattle.pg_meaning.specs.Tree as tree
use Rattle.pg_syntax_tree.specs.View.{expression_view}
use Rattle.pg_syntax_tree.specs.declared.expression.Expression.{Expression}

abbrev pub Index : Type 0
Index = BTreeMap (Vec ℕ Global) (Vec (Bor Expression) Global)

abbrev pub listed : Option (Vec (Bor Expression) Global) → List tree.Expression
listed None = []
listed (Some v) = map (λ b. expression_view b.now) v.items

-- what stands under the bytes
abbrev pub group : Index → List ℕ → List tree.Expression
group index code = listed (get_by (λ k. slice_cmp nat_cmp code k.items) index)

abbrev pub code_of : tree.Expression → List ℕ
code_of x = with_expression x []

-- under each bytes stand the expressions of the items that have them
pub record IsIndex (index : Index) (items : List Item) : Type 0 where
  pub is : (code : Vec ℕ Global) → group index code.items ≡ filter (λ x. bytes_eq (code_of x) code.items) (map (λ (i : Item). i.value) items)
