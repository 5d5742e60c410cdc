-- A walk over a list in which it is asked whether one reads: here, further on, or at its end.
use Rattle.std.proofs.Common.{◌≡◌, ℕ, ◌+◌, ◌<◌, ◌≤◌, Bool, true, false, List, [], ◌∷◌, map, length, drop, get_or, refl, sym, ap, ◌∙◌}
use Rattle.std.proofs.lemmas.List.{drop_all, drop_more}
use Rattle.std.specs.List.{list_any}
use Rattle.std.specs.Prelude.{◌||◌}
use Rattle.pg_meaning.specs.Parse.{expressions_of, operands_of, pairs_of, whens_of}
use Rattle.pg_meaning.specs.declared.operators.Operator.{Operator}
use Rattle.pg_reads.specs.Reads.{any_reads, operands_read, pairs_read, reads, suffixes_read, tests_read, whens_read}
use Rattle.pg_syntax_tree.specs.View.{expression_view, item_view, operand_view, pair_view, sort_item_view, suffix_view, suffixes_of, test_view, tests_of, when_view}
use Rattle.pg_syntax_tree.specs.declared.clauses.Item.{Item}
use Rattle.pg_syntax_tree.specs.declared.clauses.SortItem.{SortItem}
use Rattle.pg_syntax_tree.specs.declared.expression.Expression.{Expression}
use Rattle.pg_syntax_tree.specs.declared.expression.Name.{Name}
use Rattle.pg_syntax_tree.specs.declared.expression.Suffix.{Suffix}
use Rattle.pg_syntax_tree.specs.declared.expression.Suffix.TheVariants as suffix
use Rattle.pg_syntax_tree.specs.declared.expression.Test.{Test}
use Rattle.pg_syntax_tree.specs.declared.expression.Test.TheVariants as test

-- what `a || b` gives, by its branches
pub or_then : {a r v : Bool} (b : Bool) → r ≡ a → r ≡ true → v ≡ r → v ≡ (a || b)
or_then b is e h = h ∙ e ∙ ap (λ x. x || b) (sym e ∙ is)

pub or_else : {a r v : Bool} (b : Bool) → r ≡ a → r ≡ false → v ≡ b → v ≡ (a || b)
or_else b is e h = h ∙ ap (λ x. x || b) (sym e ∙ is)

pub or_right : (a b c : Bool) → ((a || b) || c) ≡ (a || (b || c))
or_right true b c = refl
or_right false b c = refl

-- what `a || b || c` gives
pub or_then_last : {r : Bool} (a b c : Bool) → r ≡ (a || b) → r ≡ true → r ≡ (a || (b || c))
or_then_last a b c is e = or_then c is e refl ∙ or_right a b c

pub or_else_last : {r v : Bool} (a b c : Bool) → r ≡ (a || b) → r ≡ false → v ≡ c → v ≡ (a || (b || c))
or_else_last a b c is e h = or_else c is e h ∙ or_right a b c

-- what was found of an expression, by where it stands
pub reads_there : (name : List ℕ) {r : Bool} {x y : Expression} → r ≡ reads name (expression_view x) → x ≡ y → r ≡ reads name (expression_view y)
reads_there name h e = h ∙ ap (λ z. reads name (expression_view z)) e

-- how a list is asked: item by item
pub record Asked (X : Type 0) : Type 0 where
  pub one : X → Bool
  pub all : List X → Bool
  pub none : all [] ≡ false
  pub step : (x : X) (xs : List X) → all (x ∷ xs) ≡ (one x || all xs)

module _ {X : Type 0} (k : Asked X) where
  step_at : (xs : List X) (i : ℕ) (x : X) → i < length xs → x ≡ get_or xs i x → k.all (drop i xs) ≡ (k.one x || k.all (drop (i + 1) xs))
  step_at xs i x p e = ap k.all (drop_more xs i x p ∙ ap (λ v. v ∷ drop (i + 1) xs) (sym e)) ∙ k.step x (drop (i + 1) xs)

  -- the item reads
  pub reads_here : {whole : Bool} (xs : List X) (i : ℕ) (x : X) → i < length xs → x ≡ get_or xs i x → true ≡ k.one x → whole ≡ k.all (drop i xs) → true ≡ whole
  reads_here xs i x p e s w = sym (w ∙ step_at xs i x p e ∙ ap (λ b. b || k.all (drop (i + 1) xs)) (sym s))

  -- the item doesn't: the rest decides
  pub passed_here : {whole : Bool} (xs : List X) (i : ℕ) (x : X) → i < length xs → x ≡ get_or xs i x → false ≡ k.one x → whole ≡ k.all (drop i xs) → whole ≡ k.all (drop (i + 1) xs)
  passed_here xs i x p e s w = w ∙ step_at xs i x p e ∙ ap (λ b. b || k.all (drop (i + 1) xs)) (sym s)

  -- no item does
  pub passed_all : {whole : Bool} (xs : List X) (i : ℕ) → length xs ≤ i → whole ≡ k.all (drop i xs) → false ≡ whole
  passed_all xs i p w = sym (w ∙ ap k.all (drop_all i xs p) ∙ k.none)

module _ (name : List ℕ) where
  abbrev pub expressions : Asked Expression
  expressions = record { one = λ x. reads name (expression_view x); all = λ xs. any_reads name (expressions_of (map expression_view xs)); none = refl; step = λ x xs. refl }

  abbrev pub items : Asked Item
  items = record { one = λ x. reads name (expression_view x.value); all = λ xs. list_any (λ i. reads name i.value) (map item_view xs); none = refl; step = λ x xs. refl }

  abbrev pub sorts : Asked SortItem
  sorts = record { one = λ x. reads name (expression_view x.key); all = λ xs. list_any (λ o. reads name o.key) (map sort_item_view xs); none = refl; step = λ x xs. refl }

  abbrev pub pairs : Asked (Name × Expression)
  pairs = record { one = λ x. reads name (expression_view x.1); all = λ xs. pairs_read name (pairs_of (map pair_view xs)); none = refl; step = λ x xs. refl }

  abbrev pub whens : Asked (Expression × Expression)
  whens = record { one = λ x. reads name (expression_view x.0) || reads name (expression_view x.1); all = λ xs. whens_read name (whens_of (map when_view xs)); none = refl; step = λ x xs. sym (or_right (reads name (expression_view x.0)) (reads name (expression_view x.1)) (whens_read name (whens_of (map when_view xs)))) }

  abbrev pub operands : Asked (Operator × Expression)
  operands = record { one = λ x. reads name (expression_view x.1); all = λ xs. operands_read name (operands_of (map operand_view xs)); none = refl; step = λ x xs. refl }

  abbrev pub test_reads : Test Expression → Bool
  test_reads (test.Text t x) = reads name (expression_view x)
  test_reads (test.IsNull b) = false

  pub test_step : (x : Test Expression) (xs : List (Test Expression)) → tests_read name (tests_of (map test_view (x ∷ xs))) ≡ (test_reads x || tests_read name (tests_of (map test_view xs)))
  test_step (test.Text t x) xs = refl
  test_step (test.IsNull b) xs = refl

  abbrev pub tests : Asked (Test Expression)
  tests = record { one = test_reads; all = λ xs. tests_read name (tests_of (map test_view xs)); none = refl; step = test_step }

  abbrev pub suffix_reads : Suffix Expression → Bool
  suffix_reads (suffix.Property n) = false
  suffix_reads (suffix.Index x) = reads name (expression_view x)

  pub suffix_step : (x : Suffix Expression) (xs : List (Suffix Expression)) → suffixes_read name (suffixes_of (map suffix_view (x ∷ xs))) ≡ (suffix_reads x || suffixes_read name (suffixes_of (map suffix_view xs)))
  suffix_step (suffix.Property n) xs = refl
  suffix_step (suffix.Index x) xs = refl

  abbrev pub suffixes : Asked (Suffix Expression)
  suffixes = record { one = suffix_reads; all = λ xs. suffixes_read name (suffixes_of (map suffix_view xs)); none = refl; step = suffix_step }
