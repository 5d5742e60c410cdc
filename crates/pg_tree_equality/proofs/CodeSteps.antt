-- One item more of a list whose bytes are put behind those that were found.
use Rattle.std.proofs.Common.{◌≡◌, ℕ, ◌+◌, ◌<◌, ◌≤◌, List, [], ◌∷◌, ◌++◌, map, length, drop, get_or, Vec, Box, Global, refl, sym, ap, subst, ◌∙◌}
use Rattle.std.proofs.lemmas.List.{append-nil, append_assoc, drop_all, drop_more}
use Rattle.pg_tree_equality.specs.Codes.{byte_of_form, with_byte, with_bytes, with_text, with_pairs, byte_of_operator, with_expression, with_expressions, with_whens, with_operands, with_tests, with_suffixes, with_test, with_suffix}
use Rattle.pg_meaning.specs.Parse.{expressions_of, operands_of, pairs_of, whens_of}
use Rattle.pg_meaning.specs.Tree as tree
use Rattle.pg_meaning.specs.declared.operators.Operator.{Operator}
use Rattle.pg_syntax_tree.specs.View.{expression_view, literal_view, view_step, name_view, suffixes_of, tests_of, pair_view, when_view, operand_view, test_view, suffix_view}
use Rattle.pg_syntax_tree.specs.declared.expression.Expression.{Expression}
use Rattle.pg_syntax_tree.specs.declared.expression.Expression.TheFolds.{fold-roll-Expression}
use Rattle.pg_syntax_tree.specs.declared.expression.Expression.TheOpen.{Expression-F}
use Rattle.pg_syntax_tree.specs.declared.expression.Expression.TheVariants as code
use Rattle.pg_syntax_tree.specs.declared.expression.Expression.TheViews.{rolls-Literal, rolls-Parameter, rolls-Variable, rolls-ListLiteral, rolls-Parentheses}
use Rattle.pg_syntax_tree.specs.declared.expression.Literal.{Literal}
use Rattle.pg_syntax_tree.specs.declared.expression.Name.{Name}
use Rattle.pg_syntax_tree.specs.declared.expression.Suffix.{Suffix}
use Rattle.pg_syntax_tree.specs.declared.expression.Suffix.TheVariants as suffix
use Rattle.pg_syntax_tree.specs.declared.expression.Test.{Test}
use Rattle.pg_syntax_tree.specs.declared.expression.Test.TheVariants as test

pub bytes_are : (bs code : List ℕ) → with_bytes bs code ≡ code ++ bs
bytes_are [] code = sym (append-nil code)
bytes_are (b ∷ bs) code = bytes_are bs (with_byte b code) ∙ append_assoc code (b ∷ []) bs

-- how a list is written: item by item
pub record Written (X : Type 0) : Type 0 where
  pub one : X → List ℕ → List ℕ
  pub all : List X → List ℕ → List ℕ
  pub step : (x : X) (xs : List X) (code : List ℕ) → all (x ∷ xs) code ≡ all xs (one x code)
  pub none : (code : List ℕ) → all [] code ≡ with_byte 0 code

module _ {X : Type 0} (k : Written X) where
  pub written_here : {code next whole : List ℕ} (xs : List X) (i : ℕ) (x : X) → i < length xs → x ≡ get_or xs i x → next ≡ k.one x code
      → k.all (drop i xs) code ≡ whole → k.all (drop (i + 1) xs) next ≡ whole
  written_here {code} xs i x p e s w =
      ap (k.all (drop (i + 1) xs)) s ∙ sym (k.step x (drop (i + 1) xs) code)
      ∙ ap (λ zs. k.all zs code) (ap (λ v. v ∷ drop (i + 1) xs) e ∙ sym (drop_more xs i x p)) ∙ w

  -- all items are written
  pub written_all : {code whole : List ℕ} (items xs : List X) (i : ℕ) → items ≡ xs → length items ≤ i → k.all (drop i xs) code ≡ whole → with_byte 0 code ≡ whole
  written_all {code} items xs i same p w = sym (k.none code) ∙ ap (λ zs. k.all zs code) (sym (drop_all i xs (subst (λ ys. length ys ≤ i) same p))) ∙ w

abbrev pub expressions : Written Expression
expressions = record { one = λ x. with_expression (expression_view x); all = λ xs. with_expressions (expressions_of (map expression_view xs)); step = λ x xs code. refl; none = λ code. refl }

abbrev pub pairs : Written (Name × Expression)
pairs = record { one = λ x code. with_expression (expression_view x.1) (with_text (name_view x.0).text (with_byte 1 code)); all = λ xs. with_pairs (pairs_of (map pair_view xs)); step = λ x xs code. refl; none = λ code. refl }

abbrev pub whens : Written (Expression × Expression)
whens = record { one = λ x code. with_expression (expression_view x.1) (with_expression (expression_view x.0) code); all = λ xs. with_whens (whens_of (map when_view xs)); step = λ x xs code. refl; none = λ code. refl }

abbrev pub operands : Written (Operator × Expression)
operands = record { one = λ x code. with_expression (expression_view x.1) (with_byte (byte_of_operator x.0) code); all = λ xs. with_operands (operands_of (map operand_view xs)); step = λ x xs code. refl; none = λ code. refl }

pub test_step : (x : Test Expression) (xs : List (Test Expression)) (code : List ℕ) → with_tests (tests_of (map test_view (x ∷ xs))) code ≡ with_tests (tests_of (map test_view xs)) (with_test x code)
test_step (test.Text t x) xs code = refl
test_step (test.IsNull b) xs code = refl

abbrev pub tests : Written (Test Expression)
tests = record { one = with_test; all = λ xs. with_tests (tests_of (map test_view xs)); step = test_step; none = λ code. refl }

pub suffix_step : (x : Suffix Expression) (xs : List (Suffix Expression)) (code : List ℕ) → with_suffixes (suffixes_of (map suffix_view (x ∷ xs))) code ≡ with_suffixes (suffixes_of (map suffix_view xs)) (with_suffix x code)
suffix_step (suffix.Property n) xs code = refl
suffix_step (suffix.Index x) xs code = refl

abbrev pub suffixes : Written (Suffix Expression)
suffixes = record { one = with_suffix; all = λ xs. with_suffixes (suffixes_of (map suffix_view xs)); step = suffix_step; none = λ code. refl }

-- the byte of a form, and then what the form has
pub form_written : (e : Expression) (code first : List ℕ) (byte : ℕ) (d : tree.Expression) (rest : List ℕ → List ℕ) → expression_view e ≡ d → byte ≡ byte_of_form (expression_view e) → first ≡ with_byte byte code
    → rest (with_byte (byte_of_form d) code) ≡ with_expression d code → rest first ≡ with_expression (expression_view e) code
form_written e code first byte d rest seen by_form written whole =
    ap rest (written ∙ ap (λ b. with_byte b code) (by_form ∙ ap byte_of_form seen)) ∙ whole ∙ sym (ap (λ f. with_expression f code) seen)

pub literal_seen : {e : Expression} (x : Literal) → e ≡ code.Literal x → expression_view e ≡ tree.literal (literal_view x)
literal_seen x is = ap expression_view (is ∙ sym (rolls-Literal x)) ∙ fold-roll-Expression tree.Expression view_step (Expression-F.Literal x)

pub parameter_seen : {e : Expression} (n : Name) → e ≡ code.Parameter n → expression_view e ≡ tree.parameter (name_view n)
parameter_seen n is = ap expression_view (is ∙ sym (rolls-Parameter n)) ∙ fold-roll-Expression tree.Expression view_step (Expression-F.Parameter n)

pub variable_seen : {e : Expression} (n : Name) → e ≡ code.Variable n → expression_view e ≡ tree.variable (name_view n)
variable_seen n is = ap expression_view (is ∙ sym (rolls-Variable n)) ∙ fold-roll-Expression tree.Expression view_step (Expression-F.Variable n)

pub list_literal_seen : {e : Expression} (xs : Vec Expression Global) → e ≡ code.ListLiteral xs → expression_view e ≡ tree.list_literal (expressions_of (map expression_view xs.items))
list_literal_seen xs is = ap expression_view (is ∙ sym (rolls-ListLiteral xs)) ∙ fold-roll-Expression tree.Expression view_step (Expression-F.ListLiteral xs)

pub parentheses_seen : {e : Expression} (x : Box Expression Global) → e ≡ code.Parentheses x → expression_view e ≡ tree.parentheses (expression_view x.value)
parentheses_seen x is = ap expression_view (is ∙ sym (rolls-Parentheses x)) ∙ fold-roll-Expression tree.Expression view_step (Expression-F.Parentheses x)
