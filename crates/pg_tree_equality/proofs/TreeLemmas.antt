-- Lists of other lengths are not the same; and one step on through two lists that are compared.
use Rattle.std.proofs.Common.{◌≡◌, ℕ, suc, ◌+◌, ◌<◌, ◌≤◌, Bool, true, false, List, [], ◌∷◌, map, length, drop, get_or, refl, sym, ap, subst, ◌∙◌}
use Rattle.std.proofs.lemmas.List.{drop_all, drop_more}
use Rattle.std.specs.Prelude.{◌≢◌, ◌&&◌}
use Rattle.std.specs.Bool.{beq}
use Rattle.pg_meaning.specs.Parse.{expressions_of, operands_of, pairs_of, whens_of}
use Rattle.pg_meaning.specs.Trees.{same_name, same_names, same_flags, same_operator, same_expression, same_expressions, same_pairs, same_whens, same_operands, same_tests, same_suffixes}
use Rattle.pg_meaning.specs.declared.operators.Operator.{Operator}
use Rattle.pg_tree_equality.specs.Trees.{is_same_test, is_same_suffix}
use Rattle.pg_syntax_tree.specs.View.{expression_view, name_view, names_view, pair_view, suffixes_of, tests_of, when_view, operand_view, test_view, suffix_view}
use Rattle.pg_syntax_tree.specs.declared.expression.Expression.{Expression}
use Rattle.pg_syntax_tree.specs.declared.expression.Name.{Name}
use Rattle.pg_syntax_tree.specs.declared.expression.Suffix.{Suffix}
use Rattle.pg_syntax_tree.specs.declared.expression.Suffix.TheVariants as suffix
use Rattle.pg_syntax_tree.specs.declared.expression.Test.{Test}
use Rattle.pg_syntax_tree.specs.declared.expression.Test.TheVariants as test

and_false : (a b : Bool) → b ≡ false → (a && b) ≡ false
and_false true b e = e
and_false false b e = refl

-- what `a && b` gives, by its branches
pub and_then : {a b v : Bool} → a ≡ true → v ≡ b → v ≡ (a && b)
and_then {a} {b} e h = h ∙ ap (λ x. x && b) (sym e)

pub and_else : {a v : Bool} (b : Bool) → a ≡ false → v ≡ a → v ≡ (a && b)
and_else b e h = h ∙ e ∙ ap (λ x. x && b) (sym e)

-- what was found of two expressions, by where they stand
pub same_there : {v : Bool} {a b x y : Expression} → v ≡ same_expression (expression_view x) (expression_view y) → x ≡ a → y ≡ b → v ≡ same_expression (expression_view a) (expression_view b)
same_there {v} {a} {b} {x} {y} h e f = h ∙ ap (λ z. same_expression (expression_view z) (expression_view y)) e ∙ ap (λ z. same_expression (expression_view a) (expression_view z)) f

-- how two lists are compared: item by item
pub record Compared (X : Type 0) : Type 0 where
  pub same : X → X → Bool
  pub all : List X → List X → Bool
  pub fewer : (y : X) (ys : List X) → all [] (y ∷ ys) ≡ false
  pub more : (x : X) (xs : List X) → all (x ∷ xs) [] ≡ false
  pub none : all [] [] ≡ true
  pub step : (x y : X) (xs ys : List X) → all (x ∷ xs) (y ∷ ys) ≡ (same x y && all xs ys)

module _ {X : Type 0} (k : Compared X) where
  other_lengths : (xs ys : List X) → length xs ≢ length ys → k.all xs ys ≡ false
  other_lengths [] [] n = absurd (n refl)
  other_lengths [] (y ∷ ys) n = k.fewer y ys
  other_lengths (x ∷ xs) [] n = k.more x xs
  other_lengths (x ∷ xs) (y ∷ ys) n = k.step x y xs ys ∙ and_false (k.same x y) (k.all xs ys) (other_lengths xs ys (λ e. n (ap suc e)))

  -- lists of lengths that were found to differ
  pub others : (xs ys : List X) {m n : ℕ} → m ≡ length xs → n ≡ length ys → m ≢ n → false ≡ k.all xs ys
  others xs ys e f n = sym (other_lengths xs ys (λ h. n (e ∙ h ∙ sym f)))

  -- both lists have been gone through
  pub all_gone : {whole : Bool} (xs ys : List X) (i : ℕ) → length xs ≤ i → length xs ≡ length ys → whole ≡ k.all (drop i xs) (drop i ys) → true ≡ whole
  all_gone xs ys i p e w =
      sym (w ∙ ap (λ zs. k.all zs (drop i ys)) (drop_all i xs p) ∙ ap (k.all []) (drop_all i ys (subst (λ n. n ≤ i) e p)) ∙ k.none)

  step_at : (xs ys : List X) (i : ℕ) (x y : X) → i < length xs → i < length ys → x ≡ get_or xs i x → y ≡ get_or ys i y
      → k.all (drop i xs) (drop i ys) ≡ (k.same x y && k.all (drop (i + 1) xs) (drop (i + 1) ys))
  step_at xs ys i x y p q e f =
      ap (λ zs. k.all zs (drop i ys)) (drop_more xs i x p ∙ ap (λ v. v ∷ drop (i + 1) xs) (sym e))
      ∙ ap (k.all (x ∷ drop (i + 1) xs)) (drop_more ys i y q ∙ ap (λ v. v ∷ drop (i + 1) ys) (sym f))
      ∙ k.step x y (drop (i + 1) xs) (drop (i + 1) ys)

  -- the two items are the same: the rest decides
  pub same_here : {whole : Bool} (xs ys : List X) (i : ℕ) (x y : X) → i < length xs → i < length ys → x ≡ get_or xs i x → y ≡ get_or ys i y
      → true ≡ k.same x y → whole ≡ k.all (drop i xs) (drop i ys) → whole ≡ k.all (drop (i + 1) xs) (drop (i + 1) ys)
  same_here xs ys i x y p q e f s w = w ∙ step_at xs ys i x y p q e f ∙ ap (λ b. b && k.all (drop (i + 1) xs) (drop (i + 1) ys)) (sym s)

  -- the two items are not the same: nor are the lists
  pub other_here : {whole : Bool} (xs ys : List X) (i : ℕ) (x y : X) → i < length xs → i < length ys → x ≡ get_or xs i x → y ≡ get_or ys i y
      → false ≡ k.same x y → whole ≡ k.all (drop i xs) (drop i ys) → false ≡ whole
  other_here xs ys i x y p q e f s w = sym (w ∙ step_at xs ys i x y p q e f ∙ ap (λ b. b && k.all (drop (i + 1) xs) (drop (i + 1) ys)) (sym s))

abbrev pub names : Compared Name
names = record { same = λ x y. same_name (name_view x) (name_view y); all = λ xs ys. same_names (names_view xs) (names_view ys); fewer = λ y ys. refl; more = λ x xs. refl; none = refl; step = λ x y xs ys. refl }

abbrev pub flags : Compared Bool
flags = record { same = beq; all = same_flags; fewer = λ y ys. refl; more = λ x xs. refl; none = refl; step = λ x y xs ys. refl }

pub other_flags : (xs ys : List Bool) → length xs ≢ length ys → same_flags xs ys ≡ false
other_flags = other_lengths flags

abbrev pub expressions : Compared Expression
expressions = record {
  same = λ x y. same_expression (expression_view x) (expression_view y);
  all = λ xs ys. same_expressions (expressions_of (map expression_view xs)) (expressions_of (map expression_view ys));
  fewer = λ y ys. refl;
  more = λ x xs. refl;
  none = refl;
  step = λ x y xs ys. refl;
}

pub other_expressions : (xs ys : List Expression) → length xs ≢ length ys → same_expressions (expressions_of (map expression_view xs)) (expressions_of (map expression_view ys)) ≡ false
other_expressions = other_lengths expressions

abbrev pub pairs : Compared (Name × Expression)
pairs = record {
  same = λ x y. same_name (name_view x.0) (name_view y.0) && same_expression (expression_view x.1) (expression_view y.1);
  all = λ xs ys. same_pairs (pairs_of (map pair_view xs)) (pairs_of (map pair_view ys));
  fewer = λ y ys. refl;
  more = λ x xs. refl;
  none = refl;
  step = λ x y xs ys. refl;
}

pub other_pairs : (xs ys : List (Name × Expression)) → length xs ≢ length ys → same_pairs (pairs_of (map pair_view xs)) (pairs_of (map pair_view ys)) ≡ false
other_pairs = other_lengths pairs

abbrev pub whens : Compared (Expression × Expression)
whens = record {
  same = λ x y. same_expression (expression_view x.0) (expression_view y.0) && same_expression (expression_view x.1) (expression_view y.1);
  all = λ xs ys. same_whens (whens_of (map when_view xs)) (whens_of (map when_view ys));
  fewer = λ y ys. refl;
  more = λ x xs. refl;
  none = refl;
  step = λ x y xs ys. refl;
}

pub other_whens : (xs ys : List (Expression × Expression)) → length xs ≢ length ys → same_whens (whens_of (map when_view xs)) (whens_of (map when_view ys)) ≡ false
other_whens = other_lengths whens

abbrev pub operands : Compared (Operator × Expression)
operands = record {
  same = λ x y. same_operator x.0 y.0 && same_expression (expression_view x.1) (expression_view y.1);
  all = λ xs ys. same_operands (operands_of (map operand_view xs)) (operands_of (map operand_view ys));
  fewer = λ y ys. refl;
  more = λ x xs. refl;
  none = refl;
  step = λ x y xs ys. refl;
}

pub other_operands : (xs ys : List (Operator × Expression)) → length xs ≢ length ys → same_operands (operands_of (map operand_view xs)) (operands_of (map operand_view ys)) ≡ false
other_operands = other_lengths operands

pub test_step : (x y : Test Expression) (xs ys : List (Test Expression))
    → same_tests (tests_of (map test_view (x ∷ xs))) (tests_of (map test_view (y ∷ ys))) ≡ (is_same_test x y && same_tests (tests_of (map test_view xs)) (tests_of (map test_view ys)))
test_step (test.Text t x) (test.Text u y) xs ys = refl
test_step (test.Text t x) (test.IsNull c) xs ys = refl
test_step (test.IsNull b) (test.Text u y) xs ys = refl
test_step (test.IsNull b) (test.IsNull c) xs ys = refl

pub tests_end : (x : Test Expression) (xs : List (Test Expression)) → same_tests (tests_of (map test_view (x ∷ xs))) (tests_of (map test_view [])) ≡ false
tests_end (test.Text t x) xs = refl
tests_end (test.IsNull b) xs = refl

pub tests_begin : (x : Test Expression) (xs : List (Test Expression)) → same_tests (tests_of (map test_view [])) (tests_of (map test_view (x ∷ xs))) ≡ false
tests_begin (test.Text t x) xs = refl
tests_begin (test.IsNull b) xs = refl

abbrev pub tests : Compared (Test Expression)
tests = record { same = is_same_test; all = λ xs ys. same_tests (tests_of (map test_view xs)) (tests_of (map test_view ys)); fewer = tests_begin; more = tests_end; none = refl; step = test_step }

pub other_tests : (xs ys : List (Test Expression)) → length xs ≢ length ys → same_tests (tests_of (map test_view xs)) (tests_of (map test_view ys)) ≡ false
other_tests = other_lengths tests

pub suffix_step : (x y : Suffix Expression) (xs ys : List (Suffix Expression))
    → same_suffixes (suffixes_of (map suffix_view (x ∷ xs))) (suffixes_of (map suffix_view (y ∷ ys))) ≡ (is_same_suffix x y && same_suffixes (suffixes_of (map suffix_view xs)) (suffixes_of (map suffix_view ys)))
suffix_step (suffix.Property n) (suffix.Property m) xs ys = refl
suffix_step (suffix.Property n) (suffix.Index y) xs ys = refl
suffix_step (suffix.Index x) (suffix.Property m) xs ys = refl
suffix_step (suffix.Index x) (suffix.Index y) xs ys = refl

pub suffixes_end : (x : Suffix Expression) (xs : List (Suffix Expression)) → same_suffixes (suffixes_of (map suffix_view (x ∷ xs))) (suffixes_of (map suffix_view [])) ≡ false
suffixes_end (suffix.Property n) xs = refl
suffixes_end (suffix.Index x) xs = refl

pub suffixes_begin : (x : Suffix Expression) (xs : List (Suffix Expression)) → same_suffixes (suffixes_of (map suffix_view [])) (suffixes_of (map suffix_view (x ∷ xs))) ≡ false
suffixes_begin (suffix.Property n) xs = refl
suffixes_begin (suffix.Index x) xs = refl

abbrev pub suffixes : Compared (Suffix Expression)
suffixes = record { same = is_same_suffix; all = λ xs ys. same_suffixes (suffixes_of (map suffix_view xs)) (suffixes_of (map suffix_view ys)); fewer = suffixes_begin; more = suffixes_end; none = refl; step = suffix_step }

pub other_suffixes : (xs ys : List (Suffix Expression)) → length xs ≢ length ys → same_suffixes (suffixes_of (map suffix_view xs)) (suffixes_of (map suffix_view ys)) ≡ false
other_suffixes = other_lengths suffixes
