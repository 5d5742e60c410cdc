use Rattle.std.proofs.Common.{◌≡◌, ℕ, Bool, Option, Box, Vec, Global, length, map, List, [], ◌∷◌, ◌++◌, refl, sym, ap, subst, ◌∙◌, inl, inr, arith}
use Rattle.pg_meaning.specs.Parse.{expressions_of, operands_of, pairs_of, whens_of}
use Rattle.pg_meaning.specs.StaticFaults.{all_faults, pair_faults, when_faults, operand_faults, test_faults, suffix_faults, faults_of, expression_faults, argument_count, Role, PlacedFault}
use Rattle.pg_meaning.specs.Tree as tree
use Rattle.pg_scope.specs.Calls.{own_faults}
use Rattle.pg_scope.specs.First.{IsFirst}
use Rattle.pg_meaning.specs.Names.{Names}
use Rattle.pg_scope.specs.Names.{names_in}
use Rattle.pg_scope.specs.Roles.{role_view}
use Rattle.pg_syntax_tree.specs.View.{expression_view, literal_view, name_view, pair_view, suffixes_of, tests_of, when_view, operand_view, test_view, suffix_view, view_step}
use Rattle.pg_syntax_tree.specs.declared.expression.Expression.{Expression}
use Rattle.pg_syntax_tree.specs.declared.expression.Expression.TheFolds.{fold-roll-Expression}
use Rattle.pg_syntax_tree.specs.declared.expression.Expression.TheOpen.{Expression-F}
use Rattle.pg_syntax_tree.specs.declared.expression.Expression.TheVariants as expression
use Rattle.pg_syntax_tree.specs.declared.expression.Expression.TheViews.{rolls-Literal, rolls-Parameter, rolls-Variable, rolls-ListLiteral, rolls-Parentheses}
use Rattle.pg_syntax_tree.specs.declared.expression.Literal.{Literal}
use Rattle.pg_syntax_tree.specs.declared.expression.Name.{Name}
use Rattle.pg_syntax_tree.specs.declared.expression.Suffix.{Suffix}
use Rattle.pg_syntax_tree.specs.declared.expression.Suffix.TheVariants as suffix
use Rattle.pg_syntax_tree.specs.declared.expression.Test.{Test}
use Rattle.pg_syntax_tree.specs.declared.expression.Test.TheVariants as test
use Rattle.pg_scope.proofs.FirstLemmas.{in_turn, walk_item, walk_ended, no_more}
use Rattle.pg_syntax_tree.proofs.Views.{map_is, call_is, chain_is, negation_is, signs_is, tests_is, suffixes_is, case_is}
use Rattle.pg_scope.proofs.expressions.+expressions.Goals as goal

abbrev faults_in_test : Names → Test Expression → List PlacedFault
faults_in_test visible (test.Text t x) = faults_of visible (expression_view x)
faults_in_test visible (test.IsNull b) = []

test_step : (visible : Names) (x : Test Expression) (xs : List (Test Expression)) → test_faults visible (tests_of (map test_view (x ∷ xs))) ≡ faults_in_test visible x ++ test_faults visible (tests_of (map test_view xs))
test_step visible (test.Text t x) xs = refl
test_step visible (test.IsNull b) xs = refl

abbrev faults_in_suffix : Names → Suffix Expression → List PlacedFault
faults_in_suffix visible (suffix.Property n) = []
faults_in_suffix visible (suffix.Index x) = faults_of visible (expression_view x)

suffix_step : (visible : Names) (x : Suffix Expression) (xs : List (Suffix Expression)) → suffix_faults visible (suffixes_of (map suffix_view (x ∷ xs))) ≡ faults_in_suffix visible x ++ suffix_faults visible (suffixes_of (map suffix_view xs))
suffix_step visible (suffix.Property n) xs = refl
suffix_step visible (suffix.Index x) xs = refl

variable_is : (n : Name) → expression_view (expression.Variable n) ≡ tree.variable (name_view n)
variable_is n = ap expression_view (sym (rolls-Variable n)) ∙ fold-roll-Expression tree.Expression view_step (Expression-F.Variable n)

literal_is : (l : Literal) → expression_view (expression.Literal l) ≡ tree.literal (literal_view l)
literal_is l = ap expression_view (sym (rolls-Literal l)) ∙ fold-roll-Expression tree.Expression view_step (Expression-F.Literal l)

parameter_is : (n : Name) → expression_view (expression.Parameter n) ≡ tree.parameter (name_view n)
parameter_is n = ap expression_view (sym (rolls-Parameter n)) ∙ fold-roll-Expression tree.Expression view_step (Expression-F.Parameter n)

parentheses_is : (x : Box Expression Global) → expression_view (expression.Parentheses x) ≡ tree.parentheses (expression_view x.value)
parentheses_is x = ap expression_view (sym (rolls-Parentheses x)) ∙ fold-roll-Expression tree.Expression view_step (Expression-F.Parentheses x)

list_is : (xs : Vec Expression Global) → expression_view (expression.ListLiteral xs) ≡ tree.list_literal (expressions_of (map expression_view xs.items))
list_is xs = ap expression_view (sym (rolls-ListLiteral xs)) ∙ fold-roll-Expression tree.Expression view_step (Expression-F.ListLiteral xs)

count_is : (xs : List Expression) → length xs ≡ argument_count (expressions_of (map expression_view xs))
count_is [] = refl
count_is (x ∷ xs) = let rest = count_is xs in omega arith

-- a call, with so many arguments
called : (visible : Names) (role : Role) (n : tree.Name) (star distinct : Bool) (count : ℕ) (xs : List Expression) {first next last : Option PlacedFault} → count ≡ length xs
    → IsFirst first (own_faults role n star distinct count) next → IsFirst next (all_faults visible (expressions_of (map expression_view xs))) last
    → IsFirst first (expression_faults visible role (tree.call n star distinct (expressions_of (map expression_view xs)))) last
called visible role n star distinct count xs {first} {next} {last} is e h = in_turn (subst (λ m. IsFirst first (own_faults role n star distinct m) next) (is ∙ count_is xs) e) h

pub fault_in_all-loop-item-preserved : goal.fault_in_all-loop-item-preserved
fault_in_all-loop-item-preserved t c = let visible = names_in c.args.visible.now in
    c.loop-item.invariant ∙ walk_item (λ ys. all_faults visible (expressions_of (map expression_view ys))) (λ y. faults_of visible (expression_view y)) (λ y ys. refl) c.loop-item-test.true c.item-item.is c.deref-item-items.ensures.value (c.fault_in_expression-first.ensures)

pub fault_in_pairs-loop-value-preserved : goal.fault_in_pairs-loop-value-preserved
fault_in_pairs-loop-value-preserved t c = let visible = names_in c.args.visible.now in
    c.loop-value.invariant ∙ walk_item (λ ys. pair_faults visible (pairs_of (map pair_view ys))) (λ y. faults_of visible (expression_view y.1)) (λ y ys. refl) c.loop-value-test.true c.loop-value-item.is c.deref-value-items.ensures.value (c.fault_in_expression-first.ensures)

pub fault_in_operands-loop-operand-preserved : goal.fault_in_operands-loop-operand-preserved
fault_in_operands-loop-operand-preserved t c = let visible = names_in c.args.visible.now in
    c.loop-operand.invariant ∙ walk_item (λ ys. operand_faults visible (operands_of (map operand_view ys))) (λ y. faults_of visible (expression_view y.1)) (λ y ys. refl) c.loop-operand-test.true c.loop-operand-item.is c.deref-operand-items.ensures.value (c.fault_in_expression-first.ensures)

pub fault_in_whens-loop-condition-preserved : goal.fault_in_whens-loop-condition-preserved
fault_in_whens-loop-condition-preserved t c = let visible = names_in c.args.visible.now in
    c.loop-condition.invariant ∙ walk_item (λ ys. when_faults visible (whens_of (map when_view ys))) (λ y. faults_of visible (expression_view y.0) ++ faults_of visible (expression_view y.1)) (λ y ys. refl) c.loop-condition-test.true c.loop-condition-item.is c.deref-condition-items.ensures.value (in_turn c.fault_in_expression-first.ensures c.fault_in_expression-first-in-loop-condition.ensures)

pub fault_in_tests-loop-test-preserved : goal.fault_in_tests-loop-test-preserved
fault_in_tests-loop-test-preserved t c = let visible = names_in c.args.visible.now in
    c.loop-test.invariant ∙ walk_item (λ ys. test_faults visible (tests_of (map test_view ys))) (faults_in_test visible) (test_step visible) c.loop-test-test.true c.test-item.is c.deref-test-items.ensures.value (elim c.match-test.branch [
      | goal.fault_in_tests-in-Text w ↦ rw w.first-is (rw w.in-Text.is w.fault_in_expression-first.ensures)
      | goal.fault_in_tests-in-IsNull w ↦ rw w.first-is (rw w.in-IsNull.is (no_more _))
    ])

pub fault_in_suffixes-loop-suffix-preserved : goal.fault_in_suffixes-loop-suffix-preserved
fault_in_suffixes-loop-suffix-preserved t c = let visible = names_in c.args.visible.now in
    c.loop-suffix.invariant ∙ walk_item (λ ys. suffix_faults visible (suffixes_of (map suffix_view ys))) (faults_in_suffix visible) (suffix_step visible) c.loop-suffix-test.true c.suffix-item.is c.deref-suffix-items.ensures.value (elim c.match-suffix.branch [
      | goal.fault_in_suffixes-in-Index w ↦ rw w.first-is (rw w.in-Index.is w.fault_in_expression-first.ensures)
      | goal.fault_in_suffixes-in-Property w ↦ rw w.first-is (rw w.in-Property.is (no_more _))
    ])

pub fault_in_expression-returns-in-Call : goal.fault_in_expression-returns-in-Call
fault_in_expression-returns-in-Call t c = let a = c.in-Call in rw a.is (rw (call_is a.name a.star a.distinct a.arguments) (called (names_in c.args.visible.now) (role_view c.args.role) (name_view a.name) a.star a.distinct c.len-count.result a.arguments.items (omega (arith, c.len-count.ensures, a.arguments.ok.0)) c.fault_in_call-first.ensures c.fault_in_all-in-Call.ensures))

pub fault_in_expression-returns-in-MapLiteral : goal.fault_in_expression-returns-in-MapLiteral
fault_in_expression-returns-in-MapLiteral t c = rw c.in-MapLiteral.is (rw (map_is c.in-MapLiteral.pairs) c.fault_in_pairs.ensures)

pub fault_in_expression-returns-in-Chain : goal.fault_in_expression-returns-in-Chain
fault_in_expression-returns-in-Chain t c = let a = c.in-Chain in rw a.is (rw (chain_is a.operand a.operands) (in_turn (rw c.deref.ensures at c.fault_in_expression-first.ensures) c.fault_in_operands.ensures))

pub fault_in_expression-returns-in-Tests : goal.fault_in_expression-returns-in-Tests
fault_in_expression-returns-in-Tests t c = let a = c.in-Tests in rw a.is (rw (tests_is a.operand a.tests) (in_turn (rw c.deref-in-Tests.ensures at c.fault_in_expression-first-in-Tests.ensures) c.fault_in_tests.ensures))

pub fault_in_expression-returns-in-Suffixes : goal.fault_in_expression-returns-in-Suffixes
fault_in_expression-returns-in-Suffixes t c = let a = c.in-Suffixes in rw a.is (rw (suffixes_is a.atom a.suffixes a.field-2) (in_turn (rw c.deref-in-Suffixes.ensures at c.fault_in_expression-first-in-Suffixes.ensures) c.fault_in_suffixes.ensures))

pub fault_in_expression-returns-in-Case : goal.fault_in_expression-returns-in-Case
fault_in_expression-returns-in-Case t c = let a = c.in-Case in
    rw a.is (rw (case_is a.subject a.whens a.otherwise) (in_turn (in_turn c.fault_in_perhaps-first.ensures c.fault_in_whens-first.ensures) c.fault_in_perhaps.ensures))

pub fault_in_all-loop-item-init : goal.fault_in_all-loop-item-init
fault_in_all-loop-item-init t c = refl

pub fault_in_all-returns : goal.fault_in_all-returns
fault_in_all-returns t c = walk_ended (λ ys. all_faults (names_in c.args.visible.now) (expressions_of (map expression_view ys))) refl c.loop-item-test.false c.deref-item-items.ensures.value c.args.first c.loop-item.first c.loop-item.invariant

pub fault_in_pairs-loop-value-init : goal.fault_in_pairs-loop-value-init
fault_in_pairs-loop-value-init t c = refl

pub fault_in_pairs-returns : goal.fault_in_pairs-returns
fault_in_pairs-returns t c = walk_ended (λ ys. pair_faults (names_in c.args.visible.now) (pairs_of (map pair_view ys))) refl c.loop-value-test.false c.deref-value-items.ensures.value c.args.first c.loop-value.first c.loop-value.invariant

pub fault_in_operands-loop-operand-init : goal.fault_in_operands-loop-operand-init
fault_in_operands-loop-operand-init t c = refl

pub fault_in_operands-returns : goal.fault_in_operands-returns
fault_in_operands-returns t c = walk_ended (λ ys. operand_faults (names_in c.args.visible.now) (operands_of (map operand_view ys))) refl c.loop-operand-test.false c.deref-operand-items.ensures.value c.args.first c.loop-operand.first c.loop-operand.invariant

pub fault_in_whens-loop-condition-init : goal.fault_in_whens-loop-condition-init
fault_in_whens-loop-condition-init t c = refl

pub fault_in_whens-returns : goal.fault_in_whens-returns
fault_in_whens-returns t c = walk_ended (λ ys. when_faults (names_in c.args.visible.now) (whens_of (map when_view ys))) refl c.loop-condition-test.false c.deref-condition-items.ensures.value c.args.first c.loop-condition.first c.loop-condition.invariant

pub fault_in_tests-loop-test-init : goal.fault_in_tests-loop-test-init
fault_in_tests-loop-test-init t c = refl

pub fault_in_tests-returns : goal.fault_in_tests-returns
fault_in_tests-returns t c = walk_ended (λ ys. test_faults (names_in c.args.visible.now) (tests_of (map test_view ys))) refl c.loop-test-test.false c.deref-test-items.ensures.value c.args.first c.loop-test.first c.loop-test.invariant

pub fault_in_suffixes-loop-suffix-init : goal.fault_in_suffixes-loop-suffix-init
fault_in_suffixes-loop-suffix-init t c = refl

pub fault_in_suffixes-returns : goal.fault_in_suffixes-returns
fault_in_suffixes-returns t c = walk_ended (λ ys. suffix_faults (names_in c.args.visible.now) (suffixes_of (map suffix_view ys))) refl c.loop-suffix-test.false c.deref-suffix-items.ensures.value c.args.first c.loop-suffix.first c.loop-suffix.invariant

pub fault_in_expression-returns-in-Variable : goal.fault_in_expression-returns-in-Variable
fault_in_expression-returns-in-Variable t c = rw c.in-Variable.is (rw (variable_is c.in-Variable.name) c.fault_in_variable.ensures)

pub fault_in_expression-returns-in-ListLiteral : goal.fault_in_expression-returns-in-ListLiteral
fault_in_expression-returns-in-ListLiteral t c = rw c.in-ListLiteral.is (rw (list_is c.in-ListLiteral.items) c.fault_in_all.ensures)

pub fault_in_perhaps-returns-in-Some : goal.fault_in_perhaps-returns-in-Some
fault_in_perhaps-returns-in-Some t c = rw c.in-Some.is (rw c.deref.ensures at c.fault_in_expression.ensures)

pub fault_in_perhaps-returns-in-None : goal.fault_in_perhaps-returns-in-None
fault_in_perhaps-returns-in-None t c = rw c.in-None.is (no_more _)

pub fault_in_expression-returns-in-Parentheses : goal.fault_in_expression-returns-in-Parentheses
fault_in_expression-returns-in-Parentheses t c =
    let inner = c.in-Parentheses.inner in
    let h = rw c.deref-in-Parentheses.ensures at c.fault_in_expression.ensures in
    elim c.in-Parentheses.is [
      | inl e ↦ rw e (rw (parentheses_is inner) h)
      | inr others ↦ elim others [ inl e ↦ rw e.1 (rw (negation_is e.0 inner) h) | inr e ↦ rw e.1 (rw (signs_is e.0 inner) h) ]
    ]

pub fault_in_expression-returns-in-Literal : goal.fault_in_expression-returns-in-Literal
fault_in_expression-returns-in-Literal t c = elim c.in-Literal.is [ inl e ↦ rw e.1 (rw (literal_is e.0) (no_more _)) | inr e ↦ rw e.1 (rw (parameter_is e.0) (no_more _)) ]
