-- What the expressions that are made of others stand for: the view's own step, with the parts' views in it.
use Rattle.std.proofs.Common.{◌≡◌, Bool, List, [], ◌∷◌, map, Some, None, refl, sym, ap, ◌∙◌}
use Rattle.pg_meaning.specs.Parse.{pairs_of}
use Rattle.pg_meaning.specs.Tree as tree
use Rattle.pg_meaning.specs.declared.operators.TextTest.{TextTest}
use Rattle.pg_syntax_tree.specs.Parts.{MapIsOfParts, CallIsOfParts, CaseIsOfParts, ChainIsOfParts, NegationIsOfParts, SignsAreOfParts, TestsAreOfParts, SuffixesAreOfParts}
use Rattle.pg_syntax_tree.specs.View.{expression_view, view_step, name_view, names_view, test_view, tests_of, suffix_view, suffixes_of}
use Rattle.pg_syntax_tree.specs.declared.expression.Expression.{Expression}
use Rattle.pg_syntax_tree.specs.declared.expression.Expression.TheFolds.{fold-roll-Expression}
use Rattle.pg_syntax_tree.specs.declared.expression.Expression.TheOpen.{Expression-F}
use Rattle.pg_syntax_tree.specs.declared.expression.Expression.TheViews.{rolls-MapLiteral, rolls-Call, rolls-Case, rolls-Chain, rolls-Negation, rolls-Signs, rolls-Tests, rolls-Suffixes}
use Rattle.pg_syntax_tree.specs.declared.expression.Name.{Name}
use Rattle.pg_syntax_tree.specs.declared.expression.Suffix.{Suffix}
use Rattle.pg_syntax_tree.specs.declared.expression.Suffix.TheVariants as suffix
use Rattle.pg_syntax_tree.specs.declared.expression.Test.{Test}
use Rattle.pg_syntax_tree.specs.declared.expression.Test.TheVariants as test

map_same : {X Y : Type 0} {f g : X → Y} → ((x : X) → f x ≡ g x) → (xs : List X) → map f xs ≡ map g xs
map_same h [] = refl
map_same {X} {Y} {f} {g} h (x ∷ xs) = ap (λ y. y ∷ map f xs) (h x) ∙ ap (λ ys. g x ∷ ys) (map_same h xs)

map_twice : {X Y Z : Type 0} {f : X → Y} {h : X → Z} (g : Y → Z) → ((x : X) → g (f x) ≡ h x) → (xs : List X) → map g (map f xs) ≡ map h xs
map_twice g e [] = refl
map_twice {X} {Y} {Z} {f} {h} g e (x ∷ xs) = ap (λ y. y ∷ map g (map f xs)) (e x) ∙ ap (λ ys. h x ∷ ys) (map_twice g e xs)

pub map_is : MapIsOfParts
map_is ps = ap expression_view (sym (rolls-MapLiteral ps)) ∙ fold-roll-Expression tree.Expression view_step (Expression-F.MapLiteral ps)
    ∙ ap (λ qs. tree.map_literal (pairs_of qs)) (map_twice (λ p. (name_view p.0, p.1)) (λ p. refl) ps.items)

pub call_is : CallIsOfParts
call_is f star distinct xs = ap expression_view (sym (rolls-Call f star distinct xs)) ∙ fold-roll-Expression tree.Expression view_step (Expression-F.Call f star distinct xs)

pub case_is : CaseIsOfParts
case_is None whens None = ap expression_view (sym (rolls-Case None whens None)) ∙ fold-roll-Expression tree.Expression view_step (Expression-F.Case None whens None)
case_is None whens (Some y) = ap expression_view (sym (rolls-Case None whens (Some y))) ∙ fold-roll-Expression tree.Expression view_step (Expression-F.Case None whens (Some y))
case_is (Some x) whens None = ap expression_view (sym (rolls-Case (Some x) whens None)) ∙ fold-roll-Expression tree.Expression view_step (Expression-F.Case (Some x) whens None)
case_is (Some x) whens (Some y) = ap expression_view (sym (rolls-Case (Some x) whens (Some y))) ∙ fold-roll-Expression tree.Expression view_step (Expression-F.Case (Some x) whens (Some y))

pub chain_is : ChainIsOfParts
chain_is x os = ap expression_view (sym (rolls-Chain x os)) ∙ fold-roll-Expression tree.Expression view_step (Expression-F.Chain x os)

pub negation_is : NegationIsOfParts
negation_is n x = ap expression_view (sym (rolls-Negation n x)) ∙ fold-roll-Expression tree.Expression view_step (Expression-F.Negation n x)

pub signs_is : SignsAreOfParts
signs_is signs x = ap expression_view (sym (rolls-Signs signs x)) ∙ fold-roll-Expression tree.Expression view_step (Expression-F.Signs signs x)

test_cases : (f : Test Expression → Test tree.Expression) → ((t : TextTest) (y : Expression) → f (test.Text t y) ≡ test.Text t (expression_view y)) → ((b : Bool) → f (test.IsNull b) ≡ test.IsNull b)
    → (x : Test Expression) → f x ≡ test_view x
test_cases f e h (test.Text t y) = e t y
test_cases f e h (test.IsNull b) = h b

pub tests_is : TestsAreOfParts
tests_is x ts = ap expression_view (sym (rolls-Tests x ts)) ∙ fold-roll-Expression tree.Expression view_step (Expression-F.Tests x ts)
    ∙ ap (λ ys. tree.tests (expression_view x.value) (tests_of ys)) (map_same (test_cases _ (λ t y. refl) (λ b. refl)) ts.items)

suffix_cases : (f : Suffix Expression → Suffix tree.Expression) → ((n : Name) → f (suffix.Property n) ≡ suffix.Property n) → ((y : Expression) → f (suffix.Index y) ≡ suffix.Index (expression_view y))
    → (x : Suffix Expression) → f x ≡ suffix_view x
suffix_cases f e h (suffix.Property n) = e n
suffix_cases f e h (suffix.Index y) = h y

pub suffixes_is : SuffixesAreOfParts
suffixes_is x ss ls = ap expression_view (sym (rolls-Suffixes x ss ls)) ∙ fold-roll-Expression tree.Expression view_step (Expression-F.Suffixes x ss ls)
    ∙ ap (λ ys. tree.suffixes (expression_view x.value) (suffixes_of ys) (names_view ls.items)) (map_same (suffix_cases _ (λ n. refl) (λ y. refl)) ss.items)
