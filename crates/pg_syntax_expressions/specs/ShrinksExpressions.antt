-- No parser of expressions takes a token back.
use Rattle.std.proofs.Common.{◌≡◌, ℕ, zero, suc, ◌≤◌, Bool, true, false, List, [], ◌∷◌, length, Some, arith}
use Rattle.pg_meaning.specs.declared.lexemes.Symbol.{Symbol}
use Rattle.pg_meaning.specs.declared.lexemes.Symbol.TheVariants as s
use Rattle.pg_meaning.specs.declared.lexemes.Keyword.TheVariants as k
use Rattle.pg_meaning.specs.declared.operators.TextTest.{TextTest}
use Rattle.pg_meaning.specs.declared.operators.TextTest.TheVariants as test
use Rattle.pg_meaning.specs.Tokens.{Token, Lexeme}
use Rattle.pg_meaning.specs.Tokens as lexeme
use Rattle.pg_meaning.specs.Tree.{Name, Expression, Pairs}
use Rattle.pg_meaning.specs.Tree as tree
use Rattle.pg_meaning.specs.Parse as parse
use Rattle.pg_meaning.specs.Parse.{Parser, Outcome, Test, and_then, ◌>>=◌, ◌>>◌, ◌<$>◌, pure, refuse, branch, sees, rest, eat, expect, token, with_rest, many_from, many, maybe, comma_and, separated, sees_symbol}
use Rattle.pg_syntax_tokens.specs.Shrinks.{Shrinks, Eats}
use Rattle.pg_syntax_tokens.specs.ShrinksLaws.{after_keyword, after_symbol, bind_eats, bind_shrinks, branch_eats, branch_shrinks, eat_keyword_shrinks, eat_symbol_shrinks, eats_shrinks, keyword_eats, labels_if_any_shrinks, many_shrinks, mapped_shrinks, maybe_shrinks, name_eats, operator_eats, pure_shrinks, refuse_shrinks, separated_shrinks, symbol_eats}

pub link_eats : {p : Parser Expression} (level : ℕ) → Shrinks p → Eats (parse.link level p)
link_eats level h = bind_eats (operator_eats level) (λ o. bind_shrinks h (λ y. pure_shrinks (o, y)))

pub chain_shrinks : {p : Parser Expression} (level : ℕ) → Shrinks p → Shrinks (parse.chain level p)
unfolding parse.chain
chain_shrinks level h = bind_shrinks h (λ x. bind_shrinks (many_shrinks (parse.begins_operator level) [] (eats_shrinks (link_eats level h))) (λ ps. pure_shrinks (parse.chained x ps)))

pub listed_shrinks : {p : Parser Expression} (close : Symbol) → Shrinks p → Shrinks (parse.listed close p)
unfolding parse.listed
listed_shrinks {p} close h = bind_shrinks (eat_symbol_shrinks close) by
  where
    by : (b : Bool) → Shrinks (elim b [ true ↦ pure [] | false ↦ separated p >>= (λ xs. parse.symbol close >> pure xs) ])
    by true = pure_shrinks []
    by false = bind_shrinks (separated_shrinks h) (λ xs. bind_shrinks (eats_shrinks (symbol_eats close)) (λ _. pure_shrinks xs))

pub map_pair_eats : {p : Parser Expression} → Shrinks p → Eats (parse.map_pair p)
map_pair_eats h = bind_eats name_eats (λ n. bind_shrinks (eats_shrinks (symbol_eats s.Colon)) (λ _. bind_shrinks h (λ x. pure_shrinks (n, x))))

pub map_pairs_shrinks : {p : Parser Expression} → Shrinks p → Shrinks (parse.map_pairs p)
unfolding parse.map_pairs
map_pairs_shrinks {p} h = bind_shrinks (eats_shrinks (symbol_eats s.OpenBrace)) (λ _. bind_shrinks (eat_symbol_shrinks s.CloseBrace) by)
  where
    by : (b : Bool) → Shrinks (elim b [ true ↦ pure tree.no_pairs | false ↦ separated (parse.map_pair p) >>= (λ ps. parse.symbol s.CloseBrace >> pure (parse.pairs_of ps)) ])
    by true = pure_shrinks tree.no_pairs
    by false = bind_shrinks (separated_shrinks (eats_shrinks (map_pair_eats h))) (λ ps. bind_shrinks (eats_shrinks (symbol_eats s.CloseBrace)) (λ _. pure_shrinks (parse.pairs_of ps)))

pub call_shrinks : {p : Parser Expression} (f : Name) → Shrinks p → Shrinks (parse.call p f)
unfolding parse.call
call_shrinks f h =
    branch_shrinks (sees_symbol s.Star) (eats_shrinks (after_symbol s.Star (eats_shrinks (after_symbol s.CloseParenthesis (pure_shrinks (tree.call f true false tree.no_expressions))))))
    (branch_shrinks (sees_symbol s.CloseParenthesis) (eats_shrinks (after_symbol s.CloseParenthesis (pure_shrinks (tree.call f false false tree.no_expressions))))
    (bind_shrinks (eat_keyword_shrinks k.Distinct) (λ distinct. bind_shrinks (separated_shrinks h) (λ xs. eats_shrinks (after_symbol s.CloseParenthesis (pure_shrinks (tree.call f false distinct (parse.expressions_of xs))))))))

pub when_eats : {p : Parser Expression} → Shrinks p → Eats (parse.one_when p)
unfolding parse.one_when
when_eats h = after_keyword k.When (bind_shrinks h (λ x. eats_shrinks (after_keyword k.Then (bind_shrinks h (λ y. pure_shrinks (x, y))))))

pub case_shrinks : {p : Parser Expression} → Shrinks p → Shrinks (parse.case p)
unfolding parse.case
case_shrinks h =
    bind_shrinks (maybe_shrinks (parse.not_yet k.When) h) (λ subject.
    bind_shrinks (eats_shrinks (when_eats h)) (λ first.
    bind_shrinks (many_shrinks (parse.sees_keyword k.When) (first ∷ []) (eats_shrinks (when_eats h))) (λ whens.
    bind_shrinks (maybe_shrinks (parse.sees_keyword k.Else) (eats_shrinks (after_keyword k.Else h))) (λ otherwise.
    eats_shrinks (after_keyword k.End (pure_shrinks (tree.case (parse.perhaps_of subject) (parse.whens_of whens) (parse.perhaps_of otherwise))))))))

word_shrinks : {p : Parser Expression} (n : Name) → Shrinks p → Shrinks (parse.word_atom p n)
word_shrinks n h = branch_shrinks (sees_symbol s.OpenParenthesis) (eats_shrinks (after_symbol s.OpenParenthesis (call_shrinks n h))) (pure_shrinks (tree.variable n))

atom_by_shrinks : {p : Parser Expression} (at : ℕ) (l : Lexeme) → Shrinks p → Shrinks (parse.atom_by p at l)
atom_by_shrinks at (lexeme.integer n) h = pure_shrinks _
atom_by_shrinks at (lexeme.string t) h = pure_shrinks _
atom_by_shrinks at (lexeme.keyword k.True w) h = pure_shrinks _
atom_by_shrinks at (lexeme.keyword k.False w) h = pure_shrinks _
atom_by_shrinks at (lexeme.keyword k.Null w) h = pure_shrinks _
atom_by_shrinks at (lexeme.keyword k.Case w) h = case_shrinks h
atom_by_shrinks at (lexeme.parameter q w) h = pure_shrinks _
atom_by_shrinks at (lexeme.quoted_name w) h = pure_shrinks _
atom_by_shrinks at (lexeme.word w) h = word_shrinks (parse.name_at at false w) h
atom_by_shrinks at (lexeme.symbol s.OpenBracket) h = mapped_shrinks (λ xs. tree.list_literal (parse.expressions_of xs)) (listed_shrinks s.CloseBracket h)
atom_by_shrinks at (lexeme.symbol s.OpenParenthesis) h = bind_shrinks h (λ x. eats_shrinks (after_symbol s.CloseParenthesis (pure_shrinks (tree.parentheses x))))
atom_by_shrinks at _ h = refuse_shrinks

plain_atom_shrinks : {p : Parser Expression} → Shrinks p → Shrinks (parse.plain_atom p)
plain_atom_shrinks {p} h = record { left = by }
  where
    by : (ts us : List Token) (x : Expression) → parse.plain_atom p ts ≡ Some (x, us) → length us ≤ length ts
    by [] us x e = absurd cc
    by (t ∷ ts) us x e = let one = (atom_by_shrinks t.start t.lexeme h).left ts us x e in omega arith

pub atom_shrinks : {p : Parser Expression} → Shrinks p → Shrinks (parse.atom p)
unfolding parse.atom
atom_shrinks h = branch_shrinks (sees_symbol s.OpenBrace) (mapped_shrinks tree.map_literal (map_pairs_shrinks h)) (plain_atom_shrinks h)

pub suffix_eats : {p : Parser Expression} → Shrinks p → Eats (parse.suffix p)
unfolding parse.suffix
suffix_eats h =
    branch_eats (sees_symbol s.Dot) (after_symbol s.Dot (bind_shrinks (eats_shrinks name_eats) (λ n. pure_shrinks (tree.property n))))
    (after_symbol s.OpenBracket (bind_shrinks h (λ x. eats_shrinks (after_symbol s.CloseBracket (pure_shrinks (tree.index x))))))

pub post_shrinks : {p : Parser Expression} → Shrinks p → Shrinks (parse.post p)
unfolding parse.post
post_shrinks h = bind_shrinks (atom_shrinks h) (λ x. bind_shrinks (many_shrinks parse.begins_suffix [] (eats_shrinks (suffix_eats h))) (λ fs. bind_shrinks labels_if_any_shrinks (λ ls. pure_shrinks (parse.suffixed x fs ls))))

pub sign_eats : Eats parse.one_sign
sign_eats = branch_eats (sees_symbol s.Minus) (after_symbol s.Minus (pure_shrinks true)) (after_symbol s.Plus (pure_shrinks false))

pub unary_shrinks : {p : Parser Expression} → Shrinks p → Shrinks (parse.unary p)
unfolding parse.unary
unary_shrinks h = bind_shrinks (many_shrinks parse.begins_sign [] (eats_shrinks sign_eats)) (λ bs. bind_shrinks (post_shrinks h) (λ x. pure_shrinks (parse.signed bs x)))

pub product_shrinks : {p : Parser Expression} → Shrinks p → Shrinks (parse.product p)
unfolding parse.product
product_shrinks h = chain_shrinks 8 (unary_shrinks h)

pub sum_shrinks : {p : Parser Expression} → Shrinks p → Shrinks (parse.sum p)
unfolding parse.sum
sum_shrinks h = chain_shrinks 7 (product_shrinks h)

test_by_eats : {p : Parser Expression} (t : TextTest) {front : Parser (Unit {0})} → Eats front → Shrinks p → Eats (parse.test_by t front p)
test_by_eats t front h = bind_eats front (λ _. bind_shrinks h (λ x. pure_shrinks (tree.text_test t x)))

pub test_eats : {p : Parser Expression} → Shrinks p → Eats (parse.one_test p)
unfolding parse.one_test
test_eats h =
    branch_eats (parse.sees_keyword k.Starts) (test_by_eats test.StartsWith (after_keyword k.Starts (eats_shrinks (keyword_eats k.With))) h)
    (branch_eats (parse.sees_keyword k.Ends) (test_by_eats test.EndsWith (after_keyword k.Ends (eats_shrinks (keyword_eats k.With))) h)
    (branch_eats (parse.sees_keyword k.Contains) (test_by_eats test.Contains (keyword_eats k.Contains) h)
    (branch_eats (parse.sees_keyword k.In) (test_by_eats test.In (keyword_eats k.In) h)
    (after_keyword k.Is (bind_shrinks (eat_keyword_shrinks k.Not) (λ negated. eats_shrinks (after_keyword k.Null (pure_shrinks (tree.null_test negated)))))))))

pub predicate_shrinks : {p : Parser Expression} → Shrinks p → Shrinks (parse.predicate p)
unfolding parse.predicate
predicate_shrinks h = bind_shrinks (sum_shrinks h) (λ x. bind_shrinks (many_shrinks parse.begins_test [] (eats_shrinks (test_eats (sum_shrinks h)))) (λ fs. pure_shrinks (parse.tested x fs)))

pub comparison_shrinks : {p : Parser Expression} → Shrinks p → Shrinks (parse.comparison p)
unfolding parse.comparison
comparison_shrinks h = chain_shrinks 5 (predicate_shrinks h)

pub negation_shrinks : {p : Parser Expression} → Shrinks p → Shrinks (parse.negation p)
unfolding parse.negation
negation_shrinks h = bind_shrinks (many_shrinks (parse.sees_keyword k.Not) [] (eats_shrinks (keyword_eats k.Not))) (λ us. bind_shrinks (comparison_shrinks h) (λ x. pure_shrinks (parse.negated us x)))

pub conjunction_shrinks : {p : Parser Expression} → Shrinks p → Shrinks (parse.conjunction p)
unfolding parse.conjunction
conjunction_shrinks h = chain_shrinks 3 (negation_shrinks h)

pub exclusion_shrinks : {p : Parser Expression} → Shrinks p → Shrinks (parse.exclusion p)
unfolding parse.exclusion
exclusion_shrinks h = chain_shrinks 2 (conjunction_shrinks h)

pub disjunction_shrinks : {p : Parser Expression} → Shrinks p → Shrinks (parse.disjunction p)
unfolding parse.disjunction
disjunction_shrinks h = chain_shrinks 1 (exclusion_shrinks h)

pub expr_shrinks : (n : ℕ) → Shrinks (parse.expr n)
unfolding parse.expr
expr_shrinks zero = refuse_shrinks
expr_shrinks (suc n) = disjunction_shrinks (expr_shrinks n)
