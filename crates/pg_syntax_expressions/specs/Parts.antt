-- What the parts of expressions stand for.
use Rattle.std.specs.Prelude.{ℕ, Bool, List, [], ◌∷◌, Option, Some, None, option_map, Box, pos, true, false}
use Rattle.std.specs.declared.alloc.Global.{Global}
use Rattle.pg_meaning.specs.declared.lexemes.Keyword.{Keyword}
use Rattle.pg_meaning.specs.declared.lexemes.Keyword.TheVariants as k
use Rattle.pg_meaning.specs.Parse.{Parser, Test as Begins, ◌>>=◌, ◌>>◌, ◌<$>◌, pure, keyword, symbol, listed, expressions_of, many, name_at}
use Rattle.pg_meaning.specs.Tokens.{Lexeme}
use Rattle.pg_meaning.specs.Tokens as lexeme
use Rattle.pg_meaning.specs.Value as value
use Rattle.pg_meaning.specs.declared.lexemes.Symbol.TheVariants as s
use Rattle.pg_meaning.specs.Tree as tree
use Rattle.pg_syntax_tree.specs.View.{name_view, expression_view}
use Rattle.pg_syntax_tree.specs.declared.expression.Expression.{Expression}
use Rattle.pg_syntax_tree.specs.declared.expression.Suffix.{Suffix}
use Rattle.pg_syntax_tree.specs.declared.expression.Suffix.TheVariants as suffix
use Rattle.pg_syntax_tree.specs.declared.expression.Test.{Test}
use Rattle.pg_syntax_tree.specs.declared.expression.Test.TheVariants as test

-- a suffix, before the further ones
abbrev pub suffix_view : Suffix Expression → tree.Suffixes → tree.Suffixes
suffix_view (suffix.Property n) = tree.property (name_view n)
suffix_view (suffix.Index x) = tree.index (expression_view x)

-- a test, before the further ones
abbrev pub test_view : Test Expression → tree.Tests → tree.Tests
test_view (test.Text t x) = tree.text_test t (expression_view x)
test_view (test.IsNull negated) = tree.null_test negated

-- the words of a test: a keyword, and WITH where that belongs to it
abbrev pub words_of : Keyword → Bool → Parser (Unit {0})
words_of x true = keyword x >> keyword k.With
words_of x false = keyword x

abbrev pub perhaps_view : Option (Box Expression Global) → Option tree.Expression
perhaps_view = option_map (λ b. expression_view b.value)

-- one piece, and all further ones
abbrev pub one_or_more : {A : Type 0} → Begins → Parser A → Parser (List A)
one_or_more begins piece = piece >>= λ x. many begins piece (x ∷ [])

-- a list behind its opening sign
abbrev pub list_behind : Parser tree.Expression → Parser tree.Expression
list_behind whole = (λ xs. tree.list_literal (expressions_of xs)) <$> listed s.CloseBracket whole

-- parentheses behind the opening one
abbrev pub parentheses_behind : Parser tree.Expression → Parser tree.Expression
parentheses_behind whole = do x ← whole; symbol s.CloseParenthesis; pure (tree.parentheses x)

-- a lexeme that is an atom alone
abbrev pub leaf_by : ℕ → Lexeme → Option tree.Expression
leaf_by at (lexeme.parameter q w) = Some (tree.parameter (name_at at q w))
leaf_by at (lexeme.quoted_name w) = Some (tree.variable (name_at at true w))
leaf_by at (lexeme.integer n) = Some (tree.literal (value.integer (pos n)))
leaf_by at (lexeme.string t) = Some (tree.literal (value.text t))
leaf_by at (lexeme.keyword k.True w) = Some (tree.literal (value.boolean true))
leaf_by at (lexeme.keyword k.False w) = Some (tree.literal (value.boolean false))
leaf_by at (lexeme.keyword k.Null w) = Some (tree.literal value.null)
leaf_by at l = None
