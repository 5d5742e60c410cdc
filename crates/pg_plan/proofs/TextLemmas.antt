-- The parameters among the tokens of a text are those that its query names.
use Rattle.std.proofs.Common.{◌≡◌, ℕ, List, [], ◌∷◌, true, false, refl, ap, inl, inr}
use Rattle.std.specs.Prelude.{flat_map}
use Rattle.pg_meaning.specs.Grammar.{What, keyword, function_name, variable_name, any_name, integer, string, parameter, symbol, Mark, parameter_name, parameters_of, IsSpelled, Fit, Reads, query_marks}
use Rattle.pg_meaning.specs.Tokens.{Lexeme, Token}
use Rattle.pg_meaning.specs.Tree.{Query}
use Rattle.pg_plan.specs.Parameters.{lexeme_parameter, named_in_tokens}

named : (m : What) (l : Lexeme) → IsSpelled m l → lexeme_parameter l ≡ parameter_name m
named (parameter b w) l is = ap lexeme_parameter is
named (keyword x) l (w, is) = ap lexeme_parameter is
named (function_name w) l is = ap lexeme_parameter is
named (variable_name true w) l is = ap lexeme_parameter is
named (variable_name false w) l is = ap lexeme_parameter is
named (any_name true w) l is = ap lexeme_parameter is
named (any_name false w) l (inl is) = ap lexeme_parameter is
named (any_name false w) l (inr (x, is)) = ap lexeme_parameter is
named (integer n) l is = ap lexeme_parameter is
named (string t) l is = ap lexeme_parameter is
named (symbol x) l is = ap lexeme_parameter is

fitting : (ts : List Token) (ms : List Mark) → Fit ts ms → named_in_tokens ts ≡ flat_map (λ m. parameter_name m.what) ms
fitting [] [] h = refl
fitting [] (m ∷ ms) h = absurd h
fitting (t ∷ ts) [] h = absurd h
fitting (t ∷ ts) (m ∷ ms) h = rw (named m.what t.lexeme h.0.spelled, fitting ts ms h.1) refl

-- a token is a parameter just where the query names one
pub tokens_name_parameters : (text : List ℕ) (ts : List Token) (q : Query) → Reads text ts q → named_in_tokens ts ≡ parameters_of q
tokens_name_parameters text ts q h = fitting ts (query_marks q) h.fit
