-- The data that the program's tokens stand for.
use Rattle.std.specs.Prelude.{List, map, true, false, string_bytes}
use Rattle.pg_meaning.specs.Tokens.{Lexeme as Datum, word, keyword, quoted_name, integer, string, parameter, symbol, Token as Mark, Next as Turn, gap, found, bad, characters, Class as Kind, letter, digit, backquote, quotation, dollar, other}
use Rattle.pg_lex.specs.declared.token.Lexeme.{Lexeme}
use Rattle.pg_lex.specs.declared.token.Lexeme.TheVariants.{Word, Keyword, QuotedName, Integer, Text, Parameter, QuotedParameter, Symbol}
use Rattle.pg_lex.specs.declared.token.Token.{Token}
use Rattle.pg_lex.specs.declared.token.Next.{Next}
use Rattle.pg_lex.specs.declared.token.Next.TheVariants.{Gap, Found, Bad}
use Rattle.pg_lex.specs.declared.token.Class.{Class}
use Rattle.pg_lex.specs.declared.token.Class.TheVariants.{Letter, Digit, Backquote, Quotation, Dollar, Other}

abbrev pub lexeme_view : Lexeme → Datum
lexeme_view (Word w) = word w.now
lexeme_view (Keyword k w) = keyword k w.now
lexeme_view (QuotedName s) = quoted_name (string_bytes s)
lexeme_view (Integer n) = integer n.value
lexeme_view (Text s) = string (string_bytes s)
lexeme_view (Parameter w) = parameter false w.now
lexeme_view (QuotedParameter s) = parameter true (string_bytes s)
lexeme_view (Symbol x) = symbol x

abbrev pub token_view : Token → Mark
token_view t = record { lexeme = lexeme_view t.lexeme; start = t.start; finish = t.finish }

abbrev pub tokens_view : List Token → List Mark
tokens_view ts = map token_view ts

-- a text behind is seen as its characters
abbrev pub next_view : Next → Turn
next_view (Gap more) = gap (characters more.now)
next_view (Found l more) = found (lexeme_view l) (characters more.now)
next_view Bad = bad

abbrev pub class_view : Class → Kind
class_view Letter = letter
class_view Digit = digit
class_view Backquote = backquote
class_view Quotation = quotation
class_view Dollar = dollar
class_view Other = other
