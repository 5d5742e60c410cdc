-- What a token does to the nesting, as the program has it.
use Rattle.std.specs.Prelude.{Bool, true, false, Option, Some, None}
use Rattle.std.specs.Borrow.{Bor}
use Rattle.pg_lex.specs.declared.token.Token.{Token}
use Rattle.pg_lex.specs.View.{lexeme_view}
use Rattle.pg_meaning.specs.Depth as depth
use Rattle.pg_meaning.specs.Parse.{is_symbol}
use Rattle.pg_meaning.specs.Tokens.{Lexeme}
use Rattle.pg_meaning.specs.declared.lexemes.Symbol.{Symbol}
use Rattle.pg_syntax_tokens.specs.declared.depth.Turn.{Turn}
use Rattle.pg_syntax_tokens.specs.declared.depth.Turn.TheVariants.{Opens, Closes, Stays}

abbrev pub turn_view : Turn → depth.Turn
turn_view Opens = depth.opens
turn_view Closes = depth.closes
turn_view Stays = depth.stays

-- the lexeme of a token that stands before or behind
abbrev pub beside : Option (Bor Token) → Option Lexeme
beside None = None
beside (Some t) = Some (lexeme_view t.now.lexeme)

-- whether the symbol stands there
abbrev pub is_beside : Symbol → Option Lexeme → Bool
is_beside x None = false
is_beside x (Some l) = is_symbol x l

-- CASE behind a dot, or before a colon
abbrev pub case_by : Bool → Bool → depth.Turn
case_by true colon = depth.stays
case_by false true = depth.stays
case_by false false = depth.opens
