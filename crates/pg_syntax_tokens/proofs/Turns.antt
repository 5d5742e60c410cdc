-- What the program tests of a token's neighbours.
use Rattle.std.proofs.Common.{◌≡◌, Option, Some, None, refl}
use Rattle.pg_meaning.specs.declared.lexemes.Symbol.TheVariants as s
use Rattle.pg_meaning.specs.Depth.{case_turn}
use Rattle.pg_meaning.specs.Parse as parse
use Rattle.pg_meaning.specs.Tokens.{Lexeme}
use Rattle.pg_meaning.specs.Tokens as lexeme
use Rattle.pg_syntax_tokens.specs.Turns.{is_beside, case_by}

pub case_is : (before after : Option Lexeme) → case_turn before after ≡ case_by (is_beside s.Dot before) (is_beside s.Colon after)
unfolding parse.same_symbol
case_is (Some (lexeme.symbol s.Dot)) after = refl
case_is before None = refl
case_is before (Some (lexeme.symbol s.Colon)) = refl
case_is before after = refl
