-- What the laws of maps and paths say.
use Rattle.std.specs.Prelude.{◌≡◌, Bool, true, false, List, ◌∷◌}
use Rattle.pg_meaning.specs.declared.lexemes.Symbol.TheVariants as s
use Rattle.pg_meaning.specs.Tokens.{Lexeme, Token}
use Rattle.pg_meaning.specs.Tokens as lexeme
use Rattle.pg_meaning.specs.Tree.{PathPattern}
use Rattle.pg_meaning.specs.Grammar.{path_marks, Fit}

-- the lexemes that a path can begin with: a variable or the opening of a node
abbrev pub opens_path : Lexeme → Bool
opens_path (lexeme.word w) = true
opens_path (lexeme.quoted_name w) = true
opens_path (lexeme.symbol s.OpenParenthesis) = true
opens_path l = false

-- the first token of a path, and those behind it
pub record PathOpened (front : List Token) : Type 0 where
  pub token : Token
  pub others : List Token
  pub whole : front ≡ token ∷ others
  pub first : opens_path token.lexeme ≡ true

abbrev pub PathsOpen : Type 0
PathsOpen = (p : PathPattern) (front : List Token) → Fit front (path_marks p) → PathOpened front
