-- The lexer's turns.
use Rattle.std.specs.Prelude.{ℕ, List, ◌++◌, length, Option, Some, None}
use Rattle.pg_meaning.specs.Tokens.{Token, lex_from}

-- the tokens of what is left, from a place on
abbrev pub lex_at : ℕ → List ℕ → Option (List Token)
lex_at at cs = lex_from (length cs) at cs

-- tokens, before others
abbrev pub continued : List Token → Option (List Token) → Option (List Token)
continued front None = None
continued front (Some ts) = Some (front ++ ts)
