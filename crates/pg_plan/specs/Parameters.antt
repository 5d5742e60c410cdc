-- The parameters that a text names.
use Rattle.std.specs.Prelude.{List, [], ◌∷◌, flat_map}
use Rattle.pg_meaning.specs.Names.{Names}
use Rattle.pg_meaning.specs.Tokens.{Lexeme, Token, parameter}

abbrev pub lexeme_parameter : Lexeme → Names
lexeme_parameter (parameter is_quoted w) = w ∷ []
lexeme_parameter l = []

-- in text order, each as often as it stands there
abbrev pub named_in_tokens : List Token → Names
named_in_tokens ts = flat_map (λ t. lexeme_parameter t.lexeme) ts
