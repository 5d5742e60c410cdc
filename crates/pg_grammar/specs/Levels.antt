-- The levels of the grammar by the first token, and what expressions take of maps.
use Rattle.std.specs.Prelude.{ℕ, true, false}
use Rattle.pg_meaning.specs.declared.lexemes.Keyword.TheVariants as k
use Rattle.pg_meaning.specs.declared.lexemes.Symbol.TheVariants as s
use Rattle.pg_meaning.specs.Tokens.{Lexeme}
use Rattle.pg_meaning.specs.Tokens as lexeme
use Rattle.pg_meaning.specs.Tree.{Expression}
use Rattle.pg_meaning.specs.Parse.{Parser}
use Rattle.pg_grammar.specs.Rules.{Exact, opens, PairsAreExact}

-- the tightest level of the expressions that can begin with the lexeme; 0 where none can
abbrev pub opening : Lexeme → ℕ
opening (lexeme.keyword k.Not w) = 4
opening (lexeme.symbol s.Plus) = 9
opening (lexeme.symbol s.Minus) = 9
opening l = elim (opens l) [ true ↦ 11 | false ↦ 0 ]

abbrev pub MapsAreExact : Type 0
MapsAreExact = (limit : ℕ) (whole : Parser Expression) → Exact limit 1 whole → PairsAreExact limit whole
