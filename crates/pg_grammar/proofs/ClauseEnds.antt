-- What doesn't stand behind a clause.
use Rattle.std.proofs.Common.{◌≡◌, ◌<◌, true, false, List, [], ◌∷◌, refl, arith}
use Rattle.pg_meaning.specs.declared.lexemes.Keyword.TheVariants as k
use Rattle.pg_meaning.specs.declared.lexemes.Symbol.TheVariants as s
use Rattle.pg_meaning.specs.Tokens.{Lexeme, Token}
use Rattle.pg_meaning.specs.Tokens as lexeme
use Rattle.pg_meaning.specs.Parse as parse
use Rattle.pg_meaning.specs.Parse.{is_symbol, is_keyword, sees, sees_symbol, sees_keyword, begins_relationship, direction_of}
use Rattle.pg_grammar.specs.Rules.{binding, follow, begins_clause, ClauseEnds, NoColon}
use Rattle.pg_grammar.proofs.Terminals.{keyword_is}

abbrev Ended : Lexeme → Type 0
Ended l = (binding l ≡ 0) × (is_symbol s.Less l ≡ false) × (is_symbol s.Minus l ≡ false) × (is_symbol s.Comma l ≡ false) × (is_symbol s.Colon l ≡ false) × (is_keyword k.Where l ≡ false) × (is_keyword k.On l ≡ false)

ended : (l : Lexeme) → begins_clause l ≡ true → Ended l
unfolding parse.same_symbol parse.same_keyword
ended (lexeme.symbol s.Semicolon) e = (refl, refl, refl, refl, refl, refl, refl)
ended (lexeme.keyword k.Optional w) e = (refl, refl, refl, refl, refl, refl, refl)
ended (lexeme.keyword k.Match w) e = (refl, refl, refl, refl, refl, refl, refl)
ended (lexeme.keyword k.Unwind w) e = (refl, refl, refl, refl, refl, refl, refl)
ended (lexeme.keyword k.Create w) e = (refl, refl, refl, refl, refl, refl, refl)
ended (lexeme.keyword k.Merge w) e = (refl, refl, refl, refl, refl, refl, refl)
ended (lexeme.keyword k.Set w) e = (refl, refl, refl, refl, refl, refl, refl)
ended (lexeme.keyword k.Remove w) e = (refl, refl, refl, refl, refl, refl, refl)
ended (lexeme.keyword k.Detach w) e = (refl, refl, refl, refl, refl, refl, refl)
ended (lexeme.keyword k.Delete w) e = (refl, refl, refl, refl, refl, refl, refl)
ended (lexeme.keyword k.With w) e = (refl, refl, refl, refl, refl, refl, refl)
ended (lexeme.keyword k.Return w) e = (refl, refl, refl, refl, refl, refl, refl)
ended _ e = absurd cc

pub end_follow : (more : List Token) → ClauseEnds more → follow more < 1
end_follow [] e = omega arith
end_follow (t ∷ ts) e = omega (arith, (ended t.lexeme e).0)

pub end_hop : (more : List Token) → ClauseEnds more → begins_relationship more ≡ false
end_hop [] e = refl
end_hop (t ∷ ts) e = let h = ended t.lexeme e in rw (h.1, h.2) refl

pub end_comma : (more : List Token) → ClauseEnds more → sees_symbol s.Comma more ≡ false
end_comma [] e = refl
end_comma (t ∷ ts) e = (ended t.lexeme e).3

pub end_colon : (more : List Token) → ClauseEnds more → NoColon more
end_colon [] e = refl
end_colon (t ∷ ts) e = (ended t.lexeme e).4

pub end_where : (more : List Token) → ClauseEnds more → sees_keyword k.Where more ≡ false
end_where [] e = refl
end_where (t ∷ ts) e = (ended t.lexeme e).5

pub end_on : (more : List Token) → ClauseEnds more → sees_keyword k.On more ≡ false
end_on [] e = refl
end_on (t ∷ ts) e = (ended t.lexeme e).6

-- ---- nor before a further ON

pub on_follow : (more : List Token) → sees_keyword k.On more ≡ true → follow more < 1
on_follow more e = let h = keyword_is k.On more e in rw (h.1, h.2.spelled.1) (omega arith)

pub on_comma : (more : List Token) → sees_keyword k.On more ≡ true → sees_symbol s.Comma more ≡ false
on_comma more e = let h = keyword_is k.On more e in rw (h.1, h.2.spelled.1) refl
