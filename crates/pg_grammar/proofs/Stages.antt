-- What may stand behind the items of WITH and RETURN, in its order.
use Rattle.std.proofs.Common.{◌≡◌, ℕ, ◌<◌, ◌≤◌, Bool, true, false, List, [], ◌∷◌, refl, ap, arith}
use Rattle.pg_meaning.specs.declared.lexemes.Keyword.{Keyword}
use Rattle.pg_meaning.specs.declared.lexemes.Keyword.TheVariants as k
use Rattle.pg_meaning.specs.declared.lexemes.Symbol.TheVariants as s
use Rattle.pg_meaning.specs.Tokens.{Lexeme, Token}
use Rattle.pg_meaning.specs.Tokens as lexeme
use Rattle.pg_meaning.specs.Parse as parse
use Rattle.pg_meaning.specs.Parse.{Test, is_symbol, is_keyword, sees, sees_symbol, sees_keyword, direction_of}
use Rattle.std.specs.Prelude.{is_some}
use Rattle.pg_grammar.proofs.Terminals.{is_keyword_is}
use Rattle.pg_grammar.specs.Rules.{binding, Ends, begins_clause, ClauseEnds}

-- 0 where none of it begins
abbrev pub stage : Lexeme → ℕ
stage (lexeme.keyword k.Order w) = 1
stage (lexeme.keyword k.Skip w) = 2
stage (lexeme.keyword k.Limit w) = 3
stage (lexeme.keyword k.Where w) = 4
stage l = elim (begins_clause l) [ true ↦ 5 | false ↦ 0 ]

abbrev pub begins_direction : Test
begins_direction = sees (λ l. is_some (direction_of l))

abbrev pub stage_of : List Token → ℕ
stage_of [] = 5
stage_of (t ∷ ts) = stage t.lexeme

-- the next token, if there is one, begins what stands there at that place of the order or a later one
abbrev pub From : ℕ → List Token → Type 0
From at ts = at ≤ stage_of ts

lexeme_binds : (l : Lexeme) → 1 ≤ stage l → binding l ≡ 0
lexeme_binds (lexeme.symbol s.Semicolon) h = refl
lexeme_binds (lexeme.keyword k.Order w) h = refl
lexeme_binds _ h = first_of (cc, grind arith)

lexeme_not : (x : Keyword) (at : ℕ) (l : Lexeme) → ((w : List ℕ) → stage (lexeme.keyword x w) < at) → at ≤ stage l → is_keyword x l ≡ false
lexeme_not x at l other h = by (is_keyword x l) refl
  where
    by : (b : Bool) → is_keyword x l ≡ b → b ≡ false
    by false e = refl
    by true e = let i = is_keyword_is x l e in absurd (omega (arith, other i.0, ap stage i.1))

lexeme_no_comma : (l : Lexeme) → 1 ≤ stage l → is_symbol s.Comma l ≡ false
unfolding parse.same_symbol
lexeme_no_comma (lexeme.symbol s.Semicolon) h = refl
lexeme_no_comma (lexeme.keyword k.Order w) h = refl
lexeme_no_comma _ h = first_of (cc, grind arith)

lexeme_no_direction : (l : Lexeme) → 1 ≤ stage l → is_some (direction_of l) ≡ false
lexeme_no_direction (lexeme.symbol s.Semicolon) h = refl
lexeme_no_direction (lexeme.keyword k.Order w) h = refl
lexeme_no_direction _ h = first_of (cc, grind arith)

lexeme_clause : (l : Lexeme) → begins_clause l ≡ true → stage l ≡ 5
lexeme_clause (lexeme.symbol s.Semicolon) h = refl
lexeme_clause (lexeme.keyword k.Order w) h = absurd cc
lexeme_clause _ h = cc

pub from_ends : (at : ℕ) (ts : List Token) → 1 ≤ at → From at ts → Ends 1 ts
from_ends at [] some h = omega arith
from_ends at (t ∷ ts) some h = rw (lexeme_binds t.lexeme (omega arith)) (omega arith)

pub from_no_comma : (at : ℕ) (ts : List Token) → 1 ≤ at → From at ts → sees_symbol s.Comma ts ≡ false
from_no_comma at [] some h = refl
from_no_comma at (t ∷ ts) some h = lexeme_no_comma t.lexeme (omega arith)

pub from_no_direction : (at : ℕ) (ts : List Token) → 1 ≤ at → From at ts → begins_direction ts ≡ false
from_no_direction at [] some h = refl
from_no_direction at (t ∷ ts) some h = lexeme_no_direction t.lexeme (omega arith)

-- a keyword of an earlier place doesn't stand there
pub from_not : (x : Keyword) (at : ℕ) (ts : List Token) → ((w : List ℕ) → stage (lexeme.keyword x w) < at) → From at ts → sees_keyword x ts ≡ false
from_not x at [] other h = refl
from_not x at (t ∷ ts) other h = lexeme_not x at t.lexeme other h

pub from_clause : (ts : List Token) → ClauseEnds ts → From 5 ts
from_clause [] h = omega arith
from_clause (t ∷ ts) h = rw (lexeme_clause t.lexeme h) (omega arith)
