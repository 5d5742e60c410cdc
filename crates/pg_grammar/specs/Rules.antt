-- What it is that a function of the grammar reads exactly what is spelled so. openCypher 9's grammar, narrowed (profile).
use Rattle.std.specs.Prelude.{◌≡◌, ℕ, ◌+◌, ◌<◌, ◌≤◌, Bool, true, false, List, [], ◌∷◌, ◌++◌, length, Option, Some, None}
use Rattle.pg_meaning.specs.declared.lexemes.Symbol.{Symbol}
use Rattle.pg_meaning.specs.declared.lexemes.Keyword.TheVariants as k
use Rattle.pg_meaning.specs.declared.lexemes.Symbol.TheVariants as s
use Rattle.pg_meaning.specs.declared.operators.Operator.{Operator}
use Rattle.pg_meaning.specs.Tokens.{Lexeme, Token}
use Rattle.pg_meaning.specs.Tokens as lexeme
use Rattle.pg_meaning.specs.Tree.{Name, Expression, Pairs, PathPattern, Clause}
use Rattle.pg_meaning.specs.Grammar.{Mark, sign, label_marks, commas, pair_marks, marks, level, operator_level, node_marks, path_marks, clause_marks, Accepts, Fit, IsNonEmpty, IsWellFormed, ArePairs, AreProperties, IsPath, IsClause, Kind, kind_of}
use Rattle.pg_meaning.specs.Grammar as grammar
use Rattle.pg_meaning.specs.Parse as parse
use Rattle.pg_meaning.specs.Parse.{Parser, Outcome, Test, operator_of, sees_symbol, begins_relationship}

-- ---- parsers

-- What is read, is spelled by what was taken.
abbrev pub Sound : {A : Type 0} → Parser A → (A → List Token → Type 0) → Type 0
Sound {A} p S = (ts : List Token) (a : A) (more : List Token) → p ts ≡ Some (a, more) → (front : List Token) × (ts ≡ front ++ more) × S a front

-- What is spelled by fewer tokens than the limit, is read, if what follows is allowed to.
abbrev pub Complete : {A : Type 0} → ℕ → Parser A → (A → List Token → Type 0) → (List Token → Type 0) → Type 0
Complete {A} n p S E = (a : A) (front more : List Token) → S a front → E more → length (front ++ more) < n → p (front ++ more) ≡ Some (a, more)

pub record Exactly {A : Type 0} (limit : ℕ) (p : Parser A) (S : A → List Token → Type 0) (E : List Token → Type 0) : Type 0 where
  pub sound : Sound p S
  pub complete : Complete limit p S E

abbrev pub Anything : List Token → Type 0
Anything more = Unit {0}

-- ---- what may follow an expression

abbrev pub operator_binding : Option Operator → ℕ
operator_binding None = 0
operator_binding (Some o) = operator_level o

-- at which level of the grammar a lexeme goes on with the expression before it; 0 where it doesn't
abbrev pub binding : Lexeme → ℕ
binding (lexeme.symbol s.OpenParenthesis) = 11
binding (lexeme.symbol s.Dot) = 10
binding (lexeme.symbol s.OpenBracket) = 10
binding (lexeme.symbol s.Colon) = 10
binding (lexeme.keyword k.Starts w) = 6
binding (lexeme.keyword k.Ends w) = 6
binding (lexeme.keyword k.Contains w) = 6
binding (lexeme.keyword k.In w) = 6
binding (lexeme.keyword k.Is w) = 6
binding l = operator_binding (operator_of l)

abbrev pub follow : List Token → ℕ
follow [] = 0
follow (t ∷ ts) = binding t.lexeme

-- nothing of this level or a tighter one goes on there
abbrev pub Ends : ℕ → List Token → Type 0
Ends at more = follow more < at

-- ---- expressions

-- an expression of this level or a tighter one, and its tokens
pub record Spelled (at : ℕ) (x : Expression) (front : List Token) : Type 0 where
  pub well : IsWellFormed x
  pub tight : at ≤ level x
  pub fits : Fit front (marks x)

-- a function of the grammar's level reads exactly its expressions
abbrev pub Exact : (limit at : ℕ) → Parser Expression → Type 0
Exact limit at p = Exactly limit p (Spelled at) (Ends at)

-- the lexemes that an expression can begin with
abbrev pub opens : Lexeme → Bool
opens (lexeme.word w) = true
opens (lexeme.quoted_name w) = true
opens (lexeme.integer n) = true
opens (lexeme.string t) = true
opens (lexeme.parameter q w) = true
opens (lexeme.keyword k.True w) = true
opens (lexeme.keyword k.False w) = true
opens (lexeme.keyword k.Null w) = true
opens (lexeme.keyword k.Case w) = true
opens (lexeme.keyword k.Not w) = true
opens (lexeme.symbol s.OpenParenthesis) = true
opens (lexeme.symbol s.OpenBracket) = true
opens (lexeme.symbol s.OpenBrace) = true
opens (lexeme.symbol s.Plus) = true
opens (lexeme.symbol s.Minus) = true
opens l = false

-- the first token of an expression, and those behind it
pub record Opened (front : List Token) : Type 0 where
  pub token : Token
  pub others : List Token
  pub whole : front ≡ token ∷ others
  pub first : opens token.lexeme ≡ true

-- ---- parts that expressions and patterns share

pub record LabelsSpelled (ns : List Name) (front : List Token) : Type 0 where
  pub some : IsNonEmpty ns
  pub fits : Fit front (label_marks ns)

-- no further label
abbrev pub NoColon : List Token → Type 0
NoColon more = sees_symbol s.Colon more ≡ false

pub record PairsSpelled (ps : Pairs) (front : List Token) : Type 0 where
  pub well : ArePairs ps
  pub fits : Fit front (sign s.OpenBrace ∷ (commas (pair_marks ps) ++ sign s.CloseBrace ∷ []))

-- ---- patterns

pub record PathSpelled (p : PathPattern) (front : List Token) : Type 0 where
  pub well : IsPath p
  pub fits : Fit front (path_marks p)

-- no further hop
abbrev pub NoHop : List Token → Type 0
NoHop more = begins_relationship more ≡ false

-- ---- clauses

-- the lexemes that may stand behind a clause: what begins the next one, or a semicolon
abbrev pub begins_clause : Lexeme → Bool
begins_clause (lexeme.symbol s.Semicolon) = true
begins_clause (lexeme.keyword k.Optional w) = true
begins_clause (lexeme.keyword k.Match w) = true
begins_clause (lexeme.keyword k.Unwind w) = true
begins_clause (lexeme.keyword k.Create w) = true
begins_clause (lexeme.keyword k.Merge w) = true
begins_clause (lexeme.keyword k.Set w) = true
begins_clause (lexeme.keyword k.Remove w) = true
begins_clause (lexeme.keyword k.Detach w) = true
begins_clause (lexeme.keyword k.Delete w) = true
begins_clause (lexeme.keyword k.With w) = true
begins_clause (lexeme.keyword k.Return w) = true
begins_clause l = false

abbrev pub ends_clause : List Token → Bool
ends_clause [] = true
ends_clause (t ∷ ts) = begins_clause t.lexeme

abbrev pub ClauseEnds : List Token → Type 0
ClauseEnds more = ends_clause more ≡ true

-- a clause of that kind, and its tokens
pub record ClauseSpelled (kind : Kind) (c : Clause) (front : List Token) : Type 0 where
  pub well : IsClause c
  pub is : kind_of c ≡ kind
  pub fits : Fit front (clause_marks c)

-- ---- the laws

abbrev pub SymbolsAreExact : Type 0
SymbolsAreExact = (n : ℕ) (x : Symbol) → Exactly n (parse.symbol x) (λ u front. Fit front (sign x ∷ [])) Anything

abbrev pub LabelsAreExact : Type 0
LabelsAreExact = (n : ℕ) → Exactly n parse.labels LabelsSpelled NoColon

abbrev pub PairsAreExact : (limit : ℕ) → Parser Expression → Type 0
PairsAreExact limit whole = Exactly (limit + 1) (parse.map_pairs whole) PairsSpelled Anything

abbrev pub ExpressionsAreExact : Type 0
ExpressionsAreExact = (n : ℕ) → Exact n 1 (parse.expr n)

abbrev pub ExpressionsOpen : Type 0
ExpressionsOpen = (x : Expression) (front : List Token) → IsWellFormed x → Fit front (marks x) → Opened front

abbrev pub PathsAreExact : Type 0
PathsAreExact = (n : ℕ) → Exactly n (parse.path (parse.expr n)) PathSpelled NoHop

-- a clause begins with a keyword, so what it has of expressions is shorter than itself
abbrev pub ReadingClausesAreExact : Type 0
ReadingClausesAreExact = (n : ℕ) → Exactly (n + 1) (parse.reading (parse.expr n)) (ClauseSpelled grammar.reading) ClauseEnds

abbrev pub UpdatingClausesAreExact : Type 0
UpdatingClausesAreExact = (n : ℕ) → Exactly (n + 1) (parse.updating (parse.expr n)) (ClauseSpelled grammar.updating) ClauseEnds
