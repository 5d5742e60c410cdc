-- What an expression begins with, and what may stand behind one.
use Rattle.std.proofs.Common.{◌≡◌, ℕ, zero, suc, ◌<◌, ◌≤◌, Bool, true, false, List, [], ◌∷◌, ◌++◌, refl, ap, ◌∙◌, append_assoc, pos, arith}
use Rattle.pg_meaning.specs.declared.lexemes.Keyword.{Keyword}
use Rattle.pg_meaning.specs.declared.lexemes.Symbol.{Symbol}
use Rattle.pg_meaning.specs.Value as value
use Rattle.pg_meaning.specs.Tokens.{Lexeme, Token}
use Rattle.pg_meaning.specs.Tokens as lexeme
use Rattle.pg_meaning.specs.Tree.{Expression}
use Rattle.pg_meaning.specs.Tree as tree
use Rattle.pg_meaning.specs.Grammar.{Mark, marks, suffix_marks, label_marks, level, variable_name, IsSpelled, Accepts, Fit, IsWellFormed}
use Rattle.pg_meaning.specs.Parse.{is_symbol, is_keyword, sees_symbol, sees_keyword}
use Rattle.pg_grammar.specs.Rules.{binding, follow, opens, Opened, ExpressionsOpen}
use Rattle.pg_grammar.specs.Levels.{opening}
use Rattle.pg_grammar.proofs.Fits.{fit_split}
use Rattle.pg_grammar.proofs.Terminals.{is_symbol_is, is_keyword_is}

pub refuted : (b : Bool) → (b ≡ true → ⊥) → b ≡ false
refuted true never = absurd (never refl)
refuted false never = refl

-- ---- what an expression begins with

pub record Begun (x : Expression) (front : List Token) : Type 0 where
  pub token : Token
  pub others : List Token
  pub whole : front ≡ token ∷ others
  pub first : opens token.lexeme ≡ true
  pub tight : level x ≤ opening token.lexeme

abbrev BeginsWith : Expression → Token → Type 0
BeginsWith x t = (opens t.lexeme ≡ true) × (level x ≤ opening t.lexeme)

one_begins : (x : Expression) (front : List Token) (m : Mark) (ms : List Mark) → Fit front (m ∷ ms) → ((t : Token) → Accepts m t → BeginsWith x t) → Begun x front
one_begins x [] m ms fits by = absurd fits
one_begins x (t ∷ front) m ms fits by = let b = by t fits.0 in record { token = t; others = front; whole = refl; first = b.0; tight = b.1 }

-- a variable's name is a word or a quoted name
named_begins : (q : Bool) (w : List ℕ) (l : Lexeme) → IsSpelled (variable_name q w) l → (opens l ≡ true) × (11 ≤ opening l)
named_begins true w l h = rw h (refl, omega arith)
named_begins false w l h = rw h (refl, omega arith)

-- as the expression before the pieces
front_begins : (x y : Expression) (front a b : List Token) → front ≡ a ++ b → level y < level x → Begun x a → Begun y front
front_begins x y front a b e less h = record { token = h.token; others = h.others ++ b; whole = e ∙ ap (λ (r : List Token). r ++ b) h.whole; first = h.first; tight = omega (arith, h.tight) }

pub begun_with : (x : Expression) (front : List Token) → IsWellFormed x → Fit front (marks x) → Begun x front
begun_with (tree.literal value.null) front well fits = one_begins _ front _ _ fits (λ t h. rw h.spelled.1 (refl, omega arith))
begun_with (tree.literal (value.boolean true)) front well fits = one_begins _ front _ _ fits (λ t h. rw h.spelled.1 (refl, omega arith))
begun_with (tree.literal (value.boolean false)) front well fits = one_begins _ front _ _ fits (λ t h. rw h.spelled.1 (refl, omega arith))
begun_with (tree.literal (value.integer (pos n))) front well fits = one_begins _ front _ _ fits (λ t h. rw h.spelled (refl, omega arith))
begun_with (tree.literal (value.text w)) front well fits = one_begins _ front _ _ fits (λ t h. rw h.spelled (refl, omega arith))
begun_with (tree.literal _) front well fits = absurd well
begun_with (tree.parameter n) front well fits = one_begins _ front _ _ fits (λ t h. rw h.spelled (refl, omega arith))
begun_with (tree.variable n) front well fits = one_begins _ front _ _ fits (λ t h. named_begins n.quoted n.text t.lexeme h.spelled)
begun_with (tree.list_literal xs) front well fits = one_begins _ front _ _ fits (λ t h. rw h.spelled (refl, omega arith))
begun_with (tree.map_literal ps) front well fits = one_begins _ front _ _ fits (λ t h. rw h.spelled (refl, omega arith))
begun_with (tree.parentheses x) front well fits = one_begins _ front _ _ fits (λ t h. rw h.spelled (refl, omega arith))
begun_with (tree.call n star distinct xs) front well fits = one_begins _ front _ _ fits (λ t h. rw h.spelled (refl, omega arith))
begun_with (tree.case subject whens otherwise) front well fits = one_begins _ front _ _ fits (λ t h. rw h.spelled.1 (refl, omega arith))
begun_with (tree.chain x os) front well fits = let parts = fit_split front (marks x) _ fits in front_begins x (tree.chain x os) front parts.0 parts.1 parts.2 well.2 (begun_with x parts.0 well.1 parts.3)
begun_with (tree.negation zero x) front well fits = absurd (omega (arith, well.0))
begun_with (tree.negation (suc n) x) front well fits = one_begins _ front _ _ fits (λ t h. rw h.spelled.1 (refl, omega arith))
begun_with (tree.signs [] x) front well fits = absurd well.0
begun_with (tree.signs (true ∷ bs) x) front well fits = one_begins _ front _ _ fits (λ t h. rw h.spelled (refl, omega arith))
begun_with (tree.signs (false ∷ bs) x) front well fits = one_begins _ front _ _ fits (λ t h. rw h.spelled (refl, omega arith))
begun_with (tree.tests x ts) front well fits = let parts = fit_split front (marks x) _ fits in front_begins x (tree.tests x ts) front parts.0 parts.1 parts.2 well.2 (begun_with x parts.0 well.1 parts.3)
begun_with (tree.suffixes x xs ls) front well fits = let parts = fit_split front (marks x) (suffix_marks xs ++ label_marks ls) (rw append_assoc at fits) in front_begins x (tree.suffixes x xs ls) front parts.0 parts.1 parts.2 well.2 (begun_with x parts.0 well.1 parts.3)

pub opened : ExpressionsOpen
opened x front well fits = let b = begun_with x front well fits in record { token = b.token; others = b.others; whole = b.whole; first = b.first }

pub opened_front : (front a b : List Token) → front ≡ a ++ b → Opened a → Opened front
opened_front front a b e o = record { token = o.token; others = o.others ++ b; whole = e ∙ ap (λ (r : List Token). r ++ b) o.whole; first = o.first }

-- ---- what it doesn't begin with

-- no expression begins with the symbol
pub symbol_closed : (x : Symbol) (front more : List Token) → opens (lexeme.symbol x) ≡ false → Opened front → sees_symbol x (front ++ more) ≡ false
symbol_closed x front more none o = rw o.whole (refuted (is_symbol x o.token.lexeme) (λ e. by (ap opens (is_symbol_is x o.token.lexeme e))))
  where
    by : opens o.token.lexeme ≡ opens (lexeme.symbol x) → ⊥
    by e = let f = o.first in cc

pub keyword_closed : (x : Keyword) (front more : List Token) → ((w : List ℕ) → opens (lexeme.keyword x w) ≡ false) → Opened front → sees_keyword x (front ++ more) ≡ false
keyword_closed x front more none o = rw o.whole (refuted (is_keyword x o.token.lexeme) (λ e. let i = is_keyword_is x o.token.lexeme e in by i.0 (ap opens i.1)))
  where
    by : (w : List ℕ) → opens o.token.lexeme ≡ opens (lexeme.keyword x w) → ⊥
    by w e = let f = o.first in let n = none w in cc

-- an expression of a tighter level doesn't begin so
pub symbol_looser : (x : Symbol) (y : Expression) (front more : List Token) → opening (lexeme.symbol x) < level y → Begun y front → sees_symbol x (front ++ more) ≡ false
symbol_looser x y front more less b = rw b.whole (refuted (is_symbol x b.token.lexeme) (λ e. by (ap opening (is_symbol_is x b.token.lexeme e))))
  where
    by : opening b.token.lexeme ≡ opening (lexeme.symbol x) → ⊥
    by e = omega (arith, b.tight)

pub keyword_looser : (x : Keyword) (y : Expression) (front more : List Token) → ((w : List ℕ) → opening (lexeme.keyword x w) < level y) → Begun y front → sees_keyword x (front ++ more) ≡ false
keyword_looser x y front more less b = rw b.whole (refuted (is_keyword x b.token.lexeme) (λ e. let i = is_keyword_is x b.token.lexeme e in by i.0 (ap opening i.1)))
  where
    by : (w : List ℕ) → opening b.token.lexeme ≡ opening (lexeme.keyword x w) → ⊥
    by w e = omega (arith, b.tight, less w)

-- ---- what stands behind it

pub symbol_binds : (x : Symbol) (ts : List Token) → sees_symbol x ts ≡ true → follow ts ≡ binding (lexeme.symbol x)
symbol_binds x [] e = absurd cc
symbol_binds x (t ∷ ts) e = ap binding (is_symbol_is x t.lexeme e)

pub keyword_binds : (x : Keyword) (ts : List Token) → sees_keyword x ts ≡ true → (w : List ℕ) × (follow ts ≡ binding (lexeme.keyword x w))
keyword_binds x [] e = absurd cc
keyword_binds x (t ∷ ts) e = let i = is_keyword_is x t.lexeme e in (i.0, ap binding i.1)

pub symbol_unbound : (x : Symbol) (ts : List Token) → follow ts < binding (lexeme.symbol x) → sees_symbol x ts ≡ false
symbol_unbound x ts less = refuted (sees_symbol x ts) (λ e. let i = symbol_binds x ts e in omega arith)

pub keyword_unbound : (x : Keyword) (ts : List Token) → ((w : List ℕ) → follow ts < binding (lexeme.keyword x w)) → sees_keyword x ts ≡ false
keyword_unbound x ts less = refuted (sees_keyword x ts) (λ e. let i = keyword_binds x ts e in omega (arith, i.1, less i.0))
