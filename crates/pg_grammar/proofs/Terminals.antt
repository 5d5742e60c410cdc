-- One token.
use denote.Enum.Bare.{same_true, true_same}
use Rattle.std.proofs.Common.{◌≡◌, ℕ, Bool, true, false, List, [], ◌∷◌, ◌++◌, Option, Some, None, refl, sym, ap, ◌∙◌, ◌⊎◌, inl, inr}
use Rattle.pg_meaning.specs.contracts.lexemes.Symbol.{the_type as symbol_type}
use Rattle.pg_meaning.specs.contracts.lexemes.Keyword.{the_type as keyword_type}
use Rattle.pg_meaning.specs.declared.lexemes.Symbol.{Symbol}
use Rattle.pg_meaning.specs.declared.lexemes.Keyword.{Keyword}
use Rattle.pg_meaning.specs.Tokens.{Lexeme, Token}
use Rattle.pg_meaning.specs.Tokens as lexeme
use Rattle.pg_meaning.specs.Tree.{Name}
use Rattle.pg_meaning.specs.Grammar.{What, keyword, variable_name, any_name, Mark, mark, key, sign, IsSpelled, Accepts, Fit}
use Rattle.pg_meaning.specs.Grammar as grammar
use Rattle.pg_meaning.specs.Parse as parse
use Rattle.pg_meaning.specs.Parse.{same_symbol, same_keyword, is_symbol, is_keyword, sees_symbol, sees_keyword, rest, with_rest, var_of, name_of, name_at}
use Rattle.pg_grammar.specs.Rules.{SymbolsAreExact}
use Rattle.pg_grammar.proofs.Generic.{some, same_some, pick, chosen}

symbol_same : (a b : Symbol) → same_symbol a b ≡ true → a ≡ b
unfolding same_symbol
symbol_same a b e = same_true symbol_type tt a b e

keyword_same : (a b : Keyword) → same_keyword a b ≡ true → a ≡ b
unfolding same_keyword
keyword_same a b e = same_true keyword_type tt a b e

same_symbol_is : (a : Symbol) → same_symbol a a ≡ true
unfolding same_symbol
same_symbol_is a = true_same symbol_type a a refl

same_keyword_is : (a : Keyword) → same_keyword a a ≡ true
unfolding same_keyword
same_keyword_is a = true_same keyword_type a a refl

pub is_symbol_is : (x : Symbol) (l : Lexeme) → is_symbol x l ≡ true → l ≡ lexeme.symbol x
is_symbol_is x (lexeme.symbol y) e = ap lexeme.symbol (symbol_same y x e)
is_symbol_is x _ e = absurd cc

pub is_keyword_is : (x : Keyword) (l : Lexeme) → is_keyword x l ≡ true → IsSpelled (keyword x) l
is_keyword_is x (lexeme.keyword y text) e = (text, ap (λ (z : Keyword). lexeme.keyword z text) (keyword_same y x e))
is_keyword_is x _ e = absurd cc

pub symbol_is : (x : Symbol) (ts : List Token) → sees_symbol x ts ≡ true → (t : Token) × (ts ≡ t ∷ rest ts) × Accepts (sign x) t
symbol_is x [] e = absurd cc
symbol_is x (t ∷ ts) e = (t, refl, record { spelled = is_symbol_is x t.lexeme e; starts = tt; finishes = tt })

pub symbol_seen : (x : Symbol) (t : Token) (more : List Token) → Accepts (sign x) t → sees_symbol x (t ∷ more) ≡ true
symbol_seen x t more h = rw h.spelled (same_symbol_is x)

pub keyword_is : (x : Keyword) (ts : List Token) → sees_keyword x ts ≡ true → (t : Token) × (ts ≡ t ∷ rest ts) × Accepts (key x) t
keyword_is x [] e = absurd cc
keyword_is x (t ∷ ts) e = (t, refl, record { spelled = is_keyword_is x t.lexeme e; starts = tt; finishes = tt })

pub keyword_seen : (x : Keyword) (t : Token) (more : List Token) → Accepts (key x) t → sees_keyword x (t ∷ more) ≡ true
keyword_seen x t more h = rw h.spelled.1 (same_keyword_is x)

pub symbol_takes : (x : Symbol) (ts more : List Token) (u : Unit {0}) → parse.symbol x ts ≡ Some (u, more) → (t : Token) × (ts ≡ t ∷ more) × Accepts (sign x) t
unfolding parse.symbol
symbol_takes x ts more u e =
    elim (chosen (sees_symbol x ts) (some tt (rest ts)) None (Some (u, more)) e) [
      | inl h ↦ let i = symbol_is x ts h.0 in let g = same_some tt u (rest ts) more h.1 in (i.0, i.1 ∙ ap (λ (r : List Token). i.0 ∷ r) g.1, i.2)
      | inr h ↦ absurd (let bad = h.1 in cc)
    ]

pub symbol_again : (x : Symbol) (t : Token) (more : List Token) → Accepts (sign x) t → parse.symbol x (t ∷ more) ≡ Some (tt, more)
unfolding parse.symbol
symbol_again x t more h = ap (λ (b : Bool). pick b (some tt more) None) (symbol_seen x t more h)

pub keyword_takes : (x : Keyword) (ts more : List Token) (u : Unit {0}) → parse.keyword x ts ≡ Some (u, more) → (t : Token) × (ts ≡ t ∷ more) × Accepts (key x) t
unfolding parse.keyword
keyword_takes x ts more u e =
    elim (chosen (sees_keyword x ts) (some tt (rest ts)) None (Some (u, more)) e) [
      | inl h ↦ let i = keyword_is x ts h.0 in let g = same_some tt u (rest ts) more h.1 in (i.0, i.1 ∙ ap (λ (r : List Token). i.0 ∷ r) g.1, i.2)
      | inr h ↦ absurd (let bad = h.1 in cc)
    ]

pub keyword_again : (x : Keyword) (t : Token) (more : List Token) → Accepts (key x) t → parse.keyword x (t ∷ more) ≡ Some (tt, more)
unfolding parse.keyword
keyword_again x t more h = ap (λ (b : Bool). pick b (some tt more) None) (keyword_seen x t more h)

pub with_rest_is : {A : Type 0} (o : Option A) (ts : List Token) (a : A) (more : List Token) → with_rest o ts ≡ Some (a, more) → (o ≡ Some a) × (ts ≡ more)
with_rest_is (Some b) ts a more e = let h = same_some b a ts more e in (ap Some h.0, h.1)
with_rest_is None ts a more e = absurd cc

-- ---- a variable's name

var_spelled : (at : ℕ) (l : Lexeme) (n : Name) → var_of at l ≡ Some n → IsSpelled (variable_name n.quoted n.text) l × (at ≡ n.place)
var_spelled at (lexeme.word w) n e = let same : name_at at false w ≡ n = cc in rw (← same) (refl, refl)
var_spelled at (lexeme.quoted_name w) n e = let same : name_at at true w ≡ n = cc in rw (← same) (refl, refl)
var_spelled at _ n e = absurd cc

pub var_takes : (ts more : List Token) (n : Name) → parse.var ts ≡ Some (n, more) → (t : Token) × (ts ≡ t ∷ more) × Accepts (grammar.var n) t
unfolding parse.var
var_takes [] more n e = absurd cc
var_takes (t ∷ ts) more n e =
    let h = with_rest_is (var_of t.start t.lexeme) ts n more e in
    let s = var_spelled t.start t.lexeme n h.0 in
    (t, ap (λ (r : List Token). t ∷ r) h.1, record { spelled = s.0; starts = (s.1, tt); finishes = tt })

named : (at : ℕ) (n : Name) → at ≡ n.place → name_at at n.quoted n.text ≡ n
named at n e = rw e refl

var_found : (at : ℕ) (q : Bool) (w : List ℕ) (l : Lexeme) → IsSpelled (variable_name q w) l → var_of at l ≡ Some (name_at at q w)
var_found at true w l h = rw h refl
var_found at false w l h = rw h refl

pub var_again : (t : Token) (more : List Token) (n : Name) → Accepts (grammar.var n) t → parse.var (t ∷ more) ≡ Some (n, more)
unfolding parse.var
var_again t more n h = rw (var_found t.start n.quoted n.text t.lexeme h.spelled, named t.start n h.starts.0) refl

-- the token of a variable begins one
pub var_seen : (t : Token) (more : List Token) (n : Name) → Accepts (grammar.var n) t → parse.begins_var (t ∷ more) ≡ true
var_seen t more n h = rw (var_found 0 n.quoted n.text t.lexeme h.spelled) refl

-- ---- any name

name_spelled : (at : ℕ) (l : Lexeme) (n : Name) → name_of at l ≡ Some n → IsSpelled (any_name n.quoted n.text) l × (at ≡ n.place)
name_spelled at (lexeme.word w) n e = let same : name_at at false w ≡ n = cc in rw (← same) (inl refl, refl)
name_spelled at (lexeme.keyword x w) n e = let same : name_at at false w ≡ n = cc in rw (← same) (inr (x, refl), refl)
name_spelled at (lexeme.quoted_name w) n e = let same : name_at at true w ≡ n = cc in rw (← same) (refl, refl)
name_spelled at _ n e = absurd cc

pub name_takes : (ts more : List Token) (n : Name) → parse.name ts ≡ Some (n, more) → (t : Token) × (ts ≡ t ∷ more) × Accepts (grammar.name n) t
unfolding parse.name
name_takes [] more n e = absurd cc
name_takes (t ∷ ts) more n e =
    let h = with_rest_is (name_of t.start t.lexeme) ts n more e in
    let s = name_spelled t.start t.lexeme n h.0 in
    (t, ap (λ (r : List Token). t ∷ r) h.1, record { spelled = s.0; starts = (s.1, tt); finishes = tt })

name_found : (at : ℕ) (q : Bool) (w : List ℕ) (l : Lexeme) → IsSpelled (any_name q w) l → name_of at l ≡ Some (name_at at q w)
name_found at true w l h = rw h refl
name_found at false w l (inl h) = rw h refl
name_found at false w l (inr h) = rw h.1 refl

pub name_again : (t : Token) (more : List Token) (n : Name) → Accepts (grammar.name n) t → parse.name (t ∷ more) ≡ Some (n, more)
unfolding parse.name
name_again t more n h = rw (name_found t.start n.quoted n.text t.lexeme h.spelled, named t.start n h.starts.0) refl

-- ---- a symbol that may be lacking

pub eat_takes : (x : Symbol) (ts more : List Token) (b : Bool) → parse.eat_symbol x ts ≡ Some (b, more)
    → ((b ≡ true) × (t : Token) × (ts ≡ t ∷ more) × Accepts (sign x) t) ⊎ ((b ≡ false) × (ts ≡ more))
unfolding parse.eat_symbol
eat_takes x ts more b e =
    elim (chosen (sees_symbol x ts) (some true (rest ts)) (some false ts) (Some (b, more)) e) [
      | inl h ↦ let i = symbol_is x ts h.0 in let g = same_some true b (rest ts) more h.1 in inl (sym g.0, i.0, i.1 ∙ ap (λ (r : List Token). i.0 ∷ r) g.1, i.2)
      | inr h ↦ let g = same_some false b ts more h.1 in inr (sym g.0, g.1)
    ]

pub eat_yes : (x : Symbol) (t : Token) (more : List Token) → Accepts (sign x) t → parse.eat_symbol x (t ∷ more) ≡ Some (true, more)
unfolding parse.eat_symbol
eat_yes x t more h = ap (λ (b : Bool). pick b (some true more) (some false (t ∷ more))) (symbol_seen x t more h)

pub eat_no : (x : Symbol) (ts : List Token) → sees_symbol x ts ≡ false → parse.eat_symbol x ts ≡ Some (false, ts)
unfolding parse.eat_symbol
eat_no x ts h = ap (λ (b : Bool). pick b (some true (rest ts)) (some false ts)) h

-- ---- a keyword that may be lacking

pub eat_keyword_takes : (x : Keyword) (ts more : List Token) (b : Bool) → parse.eat_keyword x ts ≡ Some (b, more)
    → ((b ≡ true) × (t : Token) × (ts ≡ t ∷ more) × Accepts (key x) t) ⊎ ((b ≡ false) × (ts ≡ more))
unfolding parse.eat_keyword
eat_keyword_takes x ts more b e =
    elim (chosen (sees_keyword x ts) (some true (rest ts)) (some false ts) (Some (b, more)) e) [
      | inl h ↦ let i = keyword_is x ts h.0 in let g = same_some true b (rest ts) more h.1 in inl (sym g.0, i.0, i.1 ∙ ap (λ (r : List Token). i.0 ∷ r) g.1, i.2)
      | inr h ↦ let g = same_some false b ts more h.1 in inr (sym g.0, g.1)
    ]

pub eat_keyword_yes : (x : Keyword) (t : Token) (more : List Token) → Accepts (key x) t → parse.eat_keyword x (t ∷ more) ≡ Some (true, more)
unfolding parse.eat_keyword
eat_keyword_yes x t more h = ap (λ (b : Bool). pick b (some true more) (some false (t ∷ more))) (keyword_seen x t more h)

pub eat_keyword_no : (x : Keyword) (ts : List Token) → sees_keyword x ts ≡ false → parse.eat_keyword x ts ≡ Some (false, ts)
unfolding parse.eat_keyword
eat_keyword_no x ts h = ap (λ (b : Bool). pick b (some true (rest ts)) (some false ts)) h

-- ---- the law

pub symbols_exact : SymbolsAreExact
symbols_exact n x = record {
  sound = λ ts u more e. let t = symbol_takes x ts more u e in (t.0 ∷ [], t.1, (t.2, tt));
  complete = λ u front more h ends less. by u front more h;
}
  where
    by : (u : Unit {0}) (front more : List Token) → Fit front (sign x ∷ []) → parse.symbol x (front ++ more) ≡ Some (u, more)
    by u [] more h = absurd h
    by u (t ∷ []) more h = symbol_again x t more h.0
    by u (t ∷ w ∷ front) more h = absurd h.1
