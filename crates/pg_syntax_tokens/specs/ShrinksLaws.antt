-- No parser of single tokens, and none of a row, takes a token back.
use Rattle.std.proofs.Common.{◌≡◌, ℕ, zero, suc, ◌<◌, Bool, true, false, List, [], ◌∷◌, ◌++◌, length, Option, Some, None, sym, ap, inl, inr, arith}
use Rattle.pg_meaning.specs.declared.lexemes.Keyword.{Keyword}
use Rattle.pg_meaning.specs.declared.lexemes.Symbol.{Symbol}
use Rattle.pg_meaning.specs.declared.lexemes.Symbol.TheVariants as s
use Rattle.pg_meaning.specs.Tokens.{Token, Lexeme}
use Rattle.pg_meaning.specs.Parse as parse
use Rattle.pg_meaning.specs.Parse.{Parser, Test, ◌>>=◌, ◌>>◌, ◌<$>◌, pure, refuse, branch, sees, rest, eat, expect, token, with_rest, many_from, many, maybe, comma_and, separated, sees_symbol}
use Rattle.pg_grammar.proofs.Generic.{some, same_some, chosen, bind_some}
use Rattle.pg_syntax_tokens.specs.Shrinks.{Shrinks, Eats}

pub eats_shrinks : {A : Type 0} {p : Parser A} → Eats p → Shrinks p
eats_shrinks h = record { left = λ ts us x e. let less = h.left ts us x e in omega arith }

pub pure_shrinks : {A : Type 0} (a : A) → Shrinks (pure a)
pure_shrinks a = record { left = λ ts us x e. let same = same_some a x ts us e in omega (arith, ap length same.1) }

pub refuse_shrinks : {A : Type 0} → Shrinks (refuse {A = A})
refuse_shrinks = record { left = λ ts us x e. absurd cc }

pub bind_shrinks : {A B : Type 0} {p : Parser A} {f : A → Parser B} → Shrinks p → ((a : A) → Shrinks (f a)) → Shrinks (p >>= f)
bind_shrinks {A} {B} {p} {f} h g = record { left = λ ts us x e. let b = bind_some (p ts) f (x, us) e in let one = h.left ts b.1 b.0 b.2 in let two = (g b.0).left b.1 us x b.3 in omega arith }

pub bind_eats : {A B : Type 0} {p : Parser A} {f : A → Parser B} → Eats p → ((a : A) → Shrinks (f a)) → Eats (p >>= f)
bind_eats {A} {B} {p} {f} h g = record { left = λ ts us x e. let b = bind_some (p ts) f (x, us) e in let one = h.left ts b.1 b.0 b.2 in let two = (g b.0).left b.1 us x b.3 in omega arith }

-- the second takes a token
pub then_eats : {A B : Type 0} {p : Parser A} {f : A → Parser B} → Shrinks p → ((a : A) → Eats (f a)) → Eats (p >>= f)
then_eats {A} {B} {p} {f} h g = record { left = λ ts us x e. let b = bind_some (p ts) f (x, us) e in let one = h.left ts b.1 b.0 b.2 in let two = (g b.0).left b.1 us x b.3 in omega arith }

pub branch_shrinks : {A : Type 0} (b : Test) {p q : Parser A} → Shrinks p → Shrinks q → Shrinks (branch b p q)
branch_shrinks {A} b {p} {q} h g = record { left = λ ts us x e. elim (chosen (b ts) (p ts) (q ts) (Some (x, us)) e) [ inl i ↦ h.left ts us x i.1 | inr i ↦ g.left ts us x i.1 ] }

pub branch_eats : {A : Type 0} (b : Test) {p q : Parser A} → Eats p → Eats q → Eats (branch b p q)
branch_eats {A} b {p} {q} h g = record { left = λ ts us x e. elim (chosen (b ts) (p ts) (q ts) (Some (x, us)) e) [ inl i ↦ h.left ts us x i.1 | inr i ↦ g.left ts us x i.1 ] }

pub mapped_shrinks : {A B : Type 0} (f : A → B) {p : Parser A} → Shrinks p → Shrinks (f <$> p)
mapped_shrinks f h = bind_shrinks h (λ x. pure_shrinks (f x))

-- ---- one token

taken : {A : Type 0} (o : Option A) (ts us : List Token) (x : A) → with_rest o ts ≡ Some (x, us) → length us ≡ length ts
taken (Some a) ts us x e = sym (ap length (same_some a x ts us e).1)
taken None ts us x e = absurd cc

pub token_eats : {A : Type 0} (f : Token → Option A) → Eats (token f)
token_eats {A} f = record { left = by }
  where
    by : (ts us : List Token) (x : A) → token f ts ≡ Some (x, us) → length us < length ts
    by [] us x e = absurd cc
    by (t ∷ ts) us x e = let same = taken (f t) ts us x e in omega arith

rest_less : (p : Lexeme → Bool) (ts : List Token) → sees p ts ≡ true → length (rest ts) < length ts
rest_less p [] e = absurd cc
rest_less p (t ∷ ts) e = omega arith

pub expect_eats : (p : Lexeme → Bool) → Eats (expect (sees p))
expect_eats p = record {
  left = λ ts us x e. elim (chosen (sees p ts) (some tt (rest ts)) None (Some (x, us)) e) [
    | inl h ↦ let less = rest_less p ts h.0 in let same = same_some tt x (rest ts) us h.1 in omega (arith, ap length same.1)
    | inr h ↦ absurd (let bad = h.1 in cc)
  ];
}

pub eat_shrinks : (p : Lexeme → Bool) → Shrinks (eat (sees p))
eat_shrinks p = record {
  left = λ ts us x e. elim (chosen (sees p ts) (some true (rest ts)) (some false ts) (Some (x, us)) e) [
    | inl h ↦ let less = rest_less p ts h.0 in let same = same_some true x (rest ts) us h.1 in omega (arith, ap length same.1)
    | inr h ↦ let same = same_some false x ts us h.1 in omega (arith, ap length same.1)
  ];
}

pub symbol_eats : (x : Symbol) → Eats (parse.symbol x)
unfolding parse.symbol
symbol_eats x = expect_eats (parse.is_symbol x)

pub keyword_eats : (x : Keyword) → Eats (parse.keyword x)
unfolding parse.keyword
keyword_eats x = expect_eats (parse.is_keyword x)

pub eat_symbol_shrinks : (x : Symbol) → Shrinks (parse.eat_symbol x)
unfolding parse.eat_symbol
eat_symbol_shrinks x = eat_shrinks (parse.is_symbol x)

pub eat_keyword_shrinks : (x : Keyword) → Shrinks (parse.eat_keyword x)
unfolding parse.eat_keyword
eat_keyword_shrinks x = eat_shrinks (parse.is_keyword x)

pub var_eats : Eats parse.var
unfolding parse.var
var_eats = token_eats (λ t. parse.var_of t.start t.lexeme)

pub name_eats : Eats parse.name
unfolding parse.name
name_eats = token_eats (λ t. parse.name_of t.start t.lexeme)

pub parameter_eats : Eats parse.parameter
unfolding parse.parameter
parameter_eats = token_eats (λ t. parse.parameter_of t.start t.lexeme)

pub integer_eats : Eats parse.integer
unfolding parse.integer
integer_eats = token_eats (λ t. parse.integer_of t.lexeme)

pub operator_eats : (level : ℕ) → Eats (parse.operator level)
unfolding parse.operator
operator_eats level = token_eats (λ t. parse.at_level level (parse.operator_of t.lexeme))

pub here_shrinks : Shrinks parse.here
unfolding parse.here
here_shrinks = record { left = λ ts us x e. let same = same_some (parse.start_of ts) x ts us e in omega (arith, ap length same.1) }

pub left_shrinks : Shrinks parse.what_is_left
left_shrinks = record { left = λ ts us x e. let same = same_some ts x ts us e in omega (arith, ap length same.1) }

pub given_shrinks : {A : Type 0} (o : Option A) → Shrinks (with_rest o)
given_shrinks o = record { left = λ ts us x e. let same = taken o ts us x e in omega arith }

-- a symbol or a keyword, and then what takes nothing back
pub after_symbol : {A : Type 0} {p : Parser A} (x : Symbol) → Shrinks p → Eats (parse.symbol x >> p)
after_symbol x h = bind_eats (symbol_eats x) (λ _. h)

pub after_keyword : {A : Type 0} {p : Parser A} (x : Keyword) → Shrinks p → Eats (parse.keyword x >> p)
after_keyword x h = bind_eats (keyword_eats x) (λ _. h)

-- ---- rows

many_from_shrinks : {A : Type 0} (b : Test) (p : Parser A) → Shrinks p → (n : ℕ) (found : List A) → Shrinks (many_from b p n found)
unfolding many_from
many_from_shrinks b p h zero found = pure_shrinks found
many_from_shrinks {A} b p h (suc n) found = branch_shrinks b (bind_shrinks h (λ x. many_from_shrinks b p h n (found ++ x ∷ []))) (pure_shrinks found)

pub many_shrinks : {A : Type 0} (b : Test) {p : Parser A} (found : List A) → Shrinks p → Shrinks (many b p found)
many_shrinks {A} b {p} found h = record { left = λ ts us x e. (many_from_shrinks b p h (length ts) found).left ts us x e }

pub maybe_shrinks : {A : Type 0} (b : Test) {p : Parser A} → Shrinks p → Shrinks (maybe b p)
maybe_shrinks b h = branch_shrinks b (mapped_shrinks Some h) (pure_shrinks None)

pub comma_eats : {A : Type 0} {p : Parser A} → Shrinks p → Eats (comma_and p)
comma_eats h = bind_eats (symbol_eats s.Comma) (λ _. h)

pub separated_shrinks : {A : Type 0} {p : Parser A} → Shrinks p → Shrinks (separated p)
separated_shrinks {A} {p} h = bind_shrinks h (λ x. many_shrinks (sees_symbol s.Comma) (x ∷ []) (eats_shrinks (comma_eats h)))

pub label_eats : Eats parse.label
label_eats = bind_eats (symbol_eats s.Colon) (λ _. eats_shrinks name_eats)

pub labels_shrinks : Shrinks parse.labels
unfolding parse.labels
labels_shrinks = bind_shrinks (eats_shrinks label_eats) (λ n. many_shrinks (sees_symbol s.Colon) (n ∷ []) (eats_shrinks label_eats))

pub labels_if_any_shrinks : Shrinks parse.labels_if_any
labels_if_any_shrinks = branch_shrinks (sees_symbol s.Colon) labels_shrinks (pure_shrinks [])
