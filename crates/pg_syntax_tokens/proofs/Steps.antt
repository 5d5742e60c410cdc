-- One step of a parser, by what the code saw.
use Rattle.std.proofs.Common.{◌≡◌, Bool, true, false, List, Some, None, ap, ◌∙◌, sym}
use Rattle.pg_meaning.specs.Tokens.{Token}
use Rattle.pg_meaning.specs.declared.lexemes.Keyword.{Keyword}
use Rattle.pg_meaning.specs.declared.lexemes.Symbol.{Symbol}
use Rattle.pg_meaning.specs.Parse as parse
use Rattle.pg_meaning.specs.Parse.{sees_symbol, sees_keyword, rest}
use Rattle.pg_grammar.proofs.Generic.{some, pick}

pub symbol_yes : (x : Symbol) (ts us : List Token) → sees_symbol x ts ≡ true → us ≡ rest ts → parse.symbol x ts ≡ Some (tt, us)
unfolding parse.symbol
symbol_yes x ts us e left = ap (λ (b : Bool). pick b (some tt (rest ts)) None) e ∙ ap (λ (r : List Token). some tt r) (sym left)

pub symbol_no : (x : Symbol) (ts : List Token) → sees_symbol x ts ≡ false → parse.symbol x ts ≡ None
unfolding parse.symbol
symbol_no x ts e = ap (λ (b : Bool). pick b (some tt (rest ts)) None) e

pub keyword_yes : (x : Keyword) (ts us : List Token) → sees_keyword x ts ≡ true → us ≡ rest ts → parse.keyword x ts ≡ Some (tt, us)
unfolding parse.keyword
keyword_yes x ts us e left = ap (λ (b : Bool). pick b (some tt (rest ts)) None) e ∙ ap (λ (r : List Token). some tt r) (sym left)

pub keyword_no : (x : Keyword) (ts : List Token) → sees_keyword x ts ≡ false → parse.keyword x ts ≡ None
unfolding parse.keyword
keyword_no x ts e = ap (λ (b : Bool). pick b (some tt (rest ts)) None) e

pub symbol_eaten : (x : Symbol) (ts us : List Token) → sees_symbol x ts ≡ true → us ≡ rest ts → parse.eat_symbol x ts ≡ Some (true, us)
unfolding parse.eat_symbol
symbol_eaten x ts us e left = ap (λ (b : Bool). pick b (some true (rest ts)) (some false ts)) e ∙ ap (λ (r : List Token). some true r) (sym left)

pub symbol_left : (x : Symbol) (ts : List Token) → sees_symbol x ts ≡ false → parse.eat_symbol x ts ≡ Some (false, ts)
unfolding parse.eat_symbol
symbol_left x ts e = ap (λ (b : Bool). pick b (some true (rest ts)) (some false ts)) e

pub keyword_eaten : (x : Keyword) (ts us : List Token) → sees_keyword x ts ≡ true → us ≡ rest ts → parse.eat_keyword x ts ≡ Some (true, us)
unfolding parse.eat_keyword
keyword_eaten x ts us e left = ap (λ (b : Bool). pick b (some true (rest ts)) (some false ts)) e ∙ ap (λ (r : List Token). some true r) (sym left)

pub keyword_left : (x : Keyword) (ts : List Token) → sees_keyword x ts ≡ false → parse.eat_keyword x ts ≡ Some (false, ts)
unfolding parse.eat_keyword
keyword_left x ts e = ap (λ (b : Bool). pick b (some true (rest ts)) (some false ts)) e
