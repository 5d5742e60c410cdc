-- What a token that was taken, or left, says of a parser that asks for it.
use Rattle.std.proofs.Common.{◌≡◌, Bool, true, false, List, Option, Some, None, Result, Ok, Err, refl, sym, ap, ◌∙◌, true≢false}
use Rattle.std.specs.Option.{option_map_or}
use Rattle.std.specs.Result.{IsErrAnd}
use Rattle.std.proofs.lemmas.Result.{err_from_is_err_and}
use Rattle.pg_lex.specs.declared.token.Token.{Token as Code}
use Rattle.pg_lex.specs.View.{tokens_view}
use Rattle.pg_meaning.specs.Parse as parse
use Rattle.pg_meaning.specs.Parse.{Outcome, Parser, Test, ◌>>=◌, ◌>>◌, ◌<$>◌, and_then, branch, maybe, pure, rest, sees_keyword, sees_symbol}
use Rattle.pg_meaning.specs.Tokens.{Token}
use Rattle.pg_meaning.specs.declared.lexemes.Keyword.{Keyword}
use Rattle.pg_meaning.specs.declared.lexemes.Symbol.{Symbol}
use Rattle.pg_syntax_tokens.proofs.Rows.{passed}
use Rattle.pg_syntax_tokens.specs.Gives.{Gives, GivesValue, Fails}
use Rattle.pg_syntax_tokens.specs.declared.error.ParseError.{ParseError}
use Rattle.pg_syntax_tokens.specs.declared.error.ParseError.TheVariants.{OutOfMemory, BadSyntax}

-- an error that a `?` passes on
pub fails : {A B C : Type 0} (view : B → A) (o : Outcome C) (q : Outcome A) (r : Result B ParseError) (e : ParseError) (us : List Code) → IsErrAnd r (λ y. y ≡ e) → (o ≡ None → q ≡ None) → Fails o e → Gives view q r us
fails view o q r e us is none failed = let p = err_from_is_err_and r is in rw (p.1, p.2) (passed e o q none failed)

-- a value behind whose tokens no more is read
pub gives : {A B : Type 0} (view : B → A) (o : Outcome A) (x : A) (r : Result B ParseError) (us : List Code) → o ≡ Some (x, tokens_view us) → GivesValue view (Some x) r → Gives view o r us
gives {A} view o x (Ok b) us is e = is ∙ ap (λ (p : Option A). option_map_or (λ y. Some (y, tokens_view us)) p None) e
gives view o x (Err OutOfMemory) us is e = tt
gives view o x (Err BadSyntax) us is e = absurd cc

abbrev some : {A : Type 0} → A → List Token → Outcome A
some a ts = Some (a, ts)

abbrev pick : {A : Type 0} → Bool → A → A → A
pick b x y = elim b [ true ↦ x | false ↦ y ]

pub branch_yes : {A : Type 0} (begins : Test) (p q : Parser A) (ts : List Token) → begins ts ≡ true → branch begins p q ts ≡ p ts
branch_yes begins p q ts e = ap (λ (b : Bool). pick b (p ts) (q ts)) e

pub branch_no : {A : Type 0} (begins : Test) (p q : Parser A) (ts : List Token) → begins ts ≡ false → branch begins p q ts ≡ q ts
branch_no begins p q ts e = ap (λ (b : Bool). pick b (p ts) (q ts)) e

taken : (seen : Bool) (behind ts us : List Token) → ◌≡◌ {A = Outcome Bool} (elim seen [ true ↦ Some (true, behind) | false ↦ Some (false, ts) ]) (Some (true, us)) → (seen ≡ true) × (behind ≡ us)
taken true behind ts us e = (refl, ap (λ (o : Outcome Bool). option_map_or (λ p. p.1) o behind) e)
taken false behind ts us e = absurd (true≢false (sym (ap (λ (o : Outcome Bool). option_map_or (λ p. p.0) o true) e)))

left : (seen : Bool) (behind ts us : List Token) → ◌≡◌ {A = Outcome Bool} (elim seen [ true ↦ Some (true, behind) | false ↦ Some (false, ts) ]) (Some (false, us)) → (seen ≡ false) × (ts ≡ us)
left true behind ts us e = absurd (true≢false (ap (λ (o : Outcome Bool). option_map_or (λ p. p.0) o true) e))
left false behind ts us e = (refl, ap (λ (o : Outcome Bool). option_map_or (λ p. p.1) o ts) e)

pub symbol_taken : (x : Symbol) (ts us : List Token) → parse.eat_symbol x ts ≡ Some (true, us) → (sees_symbol x ts ≡ true) × (parse.symbol x ts ≡ Some (tt, us))
unfolding parse.eat_symbol parse.symbol
symbol_taken x ts us e =
    let h = taken (sees_symbol x ts) (rest ts) ts us e in
    (h.0, ap (λ (b : Bool). pick b (some tt (rest ts)) None) h.0 ∙ ap (λ (r : List Token). some tt r) h.1)

pub symbol_left : (x : Symbol) (ts us : List Token) → parse.eat_symbol x ts ≡ Some (false, us) → (sees_symbol x ts ≡ false) × (ts ≡ us)
unfolding parse.eat_symbol
symbol_left x ts us e = left (sees_symbol x ts) (rest ts) ts us e

pub branch_taken : {A : Type 0} (x : Symbol) (p q : Parser A) (ts us : List Token) → parse.eat_symbol x ts ≡ Some (true, us) → branch (sees_symbol x) (parse.symbol x >> p) q ts ≡ p us
branch_taken {A} x p q ts us e =
    let h = symbol_taken x ts us e in
    branch_yes (sees_symbol x) (parse.symbol x >> p) q ts h.0 ∙ ap (λ (o : Outcome (Unit {0})). and_then o (λ u. p)) h.1

pub branch_left : {A : Type 0} (x : Symbol) (p q : Parser A) (ts us : List Token) → parse.eat_symbol x ts ≡ Some (false, us) → branch (sees_symbol x) p q ts ≡ q us
branch_left x p q ts us e = let h = symbol_left x ts us e in branch_no (sees_symbol x) p q ts h.0 ∙ ap q h.1

pub keyword_taken : (x : Keyword) (ts us : List Token) → parse.eat_keyword x ts ≡ Some (true, us) → (sees_keyword x ts ≡ true) × (parse.keyword x ts ≡ Some (tt, us))
unfolding parse.eat_keyword parse.keyword
keyword_taken x ts us e =
    let h = taken (sees_keyword x ts) (rest ts) ts us e in
    (h.0, ap (λ (b : Bool). pick b (some tt (rest ts)) None) h.0 ∙ ap (λ (r : List Token). some tt r) h.1)

maybe_taken : {A : Type 0} (x : Keyword) (p : Parser A) (ts us : List Token) → parse.eat_keyword x ts ≡ Some (true, us) → maybe (sees_keyword x) (parse.keyword x >> p) ts ≡ and_then (p us) (λ a. pure (Some a))
maybe_taken {A} x p ts us e =
    let h = keyword_taken x ts us e in
    branch_yes (sees_keyword x) (Some <$> (parse.keyword x >> p)) (pure None) ts h.0 ∙ ap (λ (o : Outcome (Unit {0})). and_then (and_then o (λ u. p)) (λ a. pure (Some a))) h.1

maybe_left : {A : Type 0} (x : Keyword) (p : Parser A) (ts us : List Token) → parse.eat_keyword x ts ≡ Some (false, us) → maybe (sees_keyword x) p ts ≡ Some (None, us)
unfolding parse.eat_keyword
maybe_left x p ts us e = let h = left (sees_keyword x ts) (rest ts) ts us e in branch_no (sees_keyword x) (Some <$> p) (pure None) ts h.0 ∙ ap (λ (r : List Token). some None r) h.1

pub maybe_seen : {A : Type 0} (begins : Test) (p : Parser A) (b : Bool) (ts : List Token) → begins ts ≡ b → maybe begins p ts ≡ maybe (λ _. b) p ts
maybe_seen begins p b ts e = ap (λ (c : Bool). pick c ((Some <$> p) ts) (pure None ts)) e

pub maybe_eaten : {A : Type 0} (x : Keyword) (p : Parser A) (b : Bool) (ts us : List Token) → parse.eat_keyword x ts ≡ Some (b, us) → maybe (sees_keyword x) (parse.keyword x >> p) ts ≡ maybe (λ _. b) p us
maybe_eaten x p true ts us e = maybe_taken x p ts us e
maybe_eaten x p false ts us e = maybe_left x (parse.keyword x >> p) ts us e

-- ---- two parsers in turn

abbrev pub in_turn : {A B C : Type 0} → Parser A → Parser B → (A → B → C) → Parser C
in_turn p r f = p >>= (λ a. r >>= (λ b. pure (f a b)))

pub first_fails : {A B C : Type 0} (p : Parser A) (r : Parser B) (f : A → B → C) (ts : List Token) → p ts ≡ None → in_turn p r f ts ≡ None
first_fails {A} {B} {C} p r f ts none = ap (λ (o : Outcome A). and_then o (λ a. r >>= (λ b. pure (f a b)))) none

pub second_fails : {A B C : Type 0} (p : Parser A) (r : Parser B) (f : A → B → C) (ts us : List Token) (a : A) → p ts ≡ Some (a, us) → r us ≡ None → in_turn p r f ts ≡ None
second_fails {A} {B} {C} p r f ts us a first none = ap (λ (o : Outcome A). and_then o (λ x. r >>= (λ b. pure (f x b)))) first ∙ ap (λ (o : Outcome B). and_then o (λ b. pure (f a b))) none

pub both : {A B C : Type 0} (p : Parser A) (r : Parser B) (f : A → B → C) (ts us vs : List Token) (a : A) (b : B) → p ts ≡ Some (a, us) → r us ≡ Some (b, vs) → in_turn p r f ts ≡ Some (f a b, vs)
both {A} {B} {C} p r f ts us vs a b first second = ap (λ (o : Outcome A). and_then o (λ x. r >>= (λ y. pure (f x y)))) first ∙ ap (λ (o : Outcome B). and_then o (λ y. pure (f a y))) second

-- ---- what stands behind a parser

pub fails_at : {A B : Type 0} (p : Parser A) (f : A → Parser B) (ts : List Token) → p ts ≡ None → (p >>= f) ts ≡ None
fails_at {A} p f ts none = ap (λ (o : Outcome A). and_then o f) none

pub goes_on : {A B : Type 0} (p : Parser A) (f : A → Parser B) (ts us : List Token) (a : A) → p ts ≡ Some (a, us) → (p >>= f) ts ≡ f a us
goes_on {A} p f ts us a first = ap (λ (o : Outcome A). and_then o f) first
