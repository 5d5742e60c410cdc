-- The loop over pieces.
use Rattle.std.proofs.Common.{◌≡◌, ℕ, zero, suc, ◌<◌, ◌≤◌, true, false, List, [], ◌∷◌, ◌++◌, length, map, Some, None, refl, ap, ◌∙◌, arith}
use Rattle.pg_meaning.specs.Tokens.{Token}
use Rattle.pg_meaning.specs.Parse.{Parser, Outcome, Test, and_then, many_from}
use Rattle.pg_grammar.proofs.Generic.{many_turn, many_stop}
use Rattle.pg_syntax_tokens.specs.Gives.{Fails}
use Rattle.pg_syntax_tokens.specs.declared.error.ParseError.{ParseError}
use Rattle.pg_syntax_tokens.specs.declared.error.ParseError.TheVariants.{OutOfMemory, BadSyntax}

-- an error that is passed on
pub passed : {A B : Type 0} (e : ParseError) (o : Outcome A) (q : Outcome B) → (o ≡ None → q ≡ None) → Fails o e → Fails q e
passed OutOfMemory o q f g = tt
passed BadSyntax o q f g = f g

-- What is left to do, with turns enough, gives the whole outcome.
pub record Left {A : Type 0} (begins : Test) (piece : Parser A) (outcome : Outcome (List A)) (found : List A) (ts : List Token) : Type 0 where
  pub turns : ℕ
  pub enough : length ts ≤ turns
  pub is : outcome ≡ many_from begins piece turns found ts

pub left_more : {A : Type 0} (begins : Test) (piece : Parser A) (o : Outcome (List A)) (found : List A) (ts vs : List Token) (x : A) → Left begins piece o found ts → begins ts ≡ true → piece ts ≡ Some (x, vs) → length vs < length ts
    → Left begins piece o (found ++ x ∷ []) vs
left_more {A} begins piece o found ts vs x left seen e shrunk = at left.turns left.enough left.is
  where
    at : (n : ℕ) → length ts ≤ n → o ≡ many_from begins piece n found ts → Left begins piece o (found ++ x ∷ []) vs
    at zero enough is = absurd (omega arith)
    at (suc n) enough is = record {
      turns = n;
      enough = omega arith;
      is = is ∙ many_turn begins piece n found ts seen ∙ ap (λ (r : Outcome A). and_then r (λ y. many_from begins piece n (found ++ y ∷ []))) e;
    }

pub left_fails : {A : Type 0} (begins : Test) (piece : Parser A) (o : Outcome (List A)) (found : List A) (ts : List Token) → Left begins piece o found ts → begins [] ≡ false → begins ts ≡ true → piece ts ≡ None → o ≡ None
left_fails {A} begins piece o found ts left none seen e = at left.turns left.enough left.is
  where
    some_token : (us : List Token) → begins us ≡ true → 0 < length us
    some_token [] h = absurd cc
    some_token (t ∷ us) h = omega arith

    at : (n : ℕ) → length ts ≤ n → o ≡ many_from begins piece n found ts → o ≡ None
    at zero enough is = let h = some_token ts seen in absurd (omega arith)
    at (suc n) enough is = is ∙ many_turn begins piece n found ts seen ∙ ap (λ (r : Outcome A). and_then r (λ y. many_from begins piece n (found ++ y ∷ []))) e

pub left_ends : {A : Type 0} (begins : Test) (piece : Parser A) (o : Outcome (List A)) (found : List A) (ts : List Token) → Left begins piece o found ts → begins ts ≡ false → o ≡ Some (found, ts)
left_ends {A} begins piece o found ts left unseen = left.is ∙ many_stop begins piece left.turns found ts unseen

pub map_more : {A B : Type 0} (f : A → B) (xs : List A) (x : A) → map f (xs ++ x ∷ []) ≡ map f xs ++ f x ∷ []
map_more f [] x = refl
map_more {A} {B} f (y ∷ xs) x = ap (λ (r : List B). f y ∷ r) (map_more f xs x)
