-- Parsers that take no token back.
use Rattle.std.specs.Prelude.{◌≡◌, ◌≤◌, ◌<◌, List, length, Some}
use Rattle.pg_meaning.specs.Tokens.{Token}
use Rattle.pg_meaning.specs.Parse.{Parser}

-- what is left is no longer
pub record Shrinks {A : Type 0} (p : Parser A) : Type 0 where
  pub left : (ts us : List Token) (x : A) → p ts ≡ Some (x, us) → length us ≤ length ts

-- what is read takes a token
pub record Eats {A : Type 0} (p : Parser A) : Type 0 where
  pub left : (ts us : List Token) (x : A) → p ts ≡ Some (x, us) → length us < length ts
