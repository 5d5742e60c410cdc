-- What the functions that parse ensure.
use Rattle.std.specs.Prelude.{◌≡◌, List, [], ◌∷◌, Option, Some, None, Result, Ok, Err}
use Rattle.std.specs.Borrow.{Bor}
use Rattle.pg_lex.specs.declared.token.Token.{Token}
use Rattle.pg_lex.specs.View.{tokens_view}
use Rattle.pg_meaning.specs.Parse.{Outcome}
use Rattle.pg_meaning.specs.declared.fault.Fault.{Fault}
use Rattle.pg_meaning.specs.declared.fault.Fault.TheVariants as fault
use Rattle.pg_syntax_tokens.specs.declared.error.ParseError.{ParseError}
use Rattle.pg_syntax_tokens.specs.declared.error.ParseError.TheVariants.{OutOfMemory, BadSyntax}

-- nothing is there, unless memory fails
abbrev pub Fails : {X : Type 0} → Option X → ParseError → Type 0
Fails x OutOfMemory = Unit {0}
Fails x BadSyntax = x ≡ None

-- what is there, unless memory fails
abbrev pub GivesValue : {A B : Type 0} → (B → A) → Option A → Result B ParseError → Type 0
GivesValue view x (Ok b) = x ≡ Some (view b)
GivesValue view x (Err e) = Fails x e

-- the parser's outcome, unless memory fails
abbrev pub Gives : {A B : Type 0} → (B → A) → Outcome A → Result B ParseError → List Token → Type 0
Gives view outcome (Ok b) new = outcome ≡ Some (view b, tokens_view new)
Gives view outcome (Err e) new = Fails outcome e

abbrev pub same : {A : Type 0} → A → A
same a = a

-- the first token, if there is one, and those behind it
abbrev pub Takes : List Token → Option (Bor Token) → List Token → Type 0
Takes old None new = (old ≡ []) × (new ≡ [])
Takes old (Some t) new = old ≡ t.now ∷ new

abbrev pub fault_of : ParseError → Fault
fault_of OutOfMemory = fault.OutOfMemory
fault_of BadSyntax = fault.BadSyntax
