-- The value that tokens begin with, as it is put behind the items of a list or at a key of a map. For private clauses.
use Rattle.std.specs.Prelude.{◌≡◌, ℕ, ◌+◌, List, [], ◌∷◌, ◌++◌, Some}
use Rattle.json.specs.Json.{value}
use Rattle.json.specs.Token.{Token}
use Rattle.serde_json.specs.Read.{of_json, converted}
use Rattle.pg_meaning.specs.Entries.{with_entry}
use Rattle.pg_meaning.specs.Value.{Value as Datum, Entries}
use Rattle.pg_json.specs.Given.{data_giving, IsGiven}
use Rattle.pg_value_core.specs.View.{view}
use Rattle.pg_value_core.specs.declared.value.Value.{Value}

-- the tokens begin with what gives v, which is at most so deep, and `rest` follows
pub record BeginsWith (room : ℕ) (ts : List Token) (v : Datum) (rest : List Token) : Type 0 where
  pub read : converted of_json (value (room + 61) ts) ≡ Some (data_giving v, rest)
  pub given : IsGiven room v

-- what they begin with is the last of the items
pub record AddsItem (room : ℕ) (ts rest : List Token) (before after : List Value) : Type 0 where
  pub added : Value
  pub behind : after ≡ before ++ added ∷ []
  pub begins : BeginsWith room ts (view added) rest

-- what they begin with stands at the key
pub record AddsEntry (room : ℕ) (ts rest : List Token) (key : List ℕ) (before after : Entries) : Type 0 where
  pub added : Datum
  pub at_key : after ≡ with_entry key added before
  pub begins : BeginsWith room ts added rest
