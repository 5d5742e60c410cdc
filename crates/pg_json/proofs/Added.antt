-- What the tokens of a parameter begin with, and what comes of it in a list and in a map.
use Rattle.std.proofs.Common.{◌≡◌, ℕ, ◌+◌, ◌-◌, ◌<◌, Bool, ℤ, List, [], ◌∷◌, ◌++◌, length, Some, None, Result, Ok, Err, OnOk, option_map, refl, ap, ◌∙◌, arith}
use Rattle.json.specs.Token.{Token}
use Rattle.json.specs.Json.{parse_map, after_end_array, items, members, value}
use Rattle.json.proofs.Grammar.{value_is, value-begin_array, value-begin_object}
use Rattle.serde_json.specs.Data.{Data, number, array, object, no_members}
use Rattle.serde_json.specs.Find.{as_i64, of_integer}
use Rattle.serde_json.specs.Read.{number_of, of_json, of_items, of_members, converted}
use Rattle.pg_meaning.specs.Entries.{with_entry}
use Rattle.pg_meaning.specs.Value.{Value as Datum, null, boolean, integer, text, list, mapping, Values, Entries}
use Rattle.pg_json.specs.Added.{BeginsWith, AddsItem, AddsEntry}
use Rattle.pg_json.specs.Given.{data_giving, items_giving, members_giving, AreGiven, EntriesAreGiven}
use Rattle.pg_json.proofs.Reading.{converted-array, converted-object}
use Rattle.pg_value_core.specs.View.{view}
use Rattle.pg_value_core.specs.declared.value.Value.{Value}

module _ {E : Type 0} (room : ℕ) (ts rest : List Token) where
  pub item_put : (r : Result (Unit {0}) E) (v : Value) (before after : List Value) → BeginsWith room ts (view v) rest → OnOk r (after ≡ before ++ v ∷ []) → OnOk r (AddsItem room ts rest before after)
  item_put (Ok _) v before after b e = record { added = v; behind = e; begins = b }
  item_put (Err _) v before after b e = tt

  pub entry_put : (r : Result (Unit {0}) E) (v : Value) (key : List ℕ) (before after : Entries) → BeginsWith room ts (view v) rest → OnOk r (after ≡ with_entry key (view v) before) → OnOk r (AddsEntry room ts rest key before after)
  entry_put (Ok _) v key before after b e = record { added = view v; at_key = e; begins = b }
  entry_put (Err _) v key before after b e = tt

-- ---- one token

module _ (room : ℕ) (some : 0 < room) (rest : List Token) where
  pub null_begins : BeginsWith room (Token.null ∷ rest) null rest
  null_begins = record { read = ap (converted of_json) (value_is (room + 61) (Token.null ∷ rest)); given = some }

  pub boolean_begins : (b : Bool) → BeginsWith room (Token.boolean b ∷ rest) (boolean b) rest
  boolean_begins b = record { read = ap (converted of_json) (value_is (room + 61) (Token.boolean b ∷ rest)); given = some }

  pub number_begins : (s : List ℕ) (z : ℤ) → number_of s ≡ Some (of_integer z) → as_i64 (of_integer z) ≡ Some z → BeginsWith room (Token.number s ∷ rest) (integer z) rest
  number_begins s z e fits = record {
    read = ap (converted of_json) (value_is (room + 61) (Token.number s ∷ rest)) ∙ ap (λ m. option_map {U = Data × List Token} (λ b. (b, rest)) (option_map number m)) e;
    given = (some, fits);
  }

  pub text_begins : (s : List ℕ) → BeginsWith room (Token.string s ∷ rest) (text s) rest
  text_begins s = record { read = ap (converted of_json) (value_is (room + 61) (Token.string s ∷ rest)); given = some }

-- ---- a bracket or a brace, and what it opens

module _ (room : ℕ) (ts rest : List Token) where
  lower : room + 1 + 61 - 1 ≡ room + 61
  lower = omega arith

  pub list_begins : (vs : Values) → converted of_items (items (value (room + 61)) (length ts) ts) ≡ Some (items_giving vs, rest) → AreGiven room vs → BeginsWith (room + 1) (Token.begin_array ∷ ts) (list vs) rest
  list_begins vs e h =
      let less : room + 1 - 1 ≡ room = omega arith in
      record {
        read = ap (converted of_json) (value-begin_array (room + 1 + 61) ts (omega arith)) ∙ converted-array (items (value (room + 1 + 61 - 1)) (length ts) ts)
            ∙ ap (λ n. parse_map array (converted of_items (items (value n) (length ts) ts))) lower ∙ ap (parse_map array) e;
        given = (omega arith, rw less h);
      }

  pub mapping_begins : (es : Entries) → converted (λ ms. of_members ms no_members) (members (value (room + 61)) (length ts) ts) ≡ Some (members_giving es, rest) → EntriesAreGiven room es
      → BeginsWith (room + 1) (Token.begin_object ∷ ts) (mapping es) rest
  mapping_begins es e h =
      let less : room + 1 - 1 ≡ room = omega arith in
      record {
        read = ap (converted of_json) (value-begin_object (room + 1 + 61) ts (omega arith)) ∙ converted-object (members (value (room + 1 + 61 - 1)) (length ts) ts)
            ∙ ap (λ n. parse_map object (converted (λ ms. of_members ms no_members) (members (value n) (length ts) ts))) lower ∙ ap (parse_map object) e;
        given = (omega arith, rw less h);
      }

-- no value begins with the bracket that closes a list

goes_on : (room : ℕ) (ts : List Token) (d : Data) (rest : List Token) → converted of_json (value (room + 61) ts) ≡ Some (d, rest) → after_end_array ts ≡ None
goes_on room [] d rest e = refl
goes_on room (Token.begin_object ∷ ts) d rest e = refl
goes_on room (Token.end_object ∷ ts) d rest e = refl
goes_on room (Token.begin_array ∷ ts) d rest e = refl
goes_on room (Token.end_array ∷ ts) d rest e = let none = ap (converted of_json) (value_is (room + 61) (Token.end_array ∷ ts)) in absurd (cc)
goes_on room (Token.key s ∷ ts) d rest e = refl
goes_on room (Token.string s ∷ ts) d rest e = refl
goes_on room (Token.number s ∷ ts) d rest e = refl
goes_on room (Token.boolean b ∷ ts) d rest e = refl
goes_on room (Token.null ∷ ts) d rest e = refl
goes_on room (Token.bad ∷ ts) d rest e = refl

pub begun_goes_on : (room : ℕ) (ts : List Token) (v : Datum) (rest : List Token) → BeginsWith room ts v rest → after_end_array ts ≡ None
begun_goes_on room ts v rest h = goes_on room ts (data_giving v) rest h.read
