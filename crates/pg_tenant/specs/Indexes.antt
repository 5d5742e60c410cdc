-- A tenant's indexes: pairs of a label and a key, each once, in the order of their bytes; and what index requests make of them.
use Rattle.std.specs.Prelude.{◌≡◌, ◌≢◌, ℕ, nat_lt, Bool, not, ◌&&◌, List, ◌∷◌, ◌++◌, filter, length, Result, Ok, Err, IfOk, IfErr, Vec, String}
use Rattle.std.specs.List.Sorted.{IsStrictlySortedBy}
use Rattle.std.specs.Ordering.{is_lt, ordering_then}
use Rattle.std.specs.Str.{bytes_eq}
use Rattle.std.specs.declared.alloc.Global.{Global}
use Rattle.std.specs.declared.cmp.Ordering.{Ordering}
use Rattle.std.specs.declared.rc.Rc.{Rc}
use Rattle.pg_plan.specs.Catalogue.{catalogue_view}
use Rattle.pg_json.specs.Refusals.{done_text}
use Rattle.pg_meaning.specs.Answer.{◌>>◌, unless}
use Rattle.pg_meaning.specs.Order.{text_order}
use Rattle.pg_meaning.specs.Plans.{Catalogue, is_indexed}
use Rattle.pg_meaning.specs.declared.fault.Fault.{Fault}
use Rattle.pg_meaning.specs.declared.fault.Fault.TheVariants.{ReadOnly, IndexExists, NoSuchIndex, TooManyIndexes, TransactionOpen, OutOfMemory}
use Rattle.pg_plan.specs.Reading.{tested_length}

-- a label and a key
abbrev pub Index : Type 0
Index = List ℕ × List ℕ

abbrev pub most_indexes : ℕ
most_indexes = 16

-- by label, then by key
abbrev pub index_order : Index → Index → Ordering
index_order i j = ordering_then (text_order i.0 j.0) (text_order i.1 j.1)

abbrev pub stands_before : Index → Index → Bool
stands_before i j = is_lt (index_order i j)

-- those before it, itself, then the others
abbrev pub with_index : Index → Catalogue → Catalogue
with_index i indexes = filter (λ j. stands_before j i) indexes ++ i ∷ filter (λ j. not (stands_before j i)) indexes

abbrev pub is_same : Index → Index → Bool
is_same i j = bytes_eq j.0 i.0 && bytes_eq j.1 i.1

abbrev pub without_index : Index → Catalogue → Catalogue
without_index i indexes = filter (λ j. not (is_same i j)) indexes

-- ---- requests

-- the right of the token, that no transaction is open, then the lengths of label and key
abbrev pub index_tested : (may_write is_open : Bool) → (label key : List ℕ) → Result (Unit {0}) Fault
index_tested may_write is_open label key = unless may_write ReadOnly >> (unless (not is_open) TransactionOpen >> (tested_length label >> tested_length key))

-- one more, where it isn't there and there are few enough
abbrev pub with_one_more : Catalogue → (label key : List ℕ) → Result Catalogue Fault
with_one_more indexes label key =
    unless (not (is_indexed indexes (label, key))) IndexExists
    >> (unless (nat_lt (length indexes) most_indexes) TooManyIndexes >> Ok (with_index (label, key) indexes))

-- one less, where it is there
abbrev pub with_one_less : Catalogue → (label key : List ℕ) → Result Catalogue Fault
with_one_less indexes label key = unless (is_indexed indexes (label, key)) NoSuchIndex >> Ok (without_index (label, key) indexes)

-- the indexes after a request for one more
abbrev pub index_created : (may_write is_open : Bool) → Catalogue → (label key : List ℕ) → Result Catalogue Fault
index_created may_write is_open indexes label key = index_tested may_write is_open label key >> with_one_more indexes label key

-- the indexes after a request for one less
abbrev pub index_dropped : (may_write is_open : Bool) → Catalogue → (label key : List ℕ) → Result Catalogue Fault
index_dropped may_write is_open indexes label key = index_tested may_write is_open label key >> with_one_less indexes label key

-- ---- a tenant's list

abbrev pub indexes_of : Rc (Vec (String Global × String Global) Global) Global → Catalogue
indexes_of list = catalogue_view list.value.items

-- what is answered, from the indexes before and the indexes after
pub record IsIndexAnswer (result : Result (List ℕ) Fault) (outcome : Result Catalogue Fault) (old new : Catalogue) : Type 0 where
  pub ok : IfOk result (λ bytes. (bytes ≡ done_text) × (outcome ≡ Ok new))
  pub err : IfErr result (λ e. (new ≡ old) × (e ≢ OutOfMemory → outcome ≡ Err e))

-- where each index stands before those behind it, they do so after each request
abbrev pub IndexesRise : Type 0
IndexesRise =
    (may_write is_open : Bool) (indexes after : Catalogue) (label key : List ℕ) → IsStrictlySortedBy index_order indexes
    → (index_created may_write is_open indexes label key ≡ Ok after → IsStrictlySortedBy index_order after)
    × (index_dropped may_write is_open indexes label key ≡ Ok after → IsStrictlySortedBy index_order after)
