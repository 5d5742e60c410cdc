-- What is written of a value to hash it: the rank of its type, and what it holds.
use Rattle.std.specs.Prelude.{◌≡◌, ◌++◌, true}
use Rattle.std.proofs.Common.{ap}
use Rattle.std.specs.Cmp.{Equal-is}
use Rattle.std.specs.Hash as fed
use Rattle.std.specs.Hash.{HashWrites}
use Rattle.pg_meaning.specs.Order.{is_equivalent, value_order}
use Rattle.pg_meaning.specs.OrderLaws.{order_exact}
use Rattle.pg_meaning.specs.Value.{Value, null, boolean, integer, text, list, mapping, node, relationship, path, Values, no_items, item, Entries, no_entries, entry}

abbrev mutual
  pub hashed : Value → HashWrites
  hashed (mapping es) = fed.u64 0 ++ hashed_entries es
  hashed (node n) = fed.u64 1 ++ fed.u64 n
  hashed (relationship n) = fed.u64 2 ++ fed.u64 n
  hashed (list vs) = fed.u64 3 ++ hashed_items vs
  hashed (path ids) = fed.u64 4 ++ fed.slice fed.u64 ids
  hashed (text s) = fed.u64 5 ++ fed.str s
  hashed (boolean b) = fed.u64 6 ++ fed.bool b
  hashed (integer i) = fed.u64 7 ++ fed.i64 i
  hashed null = fed.u64 8

  -- a 1 goes before each item and a 0 after the last
  pub hashed_items : Values → HashWrites
  hashed_items no_items = fed.u64 0
  hashed_items (item v vs) = fed.u64 1 ++ hashed v ++ hashed_items vs

  -- likewise
  pub hashed_entries : Entries → HashWrites
  hashed_entries no_entries = fed.u64 0
  hashed_entries (entry k v es) = fed.u64 1 ++ fed.str k ++ hashed v ++ hashed_entries es

-- equivalent values are hashed alike
pub hashed_alike : (v w : Value) → is_equivalent v w ≡ true → hashed v ≡ hashed w
hashed_alike v w h = ap hashed (order_exact v w ((Equal-is (value_order v w)).0 h))
