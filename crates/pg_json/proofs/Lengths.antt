-- The texts are at least as long as counted.
use Rattle.std.proofs.Common.{ℕ, ◌+◌, ◌/◌, ◌%◌, ◌≤◌, nat_lt, List, [], ◌∷◌, Bool, true, false, cond, length, length-append, arith}
use Rattle.std.specs.Char.{digit_char}
use Rattle.json.specs.Print.{escape_letter, escape_byte, escape}
use Rattle.serde_json.specs.Data.{Data, null, boolean, number, string, array, object, Items, no_items, item, Members, no_members, member}
use Rattle.serde_json.specs.Written.{comma_if, compact_text, items_text, members_text}
use Rattle.pg_json.specs.Replies.{query_data}
use Rattle.pg_json.specs.Room.{least, items_least, members_least}
use Rattle.pg_json.specs.Rows.{rows_data, rows_text}

either_some : (b : Bool) (x : ℕ) (xs ys : List ℕ) → 1 ≤ length ys → 1 ≤ length (cond b (x ∷ xs) ys)
either_some true x xs ys some = omega arith
either_some false x xs ys some = some

byte_within : (x : ℕ) → 1 ≤ length (escape_byte x)
unfolding escape_byte
byte_within x =
    let rest = cond (nat_lt x 32) (92 ∷ 117 ∷ 48 ∷ 48 ∷ digit_char (x / 16) ∷ digit_char (x % 16) ∷ []) (x ∷ []) in
    let some : 1 ≤ length rest = either_some (nat_lt x 32) 92 (117 ∷ 48 ∷ 48 ∷ digit_char (x / 16) ∷ digit_char (x % 16) ∷ []) (x ∷ []) (omega arith) in
    either_some (nat_lt 0 (escape_letter x)) 92 (escape_letter x ∷ []) rest some

text_within : (s : List ℕ) → length s ≤ length (escape s)
text_within [] = omega arith
text_within (x ∷ s) = simp length-append (omega (arith, byte_within x, text_within s))

mutual
  pub least_within : (d : Data) → least d ≤ length (compact_text d)
  least_within null = omega arith
  least_within (boolean true) = omega arith
  least_within (boolean false) = omega arith
  least_within (number n) = omega arith
  least_within (string s) = simp length-append (omega (arith, text_within s))
  least_within (array ds) = omega (arith, items_within false ds)
  least_within (object ms) = omega (arith, members_within false ms)

  items_within : (later : Bool) (ds : Items) → length (comma_if later) + items_least ds ≤ length (items_text later ds)
  items_within true no_items = omega arith
  items_within false no_items = omega arith
  items_within later (item d ds) = simp length-append (omega (arith, least_within d, items_within true ds))

  members_within : (later : Bool) (ms : Members) → length (comma_if later) + members_least ms ≤ length (members_text later ms)
  members_within true no_members = omega arith
  members_within false no_members = omega arith
  members_within later (member k d ms) = simp length-append (omega (arith, text_within k, least_within d, members_within true ms))

-- a reply is at least as long as its columns and rows are counted
query_within : (columns rows : Items) (steps : ℕ) → items_least columns + items_least rows ≤ least (query_data columns rows steps)
query_within columns rows steps = omega arith

pub rows_within : (columns : Items) (rows : List Items) (steps : ℕ) → items_least (rows_data rows) ≤ length (rows_text columns rows steps)
unfolding rows_text
rows_within columns rows steps = omega (arith, query_within columns (rows_data rows) steps, least_within (query_data columns (rows_data rows) steps))
