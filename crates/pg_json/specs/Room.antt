-- A length that a text has at least, which is told without reading the texts in it. For private clauses.
use Rattle.std.specs.Prelude.{ℕ, ◌+◌, length}
use Rattle.serde_json.specs.Data.{Data, null, boolean, number, string, array, object, Items, no_items, item, Members, no_members, member}
use Rattle.serde_json.specs.Written.{number_text}

-- each item and each member has a comma or a bracket behind it
abbrev mutual
  pub least : Data → ℕ
  least null = 4
  least (boolean b) = 4
  least (number n) = length (number_text n)
  least (string s) = length s + 2
  least (array ds) = items_least ds + 1
  least (object ms) = members_least ms + 1

  pub items_least : Items → ℕ
  items_least no_items = 0
  items_least (item d ds) = least d + 1 + items_least ds

  pub members_least : Members → ℕ
  members_least no_members = 0
  members_least (member k d ms) = length k + 4 + least d + members_least ms
