-- The values that JSON data gives, a level at a time, and the data that gives a value. For private clauses.
use Rattle.std.specs.Prelude.{◌≡◌, ◌<◌, ℕ, ◌-◌, ⊤, nat_lt, Option, Some, None, option_map, option_and_then, if◌then◌else◌}
use Rattle.serde_json.specs.Data.{Data, Items, Members}
use Rattle.serde_json.specs.Data as json
use Rattle.serde_json.specs.Find.{as_i64, of_integer}
use Rattle.pg_meaning.specs.Value.{Value, null, boolean, integer, text, list, mapping, Values, no_items, item, Entries, no_entries, entry}

abbrev pub if_room : {A : Type 0} → ℕ → Option A → Option A
if_room n o = if nat_lt 0 n then o else None

-- the value, where it is no deeper than n
abbrev mutual
  pub value_within : ℕ → Data → Option Value
  value_within n json.null = if_room n (Some null)
  value_within n (json.boolean b) = if_room n (Some (boolean b))
  value_within n (json.number x) = if_room n (option_map integer (as_i64 x))
  value_within n (json.string s) = if_room n (Some (text s))
  value_within n (json.array ds) = if_room n (option_map list (values_within (n - 1) ds))
  value_within n (json.object ms) = if_room n (option_map mapping (entries_within (n - 1) ms))

  pub values_within : ℕ → Items → Option Values
  values_within n json.no_items = Some no_items
  values_within n (json.item d ds) = option_and_then (λ v. option_map (item v) (values_within n ds)) (value_within n d)

  pub entries_within : ℕ → Members → Option Entries
  entries_within n json.no_members = Some no_entries
  entries_within n (json.member k d ms) = option_and_then (λ v. option_map (entry k v) (entries_within n ms)) (value_within n d)

-- the data that gives a value; no data gives an element or a path
abbrev mutual
  pub data_giving : Value → Data
  data_giving null = json.null
  data_giving (boolean b) = json.boolean b
  data_giving (integer z) = json.number (of_integer z)
  data_giving (text s) = json.string s
  data_giving (list vs) = json.array (items_giving vs)
  data_giving (mapping es) = json.object (members_giving es)
  data_giving v = json.null

  pub items_giving : Values → Items
  items_giving no_items = json.no_items
  items_giving (item v vs) = json.item (data_giving v) (items_giving vs)

  pub members_giving : Entries → Members
  members_giving no_entries = json.no_members
  members_giving (entry k v es) = json.member k (data_giving v) (members_giving es)

-- data gives the value, which is no deeper than n
abbrev mutual
  pub IsGiven : ℕ → Value → Type 0
  IsGiven n null = 0 < n
  IsGiven n (boolean b) = 0 < n
  IsGiven n (integer z) = (0 < n) × (as_i64 (of_integer z) ≡ Some z)
  IsGiven n (text s) = 0 < n
  IsGiven n (list vs) = (0 < n) × AreGiven (n - 1) vs
  IsGiven n (mapping es) = (0 < n) × EntriesAreGiven (n - 1) es
  IsGiven n v = ⊥

  pub AreGiven : ℕ → Values → Type 0
  AreGiven n no_items = ⊤
  AreGiven n (item v vs) = IsGiven n v × AreGiven n vs

  pub EntriesAreGiven : ℕ → Entries → Type 0
  EntriesAreGiven n no_entries = ⊤
  EntriesAreGiven n (entry k v es) = IsGiven n v × EntriesAreGiven n es
