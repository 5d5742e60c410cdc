-- Values under keys: what a contract sees of a `Slab`.
use Rattle.std.specs.Prelude.{◌≡◌, ◌≢◌, ℕ, ◌<◌, ◌≤◌, List, length, Option, None, is_some, IsSome, count_by, slice_index_or, refl}
use Rattle.std.specs.Coded.{Coded, code_by, coded×, coded_ℕ, coded_list, coded_option}

-- the value or nothing at each key from 0 on, and how many more keys there can be with no allocation
pub record Slab (V : Type 0) : Type 0 where
  pub slots : List (Option V)
  pub spare : ℕ

-- a slab is stored as the pair of its fields
abbrev pub slab_code : {V : Type 0} → Coded V → Coded (Slab V)
slab_code {V} code =
    code_by (List (Option V) × ℕ) (coded× (coded_list (coded_option code)) coded_ℕ) (λ s. (s.slots, s.spare))
    (λ p. record { slots = p.0; spare = p.1 }) (λ _. refl)

module _ {V : Type 0} where
  -- the value at a key
  abbrev pub get : Slab V → ℕ → Option V
  get s key = slice_index_or s.slots key None

  -- the key has a value
  abbrev pub ContainsKey : Slab V → ℕ → Type 0
  ContainsKey s key = IsSome (get s key)

  -- how many keys have a value
  abbrev pub slab_len : Slab V → ℕ
  slab_len s = count_by is_some s.slots

  -- there is a slot, which has no value
  abbrev pub IsVacant : Slab V → ℕ → Type 0
  IsVacant s key = (key < length s.slots) × (get s key ≡ None)

  -- the key has no value, and can be given one with no allocation
  pub record IsFree (s : Slab V) (key : ℕ) : Type 0 where
    pub vacant : get s key ≡ None
    pub next : key ≤ length s.slots
    pub room : key ≡ length s.slots → 0 < s.spare

  -- the new slab has this at the key, and every other key keeps what it had
  pub record Updates (old new : Slab V) (key : ℕ) (slot : Option V) : Type 0 where
    pub changed : get new key ≡ slot
    pub others : (other : ℕ) → other ≢ key → get new other ≡ get old other

  -- every key keeps what it had, and there are as many values
  pub record SameValues (old new : Slab V) : Type 0 where
    pub at : (key : ℕ) → get new key ≡ get old key
    pub len : slab_len new ≡ slab_len old
