-- A tenant lists the indexes that its graph has, and no other.
use Rattle.std.specs.Prelude.{◌≡◌, ℕ, true, List}
use Rattle.pg_index.specs.Properties.{has_pair}
use Rattle.pg_live.specs.Live.{Live, pairs_at}
use Rattle.pg_meaning.specs.Plans.{Catalogue, is_indexed}
use Rattle.pg_store.specs.Indexed.{is_named}
use Rattle.pg_tenant.specs.Indexes.{Index, indexes_of}
use Rattle.pg_tenant.specs.declared.tenant.Tenant.{Tenant}

-- indexes by the texts of their labels and keys, and by their numbers in a table of names: each listed one is there, and each
-- one that is there is listed
pub record AreListed (names : List (List ℕ)) (indexes : Catalogue) (pairs : List (ℕ × ℕ)) : Type 0 where
  pub there : (i : Index) → is_indexed indexes i ≡ true → (p : ℕ × ℕ) × (has_pair p pairs ≡ true) × (is_named names i.0 i.1 p ≡ true)
  pub listed : (p : ℕ × ℕ) → has_pair p pairs ≡ true → (i : Index) × (is_indexed indexes i ≡ true) × (is_named names i.0 i.1 p ≡ true)

-- a tenant over the live graph whose place at work is its own
abbrev pub Lists : {X : Type 0} → Tenant → Live X → Type 0
Lists tenant live = AreListed live.names (indexes_of tenant.indexes) (pairs_at live.aside)

-- where it did before, it does after
abbrev pub KeepsListed : {X : Type 0} → (was now : Tenant) → (old new : Live X) → Type 0
KeepsListed was now old new = Lists was old → Lists now new
