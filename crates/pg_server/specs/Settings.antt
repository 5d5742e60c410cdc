-- What a configuration sets: the plan cache's entries, and each tenant's quotas and tokens. Beside these it names the tenants.
use Rattle.std.specs.Prelude.{ℕ, List, flat_map}
use Rattle.pg_tenant.specs.Settings.{TenantSettings, token_texts}

-- the greatest quota, of steps and of elements
abbrev pub max_quota : ℕ
max_quota = 1000000000

pub record Settings : Type 0 where
  pub cache : ℕ
  pub tenants : List TenantSettings
  -- by their places; no reply depends on a name
  pub names : List (List ℕ)

-- the texts of all tokens, tenant after tenant
abbrev pub all_tokens : List TenantSettings → List (List ℕ)
all_tokens tenants = flat_map token_texts tenants
