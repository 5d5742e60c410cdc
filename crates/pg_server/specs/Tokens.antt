-- Which tenant a token belongs to, and the map that tells it.
use Rattle.std.specs.Prelude.{◌≡◌, ℕ, List, Option, position}
use Rattle.std.specs.BTreeMap.{get_by_text}
use Rattle.pg_meaning.specs.Names.{is_among}
use Rattle.pg_tenant.specs.Settings.{TenantSettings, token_texts}
use Rattle.pg_server.specs.declared.tokens.TokenPlaces.{TokenPlaces}

-- where the first tenant with this token stands
abbrev pub tenant_of : List TenantSettings → List ℕ → Option ℕ
tenant_of tenants token = position (λ s. is_among (token_texts s) token) tenants

abbrev pub place_in : TokenPlaces → List ℕ → Option ℕ
place_in tokens token = get_by_text tokens.places token

-- the map has the place of each token's tenant, and no other token
abbrev pub TellsTenants : TokenPlaces → List TenantSettings → Type 0
TellsTenants tokens tenants = (token : List ℕ) → place_in tokens token ≡ tenant_of tenants token
