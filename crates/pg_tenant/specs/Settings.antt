-- What a configuration sets for a tenant: its quotas and its tokens.
use Rattle.std.specs.Prelude.{ℕ, Bool, true, false, ◌&&◌, List, [], ◌∷◌, ◌++◌, filter, map}
use Rattle.std.specs.List.{list_any}
use Rattle.std.specs.Str.{bytes_eq}
use Rattle.pg_tenant.specs.declared.settings.Rights.{Rights}
use Rattle.pg_tenant.specs.declared.settings.Rights.TheVariants.{Read, Write}

pub record TokenSettings : Type 0 where
  pub text : List ℕ
  pub rights : Rights

pub record TenantSettings : Type 0 where
  pub max_steps : ℕ
  pub max_elements : ℕ
  -- the rows of queries that may wait to be pulled
  pub max_held : ℕ
  pub tokens : List TokenSettings

abbrev pub token_texts : TenantSettings → List (List ℕ)
token_texts tenant = map (λ t. t.text) tenant.tokens

abbrev pub is_write : Rights → Bool
is_write Read = false
is_write Write = true

-- the token is one of the tenant's that may write
abbrev pub may_write : TenantSettings → (token : List ℕ) → Bool
may_write settings token = list_any (λ t. bytes_eq t.text token && is_write t.rights) settings.tokens

abbrev pub first_text : List TokenSettings → List ℕ
first_text [] = []
first_text (t ∷ ts) = t.text

-- the token that stands for the tenant itself: the first that may write, else the first, and no text where there is none
abbrev pub standing_token : TenantSettings → List ℕ
standing_token settings = first_text (filter (λ t. is_write t.rights) settings.tokens ++ settings.tokens)

abbrev pub no_settings : TenantSettings
no_settings = record { max_steps = 0; max_elements = 0; max_held = 0; tokens = [] }
