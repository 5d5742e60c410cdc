-- The configuration that the bytes of a file mean, or the first fault in them.
use Rattle.std.specs.Prelude.{◌≡◌, false, ℕ, ℤ, pos, negsuc, List, [], ◌∷◌, Bool, nat_le, ◌&&◌, length, if◌then◌else◌, Option, Some, None, option_map, option_and_then, Result, Ok, Err}
use Rattle.std.specs.Str.{is_utf8}
use Rattle.serde_json.specs.Data.{Data}
use Rattle.serde_json.specs.Read.{read}
use Rattle.pg_server.specs.declared.config_fault.ConfigFault.{ConfigFault}
use Rattle.pg_server.specs.declared.config_fault.ConfigFault.TheVariants.{NotJson, WrongShape, OutOfRange, TokenTwice}
use Rattle.pg_server.specs.Settings.{Settings, max_quota, all_tokens}
use Rattle.pg_tenant.specs.Settings.{TenantSettings}
use Rattle.pg_value.specs.Texts.{has_duplicate}
use Rattle.pg_server.specs.Draft.{Draft, TenantDraft, draft_of}

abbrev pub within : ℕ → ℕ → ℕ → Bool
within least most n = nat_le least n && nat_le n most

-- the number, from the least to the greatest
abbrev pub in_range : ℕ → ℕ → ℤ → Option ℕ
in_range least most (pos n) = if within least most n then Some n else None
in_range least most (negsuc n) = None

abbrev pub max_cache : ℕ
max_cache = 65536

abbrev pub max_tenants : ℕ
max_tenants = 4096

abbrev pub tenant_in_range : TenantDraft → Option TenantSettings
tenant_in_range t =
    option_and_then (λ steps. option_and_then (λ elements.
    option_map (λ held. record { max_steps = steps; max_elements = elements; max_held = held; tokens = t.tokens })
    (in_range 0 max_quota t.max_held)) (in_range 0 max_quota t.max_elements)) (in_range 0 max_quota t.max_steps)

abbrev pub tenants_in_range : List TenantDraft → Option (List TenantSettings)
tenants_in_range [] = Some []
tenants_in_range (t ∷ ts) = option_and_then (λ s. option_map (λ ss. s ∷ ss) (tenants_in_range ts)) (tenant_in_range t)

-- as many tenants as there may be
abbrev pub if_countable : List TenantDraft → Option (List TenantDraft)
if_countable ts = if within 1 max_tenants (length ts) then Some ts else None

abbrev pub settings_in_range : Draft → Option Settings
settings_in_range d =
    option_and_then (λ cache. option_map (λ tenants. record { cache = cache; tenants = tenants; names = d.names }) (option_and_then tenants_in_range (if_countable d.tenants)))
    (in_range 1 max_cache d.cache)

abbrev pub has_token_twice : Settings → Bool
has_token_twice s = has_duplicate [] (all_tokens s.tenants)

abbrev pub HasTokensOnce : List TenantSettings → Type 0
HasTokensOnce tenants = has_duplicate [] (all_tokens tenants) ≡ false

-- ---- the faults, one after the other over the whole file

abbrev pub or_fault : {A : Type 0} → ConfigFault → Option A → Result A ConfigFault
or_fault fault None = Err fault
or_fault fault (Some a) = Ok a

abbrev pub then_read : {A B : Type 0} → Result A ConfigFault → (A → Result B ConfigFault) → Result B ConfigFault
then_read (Err fault) f = Err fault
then_read (Ok a) f = f a

abbrev pub json_of : List ℕ → Option Data
json_of bytes = if is_utf8 bytes then read bytes else None

abbrev pub with_tokens_once : Settings → Result Settings ConfigFault
with_tokens_once s = if has_token_twice s then Err TokenTwice else Ok s

abbrev pub settings_of_draft : Draft → Result Settings ConfigFault
settings_of_draft d = then_read (or_fault OutOfRange (settings_in_range d)) with_tokens_once

abbrev pub settings_of_data : Data → Result Settings ConfigFault
settings_of_data d = then_read (or_fault WrongShape (draft_of d)) settings_of_draft

abbrev pub configuration : List ℕ → Result Settings ConfigFault
configuration bytes = then_read (or_fault NotJson (json_of bytes)) settings_of_data
