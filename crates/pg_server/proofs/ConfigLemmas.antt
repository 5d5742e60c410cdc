-- What the bytes of a configuration mean, once it is known whether they are UTF-8 and JSON.
use Rattle.std.proofs.Common.{◌≡◌, ℕ, suc, List, [], ◌∷◌, length, Bool, true, false, Option, Some, None, Err, cond, option_map, refl, sym, ap, ◌∙◌}
use Rattle.std.specs.Prelude.{option_and_then}
use Rattle.std.specs.Str.{IsUtf8, is_utf8}
use Rattle.std.proofs.lemmas.Str.{is_utf8-from_IsUtf8, IsUtf8-from_is_utf8}
use Rattle.serde_json.specs.Data.{Data}
use Rattle.serde_json.specs.Read.{read}
use Rattle.pg_server.specs.declared.config_fault.ConfigFault.TheVariants.{NotJson}
use Rattle.pg_server.specs.Configuration.{configuration, json_of, then_read, or_fault, settings_of_data, tenant_in_range, tenants_in_range}
use Rattle.pg_server.specs.Draft.{TenantDraft}
use Rattle.pg_tenant.specs.Settings.{TenantSettings}

none_unless : {A : Type 0} (b : Bool) (o : Option A) → (b ≡ true → ⊥) → cond b o None ≡ None
none_unless true o h = absurd (h refl)
none_unless false o h = refl

json-utf8 : (bytes : List ℕ) → IsUtf8 bytes → json_of bytes ≡ read bytes
json-utf8 bytes h = rw (is_utf8-from_IsUtf8 bytes h)

pub configuration-not_utf8 : (bytes : List ℕ) → ¬ (IsUtf8 bytes) → configuration bytes ≡ Err NotJson
configuration-not_utf8 bytes h = ap (λ j. then_read (or_fault NotJson j) settings_of_data) (none_unless (is_utf8 bytes) _ (λ e. h (IsUtf8-from_is_utf8 bytes e)))

pub configuration-json : (bytes : List ℕ) (d : Data) → IsUtf8 bytes → read bytes ≡ Some d → configuration bytes ≡ settings_of_data d
configuration-json bytes d h found = ap (λ j. then_read (or_fault NotJson j) settings_of_data) (json-utf8 bytes h ∙ found)

-- each tenant of the settings is one of the draft
pub as_many : (drafts : List TenantDraft) (tenants : List TenantSettings) → tenants_in_range drafts ≡ Some tenants → length tenants ≡ length drafts
as_many [] tenants is = let same : [] ≡ tenants = cc in ap length (sym same)
as_many (d ∷ ds) tenants is = by_first (tenant_in_range d) (tenants_in_range ds) tenants (as_many ds) is
  where
    by_first : (first : Option TenantSettings) (rest : Option (List TenantSettings)) (found : List TenantSettings) → ((more : List TenantSettings) → rest ≡ Some more → length more ≡ length ds)
        → option_and_then (λ s. option_map (λ ss. s ∷ ss) rest) first ≡ Some found → length found ≡ suc (length ds)
    by_first None rest found h is = cc
    by_first (Some s) None found h is = cc
    by_first (Some s) (Some more) found h is = let same : s ∷ more ≡ found = cc in ap length (sym same) ∙ ap suc (h more refl)
