-- The instances of configurations as JSON.
use Rattle.std.proofs.Common.{◌≡◌, ℕ, List, Bool, true, false, cond, Option, Some, None, refl, ap, ◌∙◌}
use Rattle.std.specs.Prelude.{Result}
use Rattle.std.specs.Str.{is_utf8}
use Rattle.serde_json.specs.Data.{Data}
use Rattle.serde_json.specs.Read.{read}
use Rattle.pg_server.specs.Configuration.{configuration, within, max_tenants, or_fault, then_read, settings_of_data}
use Rattle.pg_server.specs.InstancesOfConfigurations.{ShapesAreTested, FaultsAreInOrder}
use Rattle.pg_server.specs.Settings.{Settings}
use Rattle.pg_server.specs.declared.config_fault.ConfigFault.{ConfigFault}
use Rattle.pg_server.specs.declared.config_fault.ConfigFault.TheVariants.{NotJson}

pub shapes_are_tested : ShapesAreTested
shapes_are_tested = (refl, refl, refl, refl, refl, refl, refl, refl, refl, refl, refl, refl, refl, refl, refl, refl)

-- what is made of the value that a text is, if it is one
abbrev of_json : Option Data → Result Settings ConfigFault
of_json found = then_read (or_fault NotJson found) settings_of_data

of_text : (bytes : List ℕ) (b : Bool) → is_utf8 bytes ≡ b → configuration bytes ≡ of_json (cond b (read bytes) None)
of_text bytes b is = ap (λ c. of_json (cond c (read bytes) None)) is

pub faults_are_in_order : FaultsAreInOrder
faults_are_in_order = (
  refl,
  refl,
  refl,
  refl,
  refl,
  (λ bytes other. of_text bytes false other),
  (λ bytes text none. of_text bytes true text ∙ ap of_json none),
  (λ bytes text nothing. of_text bytes true text ∙ ap of_json nothing),
  (λ tenants many. ap (λ n. cond (within 1 max_tenants n) (Some tenants) None) many),
  (λ tenants many. ap (λ n. cond (within 1 max_tenants n) (Some tenants) None) many),
)
