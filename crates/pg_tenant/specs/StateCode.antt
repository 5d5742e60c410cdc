-- A code by which proofs tell states apart.
use Rattle.std.specs.Prelude.{◌≡◌, ℕ, List, Option, Bool, true, false, refl}
use Rattle.std.proofs.Common.{ap}
use Rattle.std.specs.Coded.{Coded, code_by, coded×, coded_ℕ, coded_bool, coded_list, coded_option}
use Rattle.pg_meaning.specs.Graph.{Graph}
use Rattle.pg_meaning.specs.Plans.{Catalogue}
use Rattle.pg_pages.specs.Held.{Held}
use Rattle.pg_pages.specs.HeldCode.{held_code}
use Rattle.pg_store.specs.GraphCode.{graph_code}
use Rattle.pg_tenant.specs.Settings.{TenantSettings, TokenSettings, is_write}
use Rattle.pg_tenant.specs.State.{State, Transaction}
use Rattle.pg_tenant.specs.declared.settings.Rights.{Rights}
use Rattle.pg_tenant.specs.declared.settings.Rights.TheVariants.{Read, Write}

abbrev pub rights_of : Bool → Rights
rights_of true = Write
rights_of false = Read

abbrev pub rights_back : (r : Rights) → rights_of (is_write r) ≡ r
rights_back Read = refl
rights_back Write = refl

abbrev token_code : Coded TokenSettings
token_code =
    code_by (List ℕ × Bool) (coded× (coded_list coded_ℕ) coded_bool) (λ t. (t.text, is_write t.rights)) (λ p. record { text = p.0; rights = rights_of p.1 })
    (λ t. ap (λ r. let s : TokenSettings = record { text = t.text; rights = r } in s) (rights_back t.rights))

abbrev settings_code : Coded TenantSettings
settings_code =
    code_by (ℕ × (ℕ × (ℕ × List TokenSettings))) (coded× coded_ℕ (coded× coded_ℕ (coded× coded_ℕ (coded_list token_code))))
    (λ s. (s.max_steps, (s.max_elements, (s.max_held, s.tokens))))
    (λ p. record { max_steps = p.0; max_elements = p.1.0; max_held = p.1.1.0; tokens = p.1.1.1 }) (λ _. refl)

abbrev pub indexes_code : Coded Catalogue
indexes_code = coded_list (coded× (coded_list coded_ℕ) (coded_list coded_ℕ))

abbrev transaction_code : Coded Transaction
transaction_code = code_by (List ℕ × Graph) (coded× (coded_list coded_ℕ) graph_code) (λ t. (t.token, t.begun)) (λ p. record { token = p.0; begun = p.1 }) (λ _. refl)

abbrev pub state_code : Coded State
state_code =
    code_by (TenantSettings × (Graph × (Catalogue × (Option Transaction × Held))))
    (coded× settings_code (coded× graph_code (coded× indexes_code (coded× (coded_option transaction_code) held_code))))
    (λ s. (s.settings, (s.graph, (s.indexes, (s.transaction, s.held)))))
    (λ p. record { settings = p.0; graph = p.1.0; indexes = p.1.1.0; transaction = p.1.1.1.0; held = p.1.1.1.1 }) (λ _. refl)
