-- Small runs and configurations: some that the definitions let in, and some that they refuse.
use Rattle.std.specs.Prelude.{◌≡◌, ℕ, ℤ, pos, negsuc, ◌⊎◌, List, [], ◌∷◌, Some, Ok, Err, codes}
use Rattle.pg_json.specs.Refusals.{refusal_text}
use Rattle.pg_json.specs.Requests.{status}
use Rattle.pg_meaning.specs.declared.fault.Fault.TheVariants.{OutOfMemory}
use Rattle.pg_server.specs.Configuration.{settings_of_draft}
use Rattle.pg_server.specs.Draft.{Draft}
use Rattle.pg_server.specs.Exchange.{Exchange}
use Rattle.pg_server.specs.Runs.{Runs, asked}
use Rattle.pg_server.specs.Settings.{Settings}
use Rattle.pg_server.specs.State.{ServerState, opening_server}
use Rattle.pg_server.specs.declared.config_fault.ConfigFault.TheVariants.{OutOfRange, TokenTwice}
use Rattle.pg_tenant.specs.Answers.{limited}
use Rattle.pg_tenant.specs.Settings.{TenantSettings, TokenSettings}
use Rattle.pg_tenant.specs.Solo.{status_text}
use Rattle.pg_tenant.specs.State.{opening}
use Rattle.pg_tenant.specs.Step.{reply_of}
use Rattle.pg_tenant.specs.declared.settings.Rights.TheVariants.{Read}

abbrev pub token : List ℕ → TokenSettings
token text = record { text = text; rights = Read }

abbrev pub reader : TenantSettings
reader = record { max_steps = 3; max_elements = 2; max_held = 5; tokens = token (codes "a") ∷ [] }

abbrev pub one_reader : ServerState
one_reader = opening_server (record { cache = 1; tenants = reader ∷ []; names = codes "A" ∷ [] })

abbrev pub told : List ℕ → List ℕ → List Exchange
told body reply = record { body = body; reply = reply } ∷ []

-- without exchanges a server may stay, and its tenants do
abbrev pub EmptyRuns : Type 0
EmptyRuns = (old new : ServerState) → (new ≡ old → Runs old [] new) × (Runs old [] new → new.tenants ≡ old.tenants)

-- a request for the status is answered by it or by want of memory, and by no other text
abbrev pub StatusRuns : Type 0
StatusRuns =
    (body reply : List ℕ) (new : ServerState) → asked body ≡ Some (status (codes "a")) → Runs one_reader (told body reply) new
    → (reply ≡ reply_of (limited (status_text (opening reader)))) ⊎ (reply ≡ refusal_text OutOfMemory)

-- one tenant's, which may hold so many rows
abbrev pub holding : ℤ → ℤ → ℤ → ℤ → List TokenSettings → Draft
holding cache steps elements held tokens =
    record { cache = cache; tenants = record { max_steps = steps; max_elements = elements; max_held = held; tokens = tokens } ∷ []; names = codes "A" ∷ [] }

abbrev pub draft : ℤ → ℤ → ℤ → List TokenSettings → Draft
draft cache steps elements tokens = holding cache steps elements (pos 0) tokens

abbrev pub settings_holding : ℕ → ℕ → ℕ → ℕ → List TokenSettings → Settings
settings_holding cache steps elements held tokens =
    record { cache = cache; tenants = record { max_steps = steps; max_elements = elements; max_held = held; tokens = tokens } ∷ []; names = codes "A" ∷ [] }

abbrev pub settings : ℕ → ℕ → ℕ → List TokenSettings → Settings
settings cache steps elements tokens = settings_holding cache steps elements 0 tokens

abbrev pub ConfigurationsAreTested : Type 0
ConfigurationsAreTested =
    (settings_of_draft (draft (pos 1) (pos 0) (pos 0) []) ≡ Ok (settings 1 0 0 []))
    × (settings_of_draft (draft (pos 65536) (pos 1000000000) (pos 1000000000) (token (codes "a") ∷ token (codes "b") ∷ [])) ≡ Ok (settings 65536 1000000000 1000000000 (token (codes "a") ∷ token (codes "b") ∷ [])))
    × (settings_of_draft (draft (pos 0) (pos 0) (pos 0) []) ≡ Err OutOfRange)
    × (settings_of_draft (draft (pos 65537) (pos 0) (pos 0) []) ≡ Err OutOfRange)
    × (settings_of_draft (draft (pos 1) (negsuc 0) (pos 0) []) ≡ Err OutOfRange)
    × (settings_of_draft (draft (pos 1) (pos 0) (pos 1000000001) []) ≡ Err OutOfRange)
    × (settings_of_draft (holding (pos 1) (pos 0) (pos 0) (pos 1000000000) []) ≡ Ok (settings_holding 1 0 0 1000000000 []))
    × (settings_of_draft (holding (pos 1) (pos 0) (pos 0) (pos 1000000001) []) ≡ Err OutOfRange)
    × (settings_of_draft (holding (pos 1) (pos 0) (pos 0) (negsuc 0) []) ≡ Err OutOfRange)
    × (settings_of_draft (record { cache = pos 1; tenants = []; names = [] }) ≡ Err OutOfRange)
    × (settings_of_draft (draft (pos 1) (pos 0) (pos 0) (token (codes "a") ∷ token (codes "a") ∷ [])) ≡ Err TokenTwice)
    × (settings_of_draft (draft (pos 0) (pos 0) (pos 0) (token (codes "a") ∷ token (codes "a") ∷ [])) ≡ Err OutOfRange)
