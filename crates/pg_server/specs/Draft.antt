-- A configuration whose shape is right and whose numbers may be any.
use Rattle.std.specs.Prelude.{ℕ, ℤ, pos, List, [], ◌∷◌, Bool, false, bytes_eq, if◌then◌else◌, Option, Some, None, option_map, option_and_then, codes}
use Rattle.serde_json.specs.Data.{Data, Items, no_items, item, Members}
use Rattle.serde_json.specs.Find.{get, as_number, as_i64, as_str, as_array, as_object}
use Rattle.pg_json.specs.Requests.{has_only, if_any}
use Rattle.pg_tenant.specs.Settings.{TokenSettings}
use Rattle.pg_tenant.specs.declared.settings.Rights.{Rights}
use Rattle.pg_tenant.specs.declared.settings.Rights.TheVariants.{Read, Write}

pub record TenantDraft : Type 0 where
  pub max_steps : ℤ
  pub max_elements : ℤ
  pub max_held : ℤ
  pub tokens : List TokenSettings

pub record Draft : Type 0 where
  pub cache : ℤ
  pub tenants : List TenantDraft
  pub names : List (List ℕ)

-- an object with no other keys than these
abbrev pub is_object_of : List (List ℕ) → Option Members → Bool
is_object_of names None = false
is_object_of names (Some ms) = has_only names ms

-- what an object with no other keys gives
abbrev pub with_only : {A : Type 0} → List (List ℕ) → Data → Option A → Option A
with_only names d found = if is_object_of names (as_object d) then found else None

abbrev pub text_at : List ℕ → Data → Option (List ℕ)
text_at key d = option_and_then as_str (get key d)

-- a whole number of 64 bits
abbrev pub number_at : List ℕ → Data → Option ℤ
number_at key d = option_and_then as_i64 (option_and_then as_number (get key d))

-- such a number, and zero where the key is missing
abbrev pub number_or_zero : Option Data → Option ℤ
number_or_zero None = Some (pos 0)
number_or_zero (Some d) = option_and_then as_i64 (as_number d)

abbrev pub list_at : List ℕ → Data → Option Items
list_at key d = option_and_then as_array (get key d)

-- each item, or none where some item is none
abbrev pub each : {A : Type 0} → (Data → Option A) → Items → Option (List A)
each f no_items = Some []
each f (item d ds) = option_and_then (λ x. option_map (λ xs. x ∷ xs) (each f ds)) (f d)

abbrev pub rights_of : List ℕ → Option Rights
rights_of text = if bytes_eq text (codes "read") then Some Read else (if bytes_eq text (codes "write") then Some Write else None)

abbrev pub token_keys : List (List ℕ)
token_keys = codes "token" ∷ codes "rights" ∷ []

abbrev pub token_of : Data → Option TokenSettings
token_of d =
    with_only token_keys d
    (option_and_then (λ text. option_map (λ rights. record { text = text; rights = rights }) (option_and_then rights_of (text_at (codes "rights") d)))
    (option_and_then if_any (text_at (codes "token") d)))

abbrev pub tenant_keys : List (List ℕ)
tenant_keys = codes "name" ∷ codes "max_steps" ∷ codes "max_elements" ∷ codes "max_held" ∷ codes "tokens" ∷ []

abbrev pub name_of : Data → Option (List ℕ)
name_of d = text_at (codes "name") d

-- the name is a text
abbrev pub tenant_of : Data → Option TenantDraft
tenant_of d =
    with_only tenant_keys d
    (option_and_then (λ _. option_and_then (λ steps. option_and_then (λ elements. option_and_then (λ held.
    option_map (λ tokens. record { max_steps = steps; max_elements = elements; max_held = held; tokens = tokens })
    (option_and_then (each token_of) (list_at (codes "tokens") d)))
    (number_or_zero (get (codes "max_held") d))) (number_at (codes "max_elements") d)) (number_at (codes "max_steps") d)) (name_of d))

abbrev pub config_keys : List (List ℕ)
config_keys = codes "cache" ∷ codes "tenants" ∷ []

abbrev pub draft_of : Data → Option Draft
draft_of d =
    with_only config_keys d
    (option_and_then (λ cache. option_and_then (λ tenants. option_map (λ names. record { cache = cache; tenants = tenants; names = names })
    (option_and_then (each name_of) (list_at (codes "tenants") d)))
    (option_and_then (each tenant_of) (list_at (codes "tenants") d)))
    (number_at (codes "cache") d))
