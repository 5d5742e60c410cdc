-- Small configurations as JSON: some that are read, and some with faults.
use Rattle.std.specs.Prelude.{◌≡◌, ℕ, pos, negsuc, true, false, List, [], ◌∷◌, length, Some, None, Ok, Err, codes}
use Rattle.std.specs.Str.{is_utf8}
use Rattle.serde_json.specs.Data.{Data, null, number, negative, string, array, object, Items, no_items, item, Members, no_members, member}
use Rattle.serde_json.specs.Read.{read}
use Rattle.pg_json.specs.Replies.{natural}
use Rattle.pg_server.specs.Configuration.{configuration, settings_of_data, settings_of_draft, if_countable}
use Rattle.pg_server.specs.Draft.{TenantDraft, draft_of}
use Rattle.pg_server.specs.InstancesOfRuns.{token, draft, holding, settings}
use Rattle.pg_server.specs.declared.config_fault.ConfigFault.TheVariants.{NotJson, WrongShape, OutOfRange, TokenTwice}
use Rattle.pg_tenant.specs.declared.settings.Rights.TheVariants.{Write}

abbrev pub one : Data → Items
one d = item d no_items

abbrev pub token_data : (text rights : List ℕ) → Data
token_data text rights = object (member (codes "token") (string text) (member (codes "rights") (string rights) no_members))

-- with some members more
abbrev pub tenant_data_with : Members → (steps : Data) → (tokens : Items) → Data
tenant_data_with more steps tokens =
    object (member (codes "name") (string (codes "A")) (member (codes "max_steps") steps (member (codes "max_elements") (natural 0) (member (codes "tokens") (array tokens) more))))

abbrev pub tenant_data : (steps : Data) → (tokens : Items) → Data
tenant_data steps tokens = tenant_data_with no_members steps tokens

-- with some members more
abbrev pub config_data : (cache : Data) → (tenants : Items) → Members → Data
config_data cache tenants more = object (member (codes "cache") cache (member (codes "tenants") (array tenants) more))

-- one tenant with one token
abbrev pub with_token : (text rights : List ℕ) → Data
with_token text rights = config_data (natural 1) (one (tenant_data (natural 3) (one (token_data text rights)))) no_members

abbrev pub with_numbers : (cache steps : Data) → Data
with_numbers cache steps = config_data cache (one (tenant_data steps no_items)) no_members

-- what a tenant may hold
abbrev pub with_held : (held : Data) → Data
with_held held = config_data (natural 1) (one (tenant_data_with (member (codes "max_held") held no_members) (natural 3) no_items)) no_members

abbrev pub ShapesAreTested : Type 0
ShapesAreTested =
    (draft_of (with_token (codes "a") (codes "read")) ≡ Some (draft (pos 1) (pos 3) (pos 0) (token (codes "a") ∷ [])))
    × (draft_of (with_token (codes "a") (codes "write")) ≡ Some (draft (pos 1) (pos 3) (pos 0) (record { text = codes "a"; rights = Write } ∷ [])))
    × (draft_of (with_token (codes "a") (codes "Read")) ≡ None)
    × (draft_of (with_token [] (codes "read")) ≡ None)
    × (draft_of (with_numbers (number (negative (negsuc 0))) (natural 3)) ≡ Some (draft (negsuc 0) (pos 3) (pos 0) []))
    × (draft_of (with_numbers (natural 1) (natural 9223372036854775807)) ≡ Some (draft (pos 1) (pos 9223372036854775807) (pos 0) []))
    × (draft_of (with_numbers (natural 1) (natural 9223372036854775808)) ≡ None)
    × (draft_of (with_numbers (natural 1) (string (codes "3"))) ≡ None)
    × (draft_of (with_numbers null (natural 3)) ≡ None)
    × (draft_of (with_held (natural 7)) ≡ Some (holding (pos 1) (pos 3) (pos 0) (pos 7) []))
    × (draft_of (with_held (number (negative (negsuc 0)))) ≡ Some (holding (pos 1) (pos 3) (pos 0) (negsuc 0) []))
    × (draft_of (with_held null) ≡ None)
    × (draft_of (with_held (string (codes "7"))) ≡ None)
    × (draft_of (config_data (natural 1) no_items (member (codes "more") null no_members)) ≡ None)
    × (draft_of (object (member (codes "cache") (natural 1) no_members)) ≡ None)
    × (draft_of (array no_items) ≡ None)

-- each kind of fault over the whole file before the next kind
abbrev pub FaultsAreInOrder : Type 0
FaultsAreInOrder =
    (settings_of_data (config_data (natural 0) (item (tenant_data (natural 3) no_items) (one (tenant_data null no_items))) no_members) ≡ Err WrongShape)
    × (settings_of_data (with_numbers (natural 0) (natural 3)) ≡ Err OutOfRange)
    × (settings_of_data (with_numbers (natural 1) (natural 1000000001)) ≡ Err OutOfRange)
    × (settings_of_data (with_numbers (natural 1) (natural 1000000000)) ≡ Ok (settings 1 1000000000 0 []))
    × (settings_of_draft (record { cache = pos 1; tenants = record { max_steps = pos 0; max_elements = pos 0; max_held = pos 0; tokens = token (codes "a") ∷ [] } ∷ record { max_steps = pos 0; max_elements = pos 0; max_held = pos 0; tokens = token (codes "a") ∷ [] } ∷ []; names = codes "A" ∷ codes "B" ∷ [] }) ≡ Err TokenTwice)
    × ((bytes : List ℕ) → is_utf8 bytes ≡ false → configuration bytes ≡ Err NotJson)
    × ((bytes : List ℕ) → is_utf8 bytes ≡ true → read bytes ≡ None → configuration bytes ≡ Err NotJson)
    × ((bytes : List ℕ) → is_utf8 bytes ≡ true → read bytes ≡ Some null → configuration bytes ≡ Err WrongShape)
    × ((tenants : List TenantDraft) → length tenants ≡ 4096 → if_countable tenants ≡ Some tenants)
    × ((tenants : List TenantDraft) → length tenants ≡ 4097 → if_countable tenants ≡ None)
