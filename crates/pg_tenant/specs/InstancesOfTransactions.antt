-- Small requests of transactions, and what a tenant answers them: some that the definitions let in, and some that they refuse.
use Rattle.std.specs.Prelude.{◌≡◌, ℕ, List, [], ◌∷◌, Option, Some, None, codes}
use Rattle.pg_json.specs.Refusals.{done_text}
use Rattle.pg_json.specs.Requests.{query, status, create_index, drop_index, begin, commit, rollback}
use Rattle.pg_meaning.specs.Graph.{Graph, empty_graph, add_node}
use Rattle.pg_meaning.specs.Value.{Entries, no_entries}
use Rattle.pg_meaning.specs.declared.fault.Fault.TheVariants.{ReadOnly, TenantBusy, NoTransaction, TransactionOpen}
use Rattle.pg_tenant.specs.InstancesOfTenants.{refused, token_with}
use Rattle.pg_tenant.specs.LookUps.{looked_up_key}
use Rattle.pg_tenant.specs.Settings.{TenantSettings}
use Rattle.pg_tenant.specs.Solo.{replies, solo}
use Rattle.pg_tenant.specs.State.{State, opening}
use Rattle.pg_tenant.specs.declared.settings.Rights.TheVariants.{Read, Write}

-- two tokens that may write, and one that may not
abbrev pub tenant : TenantSettings
tenant = record { max_steps = 3; max_elements = 2; max_held = 5; tokens = token_with Write (codes "w") ∷ token_with Write (codes "v") ∷ token_with Read (codes "a") ∷ [] }

abbrev pub idle : State
idle = opening tenant

abbrev pub one_node : Graph
one_node = add_node [] no_entries empty_graph

-- w has a transaction open, in which it made a node
abbrev pub mid : State
mid = record idle { graph = one_node; transaction = Some (record { token = codes "w"; begun = empty_graph }) }

abbrev pub InstancesOfTransactions : Type 0
InstancesOfTransactions =
    (solo idle (begin (codes "w")) ≡ replies done_text (record idle { transaction = Some (record { token = codes "w"; begun = empty_graph }) }))
    × (solo idle (begin (codes "a")) ≡ refused idle ReadOnly)
    × (solo idle (commit (codes "a")) ≡ refused idle ReadOnly)
    × (solo idle (rollback (codes "a")) ≡ refused idle ReadOnly)
    × (solo idle (commit (codes "w")) ≡ refused idle NoTransaction)
    × (solo idle (rollback (codes "w")) ≡ refused idle NoTransaction)
    × (solo mid (begin (codes "w")) ≡ refused mid TransactionOpen)
    × (solo mid (create_index (codes "w") (codes "P") (codes "k")) ≡ refused mid TransactionOpen)
    × (solo mid (drop_index (codes "w") (codes "P") (codes "k")) ≡ refused mid TransactionOpen)
    × (solo mid (commit (codes "w")) ≡ replies done_text (record idle { graph = one_node }))
    × (solo mid (rollback (codes "w")) ≡ replies done_text idle)

-- every request of another token waits, before any other test
abbrev pub InstancesOfWaiting : Type 0
InstancesOfWaiting =
    (solo mid (begin (codes "v")) ≡ refused mid TenantBusy)
    × (solo mid (begin (codes "a")) ≡ refused mid TenantBusy)
    × (solo mid (status (codes "a")) ≡ refused mid TenantBusy)
    × (solo mid (commit (codes "v")) ≡ refused mid TenantBusy)
    × (solo mid (rollback (codes "v")) ≡ refused mid TenantBusy)
    × (solo mid (create_index (codes "a") (codes "P") (codes "k")) ≡ refused mid TenantBusy)
    × ((text : List ℕ) (parameters : Entries) (page : Option ℕ) → solo mid (query (codes "v") text parameters page) ≡ refused mid TenantBusy)
    × ((text : List ℕ) (parameters : Entries) (page : Option ℕ) → looked_up_key mid (query (codes "v") text parameters page) ≡ None)
