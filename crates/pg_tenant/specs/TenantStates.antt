-- A tenant's state over the live graph whose place at work is its own.
use Rattle.std.specs.Prelude.{ℕ, List, [], Option, None, option_map, slice_index_or}
use Rattle.pg_live.specs.Live.{Begun, Live, open_at}
use Rattle.pg_meaning.specs.Graph.{Graph, empty_graph}
use Rattle.pg_tenant.specs.Indexes.{indexes_of}
use Rattle.pg_tenant.specs.Settings.{TenantSettings, token_texts}
use Rattle.pg_tenant.specs.State.{State, Transaction}
use Rattle.pg_tenant.specs.declared.tenant.Tenant.{Tenant}

-- the text of the token at this place
abbrev pub token_at : TenantSettings → (holder : ℕ) → List ℕ
token_at settings holder = slice_index_or (token_texts settings) holder []

-- the holder of what was begun is the place of a token
abbrev pub transaction_of : TenantSettings → Option Begun → Option Transaction
transaction_of settings begun = option_map (λ b. record { token = token_at settings b.holder; begun = b.graph }) begun

abbrev pub state_of : Tenant → Graph → Option Begun → State
state_of tenant graph begun = record {
  settings = tenant.settings;
  graph = graph;
  indexes = indexes_of tenant.indexes;
  transaction = transaction_of tenant.settings begun;
  held = tenant.pages;
}

-- of a tenant with the empty graph
abbrev pub opening_state : Tenant → State
opening_state tenant = state_of tenant empty_graph None

abbrev pub state_over : {X : Type 0} → Tenant → Live X → State
state_over tenant live = state_of tenant live.graph (open_at live.aside)
