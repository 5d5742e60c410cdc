-- What a tenant is to its callers.
use Rattle.std.specs.Prelude.{ℕ, List, [], Bool, Option, None, is_some}
use Rattle.pg_meaning.specs.Graph.{Graph, empty_graph}
use Rattle.pg_meaning.specs.Plans.{Catalogue}
use Rattle.pg_pages.specs.Held.{Held, no_pages}
use Rattle.pg_tenant.specs.Settings.{TenantSettings, no_settings, token_texts}

-- the token that began it, and the graph of its begin, counters too
pub record Transaction : Type 0 where
  pub token : List ℕ
  pub begun : Graph

-- the indexes are pairs of a label and a key, each once, in the order of their bytes
pub record State : Type 0 where
  pub settings : TenantSettings
  pub graph : Graph
  pub indexes : Catalogue
  pub transaction : Option Transaction
  -- rows that wait to be pulled
  pub held : Held

-- the state that a tenant begins with
abbrev pub opening : TenantSettings → State
opening settings = record { settings = settings; graph = empty_graph; indexes = []; transaction = None; held = no_pages }

-- what stands where there is no tenant: no token
abbrev pub no_state : State
no_state = opening no_settings

abbrev pub tokens_of : State → List (List ℕ)
tokens_of state = token_texts state.settings

abbrev pub is_open : State → Bool
is_open s = is_some s.transaction
