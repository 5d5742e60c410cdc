-- A code by which proofs tell servers apart.
use Rattle.std.specs.Prelude.{ℕ, List, refl}
use Rattle.std.specs.Coded.{Coded, code_by, coded×, coded_ℕ, coded_list}
use Rattle.pg_cache.specs.Cache.{CacheSeen}
use Rattle.pg_meaning.specs.Plans.{Catalogue}
use Rattle.pg_server.specs.State.{ServerState, ServerSeen}
use Rattle.pg_tenant.specs.State.{State}
use Rattle.pg_tenant.specs.StateCode.{indexes_code, state_code}

abbrev cache_code : Coded CacheSeen
cache_code =
    code_by (ℕ × (List (List ℕ × Catalogue) × (ℕ × ℕ))) (coded× coded_ℕ (coded× (coded_list (coded× (coded_list coded_ℕ) indexes_code)) (coded× coded_ℕ coded_ℕ)))
    (λ c. (c.capacity, (c.keys, (c.hits, c.misses)))) (λ p. record { capacity = p.0; keys = p.1.0; hits = p.1.1.0; misses = p.1.1.1 }) (λ _. refl)

abbrev server_state_code : Coded ServerState
server_state_code =
    code_by (CacheSeen × (List (List ℕ) × List State)) (coded× cache_code (coded× (coded_list (coded_list coded_ℕ)) (coded_list state_code))) (λ s. (s.cache, (s.names, s.tenants)))
    (λ p. record { cache = p.0; names = p.1.0; tenants = p.1.1 }) (λ _. refl)

abbrev pub server_code : {X : Type 0} → Coded X → Coded (ServerSeen X)
server_code {X} tables_code = code_by (ServerState × X) (coded× server_state_code tables_code) (λ s. (s.state, s.tables)) (λ p. record { state = p.0; tables = p.1 }) (λ _. refl)
