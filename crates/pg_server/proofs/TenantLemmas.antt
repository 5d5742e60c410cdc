-- Tenants beside the graphs of their places, and beside what was begun there.
use Rattle.std.proofs.Common.{◌≡◌, ℕ, zero, suc, ◌<◌, ◌≤◌, List, [], ◌∷◌, length, get_or, set, map, drop, Option, Some, None, false, arith, refl, sym, ap, ap₂, subst, ◌∙◌}
use Rattle.std.specs.Prelude.{position, replicate, option_map, is_some, IfSome}
use Rattle.std.proofs.Math.Seq.{map-set_same}
use Rattle.std.proofs.lemmas.List.{get_or-map, get_or_past, length-map, length-set}
use Rattle.pg_json.specs.Requests.{Request, rollback}
use Rattle.pg_live.proofs.OpenLemmas.{one_at}
use Rattle.pg_live.specs.Live.{Begun}
use Rattle.pg_meaning.specs.Graph.{Graph, IsGraph, empty_graph}
use Rattle.pg_meaning.specs.GraphLaws.{empty_is_graph}
use Rattle.pg_meaning.specs.Names.{is_among}
use Rattle.pg_meaning.specs.Plans.{Catalogue}
use Rattle.pg_names.proofs.Interned.{position_map}
use Rattle.pg_server.proofs.RunLemmas.{settings_at}
use Rattle.pg_server.specs.Settings.{all_tokens}
use Rattle.pg_server.specs.State.{state_in}
use Rattle.pg_server.specs.Tenants.{states_of, AllList, AreTenants}
use Rattle.pg_server.specs.Tokens.{TellsTenants, tenant_of}
use Rattle.pg_server.specs.Transactions.{RollsBack}
use Rattle.pg_server.specs.declared.tokens.TokenPlaces.{TokenPlaces}
use Rattle.pg_tenant.proofs.ListedLemmas.{nothing_listed}
use Rattle.pg_tenant.specs.Indexes.{indexes_of}
use Rattle.pg_tenant.specs.Listed.{AreListed}
use Rattle.pg_tenant.specs.Settings.{TenantSettings, no_settings, token_texts}
use Rattle.pg_tenant.specs.State.{State, is_open, no_state, opening, tokens_of}
use Rattle.pg_tenant.specs.TenantStates.{opening_state, state_of, token_at, transaction_of}
use Rattle.pg_tenant.specs.declared.tenant.Tenant.{Tenant}
use Rattle.pg_value.specs.Texts.{has_duplicate}

-- a list of what stands at each place: graphs, or what was begun
module _ {X : Type 0} where
  rest : (xs : List X) (k : ℕ) (d : X) → get_or (drop 1 xs) k d ≡ get_or xs (suc k) d
  rest [] k d = refl
  rest (x ∷ xs) k d = refl

pub length_states : (tenants : List Tenant) (graphs : List Graph) (begins : List (Option Begun)) → length (states_of tenants graphs begins) ≡ length tenants
length_states [] graphs begins = refl
length_states (t ∷ ts) graphs begins = ap suc (length_states ts (drop 1 graphs) (drop 1 begins))

-- a place among the states is one among the tenants
pub is_tenant : (tenants : List Tenant) (graphs : List Graph) (begins : List (Option Begun)) (states : List State) (place : ℕ) → states_of tenants graphs begins ≡ states → place < length states → place < length tenants
is_tenant tenants graphs begins states place same lt = subst (λ n. place < n) (ap length (sym same) ∙ length_states tenants graphs begins) lt

state_there : (tenants : List Tenant) (graphs : List Graph) (begins : List (Option Begun)) (k : ℕ) (d : Tenant) → k < length tenants
    → state_of (get_or tenants k d) (get_or graphs k empty_graph) (get_or begins k None) ≡ state_in (states_of tenants graphs begins) k
state_there [] graphs begins k d lt = absurd (omega arith)
state_there (t ∷ ts) graphs begins zero d lt = refl
state_there (t ∷ ts) graphs begins (suc k) d lt =
    sym (ap₂ (state_of (get_or ts k d)) (rest graphs k empty_graph) (rest begins k None)) ∙ state_there ts (drop 1 graphs) (drop 1 begins) k d (omega arith)

-- the state of the tenant at a place
pub state_found : (tenants : List Tenant) (graphs : List Graph) (begins : List (Option Begun)) (k : ℕ) (was : Tenant) → k < length tenants → was ≡ get_or tenants k was
    → state_of was (get_or graphs k empty_graph) (get_or begins k None) ≡ state_in (states_of tenants graphs begins) k
state_found tenants graphs begins k was lt at = ap (λ t. state_of t (get_or graphs k empty_graph) (get_or begins k None)) at ∙ state_there tenants graphs begins k was lt

-- where there is no tenant
pub state_past : (tenants : List Tenant) (graphs : List Graph) (begins : List (Option Begun)) (k : ℕ) → length tenants ≤ k → state_in (states_of tenants graphs begins) k ≡ no_state
state_past tenants graphs begins k past = get_or_past (states_of tenants graphs begins) k no_state (subst (λ n. n ≤ k) (sym (length_states tenants graphs begins)) past)

-- the graph of the tenant at a place
pub graph_found : (tenants : List Tenant) (graphs : List Graph) (begins : List (Option Begun)) (k : ℕ) → k < length tenants → get_or graphs k empty_graph ≡ (state_in (states_of tenants graphs begins) k).graph
graph_found [] graphs begins k lt = absurd (omega arith)
graph_found (t ∷ ts) graphs begins k lt = ap (λ (s : State). s.graph) (state_there (t ∷ ts) graphs begins k t lt)

-- what holds of the graph that was begun with at a place holds of that of the tenant's transaction
with_token : (P : Graph → Type 0) (settings : TenantSettings) (begun : Option Begun) → IfSome begun (λ b. P b.graph) → IfSome (transaction_of settings begun) (λ t. P t.begun)
with_token P settings None h = h
with_token P settings (Some b) h = h

pub begun_found : (P : Graph → Type 0) (tenants : List Tenant) (graphs : List Graph) (begins : List (Option Begun)) (k : ℕ) → k < length tenants → IfSome (get_or begins k None) (λ b. P b.graph)
    → IfSome (state_in (states_of tenants graphs begins) k).transaction (λ t. P t.begun)
begun_found P [] graphs begins k lt h = absurd (omega arith)
begun_found P (t ∷ ts) graphs begins k lt h =
    subst (λ (s : State). IfSome s.transaction (λ t. P t.begun)) (state_there (t ∷ ts) graphs begins k t lt) (with_token P (get_or (t ∷ ts) k t).settings (get_or begins k None) h)

-- what holds of the list of indexes of the tenant at a place
pub list_found : (P : Catalogue → Type 0) (tenants : List Tenant) (graphs : List Graph) (begins : List (Option Begun)) (k : ℕ) → k < length tenants → ((d : Tenant) → P (indexes_of (get_or tenants k d).indexes))
    → P (state_in (states_of tenants graphs begins) k).indexes
list_found P [] graphs begins k lt h = absurd (omega arith)
list_found P (t ∷ ts) graphs begins k lt h = subst (λ (s : State). P s.indexes) (state_there (t ∷ ts) graphs begins k t lt) (h t)

-- whether a transaction is open at a place
alike : (settings : TenantSettings) (begun : Option Begun) → is_some (option_map (λ (b : Begun). b.holder) begun) ≡ is_some (transaction_of settings begun)
alike settings None = refl
alike settings (Some b) = refl

pub open_seen : (tenants : List Tenant) (graphs : List Graph) (begins : List (Option Begun)) (k : ℕ) → length begins ≡ length tenants
    → is_some (option_map (λ (b : Begun). b.holder) (get_or begins k None)) ≡ is_open (state_in (states_of tenants graphs begins) k)
open_seen [] graphs [] k each = refl
open_seen [] graphs (b ∷ bs) k each = absurd (omega (arith, each))
open_seen (t ∷ ts) graphs [] k each = absurd (omega (arith, each))
open_seen (t ∷ ts) graphs (b ∷ bs) zero each = alike t.settings b
open_seen (t ∷ ts) graphs (b ∷ bs) (suc k) each = open_seen ts (drop 1 graphs) bs k (omega (arith, each))

-- a request that shows the token of the transaction that is open there
pub rolls_back : (tenants : List Tenant) (graphs : List Graph) (begins : List (Option Begun)) (k : ℕ) (was : Tenant) (holder : ℕ) (request : Option Request) → k < length tenants → was ≡ get_or tenants k was
    → Some holder ≡ option_map (λ (b : Begun). b.holder) (get_or begins k None) → request ≡ Some (rollback (token_at was.settings holder)) → RollsBack (state_in (states_of tenants graphs begins) k) request
rolls_back tenants graphs begins k was holder request lt at held asks = by_begun (get_or begins k None) refl held
  where
    by_begun : (o : Option Begun) → get_or begins k None ≡ o → Some holder ≡ option_map (λ (b : Begun). b.holder) o → RollsBack (state_in (states_of tenants graphs begins) k) request
    by_begun None is held = cc
    by_begun (Some b) is held =
        let same : holder ≡ b.holder = cc in (
          record { token = token_at was.settings b.holder; begun = b.graph },
          ap (λ (s : State). s.transaction) (sym (state_found tenants graphs begins k was lt at)) ∙ ap (transaction_of was.settings) is,
          asks ∙ ap (λ h. Some (rollback (token_at was.settings h))) same,
        )

-- each tenant's graph is one
pub graphs_are : (tenants : List Tenant) (graphs : List Graph) (begins : List (Option Begun)) → ((k : ℕ) → IsGraph (get_or graphs k empty_graph)) → (k : ℕ) → IsGraph (state_in (states_of tenants graphs begins) k).graph
graphs_are [] graphs begins are k = empty_is_graph
graphs_are (t ∷ ts) graphs begins are zero = are 0
graphs_are (t ∷ ts) graphs begins are (suc k) = graphs_are ts (drop 1 graphs) (drop 1 begins) (λ j. subst IsGraph (sym (rest graphs j empty_graph)) (are (suc j))) k

-- ---- changes

-- one tenant changes, its graph, and what was begun there: one state does
pub changed : (tenants : List Tenant) (graphs : List Graph) (begins : List (Option Begun)) (k : ℕ) (now : Tenant) (graph : Graph) (begun : Option Begun) → k < length graphs → k < length begins
    → states_of (set tenants k now) (set graphs k graph) (set begins k begun) ≡ set (states_of tenants graphs begins) k (state_of now graph begun)
changed [] graphs begins k now graph begun lt lt' = refl
changed (t ∷ ts) [] begins k now graph begun lt lt' = absurd (omega arith)
changed (t ∷ ts) (g ∷ gs) [] k now graph begun lt lt' = absurd (omega arith)
changed (t ∷ ts) (g ∷ gs) (b ∷ bs) zero now graph begun lt lt' = refl
changed (t ∷ ts) (g ∷ gs) (b ∷ bs) (suc k) now graph begun lt lt' = ap (λ ss. state_of t g b ∷ ss) (changed ts gs bs k now graph begun (omega arith) (omega arith))

-- a tenant changes, and its settings stay
pub still_tenants : (tokens : TokenPlaces) (tenants : List Tenant) (graphs graphs' : List Graph) (begins begins' : List (Option Begun)) (names names' : List (List ℕ)) (pairs pairs' : List (List (ℕ × ℕ))) (k : ℕ) (was now : Tenant)
    → AreTenants tokens tenants graphs begins names pairs → was ≡ get_or tenants k was → now.settings ≡ was.settings → length graphs' ≡ length graphs → length begins' ≡ length begins
    → AllList (set tenants k now) names' pairs' → AreTenants tokens (set tenants k now) graphs' begins' names' pairs'
still_tenants tokens tenants graphs graphs' begins begins' names names' pairs pairs' k was now are at same as_many as_many_begun lists =
    let kept : map (λ (t : Tenant). t.settings) (set tenants k now) ≡ map (λ (t : Tenant). t.settings) tenants =
    map-set_same (λ (t : Tenant). t.settings) tenants k now was (same ∙ ap (λ (t : Tenant). t.settings) at) in
    record {
      distinct = ap (λ ss. has_duplicate [] (all_tokens ss)) kept ∙ are.distinct;
      told = subst (TellsTenants tokens) (sym kept) are.told;
      each = as_many ∙ are.each ∙ sym (length-set tenants k now);
      each_begun = as_many_begun ∙ are.each_begun ∙ sym (length-set tenants k now);
      lists = lists;
    }

-- ---- settings

pub settings_seen : (tenants : List Tenant) (graphs : List Graph) (begins : List (Option Begun)) → map (λ (s : State). s.settings) (states_of tenants graphs begins) ≡ map (λ (t : Tenant). t.settings) tenants
settings_seen [] graphs begins = refl
settings_seen (t ∷ ts) graphs begins = ap (λ ss. t.settings ∷ ss) (settings_seen ts (drop 1 graphs) (drop 1 begins))

module _ (tenants : List Tenant) (graphs : List Graph) (begins : List (Option Begun)) (place : ℕ) where
  settings_there : (state_in (states_of tenants graphs begins) place).settings ≡ get_or (map (λ (t : Tenant). t.settings) tenants) place no_settings
  settings_there = settings_at (states_of tenants graphs begins) place ∙ ap (λ ss. get_or ss place no_settings) (settings_seen tenants graphs begins)

  -- the settings of the tenant at a place, and none where there is none
  pub settings_of_tenant : (t : Tenant) → place < length tenants → t ≡ get_or tenants place t → (state_in (states_of tenants graphs begins) place).settings ≡ t.settings
  settings_of_tenant t below is = settings_there ∙ get_or-map (λ (t : Tenant). t.settings) tenants place t no_settings below ∙ ap (λ (t : Tenant). t.settings) (sym is)

  pub settings_of_none : length tenants ≤ place → (state_in (states_of tenants graphs begins) place).settings ≡ no_settings
  settings_of_none past =
      settings_there ∙ get_or_past (map (λ (t : Tenant). t.settings) tenants) place no_settings (subst (λ n. n ≤ place) (sym (length-map tenants (λ (t : Tenant). t.settings))) past)

-- a tenant stands where its state does
pub place_seen : (token : List ℕ) (tenants : List Tenant) (graphs : List Graph) (begins : List (Option Begun))
    → position (λ (s : State). is_among (tokens_of s) token) (states_of tenants graphs begins) ≡ tenant_of (map (λ (t : Tenant). t.settings) tenants) token
place_seen token tenants graphs begins =
    sym (position_map (λ (s : State). s.settings) (λ (s : TenantSettings). is_among (token_texts s) token) (states_of tenants graphs begins))
    ∙ ap (λ ss. tenant_of ss token) (settings_seen tenants graphs begins)

-- ---- the beginning

begun_settings : (tenants : List Tenant) → map (λ (s : State). s.settings) (map opening_state tenants) ≡ map (λ (t : Tenant). t.settings) tenants
begun_settings [] = refl
begun_settings (t ∷ ts) = ap (λ ss. t.settings ∷ ss) (begun_settings ts)

opening_settings : (settings : List TenantSettings) → map (λ (s : State). s.settings) (map opening settings) ≡ settings
opening_settings [] = refl
opening_settings (s ∷ ss) = ap (λ rest. s ∷ rest) (opening_settings ss)

settings_begun : (tenants : List Tenant) (settings : List TenantSettings) → map opening_state tenants ≡ map opening settings → map (λ (t : Tenant). t.settings) tenants ≡ settings
settings_begun tenants settings same = sym (begun_settings tenants) ∙ ap (map (λ (s : State). s.settings)) same ∙ opening_settings settings

-- all graphs are empty, and nothing was begun
states_begun : (tenants : List Tenant) (n : ℕ) → states_of tenants (replicate n empty_graph) (replicate n None) ≡ map opening_state tenants
states_begun [] n = refl
states_begun (t ∷ ts) zero = ap (λ ss. opening_state t ∷ ss) (states_begun ts zero)
states_begun (t ∷ ts) (suc n) = ap (λ ss. opening_state t ∷ ss) (states_begun ts n)

-- the states that these settings begin
pub opening_states : (tenants : List Tenant) (settings : List TenantSettings) (graphs : List Graph) (begins : List (Option Begun)) (n : ℕ) → map opening_state tenants ≡ map opening settings
    → graphs ≡ replicate n empty_graph → begins ≡ replicate n None → states_of tenants graphs begins ≡ map opening settings
opening_states tenants settings graphs begins n same empty none = ap₂ (states_of tenants) empty none ∙ states_begun tenants n ∙ same

length_replicated : {X : Type 0} (n : ℕ) (x : X) → length (replicate n x) ≡ n
length_replicated zero x = refl
length_replicated (suc n) x = ap suc (length_replicated n x)

length_begun : (tenants : List Tenant) (settings : List TenantSettings) → map opening_state tenants ≡ map opening settings → length settings ≡ length tenants
length_begun tenants settings same = ap length (sym (settings_begun tenants settings same)) ∙ mapped tenants
  where
    mapped : (ts : List Tenant) → length (map (λ (t : Tenant). t.settings) ts) ≡ length ts
    mapped [] = refl
    mapped (t ∷ ts) = ap suc (mapped ts)

-- no tenant lists an index
none_listed : (tenants : List Tenant) (settings : List TenantSettings) → map opening_state tenants ≡ map opening settings → (k : ℕ) (d : Tenant) → k < length tenants → indexes_of (get_or tenants k d).indexes ≡ []
none_listed [] settings same k d lt = absurd (omega (arith, lt))
none_listed (t ∷ ts) [] same k d lt = absurd cc
none_listed (t ∷ ts) (s ∷ ss) same zero d lt = ap (λ (states : List State). (state_in states 0).indexes) same
none_listed (t ∷ ts) (s ∷ ss) same (suc k) d lt = none_listed ts ss (ap (drop 1) same) k d (omega (arith, lt))

pub opening_tenants_are : (tokens : TokenPlaces) (tenants : List Tenant) (settings : List TenantSettings) (graphs : List Graph) (begins : List (Option Begun)) (names : List (List ℕ)) (pairs : List (List (ℕ × ℕ))) (n : ℕ)
    → map opening_state tenants ≡ map opening settings → n ≡ length settings → graphs ≡ replicate n empty_graph → begins ≡ replicate n None → pairs ≡ replicate n []
    → has_duplicate [] (all_tokens settings) ≡ false → TellsTenants tokens settings → AreTenants tokens tenants graphs begins names pairs
opening_tenants_are tokens tenants settings graphs begins names pairs n same all empty none no_index distinct told = record {
  distinct = ap (λ ss. has_duplicate [] (all_tokens ss)) (settings_begun tenants settings same) ∙ distinct;
  told = subst (TellsTenants tokens) (sym (settings_begun tenants settings same)) told;
  each = ap length empty ∙ length_replicated n empty_graph ∙ all ∙ length_begun tenants settings same;
  each_begun = ap length none ∙ length_replicated n None ∙ all ∙ length_begun tenants settings same;
  lists = record {
    each = ap length no_index ∙ length_replicated n [] ∙ all ∙ length_begun tenants settings same;
    listed = λ k d lt.
        subst (λ is. AreListed names is (get_or pairs k [])) (sym (none_listed tenants settings same k d lt))
        (subst (AreListed names []) (sym (ap (λ ps. get_or ps k []) no_index ∙ one_at n k [])) (nothing_listed names));
  };
}
