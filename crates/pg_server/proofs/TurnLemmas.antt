-- What one tenant's answer is for the whole server.
use Rattle.std.proofs.Common.{◌≡◌, ◌≢◌, ℕ, ◌<◌, Bool, true, false, List, [], length, get_or, set, None, Result, Ok, Err, arith, refl, sym, ap, ap₂, subst, ◌∙◌}
use Rattle.std.specs.Prelude.{nat_eq}
use Rattle.std.proofs.lemmas.Bool.Decides.{Decides-eqb, not_from_Decides}
use Rattle.std.proofs.lemmas.List.{get_or-set_other, get_or-set_same, length-set, set-get_or, set-set}
use Rattle.pg_cache.specs.Cache.{CacheSeen}
use Rattle.pg_json.specs.Requests.{Request}
use Rattle.pg_live.specs.Live.{Live, graphs_of, open_at, pairs_at}
use Rattle.pg_meaning.specs.Graph.{empty_graph}
use Rattle.pg_meaning.specs.declared.fault.Fault.{Fault}
use Rattle.pg_names.specs.Names.{KeepsNames}
use Rattle.pg_server.specs.Handles.{key_at}
use Rattle.pg_server.specs.State.{state_in}
use Rattle.pg_server.specs.Step.{Gives, RepliesAt}
use Rattle.pg_server.specs.Tenants.{states_of, AllList, AreTenants}
use Rattle.pg_server.specs.declared.tokens.TokenPlaces.{TokenPlaces}
use Rattle.pg_server.proofs.TenantLemmas.{changed, state_found, still_tenants}
use Rattle.pg_tenant.proofs.ListedLemmas.{names_come}
use Rattle.pg_tenant.specs.Indexes.{indexes_of}
use Rattle.pg_tenant.specs.Listed.{AreListed, KeepsListed, Lists}
use Rattle.pg_tenant.specs.LookUps.{LooksUp, looked_up_key}
use Rattle.pg_tenant.specs.Solo.{Replied, solo}
use Rattle.pg_tenant.specs.State.{State, no_state}
use Rattle.pg_tenant.specs.Step as tenant
use Rattle.pg_tenant.specs.Step.{KeepsOthers}
use Rattle.pg_tenant.specs.TenantStates.{state_of, state_over}
use Rattle.pg_tenant.specs.declared.tenant.Tenant.{Tenant}

pub is_place : {X : Type 0} (live : Live X) (place : ℕ) → place < length (graphs_of live) → place < length live.aside.others
is_place live place lt = omega (arith, lt, length-set live.aside.others live.aside.place live.graph)

-- one tenant gives it, and all others stay
gives : (old new : List State) (t : ℕ) (before after : State) (replied : Replied) (r : Result (List ℕ) Fault) → before ≡ state_in old t → new ≡ set old t after
    → tenant.Gives before replied r after → Gives old t replied r new
gives old new t before after replied (Ok bytes) here others h = (h.0, others ∙ ap (set old t) h.1)
gives old new t before after replied (Err e) here others h =
    (others ∙ ap (set old t) (h.0 ∙ here) ∙ set-get_or old t no_state, λ other. ((h.1 other).0, (h.1 other).1 ∙ here))

-- a tenant's graph is taken to work, and answers
module _ {X : Type 0} (tenants : List Tenant) (live mid : Live X) (t : ℕ) (was : Tenant) (lt : t < length tenants) (at : was ≡ get_or tenants t was) (each : length (graphs_of live) ≡ length tenants)
    (turned : graphs_of mid ≡ graphs_of live) (begins : mid.aside.begins ≡ live.aside.begins) (at_work : mid.aside.place ≡ t) where
  abbrev old_states : List State
  old_states = states_of tenants (graphs_of live) live.aside.begins

  graph_here : get_or (graphs_of live) t empty_graph ≡ mid.graph
  graph_here =
      ap (λ gs. get_or gs t empty_graph) (sym turned) ∙ ap (λ k. get_or (graphs_of mid) k empty_graph) (sym at_work)
      ∙ get_or-set_same mid.aside.others mid.aside.place mid.graph empty_graph
      (omega (arith, lt, each, at_work, ap length turned, length-set mid.aside.others mid.aside.place mid.graph))

  begun_there : get_or live.aside.begins t None ≡ open_at mid.aside
  begun_there = ap₂ (λ bs k. get_or bs k None) (sym begins) (sym at_work)

  here : state_over was mid ≡ state_in old_states t
  here = sym (ap₂ (state_of was) graph_here begun_there) ∙ state_found tenants (graphs_of live) live.aside.begins t was lt at

  pub key_here : (request : Request) (reply : List ℕ) (before after : CacheSeen) → LooksUp (looked_up_key (state_over was mid) request) reply before after → LooksUp (key_at t old_states request) reply before after
  key_here request reply before after looks = subst (λ s. LooksUp (looked_up_key s request) reply before after) here looks

  module _ (now : Tenant) (new : Live X) (others : KeepsOthers mid new) where
    graphs_after : graphs_of new ≡ set (graphs_of live) t new.graph
    graphs_after =
        (λ i. set (others.others i) (others.place i) new.graph) ∙ sym (set-set mid.aside.others mid.aside.place mid.graph new.graph)
        ∙ (λ i. set (turned i) (at_work i) new.graph)

    begins_after : new.aside.begins ≡ set live.aside.begins t (open_at new.aside)
    begins_after = others.begins ∙ (λ i. set (begins i) (at_work i) (open_at new.aside))

    abbrev new_states : List State
    new_states = states_of (set tenants t now) (graphs_of new) new.aside.begins

    pub replies : (request : Request) (r : Result (List ℕ) Fault) → length live.aside.begins ≡ length tenants → tenant.Answers (state_over was mid) request r (state_over now new)
        → RepliesAt t old_states request r new_states
    replies request r each_begun answers =
        let same : new_states ≡ set old_states t (state_over now new) =
        ap₂ (states_of (set tenants t now)) graphs_after begins_after
        ∙ changed tenants (graphs_of live) live.aside.begins t now new.graph (open_at new.aside) (omega (arith, lt, each)) (omega (arith, lt, each_begun)) in
        subst (λ s. Gives old_states t (solo s request) r new_states) here
        (gives old_states new_states t (state_over was mid) (state_over now new) (solo (state_over was mid) request) r here same answers)

    pub still : (tokens : TokenPlaces) → now.settings ≡ was.settings → AllList (set tenants t now) new.names new.aside.pairs
        → AreTenants tokens tenants (graphs_of live) live.aside.begins live.names live.aside.pairs → AreTenants tokens (set tenants t now) (graphs_of new) new.aside.begins new.names new.aside.pairs
    still tokens settings lists are =
        still_tenants tokens tenants (graphs_of live) (graphs_of new) live.aside.begins new.aside.begins live.names new.names live.aside.pairs new.aside.pairs t was now are at settings
        (ap length graphs_after ∙ length-set (graphs_of live) t new.graph) (ap length begins_after ∙ length-set live.aside.begins t (open_at new.aside)) lists

    -- what all list, where this tenant goes on listing its own
    module _ (pairs : mid.aside.pairs ≡ live.aside.pairs) (names : mid.names ≡ live.names) (kept : KeepsNames mid.names new.names) (listed : KeepsListed was now mid new)
        (are : AllList tenants live.names live.aside.pairs) where
      pairs_after : new.aside.pairs ≡ set live.aside.pairs t (pairs_at new.aside)
      pairs_after = others.pairs ∙ (λ i. set (pairs i) (at_work i) (pairs_at new.aside))

      known : KeepsNames live.names new.names
      known = subst (λ ns. KeepsNames ns new.names) names kept

      lists_before : Lists was mid
      lists_before =
          subst (λ ns. AreListed ns (indexes_of was.indexes) (pairs_at mid.aside)) (sym names)
          (subst (λ ps. AreListed live.names (indexes_of was.indexes) ps) (sym (ap₂ (λ ps k. get_or ps k []) pairs at_work))
          (subst (λ (one : Tenant). AreListed live.names (indexes_of one.indexes) (get_or live.aside.pairs t [])) (sym at) (are.listed t was lt)))

      abbrev Listed : ℕ → Tenant → Type 0
      Listed k one = AreListed new.names (indexes_of one.indexes) (get_or new.aside.pairs k [])

      own : (k : ℕ) (d : Tenant) → k ≡ t → Listed k (get_or (set tenants t now) k d)
      own k d same =
          subst (λ j. Listed j (get_or (set tenants t now) j d)) (sym same)
          (subst (Listed t) (sym (get_or-set_same tenants t now d lt))
          (subst (λ ps. AreListed new.names (indexes_of now.indexes) ps)
          (sym (ap (λ ps. get_or ps t []) pairs_after ∙ get_or-set_same live.aside.pairs t (pairs_at new.aside) [] (omega (arith, lt, are.each)))) (listed lists_before)))

      another : (k : ℕ) (d : Tenant) → k < length tenants → k ≢ t → Listed k (get_or (set tenants t now) k d)
      another k d below ne =
          subst (Listed k) (sym (get_or-set_other tenants t k now d ne))
          (subst (λ ps. AreListed new.names (indexes_of (get_or tenants k d).indexes) ps)
          (sym (ap (λ ps. get_or ps k []) pairs_after ∙ get_or-set_other live.aside.pairs t k (pairs_at new.aside) [] ne))
          (names_come live.names new.names known (indexes_of (get_or tenants k d).indexes) (get_or live.aside.pairs k []) (are.listed k d below)))

      by_place : (k : ℕ) (d : Tenant) → k < length tenants → (b : Bool) → nat_eq k t ≡ b → Listed k (get_or (set tenants t now) k d)
      by_place k d below true is = own k d ((Decides-eqb k t).0 is)
      by_place k d below false is = another k d below (not_from_Decides (nat_eq k t) (Decides-eqb k t) is)

      pub all_list : AllList (set tenants t now) new.names new.aside.pairs
      all_list = record {
        each = ap length pairs_after ∙ length-set live.aside.pairs t (pairs_at new.aside) ∙ are.each ∙ sym (length-set tenants t now);
        listed = λ k d below. by_place k d (omega (arith, below, length-set tenants t now)) (nat_eq k t) refl;
      }
