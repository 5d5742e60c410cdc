-- A run of a server is its first exchange and the run of the others.
use Rattle.std.proofs.Common.{◌≡◌, ℕ, List, [], ◌∷◌, ◌++◌, Bool, true, false, cond, map, refl, sym, ap, ◌∙◌, subst, get_or}
use Rattle.std.proofs.Math.ListN.{get_or-map}
use Rattle.pg_server.specs.declared.end.End.{End}
use Rattle.pg_server.specs.Exchange.{Exchange, Chain}
use Rattle.pg_server.specs.Handles.{Handles}
use Rattle.pg_server.specs.Runs.{SoloRun, Runs, AnswersStrangers, IsStrangers, own, shows_one_of, asked}
use Rattle.pg_server.specs.Served.{Device, Served}
use Rattle.pg_server.specs.Serves.{Serves}
use Rattle.pg_server.specs.State.{ServerState, ServerSeen, state_at, settings_of}
use Rattle.pg_tenant.specs.Settings.{TenantSettings, no_settings, token_texts}
use Rattle.pg_tenant.specs.Solo.{solo}
use Rattle.pg_tenant.specs.State.{State, no_state, opening, tokens_of}

pub Runs-refl : (s : ServerState) → Runs s [] s
Runs-refl s = record { cache = refl; settings = refl; strangers = tt; solo = λ t. refl }

pub settings_at : (states : List State) (t : ℕ) → (get_or states t no_state).settings ≡ get_or (map (λ s. s.settings) states) t no_settings
settings_at states t = sym (get_or-map (λ (s : State). s.settings) states t no_state)

-- a tenant's settings don't change
pub same_settings : (old new : ServerState) (t : ℕ) → settings_of new ≡ settings_of old → (state_at new t).settings ≡ (state_at old t).settings
same_settings old new t same = settings_at new.tenants t ∙ ap (λ ss. get_or ss t no_settings) same ∙ sym (settings_at old.tenants t)

pub same_tokens : (old new : ServerState) (t : ℕ) → settings_of new ≡ settings_of old → tokens_of (state_at new t) ≡ tokens_of (state_at old t)
same_tokens old new t same = ap token_texts (same_settings old new t same)

SoloRun-append : (es fs : List Exchange) (s m n : State) → SoloRun s es m → SoloRun m fs n → SoloRun s (es ++ fs) n
SoloRun-append [] fs s m n run more = subst (λ x. SoloRun x fs n) run more
SoloRun-append (e ∷ es) fs s m n run more = (run.0, run.1, run.2, run.3, SoloRun-append es fs (solo s run.0).state m n run.4 more)

first_of_own : (b : Bool) (e : Exchange) (es : List Exchange) → cond b (e ∷ []) [] ++ es ≡ cond b (e ∷ es) es
first_of_own true e es = refl
first_of_own false e es = refl

-- who asks with no tenant's token does so at each state
still_strangers : (old mid : ServerState) (body : List ℕ) → settings_of mid ≡ settings_of old → IsStrangers old body → IsStrangers mid body
still_strangers old mid body same h t = ap (λ tokens. shows_one_of tokens (asked body)) (same_tokens old mid t same) ∙ h t

strangers_at : (old mid : ServerState) → settings_of mid ≡ settings_of old → (es : List Exchange) → AnswersStrangers mid es → AnswersStrangers old es
strangers_at old mid same [] h = tt
strangers_at old mid same (e ∷ es) h = (λ is. h.0 (still_strangers old mid e.body same is), strangers_at old mid same es h.1)

pub Runs-cons : (old mid new : ServerState) (e : Exchange) (es : List Exchange) → Runs old (e ∷ []) mid → Runs mid es new → Runs old (e ∷ es) new
Runs-cons old mid new e es first rest =
    record {
      cache = rest.cache ∙ first.cache;
      settings = rest.settings ∙ first.settings;
      strangers = (first.strangers.0, strangers_at old mid first.settings es rest.strangers);
      solo = λ t.
          let same = same_tokens old mid t first.settings in
          subst (λ fs. SoloRun (state_at old t) fs (state_at new t)) (first_of_own _ e (own (tokens_of (state_at old t)) es))
          (SoloRun-append _ (own (tokens_of (state_at old t)) es) _ _ _ (first.solo t)
          (subst (λ tokens. SoloRun (state_at mid t) (own tokens es) (state_at new t)) same (rest.solo t)));
    }

-- calls of `handle`, one after another, are each tenant's run alone
pub Runs-of_chain : (a b : ServerState) (es : List Exchange) → Chain Handles a es b → Runs a es b
Runs-of_chain a b [] chain = subst (Runs a []) (sym chain) (Runs-refl a)
Runs-of_chain a b (e ∷ es) chain = Runs-cons a chain.0 b e es chain.1.run (Runs-of_chain chain.0 b es chain.2)

module _ {X : Type 0} where
  -- what a call of `handle` is to a server, whatever its tables are
  abbrev pub HandlesSeen : ServerSeen X → (body reply : List ℕ) → ServerSeen X → Type 0
  HandlesSeen old body reply new = Handles old.state body reply new.state

  chain_of_states : (old new : ServerSeen X) (es : List Exchange) → Chain HandlesSeen old es new → Chain Handles old.state es new.state
  chain_of_states old new [] chain = ap (λ (s : ServerSeen X). s.state) chain
  chain_of_states old new (e ∷ es) chain = (chain.0.state, chain.1, chain_of_states chain.0 new es chain.2)

  pub alone : (reader writer : Device) (old new : ServerSeen X) (most : ℕ) (end : End) → Served HandlesSeen reader writer old new most end → Serves reader writer old.state new.state most end
  alone reader writer old new most end s =
      let es : List Exchange = s.transcript.exchanges in
      let chain : Chain Handles old.state es new.state = chain_of_states old new es s.chain in (
        record { transcript = s.transcript; read = s.read; wrote = s.wrote; short = s.short; count = s.count; ends = s.ends; chain = chain },
        Runs-of_chain old.state new.state es chain,
      )

-- the settings that a server began with
pub settings-opening : (tenants : List TenantSettings) → map (λ (s : State). s.settings) (map opening tenants) ≡ tenants
settings-opening [] = refl
settings-opening (t ∷ tenants) = ap (λ ts. t ∷ ts) (settings-opening tenants)
