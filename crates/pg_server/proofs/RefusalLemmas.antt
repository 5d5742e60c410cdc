-- A refusal leaves every tenant, and the names.
use Rattle.std.proofs.Common.{◌≡◌, ℕ, List, [], ◌∷◌, Bool, true, false, cond, length, refl, sym, ap, ◌∙◌}
use Rattle.std.specs.Prelude.{◌&&◌, not}
use Rattle.std.proofs.lemmas.List.{ext_get_or, length-map}
use Rattle.pg_json.specs.Refusals.{refusal_text}
use Rattle.pg_meaning.specs.declared.fault.Fault.{Fault}
use Rattle.pg_server.specs.Exchange.{Exchange}
use Rattle.pg_server.specs.Handles.{RefusalsKeepAll}
use Rattle.pg_server.specs.Runs.{Runs, SoloRun, shows_one_of, asked, is_want_of_memory}
use Rattle.pg_server.specs.State.{ServerState, state_at}
use Rattle.pg_tenant.specs.State.{State, no_state, tokens_of}
use Rattle.pg_server.proofs.ReplyLemmas.{refusals_keep}

module _ (old new : ServerState) (body : List ℕ) (fault : Fault) (run : Runs old (record { body = body; reply = refusal_text fault } ∷ []) new) where
  abbrev one : Exchange
  one = record { body = body; reply = refusal_text fault }

  -- whether the exchange is its own or not
  state_stays : (t : ℕ) (b : Bool) → SoloRun (state_at old t) (cond b (one ∷ []) []) (state_at new t) → state_at new t ≡ state_at old t
  state_stays t true r = r.4 ∙ refusals_keep (state_at old t) r.0 fault (sym r.2)
  state_stays t false r = r

  as_many : length new.tenants ≡ length old.tenants
  as_many = sym (length-map new.tenants (λ (s : State). s.settings)) ∙ ap length run.settings ∙ length-map old.tenants (λ (s : State). s.settings)

  pub tenants_stay : new.tenants ≡ old.tenants
  tenants_stay =
      ext_get_or no_state new.tenants old.tenants as_many
      (λ t below. state_stays t (shows_one_of (tokens_of (state_at old t)) (asked body) && not (is_want_of_memory (refusal_text fault))) (run.solo t))

pub refusals_keep_all : RefusalsKeepAll
refusals_keep_all old new body fault one = (tenants_stay old new body fault one.run, one.names.refused fault refl)
