-- The instances of runs and configurations.
use Rattle.std.proofs.Common.{◌≡◌, ℕ, List, [], Bool, true, false, cond, Some, Result, Ok, Err, refl, sym, ap, subst, ◌∙◌, inl, inr, length}
use Rattle.std.specs.Prelude.{◌&&◌, ◌⊎◌, not, codes}
use Rattle.std.proofs.lemmas.List.{ext_get_or, length-map}
use Rattle.std.proofs.lemmas.Slice.Eq.{bytes_eq-Decides}
use Rattle.pg_json.specs.Refusals.{refusal_text}
use Rattle.pg_json.specs.Requests.{status}
use Rattle.pg_meaning.specs.Answer.{◌>>=◌}
use Rattle.pg_meaning.specs.declared.fault.Fault.{Fault}
use Rattle.pg_meaning.specs.declared.fault.Fault.TheVariants.{OutOfMemory}
use Rattle.pg_server.specs.InstancesOfRuns.{EmptyRuns, StatusRuns, ConfigurationsAreTested, reader, one_reader, told}
use Rattle.pg_server.specs.Runs.{Runs, SoloRun, asked, shows_one_of, is_want_of_memory}
use Rattle.pg_server.specs.State.{ServerState, state_at}
use Rattle.pg_tenant.specs.Answers.{limited}
use Rattle.pg_tenant.specs.Solo.{replies, reported, solo, status_text}
use Rattle.pg_tenant.specs.State.{State, no_state, opening, tokens_of}
use Rattle.pg_tenant.specs.Step.{reply_of}

stays : (old new : ServerState) → Runs old [] new → new.tenants ≡ old.tenants
stays old new run =
    let as_many : length new.tenants ≡ length old.tenants = sym (length-map new.tenants (λ (s : State). s.settings)) ∙ ap length run.settings ∙ length-map old.tenants (λ (s : State). s.settings) in
    ext_get_or no_state new.tenants old.tenants as_many (λ t below. run.solo t)

nothing_ran : (s : ServerState) → Runs s [] s
nothing_ran s = record { cache = refl; settings = refl; strangers = tt; solo = λ t. refl }

pub empty_runs : EmptyRuns
empty_runs old new = (λ same. subst (Runs old []) (sym same) (nothing_ran old), stays old new)

-- what is answered is what is reported
pub told_alike : (s : State) (text : Result (List ℕ) Fault) → (reported s (text >>= λ reply. Ok (replies reply s))).reply ≡ reply_of text
told_alike s (Ok text) = refl
told_alike s (Err fault) = refl

module _ (body : List ℕ) (asks : asked body ≡ Some (status (codes "a"))) where
  abbrev status_reply : List ℕ
  status_reply = reply_of (limited (status_text (opening reader)))

  abbrev is_own : List ℕ → Bool
  is_own reply = shows_one_of (tokens_of (state_at one_reader 0)) (asked body) && not (is_want_of_memory reply)

  by_own : (reply : List ℕ) (new : State) (b : Bool) → is_own reply ≡ b → SoloRun (state_at one_reader 0) (cond b (told body reply) []) new → (reply ≡ status_reply) ⊎ (reply ≡ refusal_text OutOfMemory)
  by_own reply new true is run =
      let same : Some run.0 ≡ Some (status (codes "a")) = sym run.1 ∙ asks in
      let request : run.0 ≡ status (codes "a") = cc in
      inl (run.2 ∙ ap (λ r. (solo (state_at one_reader 0) r).reply) request ∙ told_alike (opening reader) (limited (status_text (opening reader))))
  by_own reply new false is run =
      let shown : not (is_want_of_memory reply) ≡ false = sym (ap (λ r. shows_one_of (tokens_of (state_at one_reader 0)) r && not (is_want_of_memory reply)) asks) ∙ is in
      inr ((bytes_eq-Decides reply (refusal_text OutOfMemory)).0 (turned (is_want_of_memory reply) shown))
    where
      turned : (b : Bool) → not b ≡ false → b ≡ true
      turned true h = refl
      turned false h = cc

  only_status : (reply : List ℕ) (new : ServerState) → Runs one_reader (told body reply) new → (reply ≡ status_reply) ⊎ (reply ≡ refusal_text OutOfMemory)
  only_status reply new run = by_own reply (state_at new 0) (is_own reply) refl (run.solo 0)

pub status_runs : StatusRuns
status_runs body reply new asks run = only_status body asks reply new run

pub configurations_are_tested : ConfigurationsAreTested
configurations_are_tested = (refl, refl, refl, refl, refl, refl, refl, refl, refl, refl, refl, refl)
