-- What a query's text finds in the cache of plans.
use Rattle.std.proofs.Common.{◌≡◌, ◌≢◌, ◌≤◌, ℕ, Bool, true, false, cond, List, length, Option, Some, None, Result, Ok, Err, refl, ap, subst, sym, inl, inr, ◌∙◌, ◌⊎◌}
use Rattle.std.specs.Prelude.{nat_le, IfOk, IfErr}
use Rattle.std.specs.declared.alloc.Global.{Global}
use Rattle.std.specs.declared.rc.Rc.{Rc}
use Rattle.std.proofs.lemmas.Bool.Decides.{leb_tells}
use Rattle.pg_cache.specs.Cache.{CacheSeen, IsLookUp, Key}
use Rattle.pg_json.specs.Refusals.{refusal_text}
use Rattle.pg_json.specs.Requests.{Request, token_of}
use Rattle.pg_meaning.specs.Answer.{◌>>◌, unless}
use Rattle.pg_meaning.specs.Plans.{Catalogue}
use Rattle.pg_meaning.specs.Texts.{text_checked}
use Rattle.pg_meaning.specs.declared.fault.Fault.{Fault}
use Rattle.pg_meaning.specs.declared.fault.Fault.TheVariants.{TextTooLong, OutOfMemory}
use Rattle.pg_plan.specs.Plans.{IsPlanOfText}
use Rattle.pg_plan.specs.Reading.{greatest_text, tested_length}
use Rattle.pg_plan.specs.declared.plan.Plan.{Plan}
use Rattle.pg_tenant.specs.LookUps.{FindsPlan, LooksUp, looked_up_key, key_of_text, text_key}
use Rattle.pg_tenant.specs.Solo.{is_busy}
use Rattle.pg_tenant.specs.State.{State}

passed : (b : Bool) → unless b TextTooLong ≡ Ok tt → b ≡ true
passed true h = refl
passed false h = absurd cc

stopped : (b : Bool) (e : Fault) → unless b TextTooLong ≡ Err e → b ≡ false
stopped true e h = absurd cc
stopped false e h = refl

short_enough : (text : List ℕ) → tested_length text ≡ Ok tt → length text ≤ greatest_text
short_enough text h =
    elim (leb_tells (length text) greatest_text) as (λ _. length text ≤ greatest_text) [
      | inl w ↦ w.1
      | inr w ↦ (let other : Err TextTooLong ≡ Ok tt = sym (ap (λ b. unless b TextTooLong) w.0) ∙ h in absurd cc)
    ]

module _ (text : List ℕ) (indexes : Catalogue) where
  abbrev key : Bool → Option Key
  key b = cond b (Some (text, indexes)) None

  looked_up : (reply : List ℕ) (old new : CacheSeen) → tested_length text ≡ Ok tt → IsLookUp old new (text, indexes) ⊎ ((reply ≡ refusal_text OutOfMemory) × (new ≡ old)) → LooksUp (key_of_text text indexes) reply old new
  looked_up reply old new h did = subst (λ k. LooksUp k reply old new) (sym (ap key (passed (nat_le (length text) greatest_text) h))) did

  -- a text that is too long is not looked up
  pub too_long : (cache : CacheSeen) (e : Fault) → tested_length text ≡ Err e → FindsPlan text indexes (Err e) cache cache
  too_long cache e long = record {
    short = tt;
    ok = tt;
    err = λ other. ap (λ r. r >> text_checked text) long;
    cache = λ reply is. subst (λ k. LooksUp k reply cache cache) (sym (ap key (stopped (nat_le (length text) greatest_text) e long))) refl;
  }

  -- where there was no memory nothing is
  pub no_memory : (cache : CacheSeen) (e : Fault) → tested_length text ≡ Ok tt → e ≡ OutOfMemory → FindsPlan text indexes (Err e) cache cache
  no_memory cache e short none = record { short = tt; ok = tt; err = λ other. absurd (other none); cache = λ reply is. looked_up reply cache cache short (inr (is ∙ ap refusal_text none, refl)) }

  pub found : (result : Result (Rc Plan Global) Fault) (old new : CacheSeen) → tested_length text ≡ Ok tt → IfOk result (λ plan. IsPlanOfText text indexes plan.value)
      → IfErr result (λ e. e ≢ OutOfMemory → text_checked text ≡ Err e) → IsLookUp old new (text, indexes) → FindsPlan text indexes result old new
  found (Ok plan) old new short ok err looks = record { short = short_enough text short; ok = ok; err = tt; cache = λ reply is. looked_up reply old new short (inl looks) }
  found (Err e) old new short ok err looks =
      record { short = tt; ok = tt; err = λ other. ap (λ r. r >> text_checked text) short ∙ err other; cache = λ reply is. looked_up reply old new short (inl looks) }

-- ---- who waits looks nothing up

module _ (s : State) (request : Request) where
  abbrev by_busy : Bool → Option Key
  by_busy b = cond b None (text_key s request)

  pub waits : is_busy s.transaction (token_of request) ≡ true → looked_up_key s request ≡ None
  waits h = ap by_busy h

  pub turns : is_busy s.transaction (token_of request) ≡ false → looked_up_key s request ≡ text_key s request
  turns h = ap by_busy h
