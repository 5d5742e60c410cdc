-- What a status tells is what the tenant has, unless it is too long.
use Rattle.std.proofs.Common.{◌≡◌, ◌≢◌, ◌<◌, ◌≤◌, ℕ, Bool, List, [], ◌∷◌, length, Result, Ok, Err, false, refl, sym, ap, ◌∙◌, inl, inr, arith}
use Rattle.std.proofs.lemmas.Bool.{le-leb}
use Rattle.std.proofs.lemmas.Bool.Decides.{leb_tells}
use Rattle.std.specs.Prelude.{nat_le, cond, map, IfOk, IfErr, String, string_bytes}
use Rattle.std.specs.declared.alloc.Global.{Global}
use Rattle.serde_json.specs.Data.{Data}
use Rattle.serde_json.specs.Written.{compact_text}
use Rattle.pg_json.proofs.Codes.{statuses_are_no_refusals}
use Rattle.pg_json.specs.Refusals.{refusal_text}
use Rattle.pg_json.specs.Replies as replies
use Rattle.pg_json.specs.Replies.{tenant_text, max_reply, status_data, index_data, items_of}
use Rattle.pg_json.specs.declared.status.TenantStatus.{TenantStatus}
use Rattle.pg_meaning.specs.Answer.{◌>>=◌}
use Rattle.pg_meaning.specs.Graph.{element_count}
use Rattle.pg_meaning.specs.declared.fault.Fault.{Fault}
use Rattle.pg_meaning.specs.declared.fault.Fault.TheVariants.{ReplyTooLong, OutOfMemory}
use Rattle.pg_plan.specs.Catalogue.{catalogue_view}
use Rattle.pg_tenant.specs.Answers.{limited}
use Rattle.pg_tenant.specs.Changes.{IsNoRefusal}
use Rattle.pg_tenant.specs.Solo as solo
use Rattle.pg_tenant.specs.Solo.{Replied, index_items, reported, status_text, with_status}
use Rattle.pg_tenant.specs.State.{State}
use Rattle.pg_tenant.specs.Step.{Gives}

abbrev by_length : List ℕ → (fits : Bool) → Result (List ℕ) Fault
by_length text fits = cond fits (Ok text) (Err ReplyTooLong)

within : (text : List ℕ) → length text ≤ max_reply → limited text ≡ Ok text
within text h = ap (by_length text) (le-leb (length text) max_reply h)

beyond : (text : List ℕ) → max_reply < length text → limited text ≡ Err ReplyTooLong
beyond text h = ap (by_length text) (elim (leb_tells (length text) max_reply) as (λ _. nat_le (length text) max_reply ≡ false) [ inl w ↦ absurd (omega (arith, w.1)) | inr w ↦ w.0 ])

module _ (s : State) (made : List ℕ) (same : made ≡ status_text s) where
  abbrev told : Result (List ℕ) Fault → Replied
  told text = reported s (text >>= λ reply. Ok (solo.replies reply s))

  pub status_given : (r : Result (List ℕ) Fault) → IfOk r (λ bytes. bytes ≡ made) → IfOk r (λ bytes. length bytes ≤ max_reply) → IfErr r (λ e. e ≢ OutOfMemory → e ≡ ReplyTooLong)
      → IfErr r (λ e. e ≢ OutOfMemory → max_reply < length made) → Gives s (reported s (with_status s)) r s
  status_given (Ok bytes) is fits kind long =
      let whole : limited (status_text s) ≡ Ok (status_text s) = within (status_text s) (omega (arith, fits, ap length (is ∙ same))) in
      (is ∙ same ∙ sym (ap (λ t. (told t).reply) whole), sym (ap (λ t. (told t).state) whole))
  status_given (Err e) is fits kind long = (
    refl,
    λ other.
        let over : limited (status_text s) ≡ Err ReplyTooLong = beyond (status_text s) (omega (arith, long other, ap length same)) in
        (ap refusal_text (kind other) ∙ sym (ap (λ t. (told t).reply) over), ap (λ t. (told t).state) over),
  )

indexes_told : (is : List (String Global × String Global)) → replies.index_items is ≡ index_items (catalogue_view is)
indexes_told is = ap items_of (each_told is)
  where
    each_told : (is : List (String Global × String Global)) → map (λ i. index_data (string_bytes i.0) (string_bytes i.1)) is ≡ map (λ i. index_data i.0 i.1) (catalogue_view is)
    each_told [] = refl
    each_told (i ∷ is) = ap (λ (ds : List Data). index_data (string_bytes i.0) (string_bytes i.1) ∷ ds) (each_told is)

pub status_is : (s : State) (r : TenantStatus) → r.elements ≡ element_count s.graph → catalogue_view r.indexes.items ≡ s.indexes → r.max_elements ≡ s.settings.max_elements → r.max_steps ≡ s.settings.max_steps
    → r.next_node ≡ s.graph.next_node → r.next_rel ≡ s.graph.next_relationship → tenant_text r ≡ status_text s
unfolding tenant_text status_text
status_is s r elements indexes most_elements most_steps next_node next_rel =
    λ i. compact_text (status_data (elements i) ((indexes_told r.indexes.items ∙ ap index_items indexes) i) (most_elements i) (most_steps i) (next_node i) (next_rel i))

-- what a status is told is no refusal
pub status_accepted : (made : TenantStatus) (r : Result (List ℕ) Fault) → IfOk r (λ bytes. bytes ≡ tenant_text made) → IfOk r IsNoRefusal
status_accepted made (Ok bytes) is = λ f told. statuses_are_no_refusals made f (sym is ∙ told)
status_accepted made (Err e) is = tt
