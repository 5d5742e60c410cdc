-- What is done of a request is asked by the token that holds what it goes on with.
use Rattle.std.proofs.Common.{◌≡◌, ℕ, List, Bool, true, false, not, find, nat_eq, Option, Some, None, is_some, Result, Ok, Err, refl, sym, ap, ◌∙◌}
use Rattle.std.proofs.lemmas.Slice.Eq.{bytes_eq-Decides}
use Rattle.std.specs.Option.{option_map}
use Rattle.std.specs.Prelude.{drop, take}
use Rattle.std.specs.Str.{bytes_eq}
use Rattle.pg_json.specs.Pages.{pulled_text}
use Rattle.pg_json.specs.Refusals.{refusal_text}
use Rattle.pg_json.specs.Requests.{Request, token_of, query, status, create_index, drop_index, begin, commit, rollback, pull, drop_page}
use Rattle.pg_live.specs.Live.{Begun}
use Rattle.pg_meaning.specs.Answer.{◌>>=◌, ◌>>◌, unless}
use Rattle.pg_meaning.specs.Graph.{Graph}
use Rattle.pg_meaning.specs.declared.fault.Fault.{Fault}
use Rattle.pg_meaning.specs.declared.fault.Fault.TheVariants.{TenantBusy, TransactionOpen}
use Rattle.pg_pages.specs.Held as held
use Rattle.pg_pages.specs.Held.{Held, dropped, left_with, no_pages, page_of, puller_of, pulled, without_page}
use Rattle.pg_tenant.proofs.TransactionLemmas.{others_wait}
use Rattle.pg_tenant.specs.Changes.{IsNoRefusal}
use Rattle.pg_tenant.specs.Holders.{HoldersAsk, holder_of, page_holder}
use Rattle.pg_tenant.specs.Settings.{TenantSettings}
use Rattle.pg_tenant.specs.Solo.{Replied, done, is_busy, replies, reported, serves, solo}
use Rattle.pg_tenant.specs.State.{State, Transaction, is_open, no_state}
use Rattle.pg_tenant.specs.TenantStates.{state_of, token_at, transaction_of}
use Rattle.pg_tenant.specs.declared.tenant.Tenant.{Tenant}

-- ---- pages

module _ (s : State) (token : List ℕ) (number : ℕ) (closed : s.transaction ≡ None) where
  -- a page that isn't the token's can't be pulled or dropped
  pull_refused : (e : Fault) → page_of s.held token number ≡ Err e → (solo s (pull token number)).reply ≡ refusal_text e
  pull_refused e none =
      let told : Result held.Page Fault → Result Replied Fault = λ r. (r >>= λ p. (let left = left_with p (drop p.size p.rows) s.held in let given : Result (List ℕ × Held) Fault = Ok (pulled_text left.0 (take p.size p.rows), left.1) in given)) >>= λ p. Ok (replies p.0 (record s { held = p.1 })) in
      ap (λ o. (reported s (unless (not (is_busy o token)) TenantBusy >> (unless (not (is_some o)) TransactionOpen >> told (page_of s.held token number)))).reply) closed
      ∙ ap (λ r. (reported s (told r)).reply) none

  drop_refused : (e : Fault) → page_of s.held token number ≡ Err e → (solo s (drop_page token number)).reply ≡ refusal_text e
  drop_refused e none =
      let told : Result held.Page Fault → Result Replied Fault = λ r. (r >>= λ p. Ok (record s.held { pages = without_page number s.held.pages })) >>= λ held. Ok (done (record s { held = held })) in
      ap (λ o. (reported s (unless (not (is_busy o token)) TenantBusy >> (unless (not (is_some o)) TransactionOpen >> told (page_of s.held token number)))).reply) closed
      ∙ ap (λ r. (reported s (told r)).reply) none

holds_page : (pages : Held) (token : List ℕ) (number : ℕ) (reply found : List ℕ) → IsNoRefusal reply → ((e : Fault) → page_of pages token number ≡ Err e → reply ≡ refusal_text e)
    → puller_of pages token number ≡ Some found → found ≡ token
holds_page pages token number reply found is_done refused is = by_page (page_of pages token number) refl
  where
    by_page : (r : Result held.Page Fault) → page_of pages token number ≡ r → found ≡ token
    by_page (Ok p) there =
        let same : Some token ≡ Some found = sym (ap (λ (q : Result held.Page Fault). elim q [ Ok p ↦ Some token | Err e ↦ option_map (λ (p : held.Page). p.token) (find (λ p. nat_eq p.number number) pages.pages) ]) there) ∙ is in cc
    by_page (Err e) none = absurd (is_done e (refused e none))

by_page_held : (s : State) (request : Request) (found : List ℕ) → s.transaction ≡ None → IsNoRefusal (solo s request).reply → page_holder s.held request ≡ Some found → found ≡ token_of request
by_page_held s (pull token number) found closed is_done is = holds_page s.held token number (solo s (pull token number)).reply found is_done (pull_refused s token number closed) is
by_page_held s (drop_page token number) found closed is_done is = holds_page s.held token number (solo s (drop_page token number)).reply found is_done (drop_refused s token number closed) is
by_page_held s (query token text parameters page) found closed is_done is = cc
by_page_held s (status token) found closed is_done is = cc
by_page_held s (create_index token label key) found closed is_done is = cc
by_page_held s (drop_index token label key) found closed is_done is = cc
by_page_held s (begin token) found closed is_done is = cc
by_page_held s (commit token) found closed is_done is = cc
by_page_held s (rollback token) found closed is_done is = cc

-- ---- transactions

pub holders_ask : HoldersAsk
holders_ask s request found is_done is = by_open s.transaction refl
  where
    held_by : Option Transaction → Option (List ℕ)
    held_by o = elim o [ Some t ↦ Some t.token | None ↦ page_holder s.held request ]

    by_token : (t : Transaction) → s.transaction ≡ Some t → (b : Bool) → bytes_eq t.token (token_of request) ≡ b → t.token ≡ token_of request
    by_token t begun true same = (bytes_eq-Decides t.token (token_of request)).0 same
    by_token t begun false other = absurd (is_done TenantBusy (ap (λ (r : Replied). r.reply) (others_wait s t request begun other)))

    by_open : (o : Option Transaction) → s.transaction ≡ o → found ≡ token_of request
    by_open (Some t) begun =
        let same : Some t.token ≡ Some found = sym (ap held_by begun) ∙ is in
        let here : found ≡ t.token = cc in
        here ∙ by_token t begun (bytes_eq t.token (token_of request)) refl
    by_open None closed = by_page_held s request found closed is_done (sym (ap held_by closed) ∙ is)

-- where there is no tenant nothing is held
pub none_holds : (request : Request) → None ≡ holder_of no_state request
none_holds (pull token number) = refl
none_holds (drop_page token number) = refl
none_holds (query token text parameters page) = refl
none_holds (status token) = refl
none_holds (create_index token label key) = refl
none_holds (drop_index token label key) = refl
none_holds (begin token) = refl
none_holds (commit token) = refl
none_holds (rollback token) = refl
