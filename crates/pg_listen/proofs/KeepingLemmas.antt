-- A server beside a journal, event by event.
use Rattle.std.proofs.Common.{◌≡◌, ◌⊎◌, inl, inr, ℕ, true, false, List, [], ◌∷◌, ◌++◌, Option, Some, is_some, slice_index_or, refl, sym, ap, ◌∙◌, subst, append-nil, length}
use Rattle.std.proofs.lemmas.Bool.{false≢true, true≢false}
use Rattle.std.specs.Prelude.{IfSome}
use Rattle.pg_journal.specs.Device.{LeavesOnly}
use Rattle.pg_journal.specs.Digest.{digest_of}
use Rattle.pg_journal.specs.Views.{kept}
use Rattle.pg_journal.specs.declared.digest.Reply.{Reply}
use Rattle.pg_journal.specs.Reading.{Replayed}
use Rattle.pg_journal.specs.Records.{Kept}
use Rattle.pg_journal.specs.Ready.{IsReady, IsBeforeOrAfter, device_of}
use Rattle.pg_journal.specs.declared.journal.Journal.{Journal}
use Rattle.pg_listen.specs.Courses.{Does, Course}
use Rattle.pg_listen.specs.Events.{Event, received, answered, sent, by_server, settling, exchanges_in}
use Rattle.pg_listen.specs.Keeping.{IsKeptOf, name_of, record_of, HasKept, IsSettled, Takes, Writes, Again}
use Rattle.pg_listen.specs.Listens.{Serves, IsRollback}
use Rattle.pg_listen.specs.Moments.{Moment, moment_of, AnswersKept, AllIsKept, DoesKept, ServesKept}
use Rattle.pg_listen.specs.declared.keeper.Keeper.{Keeper}
use Rattle.pg_listen.proofs.ManyLemmas.{chain_of_course}
use Rattle.pg_server.specs.Exchange.{Chain}
use Rattle.pg_server.specs.Changes.{TellsChange}
use Rattle.pg_server.specs.Handles.{Handles, CallsAreRuns, tenant_asked}
use Rattle.pg_server.specs.Runs.{asked}
use Rattle.pg_server.specs.State.{ServerState}
use Rattle.pg_tenant.specs.Changes.{IsNoRefusal}

module _ {D S : Type 0} (honest : Type 0) (seen : D → List ℕ) (may_leave : D → List ℕ → Type 0) (moment : D → ℕ) (left_since : D → ℕ → List ℕ → Type 0) (state : S → ServerState) (names : S → List (List ℕ)) (keeper : S → Keeper D) (Same : S → S → Type 0) (same : (old new : S) → Same old new → state new ≡ state old) where
  abbrev Has : List Kept → List Kept → S → Type 0
  Has ks ws s = HasKept seen may_leave ks ws (keeper s)

  abbrev Answered : S → List ℕ → List ℕ → S → Type 0
  Answered old body reply new =
      Handles (state old) body reply (state new) × (names new ≡ names old)
      × ((more : List Kept) × IsKeptOf (names old) (state old) body reply (state new) more × Takes seen may_leave (keeper old) (keeper new) more)

  abbrev Settled : S → S → Type 0
  Settled old new = Same old new × (names new ≡ names old) × (honest → Writes seen may_leave moment left_since (keeper old) (keeper new))

  abbrev AllSettled : S → Type 0
  AllSettled s = IsSettled (keeper s)

  abbrev Left : (old new : Keeper D) (ks ws : List Kept) → Type 0
  Left old new ks ws = LeavesOnly moment left_since (device_of old.journal) (device_of new.journal) (IsBeforeOrAfter ks ws)

  abbrev Goes : S → Event → S → Type 0
  Goes = Does Answered Settled AllSettled

  abbrev at : S → List Kept → List Kept → Moment D
  at s ks ws = moment_of (state s) (names s) (keeper s) ks ws

  abbrev Ends : Moment D → List Event → S → Type 0
  Ends old events new =
      (ks : List Kept) × (ws : List Kept) × Course (DoesKept seen may_leave moment left_since) old events (at new ks ws) × Has ks ws new

  first : (old next : Moment D) (new : S) (event : Event) (events : List Event) → DoesKept seen may_leave moment left_since old event next → Ends next events new → Ends old (event ∷ events) new
  first old next new event events does r = (r.0, r.1, (next, does, r.2), r.3)

  -- a request and its reply
  kept_more : (old next : S) (body reply : List ℕ) (ks ws : List Kept) (a : Answered old body reply next) → AnswersKept (at old ks ws) body reply (at next ks (ws ++ a.2.0))
  kept_more old next body reply ks ws a = record { handles = a.0; names = a.1; more = a.2.0; is_kept = a.2.1; kept = refl; waiting = refl; lost = a.2.2.lost; file = a.2.2.file }

  -- what is sent is kept
  all_kept : (s : S) (ks ws : List Kept) → Has ks ws s → AllSettled s → AllIsKept seen may_leave (at s ks ws)
  all_kept s ks ws has settled =
      let h = has settled.1 in
      let none : ws ≡ [] = h.1 settled.0 in
      (none, subst (λ (l : List Kept). IsReady seen may_leave (keeper s).journal ks l) none h.0)

  -- what waited was written, or that was tried
  module _ (old next new : S) (events : List Event) (ks ws : List Kept) (stays : state next ≡ state old) (called : names next ≡ names old) (has : Has ks ws old)
      (more : (ks' ws' : List Kept) → Has ks' ws' next → Ends (at next ks' ws') events new) where
    written : Left (keeper old) (keeper next) ks ws → (HasKept seen may_leave (ks ++ ws) [] (keeper next)) ⊎ ((keeper next).lost ≡ true) → Ends (at old ks ws) (settling ∷ events) new
    written left (inl on_disk) = first (at old ks ws) (at next (ks ++ ws) []) new settling events (stays, called, inr (left, inl (refl, refl))) (more (ks ++ ws) [] on_disk)
    written left (inr lost) =
        first (at old ks ws) (at next ks ws) new settling events (stays, called, inr (left, inr (lost, refl, refl))) (more ks ws (λ not_lost. absurd (true≢false (sym lost ∙ not_lost))))

    tried : (keeper next ≡ keeper old) ⊎ (Left (keeper old) (keeper next) ks ws × ((HasKept seen may_leave (ks ++ ws) [] (keeper next)) ⊎ ((keeper next).lost ≡ true))) → Ends (at old ks ws) (settling ∷ events) new
    tried (inl as_was) =
        first (at old ks ws) (at next ks ws) new settling events (stays, called, inl (λ i. moment_of (stays i) (called i) (as_was i) ks ws)) (more ks ws (subst (HasKept seen may_leave ks ws) (sym as_was) has))
    tried (inr p) = written p.0 p.1

  module _ (is_honest : honest) where
    keeps_all : (old new : S) (events : List Event) (ks ws : List Kept) → Course Goes old events new → Has ks ws old → Ends (at old ks ws) events new
    keeps_all old new [] ks ws course has = (ks, ws, ap (λ s. at s ks ws) course, subst (Has ks ws) (sym course) has)
    keeps_all old new (received c bytes ∷ events) ks ws course has =
        first (at old ks ws) (at course.0 ks ws) new (received c bytes) events (ap (λ s. at s ks ws) course.1) (keeps_all course.0 new events ks ws course.2 (subst (Has ks ws) (sym course.1) has))
    keeps_all old new (answered c e ∷ events) ks ws course has =
        first (at old ks ws) (at course.0 ks (ws ++ course.1.2.0)) new (answered c e) events (kept_more old course.0 e.body e.reply ks ws course.1) (keeps_all course.0 new events ks (ws ++ course.1.2.0) course.2 (course.1.2.2.has ks ws has))
    keeps_all old new (sent c bytes ∷ events) ks ws course has =
        first (at old ks ws) (at course.0 ks ws) new (sent c bytes) events (all_kept old ks ws has course.1.0, ap (λ s. at s ks ws) course.1.1) (keeps_all course.0 new events ks ws course.2 (subst (Has ks ws) (sym course.1.1) has))
    keeps_all old new (by_server e ∷ events) ks ws course has =
        first (at old ks ws) (at course.0 ks (ws ++ course.1.2.0)) new (by_server e) events (kept_more old course.0 e.body e.reply ks ws course.1) (keeps_all course.0 new events ks (ws ++ course.1.2.0) course.2 (course.1.2.2.has ks ws has))
    keeps_all old new (settling ∷ events) ks ws course has =
        tried old course.0 new events ks ws (same old course.0 course.1.0) course.1.1 has (λ ks' ws' has'. keeps_all course.0 new events ks' ws' course.2 has') (course.1.2 is_honest ks ws has)

  pub serves_kept : (p q : Option (List Event)) (old new : S) → CallsAreRuns → Serves Goes IsRollback p q old new → ServesKept honest seen may_leave moment left_since p q (state old) (state new) (names old) (names new) (keeper old) (keeper new)
  serves_kept p q old new runs l =
      let chain : Chain Handles (state old) (exchanges_in l.events) (state new) = chain_of_course Answered Settled AllSettled state (λ s t body reply h. h.0) (λ s t h. same s t h.0) old new l.events l.course in (
        record { events = l.events; known = l.known; chain = chain; own = l.own; moments = l.moments },
        runs (state old) (state new) (exchanges_in l.events) chain,
        λ is_honest ks ws has. keeps_all is_honest old new l.events ks ws l.course has,
      )

-- one more waits
pub takes_one : {D : Type 0} (seen : D → List ℕ) (may_leave : D → List ℕ → Type 0) (old : Keeper D) (journal : Journal D) (name body reply : List ℕ) (r : Reply)
    → r.length ≡ length reply → r.digest ≡ digest_of reply
    → ((ks ws : List Kept) → IsReady seen may_leave old.journal ks ws → IsReady seen may_leave journal ks (ws ++ kept name body r ∷ []))
    → device_of journal ≡ device_of old.journal → Takes seen may_leave old (record old { journal = journal; is_settled = false }) (record_of name body reply ∷ [])
takes_one seen may_leave old journal name body reply r long digested ready file =
    let row : kept name body r ≡ record_of name body reply = (λ i. record { tenant = name; body = body; reply_length = long i; reply_digest = digested i }) in
    record {
      has = λ ks ws has lost. (
        subst (λ (k : Kept). IsReady seen may_leave journal ks (ws ++ k ∷ [])) row (ready ks ws (has lost).0),
        λ settled. absurd (false≢true settled),
      );
      lost = refl;
      file = file;
    }

-- none more
pub takes_none : {D : Type 0} (seen : D → List ℕ) (may_leave : D → List ℕ → Type 0) (old : Keeper D) (journal : Journal D)
    → ((ks ws : List Kept) → IsReady seen may_leave old.journal ks ws → IsReady seen may_leave journal ks ws)
    → device_of journal ≡ device_of old.journal → Takes seen may_leave old (record old { journal = journal }) []
takes_none seen may_leave old journal ready file =
    record {
      has = λ ks ws has lost. let h = has lost in
          (subst (λ (l : List Kept). IsReady seen may_leave journal ks l) (sym (append-nil ws)) (ready ks ws h.0), λ settled. append-nil ws ∙ h.1 settled);
      lost = refl;
      file = file;
    }

pub takes_then : {D : Type 0} (seen : D → List ℕ) (may_leave : D → List ℕ → Type 0) (old mid new : Keeper D) (more : List Kept) → Takes seen may_leave old mid [] → Takes seen may_leave mid new more → Takes seen may_leave old new more
takes_then seen may_leave old mid new more a b =
    record {
      has = λ ks ws has. subst (λ (l : List Kept). HasKept seen may_leave ks (l ++ more) new) (append-nil ws) (b.has ks (ws ++ []) (a.has ks ws has));
      lost = b.lost ∙ a.lost;
      file = b.file ∙ a.file;
    }

-- the server of each state that answers again
module _ {R : Type 0} (state : R → ServerState) (names : R → List (List ℕ)) where
  abbrev Replays : R → Kept → R → Type 0
  Replays old k new = Again (names old) (state old) k (state new) × (names new ≡ names old)

  -- over these names
  again_over : (called : List (List ℕ)) (old new : R) (ks : List Kept) → names old ≡ called → Replayed Replays old ks new → Replayed (Again called) (state old) ks (state new)
  again_over called old new [] same is = ap state is
  again_over called old new (k ∷ ks) same is = (state is.0, subst (λ ns. Again ns (state old) k (state is.0)) same is.1.0, again_over called is.0 new ks (is.1.1 ∙ same) is.2)

  names_over : (old new : R) (ks : List Kept) → Replayed Replays old ks new → names new ≡ names old
  names_over old new [] is = ap names is
  names_over old new (k ∷ ks) is = names_over is.0 new ks is.2 ∙ is.1.1

  pub again_of : (old new : R) (ks : List Kept) → Replayed Replays old ks new → Replayed (Again (names old)) (state old) ks (state new) × (names new ≡ names old)
  again_of old new ks is = (again_over (names old) old new ks refl is, names_over old new ks is)

-- what is kept of a request that may have changed a tenant
pub kept_of : (names : List (List ℕ)) (old new : ServerState) (body reply : List ℕ) (changed : Option ℕ) (place : ℕ) (name : List ℕ) → changed ≡ Some place → TellsChange (asked body) reply (is_some changed)
    → IfSome changed (λ t. tenant_asked old.tenants body ≡ Some t) → name ≡ slice_index_or names place [] → IsKeptOf names old body reply new (record_of name body reply ∷ [])
kept_of names old new body reply changed place name is told shown called =
    let accepted : IsNoRefusal reply = λ fault refused. true≢false (sym (ap is_some is) ∙ told.refused fault refused) in
    let asks : tenant_asked old.tenants body ≡ Some place = subst (λ o. IfSome o (λ t. tenant_asked old.tenants body ≡ Some t)) is shown in
    inl (
      ap (λ n. record_of n body reply ∷ []) (called ∙ sym (ap (name_of names) asks)),
      accepted,
      told.done accepted ∙ ap (λ o. Some (is_some o)) is,
    )
