-- The table of clients changes at one client at a time.
use Rattle.std.proofs.Common.{◌≡◌, ◌≢◌, ℕ, ◌+◌, ◌≤◌, false, List, [], ◌∷◌, ◌++◌, Option, Some, None, sym, ap, ◌∙◌, subst, append-nil, cond, nat_eq, arith}
use Rattle.std.specs.Prelude.{All}
use Rattle.std.proofs.Common.{inl, inr}
use Rattle.std.proofs.lemmas.Bool.{cases_eq, false≢true}
use Rattle.std.proofs.lemmas.Grind.{flat_map-append}
use Rattle.std.proofs.lemmas.List.{map-append}
use Rattle.std.proofs.lemmas.List.Elements.{All-nil, All-append}
use Rattle.pg_listen.specs.Client.{seen}
use Rattle.pg_listen.specs.declared.client.Client.{Client}
use Rattle.pg_listen.specs.Events.{Event, received_at, sent_at, exchange_at, received_from, sent_to, exchanges_by, IsSilent}
use Rattle.pg_server.specs.Exchange.{Exchange, bodies_of, replies_of}
use Rattle.pg_server.specs.Frames.{frame, IsShort}
use Rattle.pg_server.specs.Served.{frames}
use Rattle.pg_listen.specs.Clients.{Stand}
use Rattle.pg_listen.specs.Listens.{StandsAt, Converses}
use Rattle.pg_listen.specs.Moves.{Seen, opening, refusal_of, Goes, Passes}
use Rattle.pg_listen.proofs.EventLemmas.{here, elsewhere, silent-nil, silent-append}
use Rattle.pg_listen.proofs.MoveLemmas.{joined, chained, split, Passes-nil}

module _ (c : ℕ) (before events : List Event) where
  exchanges_more : exchanges_by c (before ++ events) ≡ exchanges_by c before ++ exchanges_by c events
  exchanges_more = flat_map-append (exchange_at c) before events

  bodies_more : bodies_of (exchanges_by c (before ++ events)) ≡ bodies_of (exchanges_by c before) ++ bodies_of (exchanges_by c events)
  bodies_more = ap bodies_of exchanges_more ∙ map-append (λ (e : Exchange). e.body) (exchanges_by c before) (exchanges_by c events)

  replies_more : replies_of (exchanges_by c (before ++ events)) ≡ replies_of (exchanges_by c before) ++ replies_of (exchanges_by c events)
  replies_more = ap replies_of exchanges_more ∙ map-append (λ (e : Exchange). e.reply) (exchanges_by c before) (exchanges_by c events)

  -- its own events lead on
  pub stands_more : (old new : Seen) → StandsAt c before old → Goes c old new events → StandsAt c (before ++ events) new
  stands_more old new s g =
      record {
        received = flat_map-append (received_at c) before events
            ∙ chained [] (received_from c before) (received_from c events) (frames (bodies_of (exchanges_by c before))) old.inbox (frames (bodies_of (exchanges_by c events))) new.inbox s.received g.received
            ∙ ap (λ l. l ++ new.inbox) (sym (ap frames bodies_more ∙ flat_map-append frame _ _));
        sent = ap (λ l. frames (l ++ refusal_of false new.refused)) replies_more
            ∙ ap frames (joined false old.refused new.refused _ _ (λ h. absurd (false≢true h)) (λ h. ((g.stays h).0, ap replies_of (g.stays h).1)))
            ∙ flat_map-append frame _ _
            ∙ chained [] _ _ (sent_to c before) old.pending (sent_to c events) new.pending s.sent g.sent
            ∙ ap (λ l. l ++ new.pending) (sym (flat_map-append (sent_at c) before events));
        short = subst (All IsShort) (sym bodies_more) (All-append IsShort _ _ s.short g.short);
        why = g.why s.why;
      }

  -- those of others leave it there
  pub stands_still : (s : Seen) → IsSilent c events → StandsAt c before s → StandsAt c (before ++ events) s
  stands_still s quiet at =
      let same : exchanges_by c (before ++ events) ≡ exchanges_by c before = exchanges_more ∙ ap (λ l. exchanges_by c before ++ l) quiet.exchanges ∙ append-nil _ in
      let received_same : received_from c (before ++ events) ≡ received_from c before = flat_map-append (received_at c) before events ∙ ap (λ l. received_from c before ++ l) quiet.received ∙ append-nil _ in
      let sent_same : sent_to c (before ++ events) ≡ sent_to c before = flat_map-append (sent_at c) before events ∙ ap (λ l. sent_to c before ++ l) quiet.sent ∙ append-nil _ in
      record {
        received = received_same ∙ at.received ∙ ap (λ es. frames (bodies_of es) ++ s.inbox) (sym same);
        sent = ap (λ es. frames (replies_of es ++ refusal_of false s.refused)) same ∙ at.sent ∙ ap (λ l. l ++ s.pending) (sym sent_same);
        short = subst (λ es. All IsShort (bodies_of es)) (sym same) at.short;
        why = at.why;
      }

pub stands_open : (c : ℕ) (events : List Event) → IsSilent c events → StandsAt c events opening
stands_open c events quiet =
    record {
      received = quiet.received ∙ ap (λ es. frames (bodies_of es) ++ []) (sym quiet.exchanges);
      sent = ap (λ es. frames (replies_of es ++ [])) quiet.exchanges ∙ ap (λ l. l ++ []) (sym quiet.sent);
      short = subst (λ es. All IsShort (bodies_of es)) (sym quiet.exchanges) (All-nil IsShort);
      why = λ h. absurd (false≢true h);
    }

-- nothing has happened
pub opening_moments : (front back : List Event) → front ++ back ≡ [] → (c : ℕ) → Converses c front
opening_moments [] back e c = (opening, stands_open c [] (silent-nil c))
opening_moments (f ∷ front) back e c = absurd (something e)
  where
    something : f ∷ (front ++ back) ≡ [] → ⊥
    something p = cc p

none_is_not_some : {X : Type 0} (x : X) → None ≡ Some x → ⊥
none_is_not_some x e = cc e

-- what a change at one key says of it, and of each other one
pub at_key : {X : Type 0} (at at' : ℕ → Option X) (k : ℕ) (w : Option X) → ((q : ℕ) → at' q ≡ cond (nat_eq k q) w (at q)) → at' k ≡ w
at_key at at' k w change = change k ∙ here k w (at k)

pub at_others : {X : Type 0} (at at' : ℕ → Option X) (k : ℕ) (w : Option X) → ((q : ℕ) → at' q ≡ cond (nat_eq k q) w (at q)) → (q : ℕ) → q ≢ k → at' q ≡ at q
at_others at at' k w change q apart = change q ∙ elsewhere k q w (at q) apart

module _ (before : List Event) (at at' : ℕ → Option Client) (next : ℕ) (s : Stand before at next) where
  -- fewer are served
  pub stand_removed : (k : ℕ) → at' k ≡ None → ((q : ℕ) → q ≢ k → at' q ≡ at q) → Stand before at' next
  stand_removed k gone others =
      record {
        moments = s.moments;
        live = λ c client is.
            elim (cases_eq c k) [
              | inl same ↦ absurd (none_is_not_some client (sym gone ∙ ap at' (sym same) ∙ is))
              | inr differs ↦ s.live c client (sym (others c differs) ∙ is)
            ];
        fresh = λ c above. (
          (s.fresh c above).0,
          elim (cases_eq c k) [
            | inl same ↦ ap at' same ∙ gone
            | inr differs ↦ others c differs ∙ (s.fresh c above).1
          ],
        );
      }

  -- the next one is skipped
  pub stand_skipped : ((q : ℕ) → at' q ≡ at q) → Stand before at' (next + 1)
  stand_skipped same =
      record {
        moments = s.moments;
        live = λ c client is. s.live c client (sym (same c) ∙ is);
        fresh = λ c above. ((s.fresh c (omega (arith, above))).0, same c ∙ (s.fresh c (omega (arith, above))).1);
      }

  -- the next one is served
  pub stand_admitted : (client : Client) → seen client ≡ opening → at' next ≡ Some client → ((q : ℕ) → q ≢ next → at' q ≡ at q) → Stand before at' (next + 1)
  stand_admitted client opens is others =
      record {
        moments = s.moments;
        live = λ c one found.
            elim (cases_eq c next) [
              | inl same ↦
                  let quiet = (s.fresh c (omega (arith, same))).0 in
                  let alike : client ≡ one = some_alike client one (sym is ∙ ap at' (sym same) ∙ found) in
                  subst (StandsAt c before) (sym opens ∙ ap seen alike) (stands_open c before quiet)
              | inr differs ↦ s.live c one (sym (others c differs) ∙ found)
            ];
        fresh = λ c above.
            let was = s.fresh c (omega (arith, above)) in
            let apart : c ≢ next = λ same. omega (arith, above, same) in
            (was.0, others c apart ∙ was.1);
      }
    where
      some_alike : (x y : Client) → Some x ≡ Some y → x ≡ y
      some_alike x y e = cc e

  -- one that is served goes on
  module _ (k : ℕ) (client : Client) (is : at k ≡ Some client) (after : Seen) (events : List Event) (passes : Passes k (seen client) after events) (others : (q : ℕ) → q ≢ k → at' q ≡ at q) where
    -- a part of the new events, at its end
    part : (c : ℕ) (events : List Event) (mid : Seen) → Goes k (seen client) mid events → Converses c (before ++ events)
    part c events mid goes =
        elim (cases_eq c k) [
          | inl same ↦ (mid, subst (λ d. StandsAt d (before ++ events) mid) (sym same) (stands_more k before events (seen client) mid (s.live k client is) goes))
          | inr differs ↦
              let was = s.moments before [] (append-nil before) c in
              (was.0, stands_still c before events was.0 (goes.only c differs) was.1)
        ]

    moments_more : (front back : List Event) → front ++ back ≡ before ++ events → (c : ℕ) → Converses c front
    moments_more front back e c =
        elim (split front back before events e) [
          | inl p ↦ s.moments front p.0 p.1 c
          | inr p ↦
              let m = passes.moments p.0 back p.2 in
              subst (Converses c) (sym p.1) (part c p.0 m.0 m.1)
        ]

    goes : Goes k (seen client) after events
    goes = passes.whole

    served : (c : ℕ) → next ≤ c → c ≢ k
    served c above same = none_is_not_some client (sym (s.fresh c above).1 ∙ ap at same ∙ is)

    fresh_more : (c : ℕ) → next ≤ c → IsSilent c (before ++ events) × (at' c ≡ None)
    fresh_more c above = (silent-append c before events (s.fresh c above).0 (goes.only c (served c above)), others c (served c above) ∙ (s.fresh c above).1)

    pub stand_moved : (new : Client) → at' k ≡ Some new → after ≡ seen new → Stand (before ++ events) at' next
    stand_moved new now stands =
        record {
          moments = moments_more;
          live = λ c one found.
              elim (cases_eq c k) [
                | inl same ↦
                    let alike : new ≡ one = some_alike new one (sym now ∙ ap at' (sym same) ∙ found) in
                    subst (λ d. StandsAt d (before ++ events) (seen one)) (sym same)
                    (subst (StandsAt k (before ++ events)) (stands ∙ ap seen alike) (stands_more k before events (seen client) after (s.live k client is) goes))
                | inr differs ↦ stands_still c before events (seen one) (goes.only c differs) (s.live c one (sym (others c differs) ∙ found))
              ];
          fresh = fresh_more;
        }
      where
        some_alike : (x y : Client) → Some x ≡ Some y → x ≡ y
        some_alike x y e = cc e

    pub stand_lost : at' k ≡ None → Stand (before ++ events) at' next
    stand_lost now =
        record {
          moments = moments_more;
          live = λ c one found.
              elim (cases_eq c k) [
                | inl same ↦ absurd (none_is_not_some one (sym now ∙ ap at' (sym same) ∙ found))
                | inr differs ↦ stands_still c before events (seen one) (goes.only c differs) (s.live c one (sym (others c differs) ∙ found))
              ];
          fresh = fresh_more;
        }

  -- one that is served changes, and stands where it stood
  pub stand_kept : (k : ℕ) (client : Client) → at k ≡ Some client → ((q : ℕ) → q ≢ k → at' q ≡ at q) → (new : Client) → at' k ≡ Some new → seen client ≡ seen new → Stand before at' next
  stand_kept k client is others new now same =
      subst (λ l. Stand l at' next) (append-nil before) (stand_moved k client is (seen client) [] (Passes-nil k (seen client)) others new now same)

-- an event that concerns no client
module _ (event : Event) (c : ℕ) (quiet : IsSilent c (event ∷ [])) where
  beginning_silent : (front back : List Event) → front ++ back ≡ event ∷ [] → IsSilent c front
  beginning_silent [] back are = silent-nil c
  beginning_silent (f ∷ []) back are =
      let head : f ≡ event = cc are in
      subst (λ x. IsSilent c (x ∷ [])) (sym head) quiet
  beginning_silent (f ∷ h ∷ front) back are = absurd (too_many are)
    where
      too_many : f ∷ (h ∷ (front ++ back)) ≡ event ∷ [] → ⊥
      too_many p = cc p

module _ (before : List Event) (at : ℕ → Option Client) (next : ℕ) (s : Stand before at next) (event : Event) (quiet : (c : ℕ) → IsSilent c (event ∷ [])) where
  quiet_moments : (front back : List Event) → front ++ back ≡ before ++ event ∷ [] → (c : ℕ) → Converses c front
  quiet_moments front back are c =
      elim (split front back before (event ∷ []) are) [
        | inl p ↦ s.moments front p.0 p.1 c
        | inr p ↦
            let was = s.moments before [] (append-nil before) c in
            subst (Converses c) (sym p.1) (was.0, stands_still c before p.0 was.0 (beginning_silent event c (quiet c) p.0 back p.2) was.1)
      ]

  pub stand_quiet : Stand (before ++ event ∷ []) at next
  stand_quiet =
      record {
        moments = quiet_moments;
        live = λ c client is. stands_still c before (event ∷ []) (seen client) (quiet c) (s.live c client is);
        fresh = λ c above. (silent-append c before (event ∷ []) (s.fresh c above).0 (quiet c), (s.fresh c above).1);
      }
