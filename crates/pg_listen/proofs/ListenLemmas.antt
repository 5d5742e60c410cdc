-- Signal by signal.
use Rattle.std.proofs.Common.{◌≡◌, ℕ, List, [], ◌∷◌, ◌++◌, Option, refl, sym, ap, ◌∙◌, subst, append-nil, append_assoc}
use Rattle.std.specs.Prelude.{All}
use Rattle.std.proofs.lemmas.List.{map-append}
use Rattle.std.proofs.lemmas.List.Elements.{All-nil, All-append}
use Rattle.std.proofs.lemmas.Grind.{flat_map-append}
use Rattle.pg_listen.specs.Courses.{Does, Course}
use Rattle.pg_listen.specs.Events.{Event, settling, own_of, carried_at, own_in, carried_in, Adds}
use Rattle.pg_server.specs.Exchange.{Exchange, bodies_of}
use Rattle.pg_listen.specs.Clients.{client_at, AllStand, Keeps, Rests, AllMoveOn}
use Rattle.pg_listen.specs.Listens.{Serves}
use Rattle.pg_listen.specs.declared.clients.Clients.{Clients}
use Rattle.pg_listen.proofs.EventLemmas.{Adds-nil, Adds-trans, Course-trans}
use Rattle.pg_listen.proofs.ClientsLemmas.{opening_moments, stand_quiet}

pub Adds-more : (p q r : Option (List Event)) (events : List Event) → Adds p q events → Adds q r [] → Adds p r events
Adds-more p q r events a b = subst (Adds p r) (append-nil events) (Adds-trans p q r events [] a b)

pub rests_nil : (p : Option (List Event)) (clients : Clients) → Rests p p clients clients
rests_nil p clients = record { known = Adds-nil p; stand = λ before s. s }

pub rests_trans : (p q r : Option (List Event)) (old mid new : Clients) → Rests p q old mid → Rests q r mid new → Rests p r old new
rests_trans p q r old mid new a b = record { known = Adds-more p q r [] a.known b.known; stand = λ before s. b.stand before (a.stand before s) }

own_more : (xs ys : List Event) → bodies_of (own_in (xs ++ ys)) ≡ bodies_of (own_in xs) ++ bodies_of (own_in ys)
own_more xs ys = ap bodies_of (flat_map-append own_of xs ys) ∙ map-append (λ (e : Exchange). e.body) (own_in xs) (own_in ys)

pub none_own : (is_own : List ℕ → Type 0) (events : List Event) → own_in events ≡ [] → All is_own (bodies_of (own_in events))
none_own is_own events none = subst (λ es. All is_own (bodies_of es)) (sym none) (All-nil is_own)

module _ {S : Type 0} (does : S → Event → S → Type 0) (is_own : List ℕ → Type 0) where
  -- what happened since the beginning, and where all stand
  pub record Listening (p q : Option (List Event)) (s t : S) (clients : Clients) : Type 0 where
    pub events : List Event
    pub known : Adds p q (carried_in events)
    pub course : Course does s events t
    pub own : All is_own (bodies_of (own_in events))
    pub stand : AllStand events clients

  pub nothing_yet : (p : Option (List Event)) (s : S) → Serves does is_own p p s s
  nothing_yet p s = record { events = []; known = Adds-nil p; course = refl; own = All-nil is_own; moments = opening_moments }

  pub listening_open : (p : Option (List Event)) (s : S) (clients : Clients) → AllStand [] clients → Listening p p s s clients
  listening_open p s clients stand = record { events = []; known = Adds-nil p; course = refl; own = All-nil is_own; stand = stand }

  pub rests_moves : (p q : Option (List Event)) (s : S) (old new : Clients) → Rests p q old new → AllMoveOn does is_own p q s s old new
  rests_moves p q s old new r = ([], record { known = r.known; course = refl; own = All-nil is_own; stand = λ before at. subst (λ l. AllStand l new) (sym (append-nil before)) (r.stand before at) })

  module _ (p q r : Option (List Event)) (s t : S) (old : Clients) (l : Listening p q s t old) where
    pub after_next : Adds q r [] → Listening p r s t old
    after_next a = record { events = l.events; known = Adds-more p q r _ l.known a; course = l.course; own = l.own; stand = l.stand }

    pub after_rests : (new : Clients) → Rests q r old new → Listening p r s t new
    after_rests new a = record { events = l.events; known = Adds-more p q r _ l.known a.known; course = l.course; own = l.own; stand = a.stand l.events l.stand }

    pub after_moves : (u : S) (new : Clients) → AllMoveOn does is_own q r t u old new → Listening p r s u new
    after_moves u new m =
        record {
          events = l.events ++ m.0;
          known = subst (Adds p r) (sym (flat_map-append carried_at l.events m.0)) (Adds-trans p q r _ _ l.known m.1.known);
          course = Course-trans does s t u _ _ l.course m.1.course;
          own = subst (All is_own) (sym (own_more l.events m.0)) (All-append is_own _ _ l.own m.1.own);
          stand = m.1.stand l.events l.stand;
        }

  pub listens : (p q : Option (List Event)) (s t : S) (clients : Clients) → Listening p q s t clients → Serves does is_own p q s t
  listens p q s t clients l = record { events = l.events; known = l.known; course = l.course; own = l.own; moments = l.stand.moments }

pub keeps_rests : (p q : Option (List Event)) (old mid new : Clients) → Keeps old mid → Rests p q mid new → Rests p q old new
keeps_rests p q old mid new a b = record { known = b.known; stand = λ before s. b.stand before (a before s) }

pub keeps_moves : {S : Type 0} (does : S → Event → S → Type 0) (is_own : List ℕ → Type 0) (p q : Option (List Event)) (s t : S) (old mid new : Clients) → Keeps old mid → AllMoveOn does is_own p q s t mid new → AllMoveOn does is_own p q s t old new
keeps_moves does is_own p q s t old mid new a m = (m.0, record { known = m.1.known; course = m.1.course; own = m.1.own; stand = λ before at. m.1.stand before (a before at) })

pub after_look : (p q r o : Option (List Event)) (old mid new : Clients) → Rests p q old mid → Adds q r [] → Rests r o mid new → Rests p o old new
after_look p q r o old mid new a n b = record { known = Adds-more p r o [] (Adds-more p q r [] a.known n) b.known; stand = λ before s. b.stand before (a.stand before s) }

-- first these events, then those
pub moves_trans : {S : Type 0} (does : S → Event → S → Type 0) (is_own : List ℕ → Type 0) (p q r : Option (List Event)) (s t u : S) (old mid new : Clients) → AllMoveOn does is_own p q s t old mid → AllMoveOn does is_own q r t u mid new → AllMoveOn does is_own p r s u old new
moves_trans does is_own p q r s t u old mid new a b = (
  a.0 ++ b.0,
  record {
    known = subst (Adds p r) (sym (flat_map-append carried_at a.0 b.0)) (Adds-trans p q r _ _ a.1.known b.1.known);
    course = Course-trans does s t u _ _ a.1.course b.1.course;
    own = subst (All is_own) (sym (own_more a.0 b.0)) (All-append is_own _ _ a.1.own b.1.own);
    stand = λ before at. subst (λ l. AllStand l new) (append_assoc before a.0 b.0) (b.1.stand (before ++ a.0) (a.1.stand before at));
  },
)

-- the service was asked to keep what it had answered
pub settling_moves : {S : Type 0} (answers : S → List ℕ → List ℕ → S → Type 0) (settles : S → S → Type 0) (all_kept : S → Type 0) (is_own : List ℕ → Type 0) (p : Option (List Event)) (s t : S) (old new : Clients)
    → settles s t → Keeps old new → AllMoveOn (Does answers settles all_kept) is_own p p s t old new
settling_moves answers settles all_kept is_own p s t old new settled keeps = (
  settling ∷ [],
  record {
    known = Adds-nil p;
    course = (t, settled, refl);
    own = All-nil is_own;
    stand = λ before at. keeps (before ++ settling ∷ []) (stand_quiet before (client_at old) old.next at settling (λ n. record { received = refl; exchanges = refl; sent = refl }));
  },
)
