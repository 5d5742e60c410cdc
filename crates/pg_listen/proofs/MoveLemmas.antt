-- A client's side goes on step by step.
use Rattle.std.proofs.Common.{◌≡◌, ℕ, Bool, true, false, List, [], ◌∷◌, ◌++◌, Option, Result, Ok, Err, OnOk, All, ◌⊎◌, inl, inr, refl, sym, ap, ◌∙◌, subst, append_assoc, append-nil}
use Rattle.std.proofs.lemmas.Grind.{flat_map-append}
use Rattle.std.proofs.lemmas.List.{map-append}
use Rattle.std.proofs.lemmas.List.Elements.{All-nil, All-append}
use Rattle.pg_listen.specs.Events.{Event, received_at, sent_at, exchange_at, own_of, own_in, carried_at, received_from, sent_to, exchanges_by, carried_in, Adds}
use Rattle.pg_listen.specs.Courses.{Does}
use Rattle.pg_server.specs.Exchange.{Exchange, bodies_of, replies_of}
use Rattle.pg_server.specs.Frames.{frame, IsShort}
use Rattle.pg_server.specs.Served.{frames}
use Rattle.pg_listen.specs.Moves.{Seen, refusal_of, Goes, Passes, Moves, Carries, Answers}
use Rattle.pg_listen.proofs.EventLemmas.{Adds-nil, Adds-trans, Course-trans, carried_course, silent-nil, silent-append}

-- a refusal comes once, and last
pub joined : (o m n : Bool) (r1 r2 : List (List ℕ)) → (o ≡ true → m ≡ true) → (m ≡ true → (n ≡ true) × (r2 ≡ [])) → (r1 ++ r2) ++ refusal_of o n ≡ (r1 ++ refusal_of o m) ++ (r2 ++ refusal_of m n)
joined false false n r1 r2 first second = append_assoc r1 r2 (refusal_of false n) ∙ ap (λ l. l ++ (r2 ++ refusal_of false n)) (sym (append-nil r1))
joined false true n r1 r2 first second =
    let (is, none) = second refl in
    ap (λ b. (r1 ++ r2) ++ refusal_of false b) is ∙ ap (λ l. (r1 ++ l) ++ refusal_of false true) none ∙ ap (λ l. l ++ refusal_of false true) (append-nil r1)
    ∙ sym (append-nil _) ∙ ap (λ l. (r1 ++ refusal_of false true) ++ (l ++ [])) (sym none)
joined true true n r1 r2 first second = append-nil (r1 ++ r2) ∙ ap (λ l. l ++ r2) (sym (append-nil r1)) ∙ ap (λ l. (r1 ++ []) ++ l) (sym (append-nil r2))
joined true false n r1 r2 first second = cc (first refl)

-- the bytes of two parts, one after the other
pub chained : (a f1 f2 t1 b t2 d : List ℕ) → a ++ f1 ≡ t1 ++ b → b ++ f2 ≡ t2 ++ d → a ++ (f1 ++ f2) ≡ (t1 ++ t2) ++ d
chained a f1 f2 t1 b t2 d p q = sym (append_assoc a f1 f2) ∙ ap (λ l. l ++ f2) p ∙ append_assoc t1 b f2 ∙ ap (λ l. t1 ++ l) q ∙ sym (append_assoc t1 t2 d)

module _ (c : ℕ) (old mid new : Seen) (xs ys : List Event) (a : Goes c old mid xs) (b : Goes c mid new ys) where
  exchanges_more : exchanges_by c (xs ++ ys) ≡ exchanges_by c xs ++ exchanges_by c ys
  exchanges_more = flat_map-append (exchange_at c) xs ys

  bodies_more : bodies_of (exchanges_by c (xs ++ ys)) ≡ bodies_of (exchanges_by c xs) ++ bodies_of (exchanges_by c ys)
  bodies_more = ap bodies_of exchanges_more ∙ map-append (λ (e : Exchange). e.body) (exchanges_by c xs) (exchanges_by c ys)

  replies_more : replies_of (exchanges_by c (xs ++ ys)) ≡ replies_of (exchanges_by c xs) ++ replies_of (exchanges_by c ys)
  replies_more = ap replies_of exchanges_more ∙ map-append (λ (e : Exchange). e.reply) (exchanges_by c xs) (exchanges_by c ys)

  all_sent : frames (replies_of (exchanges_by c (xs ++ ys)) ++ refusal_of old.refused new.refused)
      ≡ frames (replies_of (exchanges_by c xs) ++ refusal_of old.refused mid.refused) ++ frames (replies_of (exchanges_by c ys) ++ refusal_of mid.refused new.refused)
  all_sent =
      ap (λ l. frames (l ++ refusal_of old.refused new.refused)) replies_more
      ∙ ap frames (joined old.refused mid.refused new.refused _ _ (λ h. (a.stays h).0) (λ h. ((b.stays h).0, ap replies_of (b.stays h).1)))
      ∙ flat_map-append frame _ _

  received_more : old.inbox ++ (received_from c xs ++ received_from c ys) ≡ (frames (bodies_of (exchanges_by c xs)) ++ frames (bodies_of (exchanges_by c ys))) ++ new.inbox
  received_more = chained old.inbox (received_from c xs) (received_from c ys) _ mid.inbox _ new.inbox a.received b.received

  pub Goes-trans : Goes c old new (xs ++ ys)
  Goes-trans =
      record {
        only = λ d apart. silent-append d xs ys (a.only d apart) (b.only d apart);
        none_own = flat_map-append own_of xs ys ∙ ap (λ l. l ++ own_in ys) a.none_own ∙ b.none_own;
        received = ap (λ l. old.inbox ++ l) (flat_map-append (received_at c) xs ys) ∙ received_more
            ∙ ap (λ l. l ++ new.inbox) (sym (ap frames bodies_more ∙ flat_map-append frame _ _));
        sent = ap (λ l. old.pending ++ l) all_sent
            ∙ chained old.pending _ _ (sent_to c xs) mid.pending (sent_to c ys) new.pending a.sent b.sent
            ∙ ap (λ l. l ++ new.pending) (sym (flat_map-append (sent_at c) xs ys));
        short = subst (All IsShort) (sym bodies_more) (All-append IsShort _ _ a.short b.short);
        stays = λ h. ((b.stays (a.stays h).0).0, exchanges_more ∙ ap (λ l. l ++ exchanges_by c ys) (a.stays h).1 ∙ (b.stays (a.stays h).0).1);
        why = λ h. b.why (a.why h);
      }

-- where the front of two lists ends
pub split : (front back xs ys : List Event) → front ++ back ≡ xs ++ ys → ((g : List Event) × (front ++ g ≡ xs)) ⊎ ((g : List Event) × (front ≡ xs ++ g) × (g ++ back ≡ ys))
split [] back xs ys e = inl (xs, refl)
split (f ∷ front) back [] ys e = inr (f ∷ front, refl, e)
split (f ∷ front) back (x ∷ xs) ys e =
    let head : f ≡ x = cc e in
    let tail : front ++ back ≡ xs ++ ys = cc e in
    elim (split front back xs ys tail) [
      | inl p ↦ inl (p.0, ap (λ l. f ∷ l) p.1 ∙ ap (λ h. h ∷ xs) head)
      | inr p ↦ inr (p.0, ap (λ l. f ∷ l) p.1 ∙ ap (λ h. h ∷ (xs ++ p.0)) head, p.2)
    ]

module _ (c : ℕ) (old mid new : Seen) (xs ys : List Event) (a : Passes c old mid xs) (b : Passes c mid new ys) where
  moments_more : (front back : List Event) → front ++ back ≡ xs ++ ys → (at : Seen) × Goes c old at front
  moments_more front back e =
      elim (split front back xs ys e) [
        | inl p ↦ a.moments front p.0 p.1
        | inr p ↦
            let m = b.moments p.0 back p.2 in
            (m.0, subst (Goes c old m.0) (sym p.1) (Goes-trans c old mid m.0 xs p.0 a.whole m.1))
      ]

  pub Passes-trans : Passes c old new (xs ++ ys)
  Passes-trans = record { whole = Goes-trans c old mid new xs ys a.whole b.whole; moments = moments_more }

pub Goes-nil : (c : ℕ) (s : Seen) → Goes c s s []
Goes-nil c s =
    record {
      only = λ d apart. silent-nil d;
      none_own = refl;
      received = append-nil s.inbox;
      sent = unchanged s.refused;
      short = All-nil IsShort;
      stays = λ h. (h, refl);
      why = λ h. h;
    }
  where
    unchanged : (r : Bool) → s.pending ++ frames ([] ++ refusal_of r r) ≡ s.pending
    unchanged true = append-nil s.pending
    unchanged false = append-nil s.pending

-- with no event, and with one, there is no moment between
pub still : (c : ℕ) (old new : Seen) → Goes c old new [] → Passes c old new []
still c old new g = record { whole = g; moments = λ front back e. subst (λ l. (mid : Seen) × Goes c old mid l) (sym (none_in_front front back e)) (old, Goes-nil c old) }
  where
    none_in_front : (front back : List Event) → front ++ back ≡ [] → front ≡ []
    none_in_front [] back e = refl
    none_in_front (f ∷ front) back e = cc e

pub single : (c : ℕ) (old new : Seen) (event : Event) → Goes c old new (event ∷ []) → Passes c old new (event ∷ [])
single c old new event g = record { whole = g; moments = moments }
  where
    moments : (front back : List Event) → front ++ back ≡ event ∷ [] → (mid : Seen) × Goes c old mid front
    moments [] back e = (old, Goes-nil c old)
    moments (f ∷ []) back e =
        let head : f ≡ event = cc e in
        (new, subst (λ x. Goes c old new (x ∷ [])) (sym head) g)
    moments (f ∷ h ∷ front) back e = absurd (too_many e)
      where
        too_many : f ∷ (h ∷ (front ++ back)) ≡ event ∷ [] → ⊥
        too_many p = cc p

pub Passes-nil : (c : ℕ) (s : Seen) → Passes c s s []
Passes-nil c s = still c s s (Goes-nil c s)

module _ {S : Type 0} (does : S → Event → S → Type 0) (c : ℕ) where
  pub Answers-nil : (s : S) (old : Seen) → Answers does c s s old old []
  Answers-nil s old = record { passes = Passes-nil c old; none = refl; course = refl }

  module _ (old mid new : Seen) (xs ys : List Event) where
    pub Answers-trans : (s t u : S) → Answers does c s t old mid xs → Answers does c t u mid new ys → Answers does c s u old new (xs ++ ys)
    Answers-trans s t u a b =
        record {
          passes = Passes-trans c old mid new xs ys a.passes b.passes;
          none = flat_map-append carried_at xs ys ∙ ap (λ l. l ++ carried_in ys) a.none ∙ b.none;
          course = Course-trans does s t u _ _ a.course b.course;
        }

    pub Moves-trans : (s t u : S) (p q r : Option (List Event)) → Moves does c p q s t old mid xs → Moves does c q r t u mid new ys → Moves does c p r s u old new (xs ++ ys)
    Moves-trans s t u p q r a b =
        record {
          passes = Passes-trans c old mid new xs ys a.passes b.passes;
          known = subst (Adds p r) (sym (flat_map-append carried_at xs ys)) (Adds-trans p q r _ _ a.known b.known);
          course = Course-trans does s t u _ _ a.course b.course;
        }

  pub Moves-nil : (s : S) (p : Option (List Event)) (old : Seen) → Moves does c p p s s old old []
  Moves-nil s p old = record { passes = Passes-nil c old; known = Adds-nil p; course = refl }

  pub from_answers : (s t : S) (p : Option (List Event)) (old new : Seen) (xs : List Event) → Answers does c s t old new xs → Moves does c p p s t old new xs
  from_answers s t p old new xs a = record { passes = a.passes; known = subst (Adds p p) (sym a.none) (Adds-nil p); course = a.course }

  -- what went on so far, and then one call, of which P is known
  pub answers_then : (old mid : Seen) (P : Seen → Type 0) (s t u : S) → ((xs : List Event) × Answers does c s t old mid xs) → ((after : Seen) × (ys : List Event) × Answers does c t u mid after ys × P after) → (after : Seen) × (zs : List Event) × Answers does c s u old after zs × P after
  answers_then old mid P s t u a b = (b.0, a.0 ++ b.1, Answers-trans old mid b.0 a.0 b.1 s t u a.1 b.2, b.3)

  pub moves_then : (old mid : Seen) (P : Seen → Type 0) (s t u : S) (p q o : Option (List Event)) → ((xs : List Event) × Moves does c p q s t old mid xs) → ((after : Seen) × (ys : List Event) × Moves does c q o t u mid after ys × P after) → (after : Seen) × (zs : List Event) × Moves does c p o s u old after zs × P after
  moves_then old mid P s t u p q o a b = (b.0, a.0 ++ b.1, Moves-trans old mid b.0 a.0 b.1 s t u p q o a.1 b.2, b.3)

  pub answers_more : (old mid new : Seen) (s t u : S) → ((xs : List Event) × Answers does c s t old mid xs) → ((after : Seen) × (ys : List Event) × Answers does c t u mid after ys × (after ≡ new)) → (zs : List Event) × Answers does c s u old new zs
  answers_more old mid new s t u a b =
      let all = a.0 ++ b.1 in
      (all, subst (λ l. Answers does c s u old l all) b.3 (Answers-trans old mid b.0 a.0 b.1 s t u a.1 b.2))

  pub moves_more : (old mid new : Seen) (s t u : S) (p q o : Option (List Event)) → ((xs : List Event) × Moves does c p q s t old mid xs) → ((after : Seen) × (ys : List Event) × Moves does c q o t u mid after ys × (after ≡ new)) → (zs : List Event) × Moves does c p o s u old new zs
  moves_more old mid new s t u p q o a b =
      let all = a.0 ++ b.1 in
      (all, subst (λ l. Moves does c p o s u old l all) b.3 (Moves-trans old mid b.0 a.0 b.1 s t u p q o a.1 b.2))

  -- one call that answers, and then one that reads or writes
  pub answers_carries : (old mid : Seen) (P : Seen → Type 0) (s t : S) (p q : Option (List Event)) → ((after : Seen) × (xs : List Event) × Answers does c s t old after xs × (after ≡ mid)) → ((after : Seen) × (ys : List Event) × Moves does c p q t t mid after ys × P after) → (after : Seen) × (zs : List Event) × Moves does c p q s t old after zs × P after
  answers_carries old mid P s t p q a b =
      let first : Moves does c p p s t old mid a.1 = subst (λ l. Moves does c p p s t old l a.1) a.3 (from_answers s t p old a.0 a.1 a.2) in
      (b.0, a.1 ++ b.1, Moves-trans old mid b.0 a.1 b.1 s t t p p q first b.2, b.3)

  -- what went on, of which the network is told then
  pub moves_told : (old mid : Seen) (P : Seen → Type 0) (s t : S) (p q o : Option (List Event)) → mid ≡ old → ((after : Seen) × (xs : List Event) × Moves does c p q s t mid after xs × P after) → Adds q o [] → (after : Seen) × (xs : List Event) × Moves does c p o s t old after xs × P after
  moves_told old mid P s t p q o is m told =
      let known : Adds p o (carried_in m.1) = subst (Adds p o) (append-nil (carried_in m.1)) (Adds-trans p q o (carried_in m.1) [] m.2.known told) in
      let moves : Moves does c p o s t mid m.0 m.1 = record { passes = m.2.passes; known = known; course = m.2.course } in
      (m.0, m.1, subst (λ seen. Moves does c p o s t seen m.0 m.1) is moves, m.3)

-- bytes alone went over the network, and were sent only where that may be
pub from_carries : {S : Type 0} (answers : S → List ℕ → List ℕ → S → Type 0) (settles : S → S → Type 0) (all_kept : S → Type 0) (may_send : Type 0) (c : ℕ) (P : Seen → Type 0) (s : S) (p q : Option (List Event)) (old : Seen)
    → (may_send → all_kept s) → ((after : Seen) × (xs : List Event) × Carries may_send c p q old after xs × P after) → (after : Seen) × (xs : List Event) × Moves (Does answers settles all_kept) c p q s s old after xs × P after
from_carries answers settles all_kept may_send c P s p q old may a =
    (a.0, a.1, record { passes = a.2.passes; known = a.2.known; course = carried_course answers settles all_kept may_send s may a.1 a.2.only }, a.3)

-- what holds whatever the result is
pub whatever : {T E P : Type 0} (result : Result T E) → P → OnOk result P
whatever (Ok t) p = p
whatever (Err e) p = tt
