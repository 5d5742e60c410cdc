-- Events, one after the other.
use Rattle.std.proofs.Common.{◌≡◌, ◌≢◌, ℕ, ◌==◌, List, [], ◌∷◌, ◌++◌, Option, None, Some, refl, sym, ap, ◌∙◌, subst, append_assoc, append-nil, if◌then◌else◌, arith}
use Rattle.std.proofs.lemmas.Grind.{flat_map-append}
use Rattle.pg_listen.specs.Courses.{Does, Course, OnlyCarried}
use Rattle.pg_listen.specs.Events.{Event, received, answered, sent, by_server, settling, received_at, sent_at, exchange_at, received_from, sent_to, exchanges_by, Adds, IsSilent}
use Rattle.pg_server.specs.Exchange.{Exchange}

pub Adds-nil : (a : Option (List Event)) → Adds a a []
Adds-nil None = tt
Adds-nil (Some xs) = sym (append-nil xs)

pub Adds-trans : (a b c : Option (List Event)) (xs ys : List Event) → Adds a b xs → Adds b c ys → Adds a c (xs ++ ys)
Adds-trans None b c xs ys p q = tt
Adds-trans (Some a) None c xs ys p q = absurd p
Adds-trans (Some a) (Some b) None xs ys p q = absurd q
Adds-trans (Some a) (Some b) (Some c) xs ys p q = q ∙ ap (λ l. l ++ ys) p ∙ append_assoc a xs ys

pub Course-trans : {S : Type 0} (does : S → Event → S → Type 0) (old mid new : S) (xs ys : List Event) → Course does old xs mid → Course does mid ys new → Course does old (xs ++ ys) new
Course-trans {S = S} does old mid new [] ys p q = subst (λ (s : S). Course does s ys new) p q
Course-trans does old mid new (x ∷ xs) ys p q = (p.0, p.1, Course-trans does p.0 mid new xs ys p.2 q)

-- what goes over the network leaves a service as it was
module _ {S : Type 0} (answers : S → List ℕ → List ℕ → S → Type 0) (settles : S → S → Type 0) (all_kept : S → Type 0) where
  pub carried_course : (may_send : Type 0) (s : S) → (may_send → all_kept s) → (events : List Event) → OnlyCarried may_send events → Course (Does answers settles all_kept) s events s
  carried_course may_send s may [] only = refl
  carried_course may_send s may (received c bytes ∷ events) only = (s, refl, carried_course may_send s may events only)
  carried_course may_send s may (answered c e ∷ events) only = absurd only
  carried_course may_send s may (sent c bytes ∷ events) only = (s, (may only.0, refl), carried_course may_send s may events only.1)
  carried_course may_send s may (by_server e ∷ events) only = absurd only
  carried_course may_send s may (settling ∷ events) only = absurd only

-- a client is itself, and no other
pub here : {X : Type 0} (c : ℕ) (x y : X) → (if c == c then x else y) ≡ x
here c x y = grind arith

pub elsewhere : {X : Type 0} (d c : ℕ) (x y : X) → c ≢ d → (if d == c then x else y) ≡ y
elsewhere d c x y apart = grind arith

pub silent-nil : (c : ℕ) → IsSilent c []
silent-nil c = record { received = refl; exchanges = refl; sent = refl }

pub silent-append : (c : ℕ) (xs ys : List Event) → IsSilent c xs → IsSilent c ys → IsSilent c (xs ++ ys)
silent-append c xs ys p q =
    record {
      received = flat_map-append (received_at c) xs ys ∙ ap (λ l. l ++ received_from c ys) p.received ∙ q.received;
      exchanges = flat_map-append (exchange_at c) xs ys ∙ ap (λ l. l ++ exchanges_by c ys) p.exchanges ∙ q.exchanges;
      sent = flat_map-append (sent_at c) xs ys ∙ ap (λ l. l ++ sent_to c ys) p.sent ∙ q.sent;
    }

-- one event of a client is none of another
pub silent-received : (c d : ℕ) (bytes : List ℕ) → d ≢ c → IsSilent d (received c bytes ∷ [])
silent-received c d bytes apart = record { received = append-nil _ ∙ elsewhere c d bytes [] apart; exchanges = refl; sent = refl }

pub silent-sent : (c d : ℕ) (bytes : List ℕ) → d ≢ c → IsSilent d (sent c bytes ∷ [])
silent-sent c d bytes apart = record { received = refl; exchanges = refl; sent = append-nil _ ∙ elsewhere c d bytes [] apart }

pub silent-answered : (c d : ℕ) (e : Exchange) → d ≢ c → IsSilent d (answered c e ∷ [])
silent-answered c d e apart = record { received = refl; exchanges = append-nil _ ∙ elsewhere c d (e ∷ []) [] apart; sent = refl }
