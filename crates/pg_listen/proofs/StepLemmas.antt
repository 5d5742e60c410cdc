-- The steps of one client.
use Rattle.std.proofs.Common.{◌≡◌, ℕ, ◌≤◌, Bool, true, false, List, [], ◌∷◌, ◌++◌, refl, sym, ap, ◌∙◌, subst, append-nil, take, drop, length, take-append-drop}
use Rattle.std.specs.Prelude.{All}
use Rattle.std.proofs.lemmas.List.Elements.{All-nil, All-push}
use Rattle.std.proofs.lemmas.Bool.{false≢true}
use Rattle.pg_listen.specs.Events.{received, answered, sent, exchanges_by}
use Rattle.pg_server.specs.Exchange.{Exchange, bodies_of, replies_of}
use Rattle.pg_server.specs.Frames.{frame, body_limit, IsShort}
use Rattle.pg_server.specs.Served.{frames, too_long_reply}
use Rattle.pg_listen.specs.Frames.{BeginsTooLong}
use Rattle.pg_listen.specs.Moves.{Seen, refusal_of, Goes, Passes}
use Rattle.pg_listen.proofs.MoveLemmas.{Passes-nil, single, still}
use Rattle.pg_listen.proofs.EventLemmas.{here, silent-nil, silent-received, silent-sent, silent-answered}

unchanged : (pending : List ℕ) (r : Bool) → pending ++ frames ([] ++ refusal_of r r) ≡ pending
unchanged pending true = append-nil pending
unchanged pending false = append-nil pending

never : {X : Type 0} (r : Bool) → r ≡ false → r ≡ true → X
never r p q = absurd (false≢true (sym p ∙ q))

pub went_nowhere : (c : ℕ) (s : Seen) → Passes c s s []
went_nowhere c s = Passes-nil c s

module _ (c : ℕ) (old : Seen) where
  sent_goes : (n : ℕ) → Goes c old (record old { pending = drop n old.pending }) (sent c (take n old.pending) ∷ [])
  sent_goes n =
      record {
        only = λ d apart. silent-sent c d _ apart;
        none_own = refl;
        received = append-nil old.inbox;
        sent = unchanged old.pending old.refused ∙ sym (take-append-drop n old.pending) ∙ ap (λ l. l ++ drop n old.pending) (sym (append-nil _ ∙ here c (take n old.pending) []));
        short = All-nil IsShort;
        stays = λ h. (h, refl);
        why = λ h. h;
      }

  pub was_sent : (n : ℕ) → Passes c old (record old { pending = drop n old.pending }) (sent c (take n old.pending) ∷ [])
  was_sent n = single c old _ _ (sent_goes n)

  module _ (open_yet : old.refused ≡ false) where
    received_goes : (bytes : List ℕ) → Goes c old (record old { inbox = old.inbox ++ bytes }) (received c bytes ∷ [])
    received_goes bytes =
        record {
          only = λ d apart. silent-received c d bytes apart;
          none_own = refl;
          received = ap (λ l. old.inbox ++ l) (append-nil _ ∙ here c bytes []);
          sent = unchanged old.pending old.refused;
          short = All-nil IsShort;
          stays = λ h. (h, refl);
          why = λ h r. never old.refused open_yet r;
        }

    pub was_received : (bytes : List ℕ) → Passes c old (record old { inbox = old.inbox ++ bytes }) (received c bytes ∷ [])
    was_received bytes = single c old _ _ (received_goes bytes)

    refused_goes : BeginsTooLong old.inbox → Goes c old (record old { pending = old.pending ++ frame too_long_reply; refused = true }) []
    refused_goes long =
        record {
          only = λ d apart. silent-nil d;
          none_own = refl;
          received = append-nil old.inbox;
          sent = ap (λ r. old.pending ++ frames ([] ++ refusal_of r true)) open_yet ∙ ap (λ l. old.pending ++ l) (append-nil (frame too_long_reply));
          short = All-nil IsShort;
          stays = λ r. never old.refused open_yet r;
          why = λ h r. long;
        }

    pub was_refused : BeginsTooLong old.inbox → Passes c old (record old { pending = old.pending ++ frame too_long_reply; refused = true }) []
    was_refused long = still c old _ (refused_goes long)

    module _ (body reply rest : List ℕ) (stands : old.inbox ≡ frame body ++ rest) (short : length body ≤ body_limit) where
      abbrev one : Exchange
      one = record { body = body; reply = reply }

      exchanges_are : exchanges_by c (answered c one ∷ []) ≡ one ∷ []
      exchanges_are = append-nil _ ∙ here c (one ∷ []) []

      answered_goes : Goes c old (record old { inbox = rest; pending = old.pending ++ frame reply }) (answered c one ∷ [])
      answered_goes =
          record {
            only = λ d apart. silent-answered c d one apart;
            none_own = refl;
            received = append-nil old.inbox ∙ stands ∙ ap (λ l. l ++ rest) (sym (append-nil (frame body))) ∙ ap (λ es. frames (bodies_of es) ++ rest) (sym exchanges_are);
            sent = ap (λ es. old.pending ++ frames (replies_of es ++ refusal_of old.refused old.refused)) exchanges_are
                ∙ ap (λ r. old.pending ++ frames ((reply ∷ []) ++ refusal_of r r)) open_yet
                ∙ ap (λ l. old.pending ++ l) (append-nil (frame reply));
            short = subst (λ es. All IsShort (bodies_of es)) (sym exchanges_are) (All-push IsShort [] body (All-nil IsShort) short);
            stays = λ r. never old.refused open_yet r;
            why = λ h r. never old.refused open_yet r;
          }

      pub was_answered : Passes c old (record old { inbox = rest; pending = old.pending ++ frame reply }) (answered c one ∷ [])
      was_answered = single c old _ _ answered_goes
