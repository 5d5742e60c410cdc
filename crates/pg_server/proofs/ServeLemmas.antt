-- A run of the server goes on by one frame, and ends.
use Rattle.std.proofs.Common.{◌≡◌, ℕ, ◌+◌, ◌<◌, ◌≤◌, List, [], ◌∷◌, ◌++◌, Option, Ok, Err, arith, length, take, refl, sym, ap, ◌∙◌, subst, inl, inr, append-nil, length-append, length-take}
use Rattle.std.specs.Prelude.{All}
use Rattle.std.specs.Io.KnownBytes.{Consumes, Appends}
use Rattle.std.proofs.KnownBytes.{Consumes-trans, Appends-trans, Consumes-nil, Appends-nil}
use Rattle.std.proofs.lemmas.Grind.{flat_map-append}
use Rattle.std.proofs.lemmas.List.{map-append}
use Rattle.std.proofs.lemmas.List.Elements.{All-nil, All-push}
use Rattle.pg_server.specs.declared.wire.Incoming.TheVariants.{NoFrame, Cut as CutFrame, TooLong as LongFrame, Failed, Body}
use Rattle.pg_server.specs.declared.end.End.TheVariants.{Done, Cut, TooLong, ReadFailed, WriteFailed, NoMemory}
use Rattle.pg_server.specs.Frames.{frame, body_limit, IsShort}
use Rattle.pg_server.specs.Wire.{Receives, Sends}
use Rattle.pg_server.specs.Exchange.{Exchange, bodies_of, replies_of, Chain}
use Rattle.pg_server.specs.Served.{Served, device, frames, too_long_reply}

-- so many frames were read and answered, and nothing else
pub record HasServed {S : Type 0} (answers : S → List ℕ → List ℕ → S → Type 0) (a b c d : Option (List ℕ)) (old new : S) (served : ℕ) : Type 0 where
  pub exchanges : List Exchange
  pub read : Consumes a b (frames (bodies_of exchanges))
  pub wrote : Appends c d (frames (replies_of exchanges))
  pub short : All IsShort (bodies_of exchanges)
  pub count : length exchanges ≡ served
  pub chain : Chain answers old exchanges new

pub none_served : {S : Type 0} (answers : S → List ℕ → List ℕ → S → Type 0) (a c : Option (List ℕ)) (s : S) → HasServed answers a a c c s s 0
none_served answers a c s = record { exchanges = []; read = Consumes-nil a; wrote = Appends-nil c; short = All-nil _; count = refl; chain = refl }

pub no_memory : {S : Type 0} (answers : S → List ℕ → List ℕ → S → Type 0) (a c : Option (List ℕ)) (s : S) (most : ℕ) → Served answers (device a a) (device c c) s s most NoMemory
no_memory answers a c s most =
    record { transcript = record { exchanges = []; rest = []; output = [] }; read = Consumes-nil a; wrote = Appends-nil c; short = All-nil _; count = omega arith; ends = (refl, refl, refl); chain = refl }

frames-push : (bodies : List (List ℕ)) (body : List ℕ) → frames (bodies ++ body ∷ []) ≡ frames bodies ++ frame body
frames-push bodies body = flat_map-append frame bodies (body ∷ []) ∙ ap (λ l. frames bodies ++ l) (append-nil (frame body))

-- a chain goes on by one exchange
Chain-more : {S : Type 0} (answers : S → List ℕ → List ℕ → S → Type 0) (old mid new : S) (es : List Exchange) (e : Exchange) → Chain answers old es mid → answers mid e.body e.reply new → Chain answers old (es ++ e ∷ []) new
Chain-more {S = S} answers old mid new [] e chain step = (new, subst (λ (s : S). answers s e.body e.reply new) chain step, refl)
Chain-more answers old mid new (f ∷ es) e chain step = (chain.0, chain.1, Chain-more answers chain.0 mid new es e chain.2 step)

module _ (S : Type 0) (answers : S → List ℕ → List ℕ → S → Type 0) (a b c d : Option (List ℕ)) (old mid : S) (served most : ℕ) (so_far : HasServed answers a b c d old mid served) where
  abbrev es : List Exchange
  es = so_far.exchanges

  ended : (b' : Option (List ℕ)) (got : List ℕ) → Consumes b b' got → Consumes a b' (frames (bodies_of es) ++ got)
  ended b' got read = Consumes-trans a b b' _ _ so_far.read read

  pub all_done : served ≡ most → Served answers (device a b) (device c d) old mid most Done
  all_done all =
      record {
        transcript = record { exchanges = es; rest = []; output = frames (replies_of es) };
        read = subst (Consumes a b) (sym (append-nil (frames (bodies_of es)))) so_far.read;
        wrote = so_far.wrote;
        short = so_far.short;
        count = omega (arith, so_far.count);
        ends = (refl, refl, inr (so_far.count ∙ all));
        chain = so_far.chain;
      }

  module _ (few : served < most) (b' : Option (List ℕ)) (f0 f1 : ℕ) (buf : List ℕ) where
    pub done : Receives b b' f0 f1 buf NoFrame → Served answers (device a b') (device c d) old mid most Done
    done r =
        record {
          transcript = record { exchanges = es; rest = r.got; output = frames (replies_of es) };
          read = ended b' r.got r.read;
          wrote = so_far.wrote;
          short = so_far.short;
          count = omega (arith, so_far.count);
          ends = (r.incoming.0, refl, inl r.incoming.1);
          chain = so_far.chain;
        }

    pub cut : Receives b b' f0 f1 buf CutFrame → Served answers (device a b') (device c d) old mid most Cut
    cut r =
        record {
          transcript = record { exchanges = es; rest = r.got; output = frames (replies_of es) };
          read = ended b' r.got r.read;
          wrote = so_far.wrote;
          short = so_far.short;
          count = omega (arith, so_far.count);
          ends = ((r.incoming.0, r.incoming.1), refl, r.incoming.2, omega (arith, so_far.count));
          chain = so_far.chain;
        }

    pub read_failed : Receives b b' f0 f1 buf Failed → Served answers (device a b') (device c d) old mid most ReadFailed
    read_failed r =
        record {
          transcript = record { exchanges = es; rest = r.got; output = frames (replies_of es) };
          read = ended b' r.got r.read;
          wrote = so_far.wrote;
          short = so_far.short;
          count = omega (arith, so_far.count);
          ends = (r.incoming.0, refl, omega (arith, so_far.count));
          chain = so_far.chain;
        }

    module _ (d' : Option (List ℕ)) (g0 g1 : ℕ) where
      pub too_long : {T E : Type 0} → Receives b b' f0 f1 buf LongFrame → (u : T) (text : List ℕ) → text ≡ too_long_reply → Sends {E = E} d d' g0 g1 (frame text) (Ok u) → Served answers (device a b') (device c d') old mid most TooLong
      too_long r u text is s =
          let all : s.sent ≡ frame too_long_reply = sym (s.parts ∙ ap (λ l. s.sent ++ l) s.ok.0 ∙ append-nil s.sent) ∙ ap frame is in
          record {
            transcript = record { exchanges = es; rest = r.got; output = frames (replies_of es) ++ s.sent };
            read = ended b' r.got r.read;
            wrote = Appends-trans c d d' _ _ so_far.wrote s.wrote;
            short = so_far.short;
            count = omega (arith, so_far.count);
            ends = (r.incoming.0, ap (λ l. frames (replies_of es) ++ l) all ∙ sym (frames-push (replies_of es) too_long_reply), omega (arith, so_far.count));
            chain = so_far.chain;
          }

      pub too_long_failed : {T E : Type 0} → Receives b b' f0 f1 buf LongFrame → (e : E) (text : List ℕ) → text ≡ too_long_reply → Sends {T = T} d d' g0 g1 (frame text) (Err e) → Served answers (device a b') (device c d') old mid most WriteFailed
      too_long_failed r e text is s =
          record {
            transcript = record { exchanges = es; rest = r.got; output = frames (replies_of es) ++ s.sent };
            read = ended b' r.got r.read;
            wrote = Appends-trans c d d' _ _ so_far.wrote s.wrote;
            short = so_far.short;
            count = omega (arith, so_far.count);
            ends = inr (r.incoming.0, record { before = replies_of es; last = too_long_reply; sent = s.sent; lacking = s.lacking; bodies_are = refl; output_is = refl; last_is = ap frame (sym is) ∙ s.parts; some = s.err.0 }, omega (arith, so_far.count));
            chain = so_far.chain;
          }

      -- one exchange more
      module _ (n : ℕ) (body reply : List ℕ) (new : S) (r : Receives b b' f0 f1 buf (Body n)) (is : body ≡ take n buf) (step : answers mid body reply new) (text : List ℕ) (shown : text ≡ reply) where
        abbrev one : Exchange
        one = record { body = body; reply = reply }

        bodies_more : bodies_of (es ++ one ∷ []) ≡ bodies_of es ++ body ∷ []
        bodies_more = map-append (λ (e : Exchange). e.body) es (one ∷ [])

        replies_more : replies_of (es ++ one ∷ []) ≡ replies_of es ++ reply ∷ []
        replies_more = map-append (λ (e : Exchange). e.reply) es (one ∷ [])

        read_more : Consumes a b' (frames (bodies_of (es ++ one ∷ [])))
        read_more =
            let got : r.got ≡ frame body = r.incoming.0 ∙ ap frame (sym is) in
            subst (Consumes a b') (sym (ap frames bodies_more ∙ frames-push (bodies_of es) body) ∙ refl)
            (Consumes-trans a b b' _ _ so_far.read (subst (Consumes b b') got r.read))

        short_more : All IsShort (bodies_of (es ++ one ∷ []))
        short_more =
            let small : length body ≤ body_limit = omega (arith, ap length is, length-take n buf, r.incoming.1) in
            subst (All IsShort) (sym bodies_more) (All-push IsShort (bodies_of es) body so_far.short small)

        count_more : length (es ++ one ∷ []) ≡ served + 1
        count_more = omega (arith, length-append es (one ∷ []), so_far.count)

        pub one_more : {T E : Type 0} → (u : T) → Sends {E = E} d d' g0 g1 (frame text) (Ok u) → HasServed answers a b' c d' old new (served + 1)
        one_more u s =
            let all : s.sent ≡ frame reply = sym (s.parts ∙ ap (λ l. s.sent ++ l) s.ok.0 ∙ append-nil s.sent) ∙ ap frame shown in
            record {
              exchanges = es ++ one ∷ [];
              read = read_more;
              wrote = subst (Appends c d') (sym (ap frames replies_more ∙ frames-push (replies_of es) reply)) (Appends-trans c d d' _ _ so_far.wrote (subst (Appends d d') all s.wrote));
              short = short_more;
              count = count_more;
              chain = Chain-more answers old mid new es one so_far.chain step;
            }

        pub write_failed : {T E : Type 0} → (e : E) → Sends {T = T} d d' g0 g1 (frame text) (Err e) → Served answers (device a b') (device c d') old new most WriteFailed
        write_failed e s =
            record {
              transcript = record { exchanges = es ++ one ∷ []; rest = []; output = frames (replies_of es) ++ s.sent };
              read = subst (Consumes a b') (sym (append-nil (frames (bodies_of (es ++ one ∷ []))))) read_more;
              wrote = Appends-trans c d d' _ _ so_far.wrote s.wrote;
              short = short_more;
              count = omega (arith, count_more);
              ends = inl (refl, record { before = replies_of es; last = reply; sent = s.sent; lacking = s.lacking; bodies_are = replies_more; output_is = refl; last_is = ap frame (sym shown) ∙ s.parts; some = s.err.0 });
              chain = Chain-more answers old mid new es one so_far.chain step;
            }
