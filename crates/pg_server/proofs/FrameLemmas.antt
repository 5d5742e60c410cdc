-- A frame that is read or written part by part.
use Rattle.std.proofs.Common.{◌≡◌, ℕ, ◌<◌, ◌≤◌, ◌^◌, List, ◌++◌, Option, Result, Ok, Err, arith, length, take, sym, ap, ◌∙◌, subst, inr, append_assoc, append-nil, length-append}
use lib.Seq.{take-append_seam}
use Rattle.std.proofs.KnownBytes.{Consumes-trans, Appends-trans}
use Rattle.std.proofs.lemmas.Nat.{be_bytes_4}
use Rattle.std.proofs.lemmas.Result.{on_ok_weaker, on_err_weaker}
use Rattle.std.specs.Int.{w32, to_be_bytes, from_be_bytes}
use Rattle.pg_server.specs.declared.wire.Filled.TheVariants.{Whole, Ended, Failed as NotFilled}
use Rattle.pg_server.specs.declared.wire.Incoming.TheVariants.{Cut, TooLong, Failed, Body}
use Rattle.pg_server.specs.Counts.{next_count}
use Rattle.pg_server.specs.Frames.{frame, body_limit, IsPartial}
use Rattle.pg_server.specs.Wire.{AreBytes, Fills, Receives, Sends}

-- the four bytes that were read are those of the length
module _ (a b : Option (List ℕ)) (f0 f1 : ℕ) (header : List ℕ) (n : ℕ) (first : Fills a b f0 f1 header Whole) (four : length header ≡ 4) (bytes : AreBytes header) (is : n ≡ from_be_bytes w32 header) where
  header_is : first.got ≡ to_be_bytes w32 n
  header_is = first.filled.0 ∙ sym (be_bytes_4 header n four bytes is)

  pub too_long : (buf : List ℕ) → body_limit < n → n < 2 ^ 32 → Receives a b f0 f1 buf TooLong
  too_long buf over small = record { got = first.got; read = first.read; incoming = ((n, header_is, over, small), first.filled.1) }

  module _ (c : Option (List ℕ)) (f2 : ℕ) (body rest : List ℕ) (long : length body ≡ n) (within : n ≤ body_limit) where
    pub whole_frame : Fills b c f1 f2 body Whole → Receives a c f0 f2 (body ++ rest) (Body n)
    whole_frame second =
        let taken : take n (body ++ rest) ≡ body = ap (λ k. take k (body ++ rest)) (sym long) ∙ take-append_seam body rest in
        let front : first.got ≡ to_be_bytes w32 (length body) = header_is ∙ ap (to_be_bytes w32) (sym long) in
        record {
          got = first.got ++ second.got;
          read = Consumes-trans a b c _ _ first.read second.read;
          incoming = (ap (λ h. h ++ second.got) front ∙ ap (λ l. to_be_bytes w32 (length body) ++ l) second.filled.0 ∙ ap frame (sym taken), within, second.filled.1 ∙ first.filled.1);
        }

    partial_frame : (got : List ℕ) → length got < length body → IsPartial (first.got ++ got)
    partial_frame got few = inr (n, got, ap (λ h. h ++ got) header_is, within, omega arith)

    pub cut_frame : (k : ℕ) → Fills b c f1 f2 body (Ended k) → Receives a c f0 f2 (body ++ rest) Cut
    cut_frame k second =
        let some : length first.got ≡ 4 = ap length first.filled.0 ∙ four in
        let few : length second.got < length body = omega (arith, second.filled.0, second.filled.1) in
        record {
          got = first.got ++ second.got;
          read = Consumes-trans a b c _ _ first.read second.read;
          incoming = (partial_frame second.got few, omega (arith, length-append first.got second.got, some), second.filled.2, second.filled.3 ∙ first.filled.1);
        }

    pub failed_frame : Fills b c f1 f2 body NotFilled → Receives a c f0 f2 (body ++ rest) Failed
    failed_frame second =
        record {
          got = first.got ++ second.got;
          read = Consumes-trans a b c _ _ first.read second.read;
          incoming = (partial_frame second.got second.filled.0, second.filled.1 ∙ ap next_count first.filled.1);
        }

-- the writer failed in the front
pub sends_front : {T U E : Type 0} (front back : List ℕ) (a b : Option (List ℕ)) (f0 f1 : ℕ) (e e' : E) (r : Result U E) → r ≡ Err e' → Sends {T = T} {E = E} a b f0 f1 front (Err e) → Sends a b f0 f1 (front ++ back) r
sends_front front back a b f0 f1 e e' r err s =
    subst (Sends a b f0 f1 (front ++ back)) (sym err)
    (record {
      sent = s.sent;
      lacking = s.lacking ++ back;
      wrote = s.wrote;
      parts = ap (λ l. l ++ back) s.parts ∙ append_assoc s.sent s.lacking back;
      ok = tt;
      err = (omega (arith, length-append s.lacking back, s.err.0), s.err.1);
    })

-- it took the front, and then what it took of the back
pub sends_then : {T U E : Type 0} (front back : List ℕ) (a b c : Option (List ℕ)) (f0 f1 f2 : ℕ) (u : T) (r : Result U E) → Sends {T = T} {E = E} a b f0 f1 front (Ok u) → Sends b c f1 f2 back r → Sends a c f0 f2 (front ++ back) r
sends_then front back a b c f0 f1 f2 u r s t =
    let all : front ≡ s.sent = s.parts ∙ ap (λ l. s.sent ++ l) s.ok.0 ∙ append-nil s.sent in
    record {
      sent = s.sent ++ t.sent;
      lacking = t.lacking;
      wrote = Appends-trans a b c _ _ s.wrote t.wrote;
      parts = ap (λ l. l ++ back) all ∙ ap (λ l. s.sent ++ l) t.parts ∙ sym (append_assoc s.sent t.sent t.lacking);
      ok = on_ok_weaker r (λ h. (h.0, h.1 ∙ s.ok.1)) t.ok;
      err = on_err_weaker r (λ h. (h.0, h.1 ∙ ap next_count s.ok.1)) t.err;
    }
