-- A stream begins with one list of so many frames.
use Rattle.std.proofs.Common.{◌≡◌, ℕ, List, [], ◌∷◌, ◌++◌, arith, length, take, drop, refl, sym, ap, ◌∙◌, append_assoc, drop_at}
use lib.Seq.{take-append_seam}
use Rattle.std.specs.Int.{w32, to_be_bytes, from_be_bytes}
use Rattle.std.specs.List.{AllByRecursion}
use Rattle.std.proofs.lemmas.Nat.{from_be_bytes-to_be_bytes_4}
use Rattle.std.proofs.lemmas.List.Elements.{recursion_from_All}
use Rattle.pg_server.specs.Frames.{frame, IsShort}
use Rattle.pg_server.specs.Served.{frames, OneListOfBodies}

-- no frame is the beginning of another
frame_front : (a b x y : List ℕ) → IsShort a → IsShort b → frame a ++ x ≡ frame b ++ y → (a ≡ b) × (x ≡ y)
frame_front a b x y small small' e =
    let header : to_be_bytes w32 (length a) ≡ to_be_bytes w32 (length b) = ap (take 4) e in
    let rest : a ++ x ≡ b ++ y = ap (drop 4) e in
    let long : length a ≡ length b =
    sym (from_be_bytes-to_be_bytes_4 (length a) (omega arith)) ∙ ap (from_be_bytes w32) header ∙ from_be_bytes-to_be_bytes_4 (length b) (omega arith) in (
      sym (take-append_seam a x) ∙ ap (take (length a)) rest ∙ ap (λ n. take n (b ++ y)) long ∙ take-append_seam b y,
      sym (drop_at a x (length a) refl) ∙ ap (drop (length a)) rest ∙ drop_at b y (length a) (sym long),
    )

one : (bs cs : List (List ℕ)) (x y : List ℕ) → AllByRecursion IsShort bs → AllByRecursion IsShort cs → length bs ≡ length cs → frames bs ++ x ≡ frames cs ++ y → bs ≡ cs
one [] [] x y s t long e = refl
one [] (c ∷ cs) x y s t long e = absurd (omega arith)
one (b ∷ bs) [] x y s t long e = absurd (omega arith)
one (b ∷ bs) (c ∷ cs) x y s t long e =
    let front = frame_front b c (frames bs ++ x) (frames cs ++ y) s.0 t.0 (sym (append_assoc (frame b) (frames bs) x) ∙ e ∙ append_assoc (frame c) (frames cs) y) in
    let others = one bs cs x y s.1 t.1 (omega arith) front.1 in
    ap (λ k. k ∷ bs) front.0 ∙ ap (λ ks. c ∷ ks) others

pub one_reading : OneListOfBodies
one_reading bs cs x y s t long e = one bs cs x y (recursion_from_All IsShort bs s) (recursion_from_All IsShort cs t) long e
