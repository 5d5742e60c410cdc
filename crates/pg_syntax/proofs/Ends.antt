-- Where a token of a list ends.
use Rattle.std.proofs.Common.{◌≡◌, ℕ, zero, suc, ◌<◌, ◌≤◌, List, [], ◌∷◌, length, get_or, refl, sym, ap, arith}
use Rattle.std.specs.Prelude.{slice_get}
use Rattle.pg_lex.specs.View.{tokens_view}
use Rattle.pg_lex.specs.declared.token.Token.{Token}
use Rattle.pg_meaning.specs.Parse.{finish_of}

pub found_at : (ts : List Token) (i : ℕ) (t : Token) → i < length ts → t ≡ get_or ts i t → finish_of (slice_get (tokens_view ts) i) ≡ t.finish
found_at [] i t within is = absurd (omega arith)
found_at (u ∷ ts) zero t within is = ap (λ (x : Token). x.finish) (sym is)
found_at (u ∷ ts) (suc i) t within is = found_at ts i t (omega arith) is

pub none_at : (ts : List Token) (i : ℕ) → length ts ≤ i → finish_of (slice_get (tokens_view ts) i) ≡ 0
none_at [] i past = refl
none_at (u ∷ ts) zero past = absurd (omega arith)
none_at (u ∷ ts) (suc i) past = none_at ts i (omega arith)
