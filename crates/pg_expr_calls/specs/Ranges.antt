-- How many integers a range has, and whether they are within 64 bits.
use Rattle.std.specs.Prelude.{◌≡◌, ◌<◌, ◌^◌, ℕ, zero, suc, ℤ, ◌+ℤ◌, FitsSigned, ⊤, Ok}
use Rattle.std.specs.Int.{w64}
use Rattle.pg_meaning.specs.Functions.{integers_from, range_by}
use Rattle.pg_meaning.specs.Value.{list}

-- so many integers, from one by a step
abbrev pub AllFit : ℕ → ℤ → ℤ → Type 0
AllFit zero i step = ⊤
AllFit (suc n) i step = FitsSigned w64 i × AllFit n (i +ℤ step) step

-- how many integers a range gives, all of which fit
pub record IsLength (n : ℕ) (start end step : ℤ) : Type 0 where
  pub gives : range_by start end step ≡ Ok (list (integers_from n start step))
  pub fit : AllFit n start step
  pub few : n < 2 ^ 63
