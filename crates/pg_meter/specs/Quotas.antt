-- What a meter and a room stand for.
use Rattle.std.specs.Prelude.{ℕ, Result, Ok, Err}
use Rattle.pg_meaning.specs.declared.fault.Fault.{Fault}

pub record Steps : Type 0 where
  pub used : ℕ
  pub limit : ℕ

pub record Elements : Type 0 where
  pub elements : ℕ
  pub limit : ℕ

-- a number where the test passes
abbrev pub after_test : Result (Unit {0}) Fault → ℕ → Result ℕ Fault
after_test (Ok u) n = Ok n
after_test (Err f) n = Err f
