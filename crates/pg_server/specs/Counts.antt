-- What a `Counted` and a `CountedListener` hold.
use Rattle.std.specs.Prelude.{ℕ, zero, suc, ◌+◌, ◌%◌, ◌^◌}
use Rattle.pg_server.specs.declared.counted.Counted.{Counted}
use Rattle.pg_server.specs.declared.counted_listener.CountedListener.{CountedListener}

module _ {T : Type 0} where
  -- the reader or the writer
  abbrev pub inner_of : Counted T → T
  inner_of c = c.inner

  -- how often it has failed
  abbrev pub faults_of : Counted T → ℕ
  faults_of c = c.faults

-- how many connections it has given
abbrev pub accepted_at : CountedListener → ℕ
accepted_at l = l.accepted

-- how often it has failed
abbrev pub faults_at : CountedListener → ℕ
faults_at l = l.faults

-- the count after one more: it goes round
abbrev pub next_count : ℕ → ℕ
next_count n = (n + 1) % 2 ^ 64

-- the count after so many more
abbrev pub counted : (more : ℕ) → ℕ → ℕ
counted zero n = n
counted (suc k) n = next_count (counted k n)
