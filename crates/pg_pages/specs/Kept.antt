-- Pages as a map keeps them, by their numbers.
use Rattle.std.specs.Prelude.{◌≡◌, ℕ, ◌+◌, ◌<◌, ◌≤◌, nat_le, nat_lt, List, [], ◌∷◌, ◌++◌, map, All, string_bytes, Result, Ok}
use Rattle.std.specs.List.Sorted.{IsStrictlySortedBy}
use Rattle.std.specs.Map.{keys_of}
use Rattle.std.specs.Ordering.{nat_cmp}
use Rattle.pg_meaning.specs.Answer.{◌>>◌, unless}
use Rattle.pg_meaning.specs.Meters.{greatest_id}
use Rattle.pg_meaning.specs.declared.fault.Fault.{Fault}
use Rattle.pg_meaning.specs.declared.fault.Fault.TheVariants.{IdsExhausted, HeldRowsQuota}
use Rattle.pg_pages.specs.Held as held
use Rattle.pg_pages.specs.Held.{Held, held_rows}
use Rattle.pg_pages.specs.declared.pages.Page.{Page}

-- a page with its number
abbrev pub shown : ℕ × Page → held.Page
shown e = record { number = e.0; token = string_bytes e.1.token; size = e.1.size; rows = e.1.rows }

-- the numbers rise and are below the next one, and the rows of all pages are counted
pub record AreKept (entries : List (ℕ × Page)) (rows next : ℕ) : Type 0 where
  pub ordered : IsStrictlySortedBy nat_cmp (keys_of entries)
  pub below : All (λ k. k < next) (keys_of entries)
  pub counted : rows ≡ held_rows (map shown entries)
  pub within : next ≤ greatest_id

-- what is held with one page more
abbrev pub held_more : Held → Page → Held
held_more held page = record { pages = held.pages ++ shown (held.next, page) ∷ []; next = held.next + 1 }

-- the next number, if so many rows more may be held
abbrev pub number_for : Held → (max_held more : ℕ) → Result ℕ Fault
number_for held max_held more = do
  unless (nat_le (held_rows held.pages + more) max_held) HeldRowsQuota
  unless (nat_lt held.next greatest_id) IdsExhausted
  Ok held.next
