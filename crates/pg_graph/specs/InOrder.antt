-- Lent properties, by the texts of their keys, as the entries that they list.
use Rattle.std.specs.Prelude.{ℕ, zero, suc, List, [], ◌∷◌, Result, Ok, Err}
use Rattle.std.specs.Borrow.{Bor}
use Rattle.std.specs.Ordering.{match_ordering}
use Rattle.pg_meaning.specs.Order.{text_order}
use Rattle.pg_meaning.specs.Value.{Entries, no_entries, entry}
use Rattle.pg_value_core.specs.View.{view}
use Rattle.pg_value_core.specs.declared.value.Value.{Value}

abbrev pub listed_entries : List (Bor (List ℕ) × Bor Value) → Entries
listed_entries [] = no_entries
listed_entries (p ∷ ps) = entry p.0.now (view p.1.now) (listed_entries ps)

-- the place after this one
abbrev pub later : Result ℕ ℕ → Result ℕ ℕ
later (Ok i) = Ok (suc i)
later (Err i) = Err (suc i)

-- where a key stands among texts in byte order, or belongs
abbrev pub place_in : List ℕ → List (Bor (List ℕ) × Bor Value) → Result ℕ ℕ
place_in k [] = Err zero
place_in k (p ∷ ps) = match_ordering (text_order k p.0.now) (Err zero) (Ok zero) (later (place_in k ps))
