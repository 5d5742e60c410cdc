-- What SKIP and LIMIT of the program stand for.
use Rattle.std.specs.Prelude.{◌≡◌, ℕ, Bool, cond, List, [], ◌∷◌, ◌++◌, length, take}
use Rattle.pg_meaning.specs.Value.{Value}
use Rattle.pg_project.specs.Given as given
use Rattle.pg_project.specs.declared.passing.Cut.{Cut}

abbrev pub cut_view : Cut → given.Cut
cut_view c = record { skip = c.skip; limit = c.limit }

-- whether a row behind so many others is let in
abbrev pub LetsIn : given.Cut → (at : ℕ) → Bool → Type 0
LetsIn c at is_in = (rows : List (List Value)) (row : List Value) → length rows ≡ at → given.cut_of c (rows ++ row ∷ []) ≡ given.cut_of c rows ++ cond is_in (row ∷ []) []

-- whether the first of so many rows have all that are let in among them
abbrev pub Reaches : given.Cut → (count first : ℕ) → Type 0
Reaches c count first = (rows : List (List Value)) → length rows ≡ count → given.cut_of c (take first rows) ≡ given.cut_of c rows
