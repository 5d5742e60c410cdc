-- Rows that stand one after the other in a text.
use Rattle.std.specs.Prelude.{ℕ, ◌+◌, List, [], ◌∷◌, take, drop}

-- the texts that end at these places, where the first begins at a place and each other after a comma
abbrev pub rows_between : (text : List ℕ) → (start : ℕ) → (ends : List ℕ) → List (List ℕ)
rows_between text start [] = []
rows_between text start (end ∷ ends) = drop start (take end text) ∷ rows_between text (end + 1) ends
