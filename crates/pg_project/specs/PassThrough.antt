-- Projections that give their rows as they are.
use Rattle.std.specs.Prelude.{ℕ, suc, ◌==◌, ◌&&◌, Bool, true, false, List, [], ◌∷◌, Option, Some, None, bytes_eq, is_none, position}
use Rattle.pg_meaning.specs.Tree.{Expression, variable, Projection}
use Rattle.pg_project.specs.Given.{has_none}

abbrev pub is_place : (at : ℕ) → Option ℕ → Bool
is_place at None = false
is_place at (Some found) = found == at

-- whether the expression is the variable of the column at this place, the first of its name
abbrev pub is_variable_at : (names : List (List ℕ)) → (at : ℕ) → Expression → Bool
is_variable_at names at (variable x) = is_place at (position (bytes_eq x.text) names)
is_variable_at names at e = false

-- whether the expressions are the variables of the columns from this place on
abbrev pub are_variables : (names : List (List ℕ)) → (at : ℕ) → List Expression → Bool
are_variables names at [] = true
are_variables names at (e ∷ es) = is_variable_at names at e && are_variables names (suc at) es

-- whether neither a sort nor a condition looks at a row behind the items
abbrev pub is_unseen : Projection → Option Expression → Bool
is_unseen p where_ = has_none p.order && is_none where_
