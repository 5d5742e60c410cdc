-- No column of `*` is an aggregate.
use Rattle.std.proofs.Common.{◌≡◌, ℕ, List, [], ◌∷◌, ◌++◌, map, is_some, Option, Some, None, refl, ap, ◌∙◌}
use Rattle.std.specs.List.{list_any}
use Rattle.std.specs.Prelude.{◌||◌}
use Rattle.pg_meaning.specs.Aggregates.{aggregate_of}
use Rattle.pg_meaning.specs.Names.{Names, in_byte_order}
use Rattle.pg_meaning.specs.Scopes.{Column, is_aggregate, return_column, return_columns, star_columns, variable_column}
use Rattle.pg_meaning.specs.Tree.{Item, Projection}

behind_variables : (names : Names) (cs : List Column) → list_any is_aggregate (map variable_column names ++ cs) ≡ list_any is_aggregate cs
behind_variables [] cs = refl
behind_variables (n ∷ ns) cs = behind_variables ns cs

behind_star : (scope : Names) (star : Option ℕ) (cs : List Column) → list_any is_aggregate (star_columns scope star ++ cs) ≡ list_any is_aggregate cs
behind_star scope None cs = refl
behind_star scope (Some place) cs = behind_variables (in_byte_order scope) cs

of_items : (items : List Item) → list_any is_aggregate (map return_column items) ≡ list_any (λ i. is_some (aggregate_of i.value)) items
of_items [] = refl
of_items (i ∷ is) = ap (λ b. is_some (aggregate_of i.value) || b) (of_items is)

pub items_alone : (scope : Names) (p : Projection) → list_any is_aggregate (return_columns scope p) ≡ list_any (λ i. is_some (aggregate_of i.value)) p.items
items_alone scope p = behind_star scope p.star (map return_column p.items) ∙ of_items p.items
