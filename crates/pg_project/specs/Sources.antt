-- What the sorts of the program go by.
use Rattle.std.specs.Prelude.{◌≡◌, ℕ, Bool, List, Ok, map, length, slice_index_or}
use Rattle.pg_expr.specs.Prepared.{tree_of}
use Rattle.pg_meaning.specs.Graph.{Graph}
use Rattle.pg_meaning.specs.Value.{Value as Datum, null, Entries}
use Rattle.pg_project.specs.Given.{Key, item, other, key_given, keys_given}
use Rattle.pg_project.specs.declared.sorting.SortKey.{SortKey}
use Rattle.pg_project.specs.declared.sorting.SortKey.TheVariants as sort_key
use Rattle.pg_project.specs.declared.sorting.SortSource.{SortSource}
use Rattle.pg_rows.specs.Sorts.{directions_of, picked}
use Rattle.pg_rows.specs.declared.sort_by.SortBy.{SortBy}

abbrev pub key_view : (names : List (List ℕ)) → SortKey → Key
key_view names (sort_key.Item i) = item i
key_view names (sort_key.Other p) = other (tree_of names p)

abbrev pub source_view : (names : List (List ℕ)) → SortSource → Key
source_view names s = key_view names s.key

abbrev pub sources_view : (names : List (List ℕ)) → List SortSource → List Key
sources_view names ss = map (source_view names) ss

abbrev pub source_directions : List SortSource → List Bool
source_directions ss = map (λ s. s.descends) ss

-- whether a sort goes by this column of rows of a width
abbrev pub ReadsAt : (names : List (List ℕ)) → (width : ℕ) → Key → (at : ℕ) → Type 0
ReadsAt names width k at = (parameters : Entries) (graph : Graph) (values : List Datum) → length values ≡ width → key_given parameters graph names values k ≡ Ok (slice_index_or values at null)

-- the keys of each row of a width are its values in the columns of the sorts, in the same directions
pub record ReadColumns (names : List (List ℕ)) (width : ℕ) (sources : List SortSource) (sorts : List SortBy) : Type 0 where
  pub directions : directions_of sorts ≡ source_directions sources
  pub keys : (parameters : Entries) (graph : Graph) (values : List Datum) → length values ≡ width → keys_given parameters graph names (sources_view names sources) values ≡ Ok (picked sorts values)
