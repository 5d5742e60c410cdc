-- Places in lists, as the program looks for them.
use Rattle.std.proofs.Common.{◌≡◌, ℕ, zero, suc, ◌+◌, ◌<◌, ◌≤◌, Bool, true, cond, List, [], ◌∷◌, map, length, get_or, Err, Ok, Some, refl, sym, ap, ◌∙◌, arith}
use Rattle.std.proofs.lemmas.Iterator.Adapters.{position_from-zero}
use Rattle.std.specs.List.{position_from}
use Rattle.std.specs.Prelude.{position, slice_index_or}
use Rattle.pg_meaning.specs.Answer.{◌>>=◌}
use Rattle.pg_meaning.specs.Graph.{Graph}
use Rattle.pg_meaning.specs.Tree.{Expression}
use Rattle.pg_meaning.specs.Value.{Value as Datum, null, Entries}
use Rattle.pg_meaning.specs.declared.fault.Fault.{Fault}
use Rattle.pg_rows.specs.Sorts.{directions, sorted_places}
use Rattle.pg_rows.specs.Tables.{rows_at_places}
use Rattle.pg_project.specs.Given.{all_keys_given, sort_source, ordered_given}
use Rattle.pg_syntax_tree.specs.View.{sort_item_view}
use Rattle.pg_syntax_tree.specs.declared.clauses.SortItem.{SortItem}
use Rattle.pg_value_core.specs.View.{view}
use Rattle.pg_value_core.specs.declared.value.Value.{Value}

pub from_zero : {X : Type 0} (t : X → Bool) (xs : List X) → position t xs ≡ position_from t 0 xs
from_zero t xs = position_from-zero t xs

-- the first place that is left, and none where nothing is left
pub place_here : {X : Type 0} (t : X → Bool) (i : ℕ) (xs : List X) (x : X) (rest : List X) → xs ≡ x ∷ rest → t x ≡ true → position_from t i xs ≡ Some i
place_here t i xs x rest here passes = ap (position_from t i) here ∙ ap (λ b. cond b (Some i) (position_from t (i + 1) rest)) passes

pub value_there : (vs : List Value) (i : ℕ) (d : Value) → i < length vs → slice_index_or (map view vs) i null ≡ view (get_or vs i d)
value_there [] i d h = absurd (omega (arith, h))
value_there (v ∷ vs) zero d h = refl
value_there (v ∷ vs) (suc i) d h = value_there vs i d (omega arith)

pub no_value_there : (vs : List Value) (i : ℕ) → length vs ≤ i → slice_index_or (map view vs) i null ≡ null
no_value_there [] zero h = refl
no_value_there [] (suc i) h = refl
no_value_there (v ∷ vs) zero h = absurd (omega (arith, h))
no_value_there (v ∷ vs) (suc i) h = no_value_there vs i (omega arith)

pub ordered_fails : (parameters : Entries) (graph : Graph) (names : List (List ℕ)) (es : List Expression) (order : List SortItem) (rows : List (List Datum)) (f : Fault) → 0 < length order
    → all_keys_given parameters graph names (map (λ x. sort_source es x.key) (map sort_item_view order)) rows ≡ Err f → ordered_given parameters graph names es (map sort_item_view order) rows ≡ Err f
ordered_fails parameters graph names es [] rows f some h = absurd (omega (arith, some))
ordered_fails parameters graph names es (o ∷ os) rows f some h = ap (λ a. a >>= λ keys. Ok (rows_at_places rows (sorted_places (directions (map sort_item_view (o ∷ os))) keys))) h

-- the rows stay where nothing sorts them
pub ordered_unsorted : (parameters : Entries) (graph : Graph) (names : List (List ℕ)) (es : List Expression) (order : List SortItem) (rows : List (List Datum)) → length order ≡ 0 → ordered_given parameters graph names es (map sort_item_view order) rows ≡ Ok rows
ordered_unsorted parameters graph names es [] rows none = refl
ordered_unsorted parameters graph names es (o ∷ os) rows none = absurd (omega (arith, none))

pub ordered_done : (parameters : Entries) (graph : Graph) (names : List (List ℕ)) (es : List Expression) (order : List SortItem) (rows keys found : List (List Datum)) → 0 < length order
    → all_keys_given parameters graph names (map (λ x. sort_source es x.key) (map sort_item_view order)) rows ≡ Ok keys → found ≡ rows_at_places rows (sorted_places (directions (map sort_item_view order)) keys)
    → ordered_given parameters graph names es (map sort_item_view order) rows ≡ Ok found
ordered_done parameters graph names es [] rows keys found some h sorted = absurd (omega (arith, some))
ordered_done parameters graph names es (o ∷ os) rows keys found some h sorted = ap (λ a. a >>= λ ks. Ok (rows_at_places rows (sorted_places (directions (map sort_item_view (o ∷ os))) ks))) h ∙ ap Ok (sym sorted)
