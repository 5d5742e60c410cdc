-- The groups of the program, as data.
use Rattle.std.specs.Prelude.{◌≡◌, ℕ, zero, suc, ◌*◌, ◌<◌, Bool, true, false, length, List, [], ◌∷◌, ◌++◌, map, take, drop, Result, Ok}
use Rattle.std.specs.List.{list_any, position_or_len}
use Rattle.std.specs.Cmp.Lexicographic.{pointwise}
use Rattle.std.specs.Global.{Vec}
use Rattle.std.specs.Ordering.{on, eq_by_cmp}
use Rattle.pg_project.specs.Kept.{Answers, Kept, all_taken_in}
use Rattle.pg_project.specs.Summaries.{Taken}
use Rattle.pg_project.specs.Views.{takens_view}
use Rattle.pg_project.specs.declared.groups.Groups.{Groups}
use Rattle.pg_meaning.specs.Aggregates.{Aggregate}
use Rattle.pg_meaning.specs.Answer.{◌>>=◌}
use Rattle.pg_meaning.specs.Order.{value_order}
use Rattle.pg_meaning.specs.Value.{Value as Datum}
use Rattle.pg_meaning.specs.declared.fault.Fault.{Fault}
use Rattle.pg_rows.specs.Groups.{keys_view}
use Rattle.pg_value_core.specs.View.{view}
use Rattle.pg_value_core.specs.declared.value.Value.{Value}

abbrev pub same_keys : Vec Value → Vec Value → Bool
same_keys x y = pointwise (on view (eq_by_cmp value_order)) x.items y.items

-- the first key that is the same has this number
pub record IsNumber (keys : List (Vec Value)) (key : Vec Value) (n : ℕ) : Type 0 where
  pub here : n ≡ position_or_len (same_keys key) keys
  pub there : list_any (same_keys key) keys ≡ true
  pub within : n < length keys

-- the group of this number has the key of these values
pub record HasNumber (keys : List (Vec Value)) (values : List Datum) (n : ℕ) : Type 0 where
  pub key : Vec Value
  pub is : map view key.items ≡ values
  pub number : IsNumber keys key n

abbrev pub groups_of : List (List Datum) → List (List Taken) → List Kept
groups_of [] tss = []
groups_of (k ∷ ks) [] = []
groups_of (k ∷ ks) (ts ∷ tss) = record { key = k; taken = ts } ∷ groups_of ks tss

-- lists that lie one behind the other, so many of each
abbrev pub parted : {X : Type 0} → (count each : ℕ) → List X → List (List X)
parted zero n xs = []
parted (suc m) n xs = take n xs ∷ parted m n (drop n xs)

abbrev pub groups_view : (each : ℕ) → Groups → List Kept
groups_view n g = groups_of (keys_view g.keys.keys) (parted (length g.keys.keys) n (takens_view g.taken.items))

-- each group has what is kept of its aggregates
abbrev pub Paired : (each : ℕ) → Groups → Type 0
Paired n g = length g.taken.items ≡ length g.keys.keys * n

-- of items, how many are aggregates
abbrev pub aggregates_among : (are_aggregates : List Bool) → ℕ
aggregates_among [] = 0
aggregates_among (true ∷ bs) = suc (aggregates_among bs)
aggregates_among (false ∷ bs) = aggregates_among bs

-- a row taken into the aggregates of the group that begins there; what lies before and behind stays
abbrev pub taken_in_at : Answers → List Aggregate → (each start : ℕ) → List Taken → Result (List Taken) Fault
taken_in_at at aggregates n start ts = all_taken_in at aggregates (take n (drop start ts)) >>= λ us. Ok (take start ts ++ (us ++ drop n (drop start ts)))
