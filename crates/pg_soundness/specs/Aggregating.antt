-- What an aggregate takes in of a group's values, and what min and max are of them. Their count is a length, their sum a total, and collect is the list itself.
use Rattle.std.specs.Prelude.{◌≡◌, ◌≢◌, Bool, true, false, List, [], ◌∷◌, filter, Ok}
use Rattle.std.specs.List.{AllByRecursion}
use Rattle.std.specs.declared.cmp.Ordering.TheVariants.{Less, Greater}
use Rattle.pg_meaning.specs.Aggregates.{Aggregate, least, greatest, take_in, summarized}
use Rattle.pg_meaning.specs.Answer.{each_step}
use Rattle.pg_meaning.specs.Lists.{IsIn}
use Rattle.pg_meaning.specs.Order.{value_order}
use Rattle.pg_meaning.specs.Value.{Value, null}

abbrev pub is_there : Value → Bool
is_there null = false
is_there v = true

-- without DISTINCT all values but null, in their order
abbrev pub TakesAllThere : Type 0
TakesAllThere = (a : Aggregate) (values kept : List Value) → a.distinct ≡ false → each_step (take_in a) [] values ≡ Ok kept → kept ≡ filter is_there values

-- one of the values, and none of them goes before it
abbrev pub LeastIsFirst : Type 0
LeastIsFirst = (v : Value) (vs : List Value) → IsIn (summarized least (v ∷ vs)) (v ∷ vs) × AllByRecursion (λ w. value_order w (summarized least (v ∷ vs)) ≢ Less) (v ∷ vs)

-- one of the values, and it goes before none of them
abbrev pub GreatestIsLast : Type 0
GreatestIsLast = (v : Value) (vs : List Value) → IsIn (summarized greatest (v ∷ vs)) (v ∷ vs) × AllByRecursion (λ w. value_order w (summarized greatest (v ∷ vs)) ≢ Greater) (v ∷ vs)
