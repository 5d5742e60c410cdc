-- What is kept of the values that an aggregate has taken in.
use Rattle.std.specs.Prelude.{◌≡◌, Bool, true, false, cond, ◌&&◌, List, [], ◌∷◌, ◌++◌, length, fold, Result, Ok, Err, Option, Some, None, ℤ, pos, ◌+ℤ◌}
use Rattle.std.specs.List.{list_any}
use Rattle.pg_meaning.specs.Aggregates.{Summary, counting, summing, least, greatest, collecting, Aggregate, total, lesser, greater}
use Rattle.pg_meaning.specs.Answer.{◌>>=◌}
use Rattle.pg_meaning.specs.Arithmetic.{is_in_range}
use Rattle.pg_meaning.specs.Measure.{is_within_limits}
use Rattle.pg_meaning.specs.Order.{is_equivalent}
use Rattle.pg_meaning.specs.Value.{Value, null, integer, list, values_of}
use Rattle.pg_meaning.specs.declared.fault.Fault.{Fault}
use Rattle.pg_meaning.specs.declared.fault.Fault.TheVariants.{TypeFault, Overflow, ValueTooLarge}

-- a count, a sum, the best value so far, or the values
pub data Accumulated : Type 0 where
  count : ℤ → Accumulated
  sum : ℤ → Accumulated
  lowest : Option Value → Accumulated
  highest : Option Value → Accumulated
  values : List Value → Accumulated

abbrev pub best_of : (Value → Value → Value) → List Value → Option Value
best_of f [] = None
best_of f (v ∷ vs) = Some (fold f v vs)

-- what is kept of values
abbrev pub held_of : Summary → List Value → Accumulated
held_of counting vs = count (pos (length vs))
held_of summing vs = sum (total vs)
held_of least vs = lowest (best_of lesser vs)
held_of greatest vs = highest (best_of greater vs)
held_of collecting vs = values vs

abbrev pub better : (Value → Value → Value) → Option Value → Value → Value
better f None v = v
better f (Some w) v = f w v

abbrev pub added : ℤ → Value → Result Accumulated Fault
added n (integer i) = cond (is_in_range (n +ℤ i)) (Ok (sum (n +ℤ i))) (Err Overflow)
added n v = Err TypeFault

abbrev pub collected : List Value → Value → Result (List Value) Fault
collected vs v = cond (is_within_limits (list (values_of (vs ++ v ∷ [])))) (Ok (vs ++ v ∷ [])) (Err ValueTooLarge)

-- with one value more
abbrev pub held_with : Accumulated → Value → Result Accumulated Fault
held_with (count n) v = Ok (count (n +ℤ pos 1))
held_with (sum n) v = added n v
held_with (lowest o) v = Ok (lowest (Some (better lesser o v)))
held_with (highest o) v = Ok (highest (Some (better greater o v)))
held_with (values vs) v = collected vs v >>= λ ws. Ok (values ws)

abbrev pub value_or_null : Option Value → Value
value_or_null None = null
value_or_null (Some v) = v

-- what it tells in the end
abbrev pub told : Accumulated → Value
told (count n) = integer n
told (sum n) = integer n
told (lowest o) = value_or_null o
told (highest o) = value_or_null o
told (values vs) = list (values_of vs)

-- of the best value DISTINCT changes nothing
abbrev pub needs_different : Summary → Bool
needs_different least = false
needs_different greatest = false
needs_different s = true

-- beside it the different values so far, where DISTINCT needs them
pub record Taken : Type 0 where
  pub different : Option (List Value)
  pub held : Accumulated

abbrev pub different_of : Bool → List Value → Option (List Value)
different_of true vs = Some vs
different_of false vs = None

abbrev pub taken_of : Aggregate → List Value → Taken
taken_of a vs = record { different = different_of (a.distinct && needs_different a.summary) vs; held = held_of a.summary vs }

abbrev pub begun : Summary → (distinct : Bool) → Taken
begun s distinct = record { different = different_of (distinct && needs_different s) []; held = held_of s [] }

-- of a value that isn't null
abbrev pub other_with : Option (List Value) → Accumulated → Value → Result Taken Fault
other_with None h v = held_with h v >>= λ g. Ok (record { different = None; held = g })
other_with (Some vs) h v = cond (list_any (is_equivalent v) vs) (Ok (record { different = Some vs; held = h })) (held_with h v >>= λ g. Ok (record { different = Some (vs ++ v ∷ []); held = g }))

abbrev pub is_null : Value → Bool
is_null null = true
is_null v = false

-- with one value more; null counts as none
abbrev pub taken_with : Taken → Value → Result Taken Fault
taken_with t v = cond (is_null v) (Ok t) (other_with t.different t.held v)

-- whether a value counts beside the different values before, and those after it
abbrev pub Counts : (before after : Option (List Value)) → Value → Bool → Type 0
Counts before after v counts = (h : Accumulated) → taken_with (record { different = before; held = h }) v ≡ cond counts (held_with h v >>= λ g. Ok (record { different = after; held = g })) (Ok (record { different = after; held = h }))
