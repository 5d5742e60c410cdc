-- What the program keeps of an aggregate, as data.
use Rattle.std.specs.Prelude.{List, map, option_map}
use Rattle.pg_project.specs.Summaries as summaries
use Rattle.pg_project.specs.declared.accumulator.Accumulator.{Accumulator}
use Rattle.pg_project.specs.declared.accumulator.Accumulator.TheVariants.{Count, Sum, Lowest, Highest, Values}
use Rattle.pg_project.specs.declared.taken.Taken.{Taken}
use Rattle.pg_value_core.specs.View.{view}

abbrev pub held_view : Accumulator → summaries.Accumulated
held_view (Count n) = summaries.count n
held_view (Sum n) = summaries.sum n
held_view (Lowest o) = summaries.lowest (option_map view o)
held_view (Highest o) = summaries.highest (option_map view o)
held_view (Values vs) = summaries.values (map view vs.items.items)

abbrev pub taken_view : Taken → summaries.Taken
taken_view t = record { different = option_map (λ s. map view s.value.keys) t.different; held = held_view t.held }

abbrev pub takens_view : List Taken → List summaries.Taken
takens_view ts = map taken_view ts
