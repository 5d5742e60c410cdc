-- The parts of calls.
use Rattle.std.specs.Prelude.{◌≡◌, ℕ, Bool, true, false, List, Some, None, Err}
use Rattle.pg_expr.specs.Contexts.{given, given_each, given_first}
use Rattle.pg_expr.specs.declared.row_context.RowContext.{RowContext}
use Rattle.pg_meaning.specs.Answer.{Answer, ◌>>=◌}
use Rattle.pg_meaning.specs.Expressions.{is_coalesce, fault_of_name}
use Rattle.pg_meaning.specs.Functions.{Function, function_named, applied, of_one, head_of, last_of, integers_of, range_over}
use Rattle.pg_meaning.specs.Functions as function
use Rattle.pg_meaning.specs.Graph.{Graph}
use Rattle.pg_meaning.specs.Tree as tree
use Rattle.pg_meaning.specs.Value.{Value, Values, item, no_items}
use Rattle.pg_meaning.specs.declared.fault.Fault.TheVariants.{UnknownFunction}

-- a call of what stands under a name
abbrev pub given_call : RowContext → Graph → List ℕ → tree.Expressions → Answer
given_call s g name es = elim (function_named name) [
  | Some f ↦ elim (is_coalesce f) [ true ↦ given_first s g es | false ↦ given_each s g es >>= applied g f ]
  | None ↦ Err (fault_of_name name)
]

-- what `size` gives at a value
abbrev pub sized : Graph → Value → Answer
sized g v = applied g function.size (item v no_items)

-- what `size` gives at what `range` gives
abbrev pub range_sized : Graph → Values → Answer
range_sized g vs = applied g function.range vs >>= sized g

-- what `size` gives at an expression
abbrev pub given_size : RowContext → Graph → tree.Expression → Answer
given_size s g e = given s g e >>= sized g

-- what `range` gives at its arguments
abbrev pub given_range : Values → Answer
given_range vs = integers_of vs >>= range_over

abbrev pub is_range : Function → Bool
is_range function.range = true
is_range f = false

-- whether a function of one value only looks at it
abbrev pub looks : Function → Bool
looks function.range = false
looks function.properties = false
looks function.head = false
looks function.last = false
looks function.coalesce = false
looks function.to_string = false
looks f = true

-- no function of one value takes so many
abbrev pub IsNotOne : Values → Type 0
IsNotOne vs = (f : Value → Answer) → of_one f vs ≡ Err UnknownFunction

-- the first item of a list, or its last
abbrev pub item_at_end : (is_last : Bool) → Value → Answer
item_at_end false v = head_of v
item_at_end true v = last_of v
