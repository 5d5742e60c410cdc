-- The value that is made of parts.
use Rattle.pg_value_core.specs.declared.parts.Parts.{Parts}
use Rattle.pg_value_core.specs.declared.parts.Parts.TheVariants as parts
use Rattle.pg_value_core.specs.declared.value.Value.{Value}
use Rattle.pg_value_core.specs.declared.value.Value.TheVariants as value

abbrev pub value_of_parts : Parts → Value
value_of_parts parts.Null = value.Null
value_of_parts (parts.Bool b) = value.Bool b
value_of_parts (parts.Int i) = value.Int i
value_of_parts (parts.Text s) = value.Text s
value_of_parts (parts.ShortText s) = value.ShortText s
value_of_parts (parts.List v) = value.List v
value_of_parts (parts.Map m) = value.Map m
value_of_parts (parts.Node n) = value.Node n
value_of_parts (parts.Rel r) = value.Rel r
value_of_parts (parts.Path p) = value.Path p
