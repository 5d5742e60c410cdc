-- What is told of what has properties.
use Rattle.std.specs.Prelude.{Bool, true, false, Result, Ok, Err}
use Rattle.pg_meaning.specs.Answer.{Answer, ◌>>=◌}
use Rattle.pg_meaning.specs.Functions.{properties_of, start_node_of, end_node_of, texts}
use Rattle.pg_meaning.specs.Graph.{Graph}
use Rattle.pg_meaning.specs.Order.{keys_of}
use Rattle.pg_meaning.specs.Value.{Value, Entries, mapping}
use Rattle.pg_meaning.specs.declared.fault.Fault.{Fault}
use Rattle.pg_meaning.specs.declared.fault.Fault.TheVariants.{TypeFault}

-- what an element has, and a map has not
abbrev pub element_properties : Graph → Value → Result Entries Fault
element_properties g (mapping es) = Err TypeFault
element_properties g v = properties_of g v

abbrev pub properties_given : Graph → Value → Answer
properties_given g v = properties_of g v >>= λ es. Ok (mapping es)

abbrev pub keys_given : Graph → Value → Answer
keys_given g v = properties_of g v >>= λ es. Ok (texts (keys_of es))

-- the first node of a relationship, or its last
abbrev pub node_at_end : (is_last : Bool) → Graph → Value → Answer
node_at_end false g v = start_node_of g v
node_at_end true g v = end_node_of g v
