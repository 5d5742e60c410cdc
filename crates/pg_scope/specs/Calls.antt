-- The data that the program's functions and aggregates stand for.
use Rattle.std.specs.Prelude.{◌≡◌, ℕ, Bool, not, ◌&&◌, List, ◌++◌, Option, bytes_eq}
use Rattle.std.specs.Map.{lookup}
use Rattle.std.specs.Str.{str_to_ascii_lowercase}
use Rattle.pg_meaning.specs.Aggregates as summary
use Rattle.pg_meaning.specs.Functions as function
use Rattle.pg_meaning.specs.StaticFaults.{Role, is_elsewhere, is_aggregate, is_known, PlacedFault, found_if}
use Rattle.pg_meaning.specs.Tree.{Name}
use Rattle.pg_meaning.specs.declared.fault.Fault.TheVariants.{BadAggregate, UnknownFunction}
use Rattle.pg_scope.specs.declared.calls.Function.{Function}
use Rattle.pg_scope.specs.declared.calls.Function.TheVariants.{Id, Labels, «Type», Keys, Properties, Size, Length, Nodes, Relationships, Head, Last, Coalesce, Range, ToString, ToInteger, Abs, StartNode, EndNode}
use Rattle.pg_scope.specs.declared.calls.AggregateFunction.{AggregateFunction}
use Rattle.pg_scope.specs.declared.calls.AggregateFunction.TheVariants.{Counting, Summing, Least, Greatest, Collecting}

abbrev pub function_view : Function → function.Function
function_view Id = function.id
function_view Labels = function.labels
function_view «Type» = function.type
function_view Keys = function.keys
function_view Properties = function.properties
function_view Size = function.size
function_view Length = function.length
function_view Nodes = function.nodes
function_view Relationships = function.relationships
function_view Head = function.head
function_view Last = function.last
function_view Coalesce = function.coalesce
function_view Range = function.range
function_view ToString = function.to_string
function_view ToInteger = function.to_integer
function_view Abs = function.abs
function_view StartNode = function.start_node
function_view EndNode = function.end_node

abbrev pub summary_view : AggregateFunction → summary.Summary
summary_view Counting = summary.counting
summary_view Summing = summary.summing
summary_view Least = summary.least
summary_view Greatest = summary.greatest
summary_view Collecting = summary.collecting

-- the faults of a call itself, with so many arguments
abbrev pub own_faults : Role → Name → (star distinct : Bool) → ℕ → List PlacedFault
own_faults role n star distinct count =
    found_if (is_aggregate n && is_elsewhere role) n.place BadAggregate ++ found_if (not (is_known n star distinct count)) n.place UnknownFunction

-- what stands in a table beside a name, in any case of its ASCII letters
pub record IsNamed {X : Type 0} (name : List ℕ) (known : List (List ℕ × X)) (found : Option X) : Type 0 where
  pub is : found ≡ lookup (bytes_eq (str_to_ascii_lowercase name)) known
