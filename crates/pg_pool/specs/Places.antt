-- What lies in a slot.
use Rattle.std.specs.Prelude.{List, [], ◌∷◌, Option, Some, None}
use Rattle.pg_value_core.specs.declared.ids.RelId.{RelId}
use Rattle.pg_pool.specs.declared.ids.Ids.{Ids}
use Rattle.pg_pool.specs.declared.ids.Ids.TheVariants as ids
use Rattle.pg_pool.specs.declared.links.ListSlot.{ListSlot}
use Rattle.pg_pool.specs.declared.links.ListSlot.TheVariants as list
use Rattle.pg_pool.specs.declared.pool.Record.{Record}
use Rattle.pg_pool.specs.declared.pool.Record.TheVariants.{Node, Rel}
use Rattle.pg_pool.specs.declared.pool.RecordSlot.{RecordSlot}
use Rattle.pg_pool.specs.declared.pool.RecordSlot.TheVariants as slot

abbrev pub record_of : RecordSlot → Option Record
record_of (slot.Node identity node) = Some (Node identity node)
record_of (slot.Rel identity rel) = Some (Rel identity rel)
record_of (slot.Vacant next) = None

abbrev pub ids_of : Ids → List RelId
ids_of ids.Nothing = []
ids_of (ids.One only) = only ∷ []
ids_of (ids.Two both) = both
ids_of (ids.Three all) = all
ids_of (ids.More more) = more.items

abbrev pub list_of : ListSlot → Option Ids
list_of list.Nothing = Some ids.Nothing
list_of (list.One only) = Some (ids.One only)
list_of (list.Two both) = Some (ids.Two both)
list_of (list.Three all) = Some (ids.Three all)
list_of (list.More more) = Some (ids.More more)
list_of (list.Vacant next) = None
