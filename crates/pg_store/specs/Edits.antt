-- What one change makes of a record, and what taking it back makes of it again.
use Rattle.std.specs.Prelude.{◌≡◌, ◌==◌, false, None, IsSome}
use Rattle.std.specs.FinMap as map
use Rattle.std.specs.List.{AllByRecursion, list_any}
use Rattle.pg_graph.specs.Records.{AreKeys, Properties, given_back, with_blanks, with_label, without_keys, without_label}
use Rattle.pg_graph.specs.declared.records.NodeRecord.{NodeRecord}
use Rattle.pg_store.specs.declared.edits.NodeBefore.{NodeBefore}
use Rattle.pg_store.specs.declared.edits.NodeBefore.TheVariants as before
use Rattle.pg_store.specs.declared.edits.NodeChange.{NodeChange}
use Rattle.pg_store.specs.declared.edits.NodeChange.TheVariants as change
use Rattle.pg_store.specs.declared.edits.PropertiesBefore.{PropertiesBefore}
use Rattle.pg_store.specs.declared.edits.PropertiesBefore.TheVariants as before_of
use Rattle.pg_store.specs.declared.edits.PropertyChange.{PropertyChange}
use Rattle.pg_store.specs.declared.edits.PropertyChange.TheVariants as change_of
use Rattle.pg_value_core.specs.View.{view}

abbrev pub changed_properties : PropertyChange → Properties → Properties
changed_properties (change_of.Key key value) ps = map.insert ps key (view value)
changed_properties (change_of.Places keys) ps = with_blanks ps keys.items
changed_properties (change_of.All qs) ps = qs

-- keys that get a place have none
abbrev pub CanChange : PropertyChange → Properties → Type 0
CanChange (change_of.Key key value) ps = Unit {0}
CanChange (change_of.Places keys) ps = AreKeys keys.items × AllByRecursion (λ key. map.get ps key ≡ None) keys.items
CanChange (change_of.All qs) ps = Unit {0}

abbrev pub properties_before : PropertiesBefore → Properties → Properties
properties_before (before_of.Key key value) ps = given_back ps key value
properties_before (before_of.Places keys) ps = without_keys ps keys.items
properties_before (before_of.All qs) ps = qs

-- the key has its place still; keys rise by number
abbrev pub CanGiveBack : PropertiesBefore → Properties → Type 0
CanGiveBack (before_of.Key key value) ps = IsSome (map.get ps key)
CanGiveBack (before_of.Places keys) ps = AreKeys keys.items
CanGiveBack (before_of.All qs) ps = Unit {0}

abbrev pub changed_node : NodeChange → NodeRecord → NodeRecord
changed_node (change.Properties c) n = record n { properties = changed_properties c n.properties }
changed_node (change.Label label) n = record n { labels = with_label n.labels label }
changed_node (change.Labels labels) n = record n { labels = labels }

abbrev pub node_before : NodeBefore → NodeRecord → NodeRecord
node_before (before.Properties b) n = record n { properties = properties_before b n.properties }
node_before (before.Label label) n = record n { labels = without_label n.labels label }
node_before (before.Labels labels) n = record n { labels = labels }

abbrev pub CanGoBack : NodeBefore → NodeRecord → Type 0
CanGoBack (before.Properties b) n = CanGiveBack b n.properties
CanGoBack (before.Label label) n = Unit {0}
CanGoBack (before.Labels labels) n = Unit {0}

-- one more label is a new one, and keys that get a place have none
abbrev pub IsChangeOf : NodeChange → NodeRecord → Type 0
IsChangeOf (change.Properties c) n = CanChange c n.properties
IsChangeOf (change.Label label) n = list_any (λ l. l == label) n.labels ≡ false
IsChangeOf (change.Labels labels) n = Unit {0}
