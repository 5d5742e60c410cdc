-- What items that were made ready stand for, and what they do to a target.
use Rattle.std.specs.Prelude.{ℕ, true, false, List, Result, string_bytes}
use Rattle.pg_expr.specs.Prepared.{tree_of}
use Rattle.pg_meaning.specs.Entries.{set_keys}
use Rattle.pg_meaning.specs.Expressions.{evaluate}
use Rattle.pg_meaning.specs.Graph.{Graph}
use Rattle.pg_meaning.specs.Patterns.{texts_of}
use Rattle.pg_meaning.specs.Rows.{Row}
use Rattle.pg_meaning.specs.Tree as tree
use Rattle.pg_meaning.specs.Updates.{Target, set_pairs, mapping_pairs, change_labels}
use Rattle.pg_meaning.specs.Value.{Entries}
use Rattle.pg_meaning.specs.declared.fault.Fault.{Fault}
use Rattle.pg_syntax_tree.specs.View.{name_view, names_view}
use Rattle.pg_write.specs.Parts.{labels_by, one_pair, put_map}
use Rattle.pg_write.specs.declared.items.ReadyChange.{ReadyChange}
use Rattle.pg_write.specs.declared.items.ReadyChange.TheVariants.{Key, Map, Labels}
use Rattle.pg_write.specs.declared.items.ReadySet.{ReadySet}

abbrev pub item_with : (names : List (List ℕ)) → tree.Name → ReadyChange → tree.SetItem
item_with names target (Key k v) = tree.set_property target (name_view k.now) (tree_of names v)
item_with names target (Map v true) = tree.set_all target (tree_of names v)
item_with names target (Map v false) = tree.set_more target (tree_of names v)
item_with names target (Labels ls) = tree.set_labels target (names_view ls.now.items)

abbrev pub item_of : (names : List (List ℕ)) → ReadySet → tree.SetItem
item_of names i = item_with names (name_view i.target.now) i.change

-- what a change makes of a target that is there
abbrev pub changed_by : (names : List (List ℕ)) → Entries → Row → Graph → ReadyChange → Target → Result Graph Fault
changed_by names parameters row graph (Key k v) target = set_pairs graph (one_pair (string_bytes k.now.text)) set_keys (evaluate row parameters graph (tree_of names v)) target
changed_by names parameters row graph (Map v is_whole) target = set_pairs graph mapping_pairs (put_map is_whole) (evaluate row parameters graph (tree_of names v)) target
changed_by names parameters row graph (Labels ls) target = change_labels (labels_by true (texts_of (names_view ls.now.items))) target graph
