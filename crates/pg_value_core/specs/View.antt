-- The data that a value of the program stands for.
use Rattle.std.specs.Prelude.{List, [], ◌∷◌, map, String, string_bytes}
use Rattle.std.specs.declared.alloc.Global.{Global}
use Rattle.pg_meaning.specs.Value.{Value as Datum, null, boolean, integer, text, list, mapping, node, relationship, path, Values, values_of, Entries, no_entries, entry}
use Rattle.pg_value_core.specs.declared.value.Value.{Value, fold-Value}
use Rattle.pg_value_core.specs.declared.value.Value.TheOpen.{Value-F}

-- the entries of a map, whose keys rise
abbrev pub mapping_of : List (String Global × Datum) → Entries
mapping_of [] = no_entries
mapping_of (e ∷ es) = entry (string_bytes e.0) e.1 (mapping_of es)

-- one level, with each value inside already seen as its data
abbrev pub view_step : Value-F Datum → Datum
view_step Value-F.Null = null
view_step (Value-F.Bool b) = boolean b
view_step (Value-F.Int i) = integer i
view_step (Value-F.Text s) = text (string_bytes s.value)
view_step (Value-F.ShortText s) = text s.bytes
view_step (Value-F.List v) = list (values_of v.value.items)
view_step (Value-F.Map m) = mapping (mapping_of m.value.entries)
view_step (Value-F.Node n) = node n.0
view_step (Value-F.Rel r) = relationship r.0
view_step (Value-F.Path p) = path p.0.items

abbrev pub view : Value → Datum
view = fold-Value Datum view_step

abbrev pub values_view : List Value → Values
values_view vs = values_of (map view vs)

abbrev pub entries_view : List (String Global × Value) → Entries
entries_view es = mapping_of (map (λ e. (e.0, view e.1)) es)
