-- The data that a value of each type stands for.
use Rattle.std.specs.declared.rc.Rc.{Rc}
use Rattle.arrayvec.specs.ArrayString.{ArrayString}
use Rattle.std.proofs.Common.{◌≡◌, ℤ, Bool, Vec, BTreeMap, String, Global, string_bytes, sym, ap, ◌∙◌}
use Rattle.pg_meaning.specs.Value.{Value as Datum, null, boolean, integer, text, list, mapping, node, relationship, path}
use Rattle.pg_value_core.specs.View.{view, view_step, values_view, entries_view}
use Rattle.pg_value_core.specs.declared.ids.NodeId.{NodeId}
use Rattle.pg_value_core.specs.declared.ids.Path.{Path}
use Rattle.pg_value_core.specs.declared.ids.RelId.{RelId}
use Rattle.pg_value_core.specs.declared.value.Value.{Value}
use Rattle.pg_value_core.specs.declared.value.Value.TheFolds.{fold-roll-Value}
use Rattle.pg_value_core.specs.declared.value.Value.TheOpen.{Value-F}
use Rattle.pg_value_core.specs.declared.value.Value.TheVariants as code
use Rattle.pg_value_core.specs.declared.value.Value.TheViews.{rolls-Null, rolls-Bool, rolls-Int, rolls-Text, rolls-ShortText, rolls-List, rolls-Map, rolls-Node, rolls-Rel, rolls-Path}

pub null_seen : {v : Value} → v ≡ code.Null → view v ≡ null
null_seen is = ap view (is ∙ sym rolls-Null) ∙ fold-roll-Value Datum view_step Value-F.Null

pub bool_seen : {v : Value} (x : Bool) → v ≡ code.Bool x → view v ≡ boolean x
bool_seen x is = ap view (is ∙ sym (rolls-Bool x)) ∙ fold-roll-Value Datum view_step (Value-F.Bool x)

pub int_seen : {v : Value} (i : ℤ) → v ≡ code.Int i → view v ≡ integer i
int_seen i is = ap view (is ∙ sym (rolls-Int i)) ∙ fold-roll-Value Datum view_step (Value-F.Int i)

pub text_seen : {v : Value} (s : Rc (String Global) Global) → v ≡ code.Text s → view v ≡ text (string_bytes s.value)
text_seen s is = ap view (is ∙ sym (rolls-Text s)) ∙ fold-roll-Value Datum view_step (Value-F.Text s)

pub short_seen : {v : Value} (s : ArrayString) → v ≡ code.ShortText s → view v ≡ text s.bytes
short_seen s is = ap view (is ∙ sym (rolls-ShortText s)) ∙ fold-roll-Value Datum view_step (Value-F.ShortText s)

pub list_seen : {v : Value} (vs : Rc (Vec Value Global) Global) → v ≡ code.List vs → view v ≡ list (values_view vs.value.items)
list_seen vs is = ap view (is ∙ sym (rolls-List vs)) ∙ fold-roll-Value Datum view_step (Value-F.List vs)

pub map_seen : {v : Value} (m : Rc (BTreeMap (String Global) Value) Global) → v ≡ code.Map m → view v ≡ mapping (entries_view m.value.entries)
map_seen m is = ap view (is ∙ sym (rolls-Map m)) ∙ fold-roll-Value Datum view_step (Value-F.Map m)

pub node_seen : {v : Value} (n : NodeId) → v ≡ code.Node n → view v ≡ node n.0
node_seen n is = ap view (is ∙ sym (rolls-Node n)) ∙ fold-roll-Value Datum view_step (Value-F.Node n)

pub rel_seen : {v : Value} (r : RelId) → v ≡ code.Rel r → view v ≡ relationship r.0
rel_seen r is = ap view (is ∙ sym (rolls-Rel r)) ∙ fold-roll-Value Datum view_step (Value-F.Rel r)

pub path_seen : {v : Value} (p : Path) → v ≡ code.Path p → view v ≡ path p.0.items
path_seen p is = ap view (is ∙ sym (rolls-Path p)) ∙ fold-roll-Value Datum view_step (Value-F.Path p)
