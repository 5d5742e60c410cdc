-- A value of each kind, as it is seen and spelt out, and the first fault in a list or a map.
use Rattle.std.specs.declared.rc.Rc.{Rc}
use Rattle.arrayvec.specs.ArrayString.{ArrayString}
use Rattle.std.proofs.Common.{◌≡◌, ℕ, List, ◌∷◌, Err, Vec, BTreeMap, String, Global, Bool, ℤ, string_bytes, rules, sym, ap, ◌∙◌}
use Rattle.serde_json.specs.Data as json
use Rattle.serde_json.specs.Find.{of_integer}
use Rattle.pg_json.specs.Replies.{data_of}
use Rattle.pg_json.proofs.Elements.{data_null, data_bool, data_text}
use Rattle.pg_meaning.specs.Answer.{◌>>◌}
use Rattle.pg_meaning.specs.Graph.{Graph}
use Rattle.pg_meaning.specs.Queries.{test_entries, test_items, test_output}
use Rattle.pg_meaning.specs.Value as seen
use Rattle.pg_meaning.specs.declared.fault.Fault.{Fault}
use Rattle.pg_run.proofs.Items.{ItemsWithin}
use Rattle.pg_run.proofs.Members.{MembersWithin, Named, Pair}
use Rattle.pg_run.specs.Printed.{printed}
use Rattle.pg_value_core.specs.View.{entries_view, values_view, view}
use Rattle.pg_value_core.specs.declared.ids.NodeId.{NodeId}
use Rattle.pg_value_core.specs.declared.ids.Path.{Path}
use Rattle.pg_value_core.specs.declared.ids.RelId.{RelId}
use Rattle.pg_value_core.specs.declared.out.Out.{Out}
use Rattle.pg_value_core.specs.declared.out.Out as out
use Rattle.pg_value_core.specs.declared.value.Value.{Value}
use Rattle.pg_value_core.specs.declared.value.Value as value

-- ---- what a value is seen as

view_null : view value.Null ≡ seen.null
view_null = search (rules, value.the_lemmas)

view_bool : (b : Bool) → view (value.Bool b) ≡ seen.boolean b
view_bool b = search (rules, value.the_lemmas)

view_int : (i : ℤ) → view (value.Int i) ≡ seen.integer i
view_int i = search (rules, value.the_lemmas)

view_text : (s : Rc (String Global) Global) → view (value.Text s) ≡ seen.text (string_bytes s.value)
view_text s = search (rules, value.the_lemmas)

view_short : (s : ArrayString) → view (value.ShortText s) ≡ seen.text s.bytes
view_short s = search (rules, value.the_lemmas)

view_list : (items : Rc (Vec Value Global) Global) → view (value.List items) ≡ seen.list (values_view items.value.items)
view_list items = search (rules, value.the_lemmas)

view_map : (entries : Rc (BTreeMap (String Global) Value) Global) → view (value.Map entries) ≡ seen.mapping (entries_view entries.value.entries)
view_map entries = search (rules, value.the_lemmas)

view_node : (id : NodeId) → view (value.Node id) ≡ seen.node id.0
view_node id = search (rules, value.the_lemmas)

view_rel : (id : RelId) → view (value.Rel id) ≡ seen.relationship id.0
view_rel id = search (rules, value.the_lemmas)

view_path : (path : Path) → view (value.Path path) ≡ seen.path path.0.items
view_path path = search (rules, value.the_lemmas)

data_int : (i : ℤ) → data_of (out.Int i) ≡ json.number (of_integer i)
data_int i = search (rules, out.the_lemmas)

module _ (v : Value) where
  pub null_seen : v ≡ value.Null → view v ≡ seen.null
  null_seen e = ap view e ∙ view_null

  pub bool_seen : (b : Bool) → v ≡ value.Bool b → view v ≡ seen.boolean b
  bool_seen b e = ap view e ∙ view_bool b

  pub int_seen : (i : ℤ) → v ≡ value.Int i → view v ≡ seen.integer i
  int_seen i e = ap view e ∙ view_int i

  pub text_seen : (s : Rc (String Global) Global) → v ≡ value.Text s → view v ≡ seen.text (string_bytes s.value)
  text_seen s e = ap view e ∙ view_text s

  pub short_seen : (s : ArrayString) → v ≡ value.ShortText s → view v ≡ seen.text s.bytes
  short_seen s e = ap view e ∙ view_short s

  pub list_seen : (items : Rc (Vec Value Global) Global) → v ≡ value.List items → view v ≡ seen.list (values_view items.value.items)
  list_seen items e = ap view e ∙ view_list items

  pub map_seen : (entries : Rc (BTreeMap (String Global) Value) Global) → v ≡ value.Map entries → view v ≡ seen.mapping (entries_view entries.value.entries)
  map_seen entries e = ap view e ∙ view_map entries

  pub node_seen : (id : NodeId) → v ≡ value.Node id → view v ≡ seen.node id.0
  node_seen id e = ap view e ∙ view_node id

  pub rel_seen : (id : RelId) → v ≡ value.Rel id → view v ≡ seen.relationship id.0
  rel_seen id e = ap view e ∙ view_rel id

  pub path_seen : (path : Path) → v ≡ value.Path path → view v ≡ seen.path path.0.items
  path_seen path e = ap view e ∙ view_path path

module _ (graph : Graph) (v : Value) where
  pub null_shown : v ≡ value.Null → data_of out.Null ≡ printed graph (view v)
  null_shown e = data_null ∙ ap (printed graph) (sym (null_seen v e))

  pub bool_shown : (b : Bool) → v ≡ value.Bool b → data_of (out.Bool b) ≡ printed graph (view v)
  bool_shown b e = data_bool b ∙ ap (printed graph) (sym (bool_seen v b e))

  pub int_shown : (i : ℤ) → v ≡ value.Int i → data_of (out.Int i) ≡ printed graph (view v)
  int_shown i e = data_int i ∙ ap (printed graph) (sym (int_seen v i e))

  pub int_put : (i j : ℤ) → v ≡ value.Int i → j ≡ i → data_of (out.Int j) ≡ printed graph (view v)
  int_put i j e same = ap (λ k. data_of (out.Int k)) same ∙ int_shown i e

  pub text_put : (bytes : List ℕ) → view v ≡ seen.text bytes → json.string bytes ≡ printed graph (view v)
  text_put bytes e = ap (printed graph) (sym e)

-- ---- the first fault

module _ (graph : Graph) (start room : ℕ) where
  pub item_refused : (all rest more : List Value) (found : List Out) (v : Value) (e : Fault) → ItemsWithin graph start room all rest found → rest ≡ v ∷ more → test_output graph (view v) ≡ Err e → test_items graph (values_view all) ≡ Err e
  item_refused all rest more found v e so_far is fault = so_far.tests ∙ ap (λ vs. test_items graph (values_view vs)) is ∙ ap (λ t. t >> test_items graph (values_view more)) fault

  pub entry_refused : (all rest more : List Pair) (found : List Named) (p : Pair) (e : Fault) → MembersWithin graph start room (entries_view all) (entries_view rest) found → rest ≡ p ∷ more → test_output graph (view p.1) ≡ Err e → test_entries graph (entries_view all) ≡ Err e
  entry_refused all rest more found p e so_far is fault = so_far.tests ∙ ap (λ es. test_entries graph (entries_view es)) is ∙ ap (λ t. t >> test_entries graph (entries_view more)) fault
