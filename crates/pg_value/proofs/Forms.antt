-- That values of other types are not equal, and a null to nothing.
use Rattle.std.specs.declared.rc.Rc.{Rc}
use Rattle.arrayvec.specs.ArrayString.{ArrayString}
use Rattle.std.proofs.Common.{◌≡◌, ℕ, ℤ, Bool, List, Vec, BTreeMap, String, Global, string_bytes, refl, sym, ap, ◌∙◌}
use Rattle.pg_meaning.specs.Equality.{eq3}
use Rattle.pg_meaning.specs.Value.{Value as Datum, null, boolean, integer, text, list, mapping, node, relationship, path}
use Rattle.pg_meaning.specs.declared.logic.Tri.TheVariants.{False, Null}
use Rattle.pg_value_core.proofs.Forms.{null_seen, bool_seen, int_seen, text_seen, short_seen, list_seen, map_seen, node_seen, rel_seen, path_seen}
use Rattle.pg_value_core.specs.View.{view, view_step, values_view, entries_view}
use Rattle.pg_value_core.specs.declared.ids.NodeId.{NodeId}
use Rattle.pg_value_core.specs.declared.ids.Path.{Path}
use Rattle.pg_value_core.specs.declared.ids.RelId.{RelId}
use Rattle.pg_value_core.specs.declared.value.Value.{Value}
use Rattle.pg_value_core.specs.declared.value.Value.TheFolds.{fold-roll-Value}
use Rattle.pg_value_core.specs.declared.value.Value.TheOpen.{Value-F}
use Rattle.pg_value_core.specs.declared.value.Value.TheVariants as code
use Rattle.pg_value_core.specs.declared.value.Value.TheViews.{out-Value, roll-Value, roll-out-Value, rolls-Null, rolls-Bool, rolls-Int, rolls-Text, rolls-ShortText, rolls-List, rolls-Map, rolls-Node, rolls-Rel, rolls-Path}

pub both_seen : (a b : Value) (v w : Datum) → view a ≡ v → view b ≡ w → eq3 v w ≡ eq3 (view a) (view b)
both_seen a b v w e f = sym (ap (λ u. eq3 u (view b)) e ∙ ap (eq3 v) f)

pub null_left : (a b : Value) → a ≡ code.Null → Null ≡ eq3 (view a) (view b)
null_left a b is = sym (ap (λ u. eq3 u (view b)) (null_seen is))

with_null : (v : Datum) → Null ≡ eq3 v null
with_null null = refl
with_null v = refl

pub null_right : (a b : Value) → b ≡ code.Null → Null ≡ eq3 (view a) (view b)
null_right a b is = with_null (view a) ∙ sym (ap (eq3 (view a)) (null_seen is))

module _ (b : Value) (some : b ≡ code.Null → ⊥) where
  bool_apart : (x : Bool) (part : Value-F Value) → roll-Value part ≡ b → ((x : Bool) → b ≡ code.Bool x → ⊥) → False ≡ eq3 (boolean x) (view b)
  bool_apart x Value-F.Null same none = absurd (some (sym same ∙ rolls-Null))
  bool_apart x (Value-F.Bool y) same none = absurd (none y (sym same ∙ rolls-Bool y))
  bool_apart x part same none = ap (eq3 (boolean x)) (sym (fold-roll-Value Datum view_step part) ∙ ap view same)

  pub other_bool : (a : Value) (x : Bool) → a ≡ code.Bool x → ((x : Bool) → b ≡ code.Bool x → ⊥) → False ≡ eq3 (view a) (view b)
  other_bool a x is none = bool_apart x (out-Value b) (roll-out-Value b) none ∙ ap (λ v. eq3 v (view b)) (sym (bool_seen x is))

  int_apart : (i : ℤ) (part : Value-F Value) → roll-Value part ≡ b → ((i : ℤ) → b ≡ code.Int i → ⊥) → False ≡ eq3 (integer i) (view b)
  int_apart i Value-F.Null same none = absurd (some (sym same ∙ rolls-Null))
  int_apart i (Value-F.Int y) same none = absurd (none y (sym same ∙ rolls-Int y))
  int_apart i part same none = ap (eq3 (integer i)) (sym (fold-roll-Value Datum view_step part) ∙ ap view same)

  pub other_int : (a : Value) (i : ℤ) → a ≡ code.Int i → ((i : ℤ) → b ≡ code.Int i → ⊥) → False ≡ eq3 (view a) (view b)
  other_int a i is none = int_apart i (out-Value b) (roll-out-Value b) none ∙ ap (λ v. eq3 v (view b)) (sym (int_seen i is))

  text_apart : (s : List ℕ) (part : Value-F Value) → roll-Value part ≡ b → ((s : Rc (String Global) Global) → b ≡ code.Text s → ⊥) → ((s : ArrayString) → b ≡ code.ShortText s → ⊥) → False ≡ eq3 (text s) (view b)
  text_apart s Value-F.Null same none no_short = absurd (some (sym same ∙ rolls-Null))
  text_apart s (Value-F.Text y) same none no_short = absurd (none y (sym same ∙ rolls-Text y))
  text_apart s (Value-F.ShortText y) same none no_short = absurd (no_short y (sym same ∙ rolls-ShortText y))
  text_apart s part same none no_short = ap (eq3 (text s)) (sym (fold-roll-Value Datum view_step part) ∙ ap view same)

  pub other_text : (a : Value) (s : Rc (String Global) Global) → a ≡ code.Text s → ((s : Rc (String Global) Global) → b ≡ code.Text s → ⊥) → ((s : ArrayString) → b ≡ code.ShortText s → ⊥) → False ≡ eq3 (view a) (view b)
  other_text a s is none no_short = text_apart (string_bytes s.value) (out-Value b) (roll-out-Value b) none no_short ∙ ap (λ v. eq3 v (view b)) (sym (text_seen s is))

  pub other_short : (a : Value) (s : ArrayString) → a ≡ code.ShortText s → ((s : Rc (String Global) Global) → b ≡ code.Text s → ⊥) → ((s : ArrayString) → b ≡ code.ShortText s → ⊥) → False ≡ eq3 (view a) (view b)
  other_short a s is none no_short = text_apart s.bytes (out-Value b) (roll-out-Value b) none no_short ∙ ap (λ v. eq3 v (view b)) (sym (short_seen s is))

  list_apart : (vs : Rc (Vec Value Global) Global) (part : Value-F Value) → roll-Value part ≡ b → ((vs : Rc (Vec Value Global) Global) → b ≡ code.List vs → ⊥) → False ≡ eq3 (list (values_view vs.value.items)) (view b)
  list_apart vs Value-F.Null same none = absurd (some (sym same ∙ rolls-Null))
  list_apart vs (Value-F.List y) same none = absurd (none y (sym same ∙ rolls-List y))
  list_apart vs part same none = ap (eq3 (list (values_view vs.value.items))) (sym (fold-roll-Value Datum view_step part) ∙ ap view same)

  pub other_list : (a : Value) (vs : Rc (Vec Value Global) Global) → a ≡ code.List vs → ((vs : Rc (Vec Value Global) Global) → b ≡ code.List vs → ⊥) → False ≡ eq3 (view a) (view b)
  other_list a vs is none = list_apart vs (out-Value b) (roll-out-Value b) none ∙ ap (λ v. eq3 v (view b)) (sym (list_seen vs is))

  map_apart : (m : Rc (BTreeMap (String Global) Value) Global) (part : Value-F Value) → roll-Value part ≡ b → ((m : Rc (BTreeMap (String Global) Value) Global) → b ≡ code.Map m → ⊥) → False ≡ eq3 (mapping (entries_view m.value.entries)) (view b)
  map_apart m Value-F.Null same none = absurd (some (sym same ∙ rolls-Null))
  map_apart m (Value-F.Map y) same none = absurd (none y (sym same ∙ rolls-Map y))
  map_apart m part same none = ap (eq3 (mapping (entries_view m.value.entries))) (sym (fold-roll-Value Datum view_step part) ∙ ap view same)

  pub other_map : (a : Value) (m : Rc (BTreeMap (String Global) Value) Global) → a ≡ code.Map m → ((m : Rc (BTreeMap (String Global) Value) Global) → b ≡ code.Map m → ⊥) → False ≡ eq3 (view a) (view b)
  other_map a m is none = map_apart m (out-Value b) (roll-out-Value b) none ∙ ap (λ v. eq3 v (view b)) (sym (map_seen m is))

  node_apart : (n : NodeId) (part : Value-F Value) → roll-Value part ≡ b → ((n : NodeId) → b ≡ code.Node n → ⊥) → False ≡ eq3 (node n.0) (view b)
  node_apart n Value-F.Null same none = absurd (some (sym same ∙ rolls-Null))
  node_apart n (Value-F.Node y) same none = absurd (none y (sym same ∙ rolls-Node y))
  node_apart n part same none = ap (eq3 (node n.0)) (sym (fold-roll-Value Datum view_step part) ∙ ap view same)

  pub other_node : (a : Value) (n : NodeId) → a ≡ code.Node n → ((n : NodeId) → b ≡ code.Node n → ⊥) → False ≡ eq3 (view a) (view b)
  other_node a n is none = node_apart n (out-Value b) (roll-out-Value b) none ∙ ap (λ v. eq3 v (view b)) (sym (node_seen n is))

  rel_apart : (r : RelId) (part : Value-F Value) → roll-Value part ≡ b → ((r : RelId) → b ≡ code.Rel r → ⊥) → False ≡ eq3 (relationship r.0) (view b)
  rel_apart r Value-F.Null same none = absurd (some (sym same ∙ rolls-Null))
  rel_apart r (Value-F.Rel y) same none = absurd (none y (sym same ∙ rolls-Rel y))
  rel_apart r part same none = ap (eq3 (relationship r.0)) (sym (fold-roll-Value Datum view_step part) ∙ ap view same)

  pub other_rel : (a : Value) (r : RelId) → a ≡ code.Rel r → ((r : RelId) → b ≡ code.Rel r → ⊥) → False ≡ eq3 (view a) (view b)
  other_rel a r is none = rel_apart r (out-Value b) (roll-out-Value b) none ∙ ap (λ v. eq3 v (view b)) (sym (rel_seen r is))

  path_apart : (p : Path) (part : Value-F Value) → roll-Value part ≡ b → ((p : Path) → b ≡ code.Path p → ⊥) → False ≡ eq3 (path p.0.items) (view b)
  path_apart p Value-F.Null same none = absurd (some (sym same ∙ rolls-Null))
  path_apart p (Value-F.Path y) same none = absurd (none y (sym same ∙ rolls-Path y))
  path_apart p part same none = ap (eq3 (path p.0.items)) (sym (fold-roll-Value Datum view_step part) ∙ ap view same)

  pub other_path : (a : Value) (p : Path) → a ≡ code.Path p → ((p : Path) → b ≡ code.Path p → ⊥) → False ≡ eq3 (view a) (view b)
  other_path a p is none = path_apart p (out-Value b) (roll-out-Value b) none ∙ ap (λ v. eq3 v (view b)) (sym (path_seen p is))
