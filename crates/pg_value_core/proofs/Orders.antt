-- How two values stand by their types, and two lists and two maps by their first items.
use Rattle.std.specs.declared.rc.Rc.{Rc}
use Rattle.std.proofs.Common.{◌≡◌, ℕ, ◌+◌, ◌<◌, ◌≤◌, ℤ, Bool, List, [], ◌∷◌, Vec, BTreeMap, length, drop, get_or, String, Global, string_bytes, refl, sym, ap, ◌∙◌}
use Rattle.std.proofs.lemmas.List.{drop_more, drop_all}
use Rattle.std.specs.Ordering.{ordering_then, nat_cmp}
use Rattle.std.specs.declared.cmp.Ordering.{Ordering}
use Rattle.std.specs.declared.cmp.Ordering.TheVariants.{Less, Equal, Greater}
use Rattle.pg_meaning.specs.Order.{rank_of, value_order, items_order, entries_order}
use Rattle.pg_meaning.specs.Value.{Value as Datum, boolean, integer, text, list, mapping, node, relationship, path}
use Rattle.pg_value_core.proofs.Forms as form
use Rattle.pg_value_core.specs.View.{view, view_step, values_view, entries_view}
use Rattle.pg_value_core.specs.declared.ids.NodeId.{NodeId}
use Rattle.pg_value_core.specs.declared.ids.Path.{Path}
use Rattle.pg_value_core.specs.declared.ids.RelId.{RelId}
use Rattle.arrayvec.specs.ArrayString.{ArrayString}
use Rattle.pg_value_core.specs.declared.value.Value.{Value}
use Rattle.pg_value_core.specs.declared.value.Value.TheFolds.{fold-roll-Value}
use Rattle.pg_value_core.specs.declared.value.Value.TheOpen.{Value-F}
use Rattle.pg_value_core.specs.declared.value.Value.TheVariants as code
use Rattle.pg_value_core.specs.declared.value.Value.TheViews.{out-Value, roll-Value, roll-out-Value, rolls-Bool, rolls-Int, rolls-Text, rolls-ShortText, rolls-List, rolls-Map, rolls-Node, rolls-Rel, rolls-Path}

pub then_second : {j k : Ordering} (o : Ordering) → j ≡ k → j ≡ Equal → o ≡ ordering_then k o
then_second o same equal = ap (λ (k : Ordering). ordering_then k o) (sym equal ∙ same)

unequal_decides : (k o : Ordering) → (k ≡ Equal → ⊥) → k ≡ ordering_then k o
unequal_decides Less o unequal = refl
unequal_decides Equal o unequal = absurd (unequal refl)
unequal_decides Greater o unequal = refl

pub then_first : {j k : Ordering} (o : Ordering) → j ≡ k → (j ≡ Equal → ⊥) → j ≡ ordering_then k o
then_first {j} {k} o same unequal = unequal_decides j o unequal ∙ ap (λ (k : Ordering). ordering_then k o) same

pub both_seen : (a b : Value) (v w : Datum) → view a ≡ v → view b ≡ w → value_order v w ≡ value_order (view a) (view b)
both_seen a b v w e f = sym (ap (λ u. value_order u (view b)) e ∙ ap (value_order v) f)

abbrev by_rank : Datum → Datum → Ordering
by_rank v w = nat_cmp (rank_of v) (rank_of w)

module _ (b : Value) where
  at_form : (a : Value) (v : Datum) → view a ≡ v → by_rank v (view b) ≡ value_order v (view b) → by_rank (view a) (view b) ≡ value_order (view a) (view b)
  at_form a v seen same = ap (λ u. by_rank u (view b)) seen ∙ same ∙ sym (ap (λ u. value_order u (view b)) seen)

  pub of_null : (a : Value) → a ≡ code.Null → by_rank (view a) (view b) ≡ value_order (view a) (view b)
  of_null a is = at_form a _ (form.null_seen is) refl

  bool_apart : (x : Bool) (part : Value-F Value) → roll-Value part ≡ b → ((x : Bool) → b ≡ code.Bool x → ⊥) → by_rank (boolean x) (view b) ≡ value_order (boolean x) (view b)
  bool_apart x (Value-F.Bool y) same none = absurd (none y (sym same ∙ rolls-Bool y))
  bool_apart x part same none =
      let seen = sym (fold-roll-Value Datum view_step part) ∙ ap view same in
      sym (ap (by_rank (boolean x)) seen) ∙ ap (value_order (boolean x)) seen

  pub other_bool : (a : Value) (x : Bool) → a ≡ code.Bool x → ((x : Bool) → b ≡ code.Bool x → ⊥) → by_rank (view a) (view b) ≡ value_order (view a) (view b)
  other_bool a x is none = at_form a (boolean x) (form.bool_seen x is) (bool_apart x (out-Value b) (roll-out-Value b) none)

  int_apart : (i : ℤ) (part : Value-F Value) → roll-Value part ≡ b → ((i : ℤ) → b ≡ code.Int i → ⊥) → by_rank (integer i) (view b) ≡ value_order (integer i) (view b)
  int_apart i (Value-F.Int y) same none = absurd (none y (sym same ∙ rolls-Int y))
  int_apart i part same none =
      let seen = sym (fold-roll-Value Datum view_step part) ∙ ap view same in
      sym (ap (by_rank (integer i)) seen) ∙ ap (value_order (integer i)) seen

  pub other_int : (a : Value) (i : ℤ) → a ≡ code.Int i → ((i : ℤ) → b ≡ code.Int i → ⊥) → by_rank (view a) (view b) ≡ value_order (view a) (view b)
  other_int a i is none = at_form a (integer i) (form.int_seen i is) (int_apart i (out-Value b) (roll-out-Value b) none)

  -- no text of either kind
  abbrev is_apart : Value → Type 0
  is_apart v = ((s : Rc (String Global) Global) → v ≡ code.Text s → ⊥) × ((s : ArrayString) → v ≡ code.ShortText s → ⊥)

  text_apart : (s : List ℕ) (part : Value-F Value) → roll-Value part ≡ b → is_apart b → by_rank (text s) (view b) ≡ value_order (text s) (view b)
  text_apart s (Value-F.Text y) same none = absurd (none.0 y (sym same ∙ rolls-Text y))
  text_apart s (Value-F.ShortText y) same none = absurd (none.1 y (sym same ∙ rolls-ShortText y))
  text_apart s part same none =
      let seen = sym (fold-roll-Value Datum view_step part) ∙ ap view same in
      sym (ap (by_rank (text s)) seen) ∙ ap (value_order (text s)) seen

  pub other_text : (a : Value) (s : Rc (String Global) Global) → a ≡ code.Text s → ((s : Rc (String Global) Global) → b ≡ code.Text s → ⊥) → ((s : ArrayString) → b ≡ code.ShortText s → ⊥) → by_rank (view a) (view b) ≡ value_order (view a) (view b)
  other_text a s is none no_short = at_form a (text (string_bytes s.value)) (form.text_seen s is) (text_apart (string_bytes s.value) (out-Value b) (roll-out-Value b) (none, no_short))

  pub other_short : (a : Value) (s : ArrayString) → a ≡ code.ShortText s → ((s : Rc (String Global) Global) → b ≡ code.Text s → ⊥) → ((s : ArrayString) → b ≡ code.ShortText s → ⊥) → by_rank (view a) (view b) ≡ value_order (view a) (view b)
  other_short a s is none no_short = at_form a (text s.bytes) (form.short_seen s is) (text_apart s.bytes (out-Value b) (roll-out-Value b) (none, no_short))

  list_apart : (vs : Rc (Vec Value Global) Global) (part : Value-F Value) → roll-Value part ≡ b → ((vs : Rc (Vec Value Global) Global) → b ≡ code.List vs → ⊥) → by_rank (list (values_view vs.value.items)) (view b) ≡ value_order (list (values_view vs.value.items)) (view b)
  list_apart vs (Value-F.List y) same none = absurd (none y (sym same ∙ rolls-List y))
  list_apart vs part same none =
      let seen = sym (fold-roll-Value Datum view_step part) ∙ ap view same in
      sym (ap (by_rank (list (values_view vs.value.items))) seen) ∙ ap (value_order (list (values_view vs.value.items))) seen

  pub other_list : (a : Value) (vs : Rc (Vec Value Global) Global) → a ≡ code.List vs → ((vs : Rc (Vec Value Global) Global) → b ≡ code.List vs → ⊥) → by_rank (view a) (view b) ≡ value_order (view a) (view b)
  other_list a vs is none = at_form a (list (values_view vs.value.items)) (form.list_seen vs is) (list_apart vs (out-Value b) (roll-out-Value b) none)

  map_apart : (m : Rc (BTreeMap (String Global) Value) Global) (part : Value-F Value) → roll-Value part ≡ b → ((m : Rc (BTreeMap (String Global) Value) Global) → b ≡ code.Map m → ⊥) → by_rank (mapping (entries_view m.value.entries)) (view b) ≡ value_order (mapping (entries_view m.value.entries)) (view b)
  map_apart m (Value-F.Map y) same none = absurd (none y (sym same ∙ rolls-Map y))
  map_apart m part same none =
      let seen = sym (fold-roll-Value Datum view_step part) ∙ ap view same in
      sym (ap (by_rank (mapping (entries_view m.value.entries))) seen) ∙ ap (value_order (mapping (entries_view m.value.entries))) seen

  pub other_map : (a : Value) (m : Rc (BTreeMap (String Global) Value) Global) → a ≡ code.Map m → ((m : Rc (BTreeMap (String Global) Value) Global) → b ≡ code.Map m → ⊥) → by_rank (view a) (view b) ≡ value_order (view a) (view b)
  other_map a m is none = at_form a (mapping (entries_view m.value.entries)) (form.map_seen m is) (map_apart m (out-Value b) (roll-out-Value b) none)

  node_apart : (n : NodeId) (part : Value-F Value) → roll-Value part ≡ b → ((n : NodeId) → b ≡ code.Node n → ⊥) → by_rank (node n.0) (view b) ≡ value_order (node n.0) (view b)
  node_apart n (Value-F.Node y) same none = absurd (none y (sym same ∙ rolls-Node y))
  node_apart n part same none =
      let seen = sym (fold-roll-Value Datum view_step part) ∙ ap view same in
      sym (ap (by_rank (node n.0)) seen) ∙ ap (value_order (node n.0)) seen

  pub other_node : (a : Value) (n : NodeId) → a ≡ code.Node n → ((n : NodeId) → b ≡ code.Node n → ⊥) → by_rank (view a) (view b) ≡ value_order (view a) (view b)
  other_node a n is none = at_form a (node n.0) (form.node_seen n is) (node_apart n (out-Value b) (roll-out-Value b) none)

  rel_apart : (r : RelId) (part : Value-F Value) → roll-Value part ≡ b → ((r : RelId) → b ≡ code.Rel r → ⊥) → by_rank (relationship r.0) (view b) ≡ value_order (relationship r.0) (view b)
  rel_apart r (Value-F.Rel y) same none = absurd (none y (sym same ∙ rolls-Rel y))
  rel_apart r part same none =
      let seen = sym (fold-roll-Value Datum view_step part) ∙ ap view same in
      sym (ap (by_rank (relationship r.0)) seen) ∙ ap (value_order (relationship r.0)) seen

  pub other_rel : (a : Value) (r : RelId) → a ≡ code.Rel r → ((r : RelId) → b ≡ code.Rel r → ⊥) → by_rank (view a) (view b) ≡ value_order (view a) (view b)
  other_rel a r is none = at_form a (relationship r.0) (form.rel_seen r is) (rel_apart r (out-Value b) (roll-out-Value b) none)

  path_apart : (p : Path) (part : Value-F Value) → roll-Value part ≡ b → ((p : Path) → b ≡ code.Path p → ⊥) → by_rank (path p.0.items) (view b) ≡ value_order (path p.0.items) (view b)
  path_apart p (Value-F.Path y) same none = absurd (none y (sym same ∙ rolls-Path y))
  path_apart p part same none =
      let seen = sym (fold-roll-Value Datum view_step part) ∙ ap view same in
      sym (ap (by_rank (path p.0.items)) seen) ∙ ap (value_order (path p.0.items)) seen

  pub other_path : (a : Value) (p : Path) → a ≡ code.Path p → ((p : Path) → b ≡ code.Path p → ⊥) → by_rank (view a) (view b) ≡ value_order (view a) (view b)
  other_path a p is none = at_form a (path p.0.items) (form.path_seen p is) (path_apart p (out-Value b) (roll-out-Value b) none)

module _ (xs : List Value) (i : ℕ) where
  abbrev of_items : List Value → List Value → Ordering
  of_items vs ws = items_order (values_view vs) (values_view ws)

  pub items_step : (others rest : List Value) (x y : Value) → i < length xs → x ≡ get_or xs i x → others ≡ y ∷ rest
      → ordering_then (value_order (view x) (view y)) (items_order (values_view (drop (i + 1) xs)) (values_view rest)) ≡ items_order (values_view (drop i xs)) (values_view others)
  items_step others rest x y inside e o = sym (ap (λ vs. of_items vs others) (drop_more xs i x inside ∙ ap (λ v. v ∷ drop (i + 1) xs) (sym e)) ∙ ap (of_items (x ∷ drop (i + 1) xs)) o)

  pub items_over : (others : List Value) (x : Value) → i < length xs → others ≡ [] → Greater ≡ items_order (values_view (drop i xs)) (values_view others)
  items_over others x inside o = sym (ap (λ vs. of_items vs others) (drop_more xs i x inside) ∙ ap (of_items (get_or xs i x ∷ drop (i + 1) xs)) o)

  pub items_left : (others rest : List Value) (y : Value) → length xs ≤ i → others ≡ y ∷ rest → Less ≡ items_order (values_view (drop i xs)) (values_view others)
  items_left others rest y outside o = sym (ap (λ vs. of_items vs others) (drop_all i xs outside) ∙ ap (of_items []) o)

  pub items_done : (others : List Value) → length xs ≤ i → others ≡ [] → Equal ≡ items_order (values_view (drop i xs)) (values_view others)
  items_done others outside o = sym (ap (λ vs. of_items vs others) (drop_all i xs outside) ∙ ap (of_items []) o)

abbrev Entries : Type 0
Entries = List (String Global × Value)

abbrev of_entries : Entries → Entries → Ordering
of_entries es fs = entries_order (entries_view es) (entries_view fs)

pub entries_are : {lefts rights : Entries} (es fs : Entries) → lefts ≡ es → rights ≡ fs → of_entries es fs ≡ of_entries lefts rights
entries_are {lefts} {rights} es fs p q = sym (ap (λ ls. of_entries ls rights) p ∙ ap (of_entries es) q)
