-- An item of SET or REMOVE changes what it says, or ends in a fault that it may.
use Rattle.std.proofs.Common.{◌≡◌, ℕ, Bool, true, false, not, ◌&&◌, ◌⊎◌, inl, inr, List, [], ◌∷◌, filter, Option, Some, None, is_some, Result, Ok, Err, refl, sym, ap, subst, ◌∙◌, IsTrue, true≢false}
use Rattle.std.specs.List.{list_all}
use Rattle.std.specs.List.Sorted.{IsStrictlySortedBy}
use Rattle.pg_meaning.specs.Agreement.{given_in}
use Rattle.pg_meaning.specs.Answer.{◌>>=◌, ◌>>◌, unless}
use Rattle.pg_meaning.specs.AnswerLaws.{by_answer, same_ok}
use Rattle.pg_meaning.specs.Entries.{are_rising, without_key, set_keys}
use Rattle.pg_meaning.specs.EntriesLaws.{set_keys_keeps_rising, without_keeps_rising}
use Rattle.pg_meaning.specs.Expressions.{evaluate}
use Rattle.pg_meaning.specs.Graph.{Graph, Node, Relationship, IsGraph, node_at, relationship_at, has_node, has_relationship, change_node, change_relationship}
use Rattle.pg_meaning.specs.GraphLaws.{found_among, change_node_keeps_graph, change_node_changes, change_relationship_keeps_graph, change_relationship_changes}
use Rattle.pg_meaning.specs.ListsLaws.{all_tests, tests_all}
use Rattle.pg_meaning.specs.Meters.{Setting}
use Rattle.pg_meaning.specs.Names.{Names, is_among, put_texts}
use Rattle.pg_meaning.specs.Order.{text_order}
use Rattle.pg_meaning.specs.Patterns.{texts_of}
use Rattle.pg_meaning.specs.Rows.{Row, value_in}
use Rattle.pg_meaning.specs.Tree.{Expression, Name, SetItem, set_property, set_all, set_more, set_labels, RemoveItem, remove_property, remove_labels}
use Rattle.pg_meaning.specs.Turns.{Given}
use Rattle.pg_meaning.specs.Updates.{may_be_set, test_storable, mapping_pairs, Target, at_node, at_relationship, target_value, change_properties, change_labels, is_nothing, set_pairs, on_target, set_item, remove_item}
use Rattle.pg_meaning.specs.Value.{Value, null, boolean, integer, text, list, mapping, node, relationship, path, Entries, no_entries, entries_of}
use Rattle.pg_meaning.specs.declared.fault.Fault.{Fault}
use Rattle.pg_meaning.specs.declared.fault.Fault.TheVariants.{TypeFault, NotStorable, DeletedEntity}
use Rattle.pg_meaning.specs.Changes.{NodeChanges, RelationshipChanges, ElementChanges, PropertiesChange, LabelsChange, KeysAreSet, KeyIsGone, AreSettable, MapIsSet, IsMap, TargetFaults, IsTarget, ValueFaults, MapFaults, LabelFaults, SetsItem, SetItemFaults, RemovesItem, RemoveItemFaults}
use Rattle.pg_soundness.proofs.ChangesOptions.{found, missing, same_err}
use Rattle.pg_soundness.proofs.ChangesProperties.{keys_are_set, key_is_gone, labels_are_added, labels_are_gone}

-- the graph that is answered changes so, or the fault may be
abbrev pub Verdict : (Graph → Type 0) → (Fault → Type 0) → Result Graph Fault → Type 0
Verdict C F (Ok after) = C after
Verdict C F (Err f) = F f

-- ---- one element

node_changes : (Becomes : Node → Node → Type 0) (f : Node → Node) (n : ℕ) (graph : Graph) → IsGraph graph → has_node graph n ≡ true
    → ((e : Node) → IsStrictlySortedBy text_order e.labels → IsTrue (are_rising e.properties) → Becomes e (f e) × IsStrictlySortedBy text_order (f e).labels × IsTrue (are_rising (f e).properties))
    → NodeChanges Becomes n graph (change_node f n graph)
node_changes Becomes f n graph g there keeps =
    let e = found (node_at graph n) there in
    let laws : (x : Node) → node_at graph n ≡ Some x → Becomes x (f x) × IsStrictlySortedBy text_order (f x).labels × IsTrue (are_rising (f x).properties) = λ x is. keeps x (found_among (λ p. IsStrictlySortedBy text_order p.1.labels) n x graph.nodes g.labels_rise is) (found_among (λ p. IsTrue (are_rising p.1.properties)) n x graph.nodes g.node_keys_rise is) in
    let changed = change_node_changes f n graph in
    record {
      before = e.0;
      now = f e.0;
      was = e.1;
      is = changed.itself ∙ ap (λ o. elim o as (λ o. Option Node) [ None ↦ None | Some x ↦ Some (f x) ]) e.1;
      becomes = (laws e.0 e.1).0;
      others = changed.others;
      relationships = λ r. ap (λ rs. relationship_at (record { nodes = []; relationships = rs; next_node = 0; next_relationship = 0 }) r) changed.relationships;
      next_node = changed.next_node;
      next_relationship = changed.next_relationship;
      graph_again = change_node_keeps_graph f n graph (λ x is. ((laws x is).1, (laws x is).2)) g;
    }

relationship_changes : (Becomes : Relationship → Relationship → Type 0) (f : Relationship → Relationship) (r : ℕ) (graph : Graph) → IsGraph graph → has_relationship graph r ≡ true
    → ((e : Relationship) → IsTrue (are_rising e.properties) → Becomes e (f e) × (e.source ≡ (f e).source) × (e.target ≡ (f e).target) × IsTrue (are_rising (f e).properties))
    → RelationshipChanges Becomes r graph (change_relationship f r graph)
relationship_changes Becomes f r graph g there keeps =
    let e = found (relationship_at graph r) there in
    let laws : (x : Relationship) → relationship_at graph r ≡ Some x → Becomes x (f x) × (x.source ≡ (f x).source) × (x.target ≡ (f x).target) × IsTrue (are_rising (f x).properties) = λ x is. keeps x (found_among (λ p. IsTrue (are_rising p.1.properties)) r x graph.relationships g.relationship_keys_rise is) in
    let changed = change_relationship_changes f r graph in
    record {
      before = e.0;
      now = f e.0;
      was = e.1;
      is = changed.itself ∙ ap (λ o. elim o as (λ o. Option Relationship) [ None ↦ None | Some x ↦ Some (f x) ]) e.1;
      becomes = (laws e.0 e.1).0;
      others = changed.others;
      nodes = λ n. ap (λ ns. node_at (record { nodes = ns; relationships = []; next_node = 0; next_relationship = 0 }) n) changed.nodes;
      next_node = changed.next_node;
      next_relationship = changed.next_relationship;
      graph_again = change_relationship_keeps_graph f r graph
          (λ x is. record {
            source = subst (λ m. IsTrue (has_node graph m)) (laws x is).1 (found_among (λ p. IsTrue (has_node graph p.1.source)) r x graph.relationships g.sources is);
            target = subst (λ m. IsTrue (has_node graph m)) (laws x is).2 (found_among (λ p. IsTrue (has_node graph p.1.target)) r x graph.relationships g.targets is);
            keys = (laws x is).3;
          })
          g;
    }

-- ---- the target

-- the target that a value is
abbrev LiveTarget : Graph → Option Value → Target → Type 0
LiveTarget graph (Some (node n)) target = (has_node graph n ≡ true) × (target ≡ at_node n)
LiveTarget graph (Some (relationship r)) target = (has_relationship graph r ≡ true) × (target ≡ at_relationship r)
LiveTarget graph v target = ⊥

by_target : (P : Result Graph Fault → Type 0) (graph : Graph) (o : Option Value) (f : Target → Result Graph Fault)
    → (o ≡ Some null → P (Ok graph))
    → ((x : Fault) → TargetFaults graph o x → P (Err x))
    → ((target : Target) → LiveTarget graph o target → P (f target))
    → P (target_value graph o >>= λ target. elim (is_nothing target) as (λ b. Result Graph Fault) [ true ↦ Ok graph | false ↦ f target ])
by_target P graph None f none fault live = fault TypeFault refl
by_target P graph (Some null) f none fault live = none refl
by_target P graph (Some (boolean b)) f none fault live = fault TypeFault refl
by_target P graph (Some (integer i)) f none fault live = fault TypeFault refl
by_target P graph (Some (text s)) f none fault live = fault TypeFault refl
by_target P graph (Some (list vs)) f none fault live = fault TypeFault refl
by_target P graph (Some (mapping es)) f none fault live = fault TypeFault refl
by_target P graph (Some (path ids)) f none fault live = fault TypeFault refl
by_target P graph (Some (node n)) f none fault live = by_node (has_node graph n) refl
  where
    by_node : (b : Bool) → has_node graph n ≡ b → P (elim b as (λ b. Result Target Fault) [ true ↦ Ok (at_node n) | false ↦ Err DeletedEntity ] >>= λ target. elim (is_nothing target) as (λ b. Result Graph Fault) [ true ↦ Ok graph | false ↦ f target ])
    by_node true e = live (at_node n) (e, refl)
    by_node false e = fault DeletedEntity (missing (node_at graph n) e, refl)
by_target P graph (Some (relationship r)) f none fault live = by_relationship (has_relationship graph r) refl
  where
    by_relationship : (b : Bool) → has_relationship graph r ≡ b → P (elim b as (λ b. Result Target Fault) [ true ↦ Ok (at_relationship r) | false ↦ Err DeletedEntity ] >>= λ target. elim (is_nothing target) as (λ b. Result Graph Fault) [ true ↦ Ok graph | false ↦ f target ])
    by_relationship true e = live (at_relationship r) (e, refl)
    by_relationship false e = fault DeletedEntity (missing (relationship_at graph r) e, refl)

is_there : {X : Type 0} (o : Option X) → is_some o ≡ true → o ≡ None → ⊥
is_there o h e = true≢false (sym h ∙ ap is_some e)

is_target : (graph : Graph) (o : Option Value) (target : Target) → LiveTarget graph o target → IsTarget graph o
is_target graph None target h = h
is_target graph (Some null) target h = h
is_target graph (Some (boolean b)) target h = h
is_target graph (Some (integer i)) target h = h
is_target graph (Some (text s)) target h = h
is_target graph (Some (list vs)) target h = h
is_target graph (Some (mapping es)) target h = h
is_target graph (Some (path ids)) target h = h
is_target graph (Some (node n)) target h = is_there (node_at graph n) h.0
is_target graph (Some (relationship r)) target h = is_there (relationship_at graph r) h.0

-- ---- properties and labels of a target

properties_change : (Become : Entries → Entries → Type 0) (f : Entries → Entries) (graph : Graph) (o : Option Value) (target : Target) → IsGraph graph
    → ((es : Entries) → are_rising es ≡ true → Become es (f es)) → ((es : Entries) → are_rising es ≡ true → are_rising (f es) ≡ true)
    → LiveTarget graph o target → PropertiesChange Become o graph (change_properties f target graph)
properties_change Become f graph None target g become rise h = h
properties_change Become f graph (Some null) target g become rise h = absurd h
properties_change Become f graph (Some (boolean b)) target g become rise h = h
properties_change Become f graph (Some (integer i)) target g become rise h = h
properties_change Become f graph (Some (text s)) target g become rise h = h
properties_change Become f graph (Some (list vs)) target g become rise h = h
properties_change Become f graph (Some (mapping es)) target g become rise h = h
properties_change Become f graph (Some (path ids)) target g become rise h = h
properties_change Become f graph (Some (node n)) target g become rise h =
    subst (λ t. NodeChanges (λ before now. (now.labels ≡ before.labels) × Become before.properties now.properties) n graph (change_properties f t graph)) (sym h.1)
    (node_changes (λ before now. (now.labels ≡ before.labels) × Become before.properties now.properties) (λ e. record e { properties = f e.properties }) n graph g h.0
    (λ e labels keys. ((refl, become e.properties keys), labels, rise e.properties keys)))
properties_change Become f graph (Some (relationship r)) target g become rise h =
    subst (λ t. RelationshipChanges (λ before now. (now.type ≡ before.type) × (now.source ≡ before.source) × (now.target ≡ before.target) × Become before.properties now.properties) r graph (change_properties f t graph)) (sym h.1)
    (relationship_changes (λ before now. (now.type ≡ before.type) × (now.source ≡ before.source) × (now.target ≡ before.target) × Become before.properties now.properties) (λ e. record e { properties = f e.properties }) r graph g h.0
    (λ e keys. ((refl, refl, refl, become e.properties keys), refl, refl, rise e.properties keys)))

labels_change : (Become : Names → Names → Type 0) (f : Names → Names) (graph : Graph) (o : Option Value) (target : Target) → IsGraph graph
    → ((us : Names) → IsStrictlySortedBy text_order us → Become us (f us)) → ((us : Names) → IsStrictlySortedBy text_order us → IsStrictlySortedBy text_order (f us))
    → LiveTarget graph o target → Verdict (LabelsChange Become o graph) (LabelFaults o) (change_labels f target graph)
labels_change Become f graph None target g become rise h = absurd h
labels_change Become f graph (Some null) target g become rise h = absurd h
labels_change Become f graph (Some (boolean b)) target g become rise h = absurd h
labels_change Become f graph (Some (integer i)) target g become rise h = absurd h
labels_change Become f graph (Some (text s)) target g become rise h = absurd h
labels_change Become f graph (Some (list vs)) target g become rise h = absurd h
labels_change Become f graph (Some (mapping es)) target g become rise h = absurd h
labels_change Become f graph (Some (path ids)) target g become rise h = absurd h
labels_change Become f graph (Some (node n)) target g become rise h =
    subst (λ t. Verdict (LabelsChange Become (Some (node n)) graph) (LabelFaults (Some (node n))) (change_labels f t graph)) (sym h.1)
    (node_changes (λ before now. (now.properties ≡ before.properties) × Become before.labels now.labels) (λ e. record e { labels = f e.labels }) n graph g h.0
    (λ e labels keys. ((refl, become e.labels labels), rise e.labels labels, keys)))
labels_change Become f graph (Some (relationship r)) target g become rise h =
    subst (λ t. Verdict (LabelsChange Become (Some (relationship r)) graph) (LabelFaults (Some (relationship r))) (change_labels f t graph)) (sym h.1) refl

-- ---- values

-- all may be stored exactly where the test passes
not_settable : (pairs : List (List ℕ × Value)) → list_all (λ p. may_be_set p.1) pairs ≡ false → AreSettable pairs → ⊥
not_settable pairs e h = true≢false (sym (tests_all (λ p. may_be_set p.1) pairs h) ∙ e)

module _ (graph : Graph) (o : Option Value) (target : Target) (g : IsGraph graph) (live : LiveTarget graph o target) where
  pairs_change : (Become : Entries → Entries → Type 0) (F : Fault → Type 0) (pairs_of : Value → Result (List (List ℕ × Value)) Fault) (change : List (List ℕ × Value) → Entries → Entries) (value : Result Value Fault)
      → ((v : Value) (pairs : List (List ℕ × Value)) → value ≡ Ok v → pairs_of v ≡ Ok pairs → AreSettable pairs → (es : Entries) → are_rising es ≡ true → Become es (change pairs es) × (are_rising (change pairs es) ≡ true))
      → ((f : Fault) → value ≡ Err f → F f)
      → ((v : Value) (f : Fault) → value ≡ Ok v → pairs_of v ≡ Err f → F f)
      → ((v : Value) (pairs : List (List ℕ × Value)) → value ≡ Ok v → pairs_of v ≡ Ok pairs → list_all (λ p. may_be_set p.1) pairs ≡ false → F NotStorable)
      → Verdict (PropertiesChange Become o graph) F (set_pairs graph pairs_of change value target)
  pairs_change Become F pairs_of change value become no_value no_pairs no_room =
      by_answer (Verdict (PropertiesChange Become o graph) F) value (λ v. pairs_of v >>= λ pairs. test_storable pairs >> Ok (change_properties (change pairs) target graph))
      (λ v is. by_answer (Verdict (PropertiesChange Become o graph) F) (pairs_of v) (λ pairs. test_storable pairs >> Ok (change_properties (change pairs) target graph))
      (λ pairs are. by_test v pairs is are (list_all (λ p. may_be_set p.1) pairs) refl)
      (λ f e. no_pairs v f is e))
      no_value
    where
      by_test : (v : Value) (pairs : List (List ℕ × Value)) → value ≡ Ok v → pairs_of v ≡ Ok pairs → (b : Bool) → list_all (λ p. may_be_set p.1) pairs ≡ b
          → Verdict (PropertiesChange Become o graph) F (unless b NotStorable >> Ok (change_properties (change pairs) target graph))
      by_test v pairs is are true e =
          let laws = become v pairs is are (all_tests (λ p. may_be_set p.1) pairs e) in
          properties_change Become (change pairs) graph o target g (λ es h. (laws es h).0) (λ es h. (laws es h).1) live
      by_test v pairs is are false e = no_room v pairs is are e

  value_is_set : (s : Given) (row : Row) (k : List ℕ) (e : Expression)
      → Verdict (PropertiesChange (λ before now. (v : Value) × (evaluate row s.parameters graph e ≡ Ok v) × (may_be_set v ≡ true) × KeysAreSet ((k, v) ∷ []) before now) o graph) (ValueFaults s row graph e)
      (set_pairs graph (λ v. Ok ((k, v) ∷ [])) set_keys (evaluate row s.parameters graph e) target)
  value_is_set s row k e =
      pairs_change (λ before now. (v : Value) × (evaluate row s.parameters graph e ≡ Ok v) × (may_be_set v ≡ true) × KeysAreSet ((k, v) ∷ []) before now) (ValueFaults s row graph e)
      (λ v. Ok ((k, v) ∷ [])) set_keys (evaluate row s.parameters graph e)
      (λ v pairs is are settable es h.
      subst (λ ps. ((w : Value) × (evaluate row s.parameters graph e ≡ Ok w) × (may_be_set w ≡ true) × KeysAreSet ((k, w) ∷ []) es (set_keys ps es)) × (are_rising (set_keys ps es) ≡ true)) (same_ok ((k, v) ∷ []) pairs are)
      ((v, is, (subst AreSettable (sym (same_ok ((k, v) ∷ []) pairs are)) settable).0, keys_are_set ((k, v) ∷ []) es h), set_keys_keeps_rising ((k, v) ∷ []) es h))
      (λ f x. inl x)
      (λ v f is x. cc)
      (λ v pairs is are x. inr (v, is, alone (may_be_set v) (ap (list_all (λ p. may_be_set p.1)) (same_ok ((k, v) ∷ []) pairs are) ∙ x), refl))
    where
      alone : (b : Bool) → (b && true) ≡ false → b ≡ false
      alone true x = x
      alone false x = x

  -- what is a map's, and what of it goes wrong
  of_map : (v : Value) (pairs : List (List ℕ × Value)) → mapping_pairs v ≡ Ok pairs → (es : Entries) × (v ≡ mapping es) × (pairs ≡ entries_of es)
  of_map (mapping es) pairs e = (es, refl, sym (same_ok (entries_of es) pairs e))
  of_map null pairs e = cc
  of_map (boolean b) pairs e = cc
  of_map (integer i) pairs e = cc
  of_map (text t) pairs e = cc
  of_map (list vs) pairs e = cc
  of_map (node n) pairs e = cc
  of_map (relationship r) pairs e = cc
  of_map (path ids) pairs e = cc

  no_map : (v : Value) (f : Fault) → mapping_pairs v ≡ Err f → (IsMap v → ⊥) × (f ≡ TypeFault)
  no_map (mapping es) f e = cc
  no_map null f e = (λ h. h, sym (same_err TypeFault f e))
  no_map (boolean b) f e = (λ h. h, sym (same_err TypeFault f e))
  no_map (integer i) f e = (λ h. h, sym (same_err TypeFault f e))
  no_map (text t) f e = (λ h. h, sym (same_err TypeFault f e))
  no_map (list vs) f e = (λ h. h, sym (same_err TypeFault f e))
  no_map (node n) f e = (λ h. h, sym (same_err TypeFault f e))
  no_map (relationship r) f e = (λ h. h, sym (same_err TypeFault f e))
  no_map (path ids) f e = (λ h. h, sym (same_err TypeFault f e))

  map_is_set : (s : Given) (row : Row) (e : Expression) (Become : Entries → Entries → Type 0) (change : List (List ℕ × Value) → Entries → Entries)
      → ((ms : Entries) → evaluate row s.parameters graph e ≡ Ok (mapping ms) → AreSettable (entries_of ms) → (es : Entries) → are_rising es ≡ true → Become es (change (entries_of ms) es) × (are_rising (change (entries_of ms) es) ≡ true))
      → Verdict (PropertiesChange Become o graph) (MapFaults s row graph e) (set_pairs graph mapping_pairs change (evaluate row s.parameters graph e) target)
  map_is_set s row e Become change become =
      pairs_change Become (MapFaults s row graph e) mapping_pairs change (evaluate row s.parameters graph e)
      (λ v pairs is are settable es h.
      let m = of_map v pairs are in
      subst (λ ps. Become es (change ps es) × (are_rising (change ps es) ≡ true)) (sym m.2) (become m.0 (is ∙ ap Ok m.1) (subst AreSettable m.2 settable) es h))
      (λ f x. inl x)
      (λ v f is x. let n = no_map v f x in inr (inl (v, is, n.0, n.1)))
      (λ v pairs is are x. let m = of_map v pairs are in inr (inr (m.0, is ∙ ap Ok m.1, not_settable (entries_of m.0) (ap (list_all (λ p. may_be_set p.1)) (sym m.2) ∙ x), refl)))

-- ---- items

-- where a target is there the verdict of what is done with it, and a fault of the target otherwise
by_name : (C : Graph → Type 0) (F : Fault → Type 0) (graph : Graph) (row : Row) (t : Name) (f : Target → Result Graph Fault)
    → (value_in t.text row ≡ Some null → C graph)
    → ((target : Target) → LiveTarget graph (value_in t.text row) target → Verdict C F (f target))
    → Verdict C (λ x. TargetFaults graph (value_in t.text row) x ⊎ (IsTarget graph (value_in t.text row) × F x)) (on_target graph row t f)
by_name C F graph row t f none live =
    by_target (Verdict C (λ x. TargetFaults graph (value_in t.text row) x ⊎ (IsTarget graph (value_in t.text row) × F x))) graph (value_in t.text row) f
    none
    (λ x h. inl h)
    (λ target h. behind (f target) (is_target graph (value_in t.text row) target h) (live target h))
  where
    behind : (r : Result Graph Fault) → IsTarget graph (value_in t.text row) → Verdict C F r → Verdict C (λ x. TargetFaults graph (value_in t.text row) x ⊎ (IsTarget graph (value_in t.text row) × F x)) r
    behind (Ok after) there h = h
    behind (Err x) there h = inr (there, h)

none_changes : (N : Node → Node → Type 0) (R : Relationship → Relationship → Type 0) (o : Option Value) (graph : Graph) → o ≡ Some null → ElementChanges N R o graph graph
none_changes N R o graph e = subst (λ o. ElementChanges N R o graph graph) (sym e) refl

pub set_item_stands : (s : Setting) (row : Row) (graph : Graph) (i : SetItem) → IsGraph graph → Verdict (SetsItem (given_in s) row graph i) (SetItemFaults (given_in s) row graph i) (set_item s row graph i)
set_item_stands s row graph (set_property t k e) g =
    by_name (SetsItem (given_in s) row graph (set_property t k e)) (ValueFaults (given_in s) row graph e) graph row t (set_pairs graph (λ v. Ok ((k.text, v) ∷ [])) set_keys (evaluate row s.parameters graph e))
    (none_changes _ _ (value_in t.text row) graph)
    (λ target h. value_is_set graph (value_in t.text row) target g h (given_in s) row k.text e)
set_item_stands s row graph (set_all t e) g =
    by_name (SetsItem (given_in s) row graph (set_all t e)) (MapFaults (given_in s) row graph e) graph row t (set_pairs graph mapping_pairs (λ ps es. set_keys ps no_entries) (evaluate row s.parameters graph e))
    (none_changes _ _ (value_in t.text row) graph)
    (λ target h. map_is_set graph (value_in t.text row) target g h (given_in s) row e (λ before now. MapIsSet (given_in s) row graph e no_entries now) (λ ps es. set_keys ps no_entries)
    (λ ms is settable es r. ((ms, is, settable, keys_are_set (entries_of ms) no_entries refl), set_keys_keeps_rising (entries_of ms) no_entries refl)))
set_item_stands s row graph (set_more t e) g =
    by_name (SetsItem (given_in s) row graph (set_more t e)) (MapFaults (given_in s) row graph e) graph row t (set_pairs graph mapping_pairs set_keys (evaluate row s.parameters graph e))
    (none_changes _ _ (value_in t.text row) graph)
    (λ target h. map_is_set graph (value_in t.text row) target g h (given_in s) row e (MapIsSet (given_in s) row graph e) set_keys
    (λ ms is settable es r. ((ms, is, settable, keys_are_set (entries_of ms) es r), set_keys_keeps_rising (entries_of ms) es r)))
set_item_stands s row graph (set_labels t ls) g =
    by_name (SetsItem (given_in s) row graph (set_labels t ls)) (LabelFaults (value_in t.text row)) graph row t (λ target. change_labels (put_texts (texts_of ls)) target graph)
    (none_changes _ _ (value_in t.text row) graph)
    (λ target h. labels_change _ (put_texts (texts_of ls)) graph (value_in t.text row) target g (λ us r. labels_are_added (texts_of ls) us r) (λ us r. (labels_are_added (texts_of ls) us r).rising) h)

pub remove_item_stands : (row : Row) (graph : Graph) (i : RemoveItem) → IsGraph graph → Verdict (RemovesItem row graph i) (RemoveItemFaults row graph i) (remove_item row graph i)
remove_item_stands row graph (remove_property t k) g =
    by_target (Verdict (RemovesItem row graph (remove_property t k)) (RemoveItemFaults row graph (remove_property t k))) graph (value_in t.text row) (λ target. Ok (change_properties (without_key k.text) target graph))
    (none_changes _ _ (value_in t.text row) graph)
    (λ x h. h)
    (λ target h. properties_change (KeyIsGone k.text) (without_key k.text) graph (value_in t.text row) target g (λ es r. key_is_gone k.text es r) (λ es r. without_keeps_rising k.text es r) h)
remove_item_stands row graph (remove_labels t ls) g =
    by_name (RemovesItem row graph (remove_labels t ls)) (LabelFaults (value_in t.text row)) graph row t (λ target. change_labels (filter (λ l. not (is_among (texts_of ls) l))) target graph)
    (none_changes _ _ (value_in t.text row) graph)
    (λ target h. labels_change _ (filter (λ l. not (is_among (texts_of ls) l))) graph (value_in t.text row) target g (λ us r. labels_are_gone (texts_of ls) us r) (λ us r. (labels_are_gone (texts_of ls) us r).rising) h)
