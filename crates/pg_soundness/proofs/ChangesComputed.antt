-- The meaning of SET and REMOVE leaves one graph or one fault, and their functions compute it.
use Rattle.std.proofs.Common.{◌≡◌, ℕ, true, ◌⊎◌, inl, inr, List, [], ◌∷◌, Option, Some, None, Result, Ok, Err, refl, sym, ap, subst, ◌∙◌, true≢false}
use Rattle.pg_meaning.specs.Turns.{Given, InTurn, FaultInTurn}
use Rattle.pg_meaning.specs.Agreement.{given_in}
use Rattle.pg_meaning.specs.Answer.{each_step}
use Rattle.pg_meaning.specs.AnswerLaws.{same_ok}
use Rattle.pg_meaning.specs.Expressions.{evaluate}
use Rattle.pg_meaning.specs.Graph.{Graph, Node, Relationship, node_at, relationship_at}
use Rattle.pg_meaning.specs.Names.{Names}
use Rattle.pg_meaning.specs.Patterns.{texts_of}
use Rattle.pg_meaning.specs.Rows.{Row, value_in}
use Rattle.pg_meaning.specs.Tree.{Expression, SetItem, set_property, set_all, set_more, set_labels, RemoveItem, remove_property, remove_labels}
use Rattle.pg_meaning.specs.Updates.{may_be_set, set_row, remove_row}
use Rattle.pg_meaning.specs.Value.{Value, null, boolean, integer, text, list, mapping, node, relationship, path, Entries, no_entries, entries_of}
use Rattle.pg_meaning.specs.declared.fault.Fault.{Fault}
use Rattle.pg_meaning.specs.Changes.{KeysAreSet, KeyIsGone, LabelsAreAdded, LabelsAreGone, NodeChanges, RelationshipChanges, ElementChanges, PropertiesChange, LabelsChange, AreSettable, MapIsSet, IsMap, TargetFaults, IsTarget, ValueFaults, MapFaults, LabelFaults, SetsItem, SetItemFaults, RemovesItem, RemoveItemFaults, Sets, SetFaults, Removes, RemoveFaults}
use Rattle.pg_soundness.specs.Changing.{Both, SetIsComputed, SetFaultIsComputed, RemoveIsComputed, RemoveFaultIsComputed, OneChange, OneRemoval}
use Rattle.pg_soundness.proofs.ChangesItems.{Verdict}
use Rattle.pg_soundness.proofs.ChangesOnce.{by_id, same_graph, same_properties, same_labels}
use Rattle.pg_soundness.proofs.ChangesOptions.{some_is, none_or_some, ok_or_err, same_err}
use Rattle.pg_soundness.proofs.ChangesRows.{sets_stand, removes_stand}

-- ---- one result

abbrev IsOne : {X : Type 0} → (X → X → Type 0) → Type 0
IsOne {X} Becomes = (before a b : X) → Becomes before a → Becomes before b → a ≡ b

one_node : (N : Node → Node → Type 0) (n : ℕ) (graph a b : Graph) → IsOne N → NodeChanges N n graph a → NodeChanges N n graph b → a ≡ b
one_node N n graph a b one g h =
    same_graph a b g.graph_again h.graph_again
    (λ m. by_id (node_at a m ≡ node_at b m) m n
    (λ e. ap (node_at a) e ∙ g.is ∙ ap Some (one g.before g.now h.now g.becomes (subst (λ x. N x h.now) (some_is h.before g.before (sym h.was ∙ g.was)) h.becomes)) ∙ sym h.is ∙ ap (node_at b) (sym e))
    (λ e. g.others m e ∙ sym (h.others m e)))
    (λ r. g.relationships r ∙ sym (h.relationships r))
    (g.next_node ∙ sym h.next_node)
    (g.next_relationship ∙ sym h.next_relationship)

one_relationship : (R : Relationship → Relationship → Type 0) (r : ℕ) (graph a b : Graph) → IsOne R → RelationshipChanges R r graph a → RelationshipChanges R r graph b → a ≡ b
one_relationship R r graph a b one g h =
    same_graph a b g.graph_again h.graph_again
    (λ n. g.nodes n ∙ sym (h.nodes n))
    (λ s. by_id (relationship_at a s ≡ relationship_at b s) s r
    (λ e. ap (relationship_at a) e ∙ g.is ∙ ap Some (one g.before g.now h.now g.becomes (subst (λ x. R x h.now) (some_is h.before g.before (sym h.was ∙ g.was)) h.becomes)) ∙ sym h.is ∙ ap (relationship_at b) (sym e))
    (λ e. g.others s e ∙ sym (h.others s e)))
    (g.next_node ∙ sym h.next_node)
    (g.next_relationship ∙ sym h.next_relationship)

one_element : (N : Node → Node → Type 0) (R : Relationship → Relationship → Type 0) (o : Option Value) (graph a b : Graph) → IsOne N → IsOne R → ElementChanges N R o graph a → ElementChanges N R o graph b → a ≡ b
one_element N R None graph a b n r g h = absurd g
one_element N R (Some null) graph a b n r g h = g ∙ sym h
one_element N R (Some (boolean v)) graph a b n r g h = absurd g
one_element N R (Some (integer v)) graph a b n r g h = absurd g
one_element N R (Some (text v)) graph a b n r g h = absurd g
one_element N R (Some (list v)) graph a b n r g h = absurd g
one_element N R (Some (mapping v)) graph a b n r g h = absurd g
one_element N R (Some (path v)) graph a b n r g h = absurd g
one_element N R (Some (node i)) graph a b n r g h = one_node N i graph a b n g h
one_element N R (Some (relationship i)) graph a b n r g h = one_relationship R i graph a b r g h

one_properties : (Become : Entries → Entries → Type 0) (o : Option Value) (graph a b : Graph) → IsOne Become → PropertiesChange Become o graph a → PropertiesChange Become o graph b → a ≡ b
one_properties Become o graph a b one =
    one_element _ _ o graph a b
    (λ before x y p q. let es = one before.properties x.properties y.properties p.1 q.1 in let ls = p.0 ∙ sym q.0 in λ i. record { labels = ls i; properties = es i })
    (λ before x y p q. let es = one before.properties x.properties y.properties p.3 q.3 in let ts = p.0 ∙ sym q.0 in let ss = p.1 ∙ sym q.1 in let us = p.2 ∙ sym q.2 in λ i. record { type = ts i; source = ss i; target = us i; properties = es i })

one_labels : (Become : Names → Names → Type 0) (o : Option Value) (graph a b : Graph) → IsOne Become → LabelsChange Become o graph a → LabelsChange Become o graph b → a ≡ b
one_labels Become o graph a b one =
    one_element _ _ o graph a b
    (λ before x y p q. let ls = one before.labels x.labels y.labels p.1 q.1 in let es = p.0 ∙ sym q.0 in λ i. record { labels = ls i; properties = es i })
    (λ before x y p q. absurd p)

one_keys_set : (pairs : List (List ℕ × Value)) → IsOne (KeysAreSet pairs)
one_keys_set pairs before a b g h = same_properties a b g.rising h.rising (λ k. g.keys k ∙ sym (h.keys k))

one_key_gone : (key : List ℕ) → IsOne (KeyIsGone key)
one_key_gone key before a b g h = same_properties a b g.rising h.rising (λ k. g.keys k ∙ sym (h.keys k))

one_labels_added : (new : Names) → IsOne (LabelsAreAdded new)
one_labels_added new before a b g h = same_labels a b g.rising h.rising (λ l. g.labels l ∙ sym (h.labels l))

one_labels_gone : (gone : Names) → IsOne (LabelsAreGone gone)
one_labels_gone gone before a b g h = same_labels a b g.rising h.rising (λ l. g.labels l ∙ sym (h.labels l))

same_map : (a b : Entries) → mapping a ≡ mapping b → a ≡ b
same_map a b e = ap (λ v. elim v [ mapping es ↦ es | _ ↦ a ]) e

one_map : (s : Given) (row : Row) (graph : Graph) (e : Expression) (before a b : Entries) → MapIsSet s row graph e before a → MapIsSet s row graph e before b → a ≡ b
one_map s row graph e before a b p q =
    let same = same_map q.0 p.0 (same_ok (mapping q.0) (mapping p.0) (sym q.1 ∙ p.1)) in
    one_keys_set (entries_of p.0) before a b p.3 (subst (λ es. KeysAreSet (entries_of es) before b) same q.3)

one_set : (s : Given) (row : Row) (graph : Graph) (i : SetItem) (a b : Graph) → SetsItem s row graph i a → SetsItem s row graph i b → a ≡ b
one_set s row graph (set_property t k e) a b =
    one_properties _ (value_in t.text row) graph a b (λ before x y p q. one_keys_set ((k.text, p.0) ∷ []) before x y p.3 (subst (λ v. KeysAreSet ((k.text, v) ∷ []) before y) (same_ok q.0 p.0 (sym q.1 ∙ p.1)) q.3))
one_set s row graph (set_all t e) a b = one_properties (λ before now. MapIsSet s row graph e no_entries now) (value_in t.text row) graph a b (λ before x y p q. one_map s row graph e no_entries x y p q)
one_set s row graph (set_more t e) a b = one_properties (MapIsSet s row graph e) (value_in t.text row) graph a b (λ before x y p q. one_map s row graph e before x y p q)
one_set s row graph (set_labels t ls) a b = one_labels (LabelsAreAdded (texts_of ls)) (value_in t.text row) graph a b (one_labels_added (texts_of ls))

one_remove : (row : Row) (graph : Graph) (i : RemoveItem) (a b : Graph) → RemovesItem row graph i a → RemovesItem row graph i b → a ≡ b
one_remove row graph (remove_property t k) a b = one_properties (KeyIsGone k.text) (value_in t.text row) graph a b (one_key_gone k.text)
one_remove row graph (remove_labels t ls) a b = one_labels (LabelsAreGone (texts_of ls)) (value_in t.text row) graph a b (one_labels_gone (texts_of ls))

-- ---- a result or a fault

no_target_fault : (N : Node → Node → Type 0) (R : Relationship → Relationship → Type 0) (o : Option Value) (graph after : Graph) (f : Fault) → ElementChanges N R o graph after → TargetFaults graph o f → ⊥
no_target_fault N R None graph after f g h = g
no_target_fault N R (Some null) graph after f g h = h
no_target_fault N R (Some (boolean v)) graph after f g h = g
no_target_fault N R (Some (integer v)) graph after f g h = g
no_target_fault N R (Some (text v)) graph after f g h = g
no_target_fault N R (Some (list v)) graph after f g h = g
no_target_fault N R (Some (mapping v)) graph after f g h = g
no_target_fault N R (Some (path v)) graph after f g h = g
no_target_fault N R (Some (node n)) graph after f g h = none_or_some (node_at graph n) g.before g.was h.0
no_target_fault N R (Some (relationship r)) graph after f g h = none_or_some (relationship_at graph r) g.before g.was h.0

-- a target that is there becomes something
becomes_at : (N : Node → Node → Type 0) (R : Relationship → Relationship → Type 0) (P : Type 0) (o : Option Value) (graph after : Graph) → ElementChanges N R o graph after → IsTarget graph o
    → ((n : ℕ) (x y : Node) → o ≡ Some (node n) → N x y → P) → ((r : ℕ) (x y : Relationship) → o ≡ Some (relationship r) → R x y → P) → P
becomes_at N R P None graph after g t n r = absurd g
becomes_at N R P (Some null) graph after g t n r = absurd t
becomes_at N R P (Some (boolean v)) graph after g t n r = absurd g
becomes_at N R P (Some (integer v)) graph after g t n r = absurd g
becomes_at N R P (Some (text v)) graph after g t n r = absurd g
becomes_at N R P (Some (list v)) graph after g t n r = absurd g
becomes_at N R P (Some (mapping v)) graph after g t n r = absurd g
becomes_at N R P (Some (path v)) graph after g t n r = absurd g
becomes_at N R P (Some (node i)) graph after g t n r = n i g.before g.now refl g.becomes
becomes_at N R P (Some (relationship i)) graph after g t n r = r i g.before g.now refl g.becomes

no_value_fault : (s : Given) (row : Row) (graph : Graph) (e : Expression) (k : List ℕ) (f : Fault) (before now : Entries)
    → (v : Value) × (evaluate row s.parameters graph e ≡ Ok v) × (may_be_set v ≡ true) × KeysAreSet ((k, v) ∷ []) before now → ValueFaults s row graph e f → ⊥
no_value_fault s row graph e k f before now p (inl h) = ok_or_err _ p.0 f p.1 h
no_value_fault s row graph e k f before now p (inr h) = true≢false (sym p.2 ∙ ap may_be_set (same_ok p.0 h.0 (sym p.1 ∙ h.1)) ∙ h.2)

no_map_fault : (s : Given) (row : Row) (graph : Graph) (e : Expression) (f : Fault) (before now : Entries) → MapIsSet s row graph e before now → MapFaults s row graph e f → ⊥
no_map_fault s row graph e f before now p (inl h) = ok_or_err _ (mapping p.0) f p.1 h
no_map_fault s row graph e f before now p (inr (inl h)) = h.2 (subst IsMap (same_ok (mapping p.0) h.0 (sym p.1 ∙ h.1)) tt)
no_map_fault s row graph e f before now p (inr (inr h)) = h.2 (subst (λ es. AreSettable (entries_of es)) (same_map p.0 h.0 (same_ok (mapping p.0) (mapping h.0) (sym p.1 ∙ h.1))) p.2)

-- a fault of the target, or of what stands behind a target that is there
abbrev Behind : Graph → Option Value → (Fault → Type 0) → Fault → Type 0
Behind graph o F f = TargetFaults graph o f ⊎ (IsTarget graph o × F f)

no_property_fault : (Become : Entries → Entries → Type 0) (F : Fault → Type 0) (o : Option Value) (graph after : Graph) (f : Fault) → ((before now : Entries) → Become before now → F f → ⊥) → PropertiesChange Become o graph after → Behind graph o F f → ⊥
no_property_fault Become F o graph after f never g (inl h) = no_target_fault _ _ o graph after f g h
no_property_fault Become F o graph after f never g (inr h) = becomes_at _ _ ⊥ o graph after g h.0 (λ n x y e p. never x.properties y.properties p.1 h.1) (λ r x y e p. never x.properties y.properties p.3 h.1)

no_label_fault : (Become : Names → Names → Type 0) (o : Option Value) (graph after : Graph) (f : Fault) → LabelsChange Become o graph after → Behind graph o (LabelFaults o) f → ⊥
no_label_fault Become o graph after f g (inl h) = no_target_fault _ _ o graph after f g h
no_label_fault Become o graph after f g (inr h) = becomes_at _ _ ⊥ o graph after g h.0 (λ n x y e p. subst (λ o. LabelFaults o f) e h.1) (λ r x y e p. p)

no_set_fault : (s : Given) (row : Row) (graph : Graph) (i : SetItem) (after : Graph) (f : Fault) → SetsItem s row graph i after → SetItemFaults s row graph i f → ⊥
no_set_fault s row graph (set_property t k e) after f = no_property_fault _ (ValueFaults s row graph e) (value_in t.text row) graph after f (λ before now p h. no_value_fault s row graph e k.text f before now p h)
no_set_fault s row graph (set_all t e) after f = no_property_fault (λ before now. MapIsSet s row graph e no_entries now) (MapFaults s row graph e) (value_in t.text row) graph after f (λ before now p h. no_map_fault s row graph e f no_entries now p h)
no_set_fault s row graph (set_more t e) after f = no_property_fault (MapIsSet s row graph e) (MapFaults s row graph e) (value_in t.text row) graph after f (λ before now p h. no_map_fault s row graph e f before now p h)
no_set_fault s row graph (set_labels t ls) after f = no_label_fault (LabelsAreAdded (texts_of ls)) (value_in t.text row) graph after f

no_remove_fault : (row : Row) (graph : Graph) (i : RemoveItem) (after : Graph) (f : Fault) → RemovesItem row graph i after → RemoveItemFaults row graph i f → ⊥
no_remove_fault row graph (remove_property t k) after f = no_target_fault _ _ (value_in t.text row) graph after f
no_remove_fault row graph (remove_labels t ls) after f = no_label_fault (LabelsAreGone (texts_of ls)) (value_in t.text row) graph after f

-- ---- one fault

one_target_fault : (graph : Graph) (o : Option Value) (f x : Fault) → TargetFaults graph o f → TargetFaults graph o x → f ≡ x
one_target_fault graph None f x g h = g ∙ sym h
one_target_fault graph (Some null) f x g h = absurd g
one_target_fault graph (Some (boolean v)) f x g h = g ∙ sym h
one_target_fault graph (Some (integer v)) f x g h = g ∙ sym h
one_target_fault graph (Some (text v)) f x g h = g ∙ sym h
one_target_fault graph (Some (list v)) f x g h = g ∙ sym h
one_target_fault graph (Some (mapping v)) f x g h = g ∙ sym h
one_target_fault graph (Some (path v)) f x g h = g ∙ sym h
one_target_fault graph (Some (node n)) f x g h = g.1 ∙ sym h.1
one_target_fault graph (Some (relationship r)) f x g h = g.1 ∙ sym h.1

target_or_fault : (graph : Graph) (o : Option Value) (f : Fault) → IsTarget graph o → TargetFaults graph o f → ⊥
target_or_fault graph None f t h = t
target_or_fault graph (Some null) f t h = t
target_or_fault graph (Some (boolean v)) f t h = t
target_or_fault graph (Some (integer v)) f t h = t
target_or_fault graph (Some (text v)) f t h = t
target_or_fault graph (Some (list v)) f t h = t
target_or_fault graph (Some (mapping v)) f t h = t
target_or_fault graph (Some (path v)) f t h = t
target_or_fault graph (Some (node n)) f t h = t h.0
target_or_fault graph (Some (relationship r)) f t h = t h.0

one_behind : (F : Fault → Type 0) (graph : Graph) (o : Option Value) (f x : Fault) → (F f → F x → f ≡ x) → Behind graph o F f → Behind graph o F x → f ≡ x
one_behind F graph o f x one (inl g) (inl h) = one_target_fault graph o f x g h
one_behind F graph o f x one (inl g) (inr h) = absurd (target_or_fault graph o f h.0 g)
one_behind F graph o f x one (inr g) (inl h) = absurd (target_or_fault graph o x g.0 h)
one_behind F graph o f x one (inr g) (inr h) = one g.1 h.1

one_value_fault : (s : Given) (row : Row) (graph : Graph) (e : Expression) (f x : Fault) → ValueFaults s row graph e f → ValueFaults s row graph e x → f ≡ x
one_value_fault s row graph e f x (inl g) (inl h) = same_err f x (sym g ∙ h)
one_value_fault s row graph e f x (inl g) (inr h) = absurd (ok_or_err _ h.0 f h.1 g)
one_value_fault s row graph e f x (inr g) (inl h) = absurd (ok_or_err _ g.0 x g.1 h)
one_value_fault s row graph e f x (inr g) (inr h) = g.3 ∙ sym h.3

one_map_fault : (s : Given) (row : Row) (graph : Graph) (e : Expression) (f x : Fault) → MapFaults s row graph e f → MapFaults s row graph e x → f ≡ x
one_map_fault s row graph e f x (inl g) (inl h) = same_err f x (sym g ∙ h)
one_map_fault s row graph e f x (inl g) (inr (inl h)) = absurd (ok_or_err _ h.0 f h.1 g)
one_map_fault s row graph e f x (inl g) (inr (inr h)) = absurd (ok_or_err _ (mapping h.0) f h.1 g)
one_map_fault s row graph e f x (inr (inl g)) (inl h) = absurd (ok_or_err _ g.0 x g.1 h)
one_map_fault s row graph e f x (inr (inr g)) (inl h) = absurd (ok_or_err _ (mapping g.0) x g.1 h)
one_map_fault s row graph e f x (inr (inl g)) (inr (inl h)) = g.3 ∙ sym h.3
one_map_fault s row graph e f x (inr (inl g)) (inr (inr h)) = absurd (g.2 (subst IsMap (same_ok (mapping h.0) g.0 (sym h.1 ∙ g.1)) tt))
one_map_fault s row graph e f x (inr (inr g)) (inr (inl h)) = absurd (h.2 (subst IsMap (same_ok (mapping g.0) h.0 (sym g.1 ∙ h.1)) tt))
one_map_fault s row graph e f x (inr (inr g)) (inr (inr h)) = g.3 ∙ sym h.3

one_label_fault : (o : Option Value) (f x : Fault) → LabelFaults o f → LabelFaults o x → f ≡ x
one_label_fault None f x g h = absurd g
one_label_fault (Some null) f x g h = absurd g
one_label_fault (Some (boolean v)) f x g h = absurd g
one_label_fault (Some (integer v)) f x g h = absurd g
one_label_fault (Some (text v)) f x g h = absurd g
one_label_fault (Some (list v)) f x g h = absurd g
one_label_fault (Some (mapping v)) f x g h = absurd g
one_label_fault (Some (path v)) f x g h = absurd g
one_label_fault (Some (node n)) f x g h = absurd g
one_label_fault (Some (relationship r)) f x g h = g ∙ sym h

one_set_fault : (s : Given) (row : Row) (graph : Graph) (i : SetItem) (f x : Fault) → SetItemFaults s row graph i f → SetItemFaults s row graph i x → f ≡ x
one_set_fault s row graph (set_property t k e) f x = one_behind (ValueFaults s row graph e) graph (value_in t.text row) f x (one_value_fault s row graph e f x)
one_set_fault s row graph (set_all t e) f x = one_behind (MapFaults s row graph e) graph (value_in t.text row) f x (one_map_fault s row graph e f x)
one_set_fault s row graph (set_more t e) f x = one_behind (MapFaults s row graph e) graph (value_in t.text row) f x (one_map_fault s row graph e f x)
one_set_fault s row graph (set_labels t ls) f x = one_behind (LabelFaults (value_in t.text row)) graph (value_in t.text row) f x (one_label_fault (value_in t.text row) f x)

one_remove_fault : (row : Row) (graph : Graph) (i : RemoveItem) (f x : Fault) → RemoveItemFaults row graph i f → RemoveItemFaults row graph i x → f ≡ x
one_remove_fault row graph (remove_property t k) f x = one_target_fault graph (value_in t.text row) f x
one_remove_fault row graph (remove_labels t ls) f x = one_behind (LabelFaults (value_in t.text row)) graph (value_in t.text row) f x (one_label_fault (value_in t.text row) f x)

-- ---- one after the other

module _ {X : Type 0} (R : Graph → X → Graph → Type 0) (F : Graph → X → Fault → Type 0) (one : (graph : Graph) (x : X) (a b : Graph) → R graph x a → R graph x b → a ≡ b) where
  pub one_turn : (xs : List X) (graph a b : Graph) → InTurn R graph xs a → InTurn R graph xs b → a ≡ b
  one_turn [] graph a b g h = g ∙ sym h
  one_turn (x ∷ xs) graph a b g h = one_turn xs g.0 a b g.2 (subst (λ m. InTurn R m xs b) (one graph x h.0 g.0 h.1 g.1) h.2)

  no_fault_in_turn : ((graph : Graph) (x : X) (after : Graph) (f : Fault) → R graph x after → F graph x f → ⊥) → (xs : List X) (graph after : Graph) (f : Fault) → InTurn R graph xs after → FaultInTurn R F graph xs f → ⊥
  no_fault_in_turn never [] graph after f g h = h
  no_fault_in_turn never (x ∷ xs) graph after f g (inl h) = never graph x g.0 f g.1 h
  no_fault_in_turn never (x ∷ xs) graph after f g (inr h) = no_fault_in_turn never xs g.0 after f g.2 (subst (λ m. FaultInTurn R F m xs f) (one graph x h.0 g.0 h.1 g.1) h.2)

  one_fault_in_turn : ((graph : Graph) (x : X) (after : Graph) (f : Fault) → R graph x after → F graph x f → ⊥) → ((graph : Graph) (x : X) (f y : Fault) → F graph x f → F graph x y → f ≡ y)
      → (xs : List X) (graph : Graph) (f y : Fault) → FaultInTurn R F graph xs f → FaultInTurn R F graph xs y → f ≡ y
  one_fault_in_turn never same [] graph f y g h = absurd g
  one_fault_in_turn never same (x ∷ xs) graph f y (inl g) (inl h) = same graph x f y g h
  one_fault_in_turn never same (x ∷ xs) graph f y (inl g) (inr h) = absurd (never graph x h.0 f h.1 g)
  one_fault_in_turn never same (x ∷ xs) graph f y (inr g) (inl h) = absurd (never graph x g.0 y g.1 h)
  one_fault_in_turn never same (x ∷ xs) graph f y (inr g) (inr h) = one_fault_in_turn never same xs g.0 f y g.2 (subst (λ m. FaultInTurn R F m xs y) (one graph x h.0 g.0 h.1 g.1) h.2)

-- ---- the answer is what is meant

module _ (C : Graph → Type 0) (F : Fault → Type 0) (one : (a b : Graph) → C a → C b → a ≡ b) (never : (a : Graph) (f : Fault) → C a → F f → ⊥) (one_fault : (f x : Fault) → F f → F x → f ≡ x) where
  result_is_computed : (r : Result Graph Fault) → Verdict C F r → (after : Graph) → Both (r ≡ Ok after) (C after)
  result_is_computed (Ok a) h after = ((λ e. subst C (same_ok a after e) h), (λ c. ap Ok (one a after h c)))
  result_is_computed (Err f) h after = ((λ e. absurd (ok_or_err {X = Graph} (Ok after) after f refl (sym e))), (λ c. absurd (never after f c h)))

  fault_is_computed : (r : Result Graph Fault) → Verdict C F r → (f : Fault) → Both (r ≡ Err f) (F f)
  fault_is_computed (Ok a) h f = ((λ e. absurd (ok_or_err {X = Graph} (Ok a) a f refl e)), (λ g. absurd (never a f h g)))
  fault_is_computed (Err x) h f = ((λ e. subst F (same_err x f e) h), (λ g. ap Err (one_fault x f h g)))

module _ (g : Given) (items : List SetItem) where
  abbrev RowSets : Graph → Row → Graph → Type 0
  RowSets before row next = InTurn (SetsItem g row) before items next

  abbrev RowSetFaults : Graph → Row → Fault → Type 0
  RowSetFaults before row x = FaultInTurn (SetsItem g row) (SetItemFaults g row) before items x

  one_row_sets : (graph : Graph) (row : Row) (a b : Graph) → RowSets graph row a → RowSets graph row b → a ≡ b
  one_row_sets graph row a b = one_turn (SetsItem g row) (SetItemFaults g row) (λ x i. one_set g row x i) items graph a b

  no_row_fault : (graph : Graph) (row : Row) (after : Graph) (f : Fault) → RowSets graph row after → RowSetFaults graph row f → ⊥
  no_row_fault graph row after f = no_fault_in_turn (SetsItem g row) (SetItemFaults g row) (λ x i. one_set g row x i) (λ x i. no_set_fault g row x i) items graph after f

  one_row_fault : (graph : Graph) (row : Row) (f x : Fault) → RowSetFaults graph row f → RowSetFaults graph row x → f ≡ x
  one_row_fault graph row f x = one_fault_in_turn (SetsItem g row) (SetItemFaults g row) (λ y i. one_set g row y i) (λ y i. no_set_fault g row y i) (λ y i. one_set_fault g row y i) items graph f x

  one_sets : (graph : Graph) (rows : List Row) (a b : Graph) → Sets g items graph rows a → Sets g items graph rows b → a ≡ b
  one_sets graph rows a b = one_turn RowSets RowSetFaults one_row_sets rows graph a b

  pub no_sets_fault : (graph : Graph) (rows : List Row) (after : Graph) (f : Fault) → Sets g items graph rows after → SetFaults g items graph rows f → ⊥
  no_sets_fault graph rows after f = no_fault_in_turn RowSets RowSetFaults one_row_sets no_row_fault rows graph after f

  one_sets_fault : (graph : Graph) (rows : List Row) (f x : Fault) → SetFaults g items graph rows f → SetFaults g items graph rows x → f ≡ x
  one_sets_fault graph rows f x = one_fault_in_turn RowSets RowSetFaults one_row_sets no_row_fault one_row_fault rows graph f x

pub one_change : OneChange
one_change g items graph after other rows is = one_sets g items graph rows after other

pub set_is_computed : SetIsComputed
set_is_computed s items graph after rows is =
    result_is_computed (Sets (given_in s) items graph rows) (SetFaults (given_in s) items graph rows) (one_sets (given_in s) items graph rows) (no_sets_fault (given_in s) items graph rows) (one_sets_fault (given_in s) items graph rows) (each_step (set_row s items) graph rows) (sets_stand s items rows graph is) after

pub set_fault_is_computed : SetFaultIsComputed
set_fault_is_computed s items graph rows f is =
    fault_is_computed (Sets (given_in s) items graph rows) (SetFaults (given_in s) items graph rows) (one_sets (given_in s) items graph rows) (no_sets_fault (given_in s) items graph rows) (one_sets_fault (given_in s) items graph rows) (each_step (set_row s items) graph rows) (sets_stand s items rows graph is) f

module _ (items : List RemoveItem) where
  abbrev RowRemoves : Graph → Row → Graph → Type 0
  RowRemoves before row next = InTurn (RemovesItem row) before items next

  abbrev RowRemoveFaults : Graph → Row → Fault → Type 0
  RowRemoveFaults before row x = FaultInTurn (RemovesItem row) (RemoveItemFaults row) before items x

  one_row_removes : (graph : Graph) (row : Row) (a b : Graph) → RowRemoves graph row a → RowRemoves graph row b → a ≡ b
  one_row_removes graph row a b = one_turn (RemovesItem row) (RemoveItemFaults row) (λ x i. one_remove row x i) items graph a b

  no_row_remove_fault : (graph : Graph) (row : Row) (after : Graph) (f : Fault) → RowRemoves graph row after → RowRemoveFaults graph row f → ⊥
  no_row_remove_fault graph row after f = no_fault_in_turn (RemovesItem row) (RemoveItemFaults row) (λ x i. one_remove row x i) (λ x i. no_remove_fault row x i) items graph after f

  one_row_remove_fault : (graph : Graph) (row : Row) (f x : Fault) → RowRemoveFaults graph row f → RowRemoveFaults graph row x → f ≡ x
  one_row_remove_fault graph row f x = one_fault_in_turn (RemovesItem row) (RemoveItemFaults row) (λ y i. one_remove row y i) (λ y i. no_remove_fault row y i) (λ y i. one_remove_fault row y i) items graph f x

  one_removes : (graph : Graph) (rows : List Row) (a b : Graph) → Removes items graph rows a → Removes items graph rows b → a ≡ b
  one_removes graph rows a b = one_turn RowRemoves RowRemoveFaults one_row_removes rows graph a b

  pub no_removes_fault : (graph : Graph) (rows : List Row) (after : Graph) (f : Fault) → Removes items graph rows after → RemoveFaults items graph rows f → ⊥
  no_removes_fault graph rows after f = no_fault_in_turn RowRemoves RowRemoveFaults one_row_removes no_row_remove_fault rows graph after f

  one_removes_fault : (graph : Graph) (rows : List Row) (f x : Fault) → RemoveFaults items graph rows f → RemoveFaults items graph rows x → f ≡ x
  one_removes_fault graph rows f x = one_fault_in_turn RowRemoves RowRemoveFaults one_row_removes no_row_remove_fault one_row_remove_fault rows graph f x

pub one_removal : OneRemoval
one_removal items graph after other rows is = one_removes items graph rows after other

pub remove_is_computed : RemoveIsComputed
remove_is_computed items graph after rows is =
    result_is_computed (Removes items graph rows) (RemoveFaults items graph rows) (one_removes items graph rows) (no_removes_fault items graph rows) (one_removes_fault items graph rows) (each_step (remove_row items) graph rows) (removes_stand items rows graph is) after

pub remove_fault_is_computed : RemoveFaultIsComputed
remove_fault_is_computed items graph rows f is =
    fault_is_computed (Removes items graph rows) (RemoveFaults items graph rows) (one_removes items graph rows) (no_removes_fault items graph rows) (one_removes_fault items graph rows) (each_step (remove_row items) graph rows) (removes_stand items rows graph is) f
