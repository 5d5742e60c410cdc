-- What SET, REMOVE and DELETE change, told by what is read before and after. openCypher 9, SET, REMOVE and DELETE; which tests come first is the profile's.
use Rattle.std.specs.Prelude.{◌≡◌, ◌≢◌, ⊤, ℕ, Bool, true, false, cond, not, ◌||◌, ◌&&◌, ◌⊎◌, List, [], ◌∷◌, bytes_eq, Ok, Err, Option, Some, None, IsTrue}
use Rattle.std.specs.List.{AllByRecursion}
use Rattle.std.specs.List.Sorted.{IsStrictlySortedBy}
use Rattle.pg_meaning.specs.Entries.{are_rising, at_key}
use Rattle.pg_meaning.specs.Expressions.{evaluate}
use Rattle.pg_meaning.specs.Graph.{Graph, Node, Relationship, IsGraph, node_at, relationship_at}
use Rattle.pg_meaning.specs.Lists.{IsIn}
use Rattle.pg_meaning.specs.Names.{Names, is_among}
use Rattle.pg_meaning.specs.Order.{text_order}
use Rattle.pg_meaning.specs.Patterns.{texts_of}
use Rattle.pg_meaning.specs.Rows.{Row, value_in}
use Rattle.pg_meaning.specs.Tree.{Expression, SetItem, set_property, set_all, set_more, set_labels, RemoveItem, remove_property, remove_labels}
use Rattle.pg_meaning.specs.Turns.{Given, AtSomeRow, InTurn, FaultInTurn}
use Rattle.pg_meaning.specs.Updates.{may_be_set}
use Rattle.pg_meaning.specs.Value.{Value, null, mapping, node, relationship, path, Entries, no_entries, entries_of}
use Rattle.pg_meaning.specs.declared.fault.Fault.{Fault}
use Rattle.pg_meaning.specs.declared.fault.Fault.TheVariants.{TypeFault, NotStorable, NodeStillConnected, DeletedEntity}

-- ---- properties and labels

-- what is stored of a value: nothing of null
abbrev pub stored : Value → Option Value
stored null = None
stored v = Some v

-- what the pairs give a key; the last pair of a key counts
abbrev pub given_to : List ℕ → List (List ℕ × Value) → Option Value
given_to k [] = None
given_to k (p ∷ ps) = elim (given_to k ps) [ Some v ↦ Some v | None ↦ cond (bytes_eq k p.0) (Some p.1) None ]

-- each key of the pairs has its value, none where that is null, and each other key what it had
pub record KeysAreSet (pairs : List (List ℕ × Value)) (before after : Entries) : Type 0 where
  pub rising : IsTrue (are_rising after)
  pub keys : (k : List ℕ) → at_key k after ≡ elim (given_to k pairs) [ Some v ↦ stored v | None ↦ at_key k before ]

-- the key has no value, and each other key what it had
pub record KeyIsGone (key : List ℕ) (before after : Entries) : Type 0 where
  pub rising : IsTrue (are_rising after)
  pub keys : (k : List ℕ) → at_key k after ≡ cond (bytes_eq k key) None (at_key k before)

-- in byte order, each once: those before and the new ones
pub record LabelsAreAdded (new before after : Names) : Type 0 where
  pub rising : IsStrictlySortedBy text_order after
  pub labels : (l : List ℕ) → is_among after l ≡ (is_among before l || is_among new l)

-- those before but for some
pub record LabelsAreGone (gone before after : Names) : Type 0 where
  pub rising : IsStrictlySortedBy text_order after
  pub labels : (l : List ℕ) → is_among after l ≡ (is_among before l && not (is_among gone l))

-- ---- one element changes

-- the node is there and changes so; each other element and what ids come next are as before
pub record NodeChanges (Becomes : Node → Node → Type 0) (n : ℕ) (graph after : Graph) : Type 0 where
  pub before : Node
  pub now : Node
  pub was : node_at graph n ≡ Some before
  pub is : node_at after n ≡ Some now
  pub becomes : Becomes before now
  pub others : (m : ℕ) → m ≢ n → node_at after m ≡ node_at graph m
  pub relationships : (r : ℕ) → relationship_at after r ≡ relationship_at graph r
  pub next_node : after.next_node ≡ graph.next_node
  pub next_relationship : after.next_relationship ≡ graph.next_relationship
  pub graph_again : IsGraph after

-- the same of a relationship
pub record RelationshipChanges (Becomes : Relationship → Relationship → Type 0) (r : ℕ) (graph after : Graph) : Type 0 where
  pub before : Relationship
  pub now : Relationship
  pub was : relationship_at graph r ≡ Some before
  pub is : relationship_at after r ≡ Some now
  pub becomes : Becomes before now
  pub others : (s : ℕ) → s ≢ r → relationship_at after s ≡ relationship_at graph s
  pub nodes : (n : ℕ) → node_at after n ≡ node_at graph n
  pub next_node : after.next_node ≡ graph.next_node
  pub next_relationship : after.next_relationship ≡ graph.next_relationship
  pub graph_again : IsGraph after

-- the element that a variable stands for; where it is null nothing changes
abbrev pub ElementChanges : (Node → Node → Type 0) → (Relationship → Relationship → Type 0) → Option Value → (graph after : Graph) → Type 0
ElementChanges N R (Some null) graph after = after ≡ graph
ElementChanges N R (Some (node n)) graph after = NodeChanges N n graph after
ElementChanges N R (Some (relationship r)) graph after = RelationshipChanges R r graph after
ElementChanges N R v graph after = ⊥

-- its properties alone
abbrev pub PropertiesChange : (Entries → Entries → Type 0) → Option Value → (graph after : Graph) → Type 0
PropertiesChange Become =
    ElementChanges
    (λ before now. (now.labels ≡ before.labels) × Become before.properties now.properties)
    (λ before now. (now.type ≡ before.type) × (now.source ≡ before.source) × (now.target ≡ before.target) × Become before.properties now.properties)

-- its labels alone; a relationship has none
abbrev pub LabelsChange : (Names → Names → Type 0) → Option Value → (graph after : Graph) → Type 0
LabelsChange Become = ElementChanges (λ before now. (now.properties ≡ before.properties) × Become before.labels now.labels) (λ before now. ⊥)

-- ---- SET and REMOVE

-- all may be stored, or are null
abbrev pub AreSettable : List (List ℕ × Value) → Type 0
AreSettable pairs = AllByRecursion (λ p. may_be_set p.1 ≡ true) pairs

-- what the expression's map sets
abbrev pub MapIsSet : Given → Row → Graph → Expression → (before now : Entries) → Type 0
MapIsSet g row graph e before now = (es : Entries) × (evaluate row g.parameters graph e ≡ Ok (mapping es)) × AreSettable (entries_of es) × KeysAreSet (entries_of es) before now

-- an item at a row; its expression sees the graph that the item before it left
abbrev pub SetsItem : Given → Row → (graph : Graph) → SetItem → (after : Graph) → Type 0
SetsItem g row graph (set_property t k e) after =
    PropertiesChange (λ before now. (v : Value) × (evaluate row g.parameters graph e ≡ Ok v) × (may_be_set v ≡ true) × KeysAreSet ((k.text, v) ∷ []) before now) (value_in t.text row) graph after
SetsItem g row graph (set_all t e) after = PropertiesChange (λ before now. MapIsSet g row graph e no_entries now) (value_in t.text row) graph after
SetsItem g row graph (set_more t e) after = PropertiesChange (MapIsSet g row graph e) (value_in t.text row) graph after
SetsItem g row graph (set_labels t ls) after = LabelsChange (LabelsAreAdded (texts_of ls)) (value_in t.text row) graph after

abbrev pub RemovesItem : Row → (graph : Graph) → RemoveItem → (after : Graph) → Type 0
RemovesItem row graph (remove_property t k) after = PropertiesChange (KeyIsGone k.text) (value_in t.text row) graph after
RemovesItem row graph (remove_labels t ls) after = LabelsChange (LabelsAreGone (texts_of ls)) (value_in t.text row) graph after

abbrev pub Sets : Given → List SetItem → (graph : Graph) → List Row → (after : Graph) → Type 0
Sets g items graph rows after = InTurn (λ before row next. InTurn (SetsItem g row) before items next) graph rows after

abbrev pub Removes : List RemoveItem → (graph : Graph) → List Row → (after : Graph) → Type 0
Removes items graph rows after = InTurn (λ before row next. InTurn (RemovesItem row) before items next) graph rows after

-- ---- faults of SET and REMOVE

-- a deleted element is no target, nor is what is neither an element nor null
abbrev pub TargetFaults : Graph → Option Value → Fault → Type 0
TargetFaults graph (Some null) f = ⊥
TargetFaults graph (Some (node n)) f = (node_at graph n ≡ None) × (f ≡ DeletedEntity)
TargetFaults graph (Some (relationship r)) f = (relationship_at graph r ≡ None) × (f ≡ DeletedEntity)
TargetFaults graph v f = f ≡ TypeFault

abbrev pub IsTarget : Graph → Option Value → Type 0
IsTarget graph (Some (node n)) = node_at graph n ≢ None
IsTarget graph (Some (relationship r)) = relationship_at graph r ≢ None
IsTarget graph v = ⊥

abbrev pub IsMap : Value → Type 0
IsMap (mapping es) = ⊤
IsMap v = ⊥

abbrev pub MapFaults : Given → Row → Graph → Expression → Fault → Type 0
MapFaults g row graph e f =
    (evaluate row g.parameters graph e ≡ Err f)
    ⊎ ((v : Value) × (evaluate row g.parameters graph e ≡ Ok v) × (IsMap v → ⊥) × (f ≡ TypeFault))
    ⊎ ((es : Entries) × (evaluate row g.parameters graph e ≡ Ok (mapping es)) × (AreSettable (entries_of es) → ⊥) × (f ≡ NotStorable))

abbrev pub ValueFaults : Given → Row → Graph → Expression → Fault → Type 0
ValueFaults g row graph e f = (evaluate row g.parameters graph e ≡ Err f) ⊎ ((v : Value) × (evaluate row g.parameters graph e ≡ Ok v) × (may_be_set v ≡ false) × (f ≡ NotStorable))

-- a label item takes a node
abbrev pub LabelFaults : Option Value → Fault → Type 0
LabelFaults (Some (relationship r)) f = f ≡ TypeFault
LabelFaults v f = ⊥

-- the target goes first
abbrev pub SetItemFaults : Given → Row → Graph → SetItem → Fault → Type 0
SetItemFaults g row graph (set_property t k e) f = TargetFaults graph (value_in t.text row) f ⊎ (IsTarget graph (value_in t.text row) × ValueFaults g row graph e f)
SetItemFaults g row graph (set_all t e) f = TargetFaults graph (value_in t.text row) f ⊎ (IsTarget graph (value_in t.text row) × MapFaults g row graph e f)
SetItemFaults g row graph (set_more t e) f = TargetFaults graph (value_in t.text row) f ⊎ (IsTarget graph (value_in t.text row) × MapFaults g row graph e f)
SetItemFaults g row graph (set_labels t ls) f = TargetFaults graph (value_in t.text row) f ⊎ (IsTarget graph (value_in t.text row) × LabelFaults (value_in t.text row) f)

abbrev pub RemoveItemFaults : Row → Graph → RemoveItem → Fault → Type 0
RemoveItemFaults row graph (remove_property t k) f = TargetFaults graph (value_in t.text row) f
RemoveItemFaults row graph (remove_labels t ls) f = TargetFaults graph (value_in t.text row) f ⊎ (IsTarget graph (value_in t.text row) × LabelFaults (value_in t.text row) f)

abbrev pub SetFaults : Given → List SetItem → Graph → List Row → Fault → Type 0
SetFaults g items graph rows f =
    FaultInTurn (λ before row next. InTurn (SetsItem g row) before items next) (λ before row x. FaultInTurn (SetsItem g row) (SetItemFaults g row) before items x) graph rows f

abbrev pub RemoveFaults : List RemoveItem → Graph → List Row → Fault → Type 0
RemoveFaults items graph rows f =
    FaultInTurn (λ before row next. InTurn (RemovesItem row) before items next) (λ before row x. FaultInTurn (RemovesItem row) (RemoveItemFaults row) before items x) graph rows f

-- ---- DELETE

-- the nodes of a path, which is node, relationship, node and so on
abbrev pub path_nodes : List ℕ → List ℕ
path_nodes [] = []
path_nodes (n ∷ []) = n ∷ []
path_nodes (n ∷ r ∷ ids) = n ∷ path_nodes ids

abbrev pub path_relationships : List ℕ → List ℕ
path_relationships [] = []
path_relationships (n ∷ []) = []
path_relationships (n ∷ r ∷ ids) = r ∷ path_relationships ids

abbrev pub HasNode : Value → ℕ → Type 0
HasNode (node n) m = m ≡ n
HasNode (path ids) m = IsIn m (path_nodes ids)
HasNode v m = ⊥

abbrev pub HasRelationship : Value → ℕ → Type 0
HasRelationship (relationship r) s = s ≡ r
HasRelationship (path ids) s = IsIn s (path_relationships ids)
HasRelationship v s = ⊥

-- null, an element or a path
abbrev pub IsDeletable : Value → Type 0
IsDeletable null = ⊤
IsDeletable (node n) = ⊤
IsDeletable (relationship r) = ⊤
IsDeletable (path ids) = ⊤
IsDeletable v = ⊥

-- a value that one of the expressions has at one of the rows
abbrev pub IsNamed : Given → Graph → List Expression → List Row → Value → Type 0
IsNamed g graph es rows v = (row : Row) × (e : Expression) × IsIn row rows × IsIn e es × (evaluate row g.parameters graph e ≡ Ok v)

abbrev pub NodeGoes : Given → List Expression → Graph → List Row → ℕ → Type 0
NodeGoes g es graph rows n = (v : Value) × IsNamed g graph es rows v × HasNode v n

-- one that is named, and with DETACH each at a node that is
abbrev pub RelationshipGoes : Given → (is_detach : Bool) → List Expression → Graph → List Row → ℕ → Type 0
RelationshipGoes g is_detach es graph rows r =
    ((v : Value) × IsNamed g graph es rows v × HasRelationship v r)
    ⊎ ((is_detach ≡ true) × (e : Relationship) × (relationship_at graph r ≡ Some e) × (NodeGoes g es graph rows e.source ⊎ NodeGoes g es graph rows e.target))

abbrev pub HasDeletable : Given → Graph → Row → Expression → Type 0
HasDeletable g graph row e = (v : Value) × (evaluate row g.parameters graph e ≡ Ok v) × IsDeletable v

abbrev pub AllHaveDeletable : Given → Graph → List Expression → List Row → Type 0
AllHaveDeletable g graph es rows = AllByRecursion (λ row. AllByRecursion (HasDeletable g graph row) es) rows

-- these elements go, and each other is as before; in the graph that is left both ends of each relationship are there
pub record ElementsGo (g : Given) (is_detach : Bool) (es : List Expression) (graph : Graph) (rows : List Row) (after : Graph) : Type 0 where
  pub evaluated : AllHaveDeletable g graph es rows
  pub nodes_gone : (n : ℕ) → NodeGoes g es graph rows n → node_at after n ≡ None
  pub nodes_kept : (n : ℕ) → (NodeGoes g es graph rows n → ⊥) → node_at after n ≡ node_at graph n
  pub relationships_gone : (r : ℕ) → RelationshipGoes g is_detach es graph rows r → relationship_at after r ≡ None
  pub relationships_kept : (r : ℕ) → (RelationshipGoes g is_detach es graph rows r → ⊥) → relationship_at after r ≡ relationship_at graph r
  pub next_node : after.next_node ≡ graph.next_node
  pub next_relationship : after.next_relationship ≡ graph.next_relationship
  pub graph_again : IsGraph after

-- a relationship that stays at a node that goes
pub record StillConnected (g : Given) (is_detach : Bool) (es : List Expression) (graph : Graph) (rows : List Row) : Type 0 where
  pub id : ℕ
  pub relationship : Relationship
  pub is : relationship_at graph id ≡ Some relationship
  pub stays : RelationshipGoes g is_detach es graph rows id → ⊥
  pub at_end : NodeGoes g es graph rows relationship.source ⊎ NodeGoes g es graph rows relationship.target

-- no value, or one that is neither null nor an element nor a path
abbrev pub ExpressionFaults : Given → Graph → Row → Expression → Fault → Type 0
ExpressionFaults g graph row e f = (evaluate row g.parameters graph e ≡ Err f) ⊎ ((v : Value) × (evaluate row g.parameters graph e ≡ Ok v) × (IsDeletable v → ⊥) × (f ≡ TypeFault))

-- the first fault of a row's expressions
abbrev pub FirstFault : Given → Graph → Row → List Expression → Fault → Type 0
FirstFault g graph row [] f = ⊥
FirstFault g graph row (e ∷ es) f = ExpressionFaults g graph row e f ⊎ (HasDeletable g graph row e × FirstFault g graph row es f)

abbrev pub GoFaults : Given → (is_detach : Bool) → List Expression → Graph → List Row → Fault → Type 0
GoFaults g is_detach es graph rows f =
    AtSomeRow (λ row x. FirstFault g graph row es x) rows f
    ⊎ (AllHaveDeletable g graph es rows × StillConnected g is_detach es graph rows × (f ≡ NodeStillConnected))
