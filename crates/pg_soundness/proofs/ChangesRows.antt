-- Items and rows one after the other: SET and REMOVE give what they say, or end in a fault that they may.
use Rattle.std.proofs.Common.{inl, inr, List, [], ◌∷◌, Option, Some, None, Result, Ok, Err, refl, sym, subst}
use Rattle.pg_meaning.specs.Turns.{Given, InTurn, FaultInTurn}
use Rattle.pg_meaning.specs.Agreement.{given_in}
use Rattle.pg_meaning.specs.Answer.{◌>>=◌, each_step}
use Rattle.pg_meaning.specs.Graph.{Graph, Node, Relationship, IsGraph}
use Rattle.pg_meaning.specs.Meters.{Setting}
use Rattle.pg_meaning.specs.Rows.{Row, value_in}
use Rattle.pg_meaning.specs.Tree.{SetItem, set_property, set_all, set_more, set_labels, RemoveItem, remove_property, remove_labels}
use Rattle.pg_meaning.specs.Updates.{set_item, set_row, remove_item, remove_row}
use Rattle.pg_meaning.specs.Value.{Value, null, boolean, integer, text, list, mapping, node, relationship, path}
use Rattle.pg_meaning.specs.declared.fault.Fault.{Fault}
use Rattle.pg_meaning.specs.Changes.{ElementChanges, SetsItem, RemovesItem, SetItemFaults, RemoveItemFaults, Sets, SetFaults, Removes, RemoveFaults}
use Rattle.pg_soundness.proofs.ChangesItems.{Verdict, set_item_stands, remove_item_stands}

-- ---- a graph stays a graph

pub element_keeps : (N : Node → Node → Type 0) (R : Relationship → Relationship → Type 0) (o : Option Value) (graph after : Graph) → IsGraph graph → ElementChanges N R o graph after → IsGraph after
element_keeps N R None graph after g h = absurd h
element_keeps N R (Some null) graph after g h = subst IsGraph (sym h) g
element_keeps N R (Some (boolean b)) graph after g h = absurd h
element_keeps N R (Some (integer i)) graph after g h = absurd h
element_keeps N R (Some (text s)) graph after g h = absurd h
element_keeps N R (Some (list vs)) graph after g h = absurd h
element_keeps N R (Some (mapping es)) graph after g h = absurd h
element_keeps N R (Some (path ids)) graph after g h = absurd h
element_keeps N R (Some (node n)) graph after g h = h.graph_again
element_keeps N R (Some (relationship r)) graph after g h = h.graph_again

pub set_keeps : (s : Given) (row : Row) (graph : Graph) (i : SetItem) (after : Graph) → IsGraph graph → SetsItem s row graph i after → IsGraph after
set_keeps s row graph (set_property t k e) after g h = element_keeps _ _ (value_in t.text row) graph after g h
set_keeps s row graph (set_all t e) after g h = element_keeps _ _ (value_in t.text row) graph after g h
set_keeps s row graph (set_more t e) after g h = element_keeps _ _ (value_in t.text row) graph after g h
set_keeps s row graph (set_labels t ls) after g h = element_keeps _ _ (value_in t.text row) graph after g h

pub remove_keeps : (row : Row) (graph : Graph) (i : RemoveItem) (after : Graph) → IsGraph graph → RemovesItem row graph i after → IsGraph after
remove_keeps row graph (remove_property t k) after g h = element_keeps _ _ (value_in t.text row) graph after g h
remove_keeps row graph (remove_labels t ls) after g h = element_keeps _ _ (value_in t.text row) graph after g h

-- ---- one after the other

module _ {X : Type 0} (R : Graph → X → Graph → Type 0) where
  pub in_turn_keeps : ((graph : Graph) (x : X) (after : Graph) → IsGraph graph → R graph x after → IsGraph after) → (xs : List X) (graph after : Graph) → IsGraph graph → InTurn R graph xs after → IsGraph after
  in_turn_keeps keeps [] graph after g h = subst IsGraph (sym h) g
  in_turn_keeps keeps (x ∷ xs) graph after g h = in_turn_keeps keeps xs h.0 after (keeps graph x h.0 g h.1) h.2

  pub in_turn_stands : (F : Graph → X → Fault → Type 0) (step : Graph → X → Result Graph Fault)
      → ((graph : Graph) (x : X) (after : Graph) → IsGraph graph → R graph x after → IsGraph after)
      → ((graph : Graph) (x : X) → IsGraph graph → Verdict (R graph x) (F graph x) (step graph x))
      → (xs : List X) (graph : Graph) → IsGraph graph → Verdict (InTurn R graph xs) (FaultInTurn R F graph xs) (each_step step graph xs)
  in_turn_stands F step keeps each [] graph g = refl
  in_turn_stands F step keeps each (x ∷ xs) graph g = by_first (step graph x) (each graph x g) (λ middle gm. in_turn_stands F step keeps each xs middle gm)
    where
      by_rest : (middle : Graph) → R graph x middle → (r : Result Graph Fault) → Verdict (InTurn R middle xs) (FaultInTurn R F middle xs) r → Verdict (InTurn R graph (x ∷ xs)) (FaultInTurn R F graph (x ∷ xs)) r
      by_rest middle made (Ok after) h = (middle, made, h)
      by_rest middle made (Err f) h = inr (middle, made, h)

      by_first : (r : Result Graph Fault) → Verdict (R graph x) (F graph x) r → ((middle : Graph) → IsGraph middle → Verdict (InTurn R middle xs) (FaultInTurn R F middle xs) (each_step step middle xs))
          → Verdict (InTurn R graph (x ∷ xs)) (FaultInTurn R F graph (x ∷ xs)) (r >>= λ middle. each_step step middle xs)
      by_first (Ok middle) h rest = by_rest middle h (each_step step middle xs) (rest middle (keeps graph x middle g h))
      by_first (Err f) h rest = inl h

-- ---- SET and REMOVE

pub set_row_keeps : (s : Given) (items : List SetItem) (graph : Graph) (row : Row) (after : Graph) → IsGraph graph → InTurn (SetsItem s row) graph items after → IsGraph after
set_row_keeps s items graph row after g h = in_turn_keeps (SetsItem s row) (λ b i a gb hb. set_keeps s row b i a gb hb) items graph after g h

pub remove_row_keeps : (items : List RemoveItem) (graph : Graph) (row : Row) (after : Graph) → IsGraph graph → InTurn (RemovesItem row) graph items after → IsGraph after
remove_row_keeps items graph row after g h = in_turn_keeps (RemovesItem row) (λ b i a gb hb. remove_keeps row b i a gb hb) items graph after g h

pub sets_keep : (s : Given) (items : List SetItem) (graph : Graph) (rows : List Row) (after : Graph) → IsGraph graph → Sets s items graph rows after → IsGraph after
sets_keep s items graph rows after g h = in_turn_keeps (λ before row next. InTurn (SetsItem s row) before items next) (set_row_keeps s items) rows graph after g h

pub removes_keep : (items : List RemoveItem) (graph : Graph) (rows : List Row) (after : Graph) → IsGraph graph → Removes items graph rows after → IsGraph after
removes_keep items graph rows after g h = in_turn_keeps (λ before row next. InTurn (RemovesItem row) before items next) (remove_row_keeps items) rows graph after g h

pub sets_stand : (s : Setting) (items : List SetItem) (rows : List Row) (graph : Graph) → IsGraph graph → Verdict (Sets (given_in s) items graph rows) (SetFaults (given_in s) items graph rows) (each_step (set_row s items) graph rows)
sets_stand s items rows graph g =
    in_turn_stands (λ before row next. InTurn (SetsItem (given_in s) row) before items next) (λ before row x. FaultInTurn (SetsItem (given_in s) row) (SetItemFaults (given_in s) row) before items x) (set_row s items) (set_row_keeps (given_in s) items)
    (λ before row gb. in_turn_stands (SetsItem (given_in s) row) (SetItemFaults (given_in s) row) (set_item s row) (λ b i a gb hb. set_keeps (given_in s) row b i a gb hb) (λ b i gb. set_item_stands s row b i gb) items before gb)
    rows graph g

pub removes_stand : (items : List RemoveItem) (rows : List Row) (graph : Graph) → IsGraph graph → Verdict (Removes items graph rows) (RemoveFaults items graph rows) (each_step (remove_row items) graph rows)
removes_stand items rows graph g =
    in_turn_stands (λ before row next. InTurn (RemovesItem row) before items next) (λ before row x. FaultInTurn (RemovesItem row) (RemoveItemFaults row) before items x) (remove_row items) (remove_row_keeps items)
    (λ before row gb. in_turn_stands (RemovesItem row) (RemoveItemFaults row) (remove_item row) (λ b i a gb hb. remove_keeps row b i a gb hb) (λ b i gb. remove_item_stands row b i gb) items before gb)
    rows graph g
