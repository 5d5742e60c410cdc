-- CREATE over several rows, up to which id is whose.
use Rattle.std.proofs.Common.{◌≡◌, ℕ, suc, ◌+◌, ◌<◌, ◌≤◌, false, inl, inr, List, [], ◌∷◌, flat_map, length, Option, Some, None, Err, refl, sym, ap, subst, ◌∙◌, arith}
use Rattle.std.proofs.lemmas.List.{length-append}
use Rattle.std.specs.List.{AllByRecursion}
use Rattle.pg_meaning.specs.Answer.{unless}
use Rattle.pg_meaning.specs.Graph.{Graph, IsGraph, has_node}
use Rattle.pg_meaning.specs.Lists.{IsIn}
use Rattle.pg_meaning.specs.ListsLaws.{in_mapped}
use Rattle.pg_meaning.specs.Meaning.{CreateRow, MadePropertyFaults, CreateFaults, LacksRoom, new_nodes, new_relationships}
use Rattle.pg_meaning.specs.Meters.{greatest_id}
use Rattle.pg_meaning.specs.Patterns.{nodes_of, node_name, relationship_properties}
use Rattle.pg_meaning.specs.Reading.{test_bound}
use Rattle.pg_meaning.specs.Rows.{Row}
use Rattle.pg_meaning.specs.Tree.{Properties, NodePattern, RelationshipPattern, PathPattern}
use Rattle.pg_meaning.specs.Turns.{Given, RowByRow, AtSomeTurn}
use Rattle.pg_meaning.specs.Updates.{given_properties}
use Rattle.pg_meaning.specs.Value.{Value, node}
use Rattle.pg_meaning.specs.Walks.{bound_value}
use Rattle.pg_meaning.specs.declared.fault.Fault.{Fault}
use Rattle.pg_meaning.specs.declared.fault.Fault.TheVariants.{DeletedEntity}
use Rattle.pg_relations.proofs.CreatesDecided.{create_row_is_one}
use Rattle.pg_relations.proofs.CreatesNumbered.{Apart, still_apart, nodes_alike, hops_alike}
use Rattle.pg_relations.proofs.CreatesPlaces.{of_flat, in_flat}
use Rattle.pg_relations.proofs.DescribedPlaces.{create_describes_new}
use Rattle.pg_relations.specs.Decided.{DescribesNew}
use Rattle.pg_relations.specs.Numbered.{Keeps, SeesTheOld, RowsMakeAlike, SameButNew, CreateMakesOne, CreateOfRowsIsOne}

-- ---- what a row makes stays while others do

past : (n a b k : ℕ) → n < a → b ≡ a + k → n < b
past n a b k h e = omega (arith, h, e)

module _ (g : Given) (paths : List PathPattern) where
  rows_leave : (rows : List Row) (graph after : Graph) (results : List Row) → RowByRow (CreateRow g paths) graph rows after results → Keeps graph after
  rows_leave [] graph after results s = subst (λ m. Keeps graph m) (sym s.0) (record { nodes = λ n h. refl; relationships = λ r h. refl })
  rows_leave (row ∷ rows) graph after results s =
      let rest = rows_leave rows s.0 after s.2 s.4 in
      record {
        nodes = λ n h. rest.nodes n (past n graph.next_node s.0.next_node _ h s.3.next_node) ∙ s.3.old_nodes n h;
        relationships = λ r h. rest.relationships r (past r graph.next_relationship s.0.next_relationship _ h s.3.next_relationship) ∙ s.3.old_relationships r h;
      }

  rows_apart : (before : Graph) (rows : List Row) (a b after other : Graph) (results others : List Row) → Apart before a b → RowByRow (CreateRow g paths) a rows after results → RowByRow (CreateRow g paths) b rows other others → Apart before after other
  rows_apart before [] a b after other results others w s t = subst (λ m. Apart before m other) (sym s.0) (subst (Apart before a) (sym t.0) w)
  rows_apart before (row ∷ rows) a b after other results others w s t = rows_apart before rows s.0 t.0 after other s.2 t.2 (still_apart g paths before a b row s.0 t.0 s.1 t.1 w s.3 t.3) s.4 t.4

  rows_alike : (before last least : Graph) (rows : List Row) (a b : Graph) (results others : List Row) → AllByRecursion (SeesTheOld g paths before) rows → Apart before a b
      → (s : RowByRow (CreateRow g paths) a rows last results) → (t : RowByRow (CreateRow g paths) b rows least others) → RowsMakeAlike g paths last least rows a b last least results others s t
  rows_alike before last least [] a b results others sees w s t = tt
  rows_alike before last least (row ∷ rows) a b results others sees w s t =
      let kept = rows_leave rows s.0 last s.2 s.4 in
      let keeps = rows_leave rows t.0 least t.2 t.4 in (
        nodes_alike g paths before a b row sees.0 w.same.first w.same.second s.0 t.0 s.1 t.1 s.3 t.3 last least kept keeps,
        hops_alike g paths before a b row sees.0 w.same.first w.same.second s.0 t.0 s.1 t.1 s.3 t.3 last least kept keeps,
        rows_alike before last least rows s.0 t.0 s.2 t.2 sees.1 (still_apart g paths before a b row s.0 t.0 s.1 t.1 w s.3 t.3) s.4 t.4,
      )

  one_each : (rows : List Row) (a after : Graph) (results : List Row) → RowByRow (CreateRow g paths) a rows after results → length results ≡ length rows
  one_each [] a after results s = ap (λ (rs : List Row). length rs) s.1
  one_each (row ∷ rows) a after results s =
      one_more (length results) (length s.1) (length s.2) (length rows) (ap (λ (rs : List Row). length rs) s.5 ∙ length-append s.1 s.2) (ap (λ (rs : List Row). length rs) s.3.extended) (one_each rows s.0 after s.2 s.4)
    where
      one_more : (x a b c : ℕ) → x ≡ a + b → a ≡ 1 → b ≡ c → x ≡ suc c
      one_more x a b c d e f = omega (arith, d, e, f)

  -- ---- faults

  same_test : (a b : Graph) → ((n : ℕ) → has_node a n ≡ has_node b n) → (o : Option Value) → test_bound false a o ≡ test_bound false b o
  same_test a b same None = refl
  same_test a b same (Some (node n)) = ap (λ t. unless t DeletedEntity) (same n)
  same_test a b same (Some v) = refl

  abbrev hop_properties : RelationshipPattern × NodePattern → List Properties
  hop_properties h = relationship_properties h.0 ∷ h.1.properties ∷ []

  moved_properties : (before a b : Graph) (row : Row) (f : Fault) → SeesTheOld g paths before row → Keeps before a → Keeps before b → MadePropertyFaults g paths b row f → MadePropertyFaults g paths a row f
  moved_properties before a b row f sees v w (ps, i, x) = let p = of_flat (λ (p : PathPattern). p.first.properties ∷ flat_map hop_properties p.hops) ps paths i in (ps, i, at_path p.0 p.1 p.2)
    where
      at_hop : (p : PathPattern) (h : RelationshipPattern × NodePattern) → IsIn p paths → IsIn h p.hops → IsIn ps (hop_properties h) → given_properties g.parameters a row ps ≡ Err f
      at_hop p h k j (inl e) =
          ap (given_properties g.parameters a row) e
          ∙ sees.hops a b h.0 v w (in_mapped (λ (h : RelationshipPattern × NodePattern). h.0) h (flat_map (λ (p : PathPattern). p.hops) paths) (in_flat (λ (p : PathPattern). p.hops) p h paths k j))
          ∙ sym (ap (given_properties g.parameters b row) e) ∙ x
      at_hop p h k j (inr (inl e)) =
          ap (given_properties g.parameters a row) e
          ∙ sees.nodes a b h.1 v w (in_flat nodes_of p h.1 paths k (inr (in_mapped (λ (h : RelationshipPattern × NodePattern). h.1) h p.hops j)))
          ∙ sym (ap (given_properties g.parameters b row) e) ∙ x
      at_hop p h k j (inr (inr i)) = absurd i

      at_path : (p : PathPattern) → IsIn p paths → IsIn ps (p.first.properties ∷ flat_map hop_properties p.hops) → given_properties g.parameters a row ps ≡ Err f
      at_path p k (inl e) =
          ap (given_properties g.parameters a row) e ∙ sees.nodes a b p.first v w (in_flat nodes_of p p.first paths k (inl refl)) ∙ sym (ap (given_properties g.parameters b row) e) ∙ x
      at_path p k (inr j) = let h = of_flat hop_properties ps p.hops j in at_hop p h.0 k h.1 h.2

  moved_faults : (before a b : Graph) (row : Row) (f : Fault) → SeesTheOld g paths before row → SameButNew before a b → CreateFaults g paths b row f → CreateFaults g paths a row f
  moved_faults before a b row f sees w (inl x) = inl (x.0, x.1, same_test a b w.nodes (bound_value (node_name x.0) row) ∙ x.2)
  moved_faults before a b row f sees w (inr (inl x)) = inr (inl (moved_properties before a b row f sees w.first w.second x))
  moved_faults before a b row f sees w (inr (inr (inl x))) = inr (inr (inl (x.0, subst (λ n. LacksRoom g.max_elements n (new_nodes g paths + new_relationships paths)) (sym w.elements) x.1)))
  moved_faults before a b row f sees w (inr (inr (inr (inl x)))) = inr (inr (inr (inl (x.0, subst (λ n. LacksRoom greatest_id n (new_nodes g paths)) (sym w.next_node) x.1))))
  moved_faults before a b row f sees w (inr (inr (inr (inr x)))) = inr (inr (inr (inr (x.0, subst (λ n. LacksRoom greatest_id n (new_relationships paths)) (sym w.next_relationship) x.1))))

  faults_apart : (before : Graph) (rows : List Row) (a b after : Graph) (results : List Row) (f : Fault) → DescribesNew g paths → AllByRecursion (SeesTheOld g paths before) rows → Apart before a b
      → RowByRow (CreateRow g paths) a rows after results → AtSomeTurn (CreateRow g paths) (CreateFaults g paths) b rows f → ⊥
  faults_apart before [] a b after results f new sees w s x = absurd x
  faults_apart before (row ∷ rows) a b after results f new sees w s (inl x) = create_row_is_one g paths a row s.0 s.1 f w.first new s.3 (moved_faults before a b row f sees.0 w.same x)
  faults_apart before (row ∷ rows) a b after results f new sees w s (inr x) = faults_apart before rows s.0 x.0 after s.2 f new sees.1 (still_apart g paths before a b row s.0 x.0 s.1 x.1 w s.3 x.2) s.4 x.3

keeps_itself : (graph : Graph) → Keeps graph graph
keeps_itself graph = record { nodes = λ n h. refl; relationships = λ r h. refl }

at_start : (graph : Graph) → IsGraph graph → Apart graph graph graph
at_start graph is = record {
  first = is;
  second = is;
  nodes_on = itself graph.next_node;
  relationships_on = itself graph.next_relationship;
  same = record { next_node = refl; next_relationship = refl; nodes = λ n. refl; relationships = λ r. refl; elements = refl; first = keeps_itself graph; second = keeps_itself graph };
}
  where
    itself : (n : ℕ) → n ≤ n
    itself n = omega arith

pub create_makes_one : CreateMakesOne
create_makes_one paths g graph after other rows results others is sees s t = (
  rows_alike g paths graph after other rows graph graph results others sees (at_start graph is) s t,
  (rows_apart g paths graph rows graph graph after other results others (at_start graph is) s t).same,
  one_each g paths rows graph after results s ∙ sym (one_each g paths rows graph other others t),
)

pub create_of_rows_is_one : CreateOfRowsIsOne
create_of_rows_is_one paths g graph after rows results f is sees fine s x = faults_apart g paths graph rows graph graph after results f (create_describes_new g paths fine) sees (at_start graph is) s x
