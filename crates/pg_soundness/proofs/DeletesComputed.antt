-- The meaning of DELETE leaves one graph, and its function computes it.
use Rattle.std.proofs.Common.{◌≡◌, ℕ, Bool, true, false, ◌&&◌, ◌||◌, not, ◌⊎◌, inl, inr, List, [], Option, Some, None, is_some, Result, Ok, Err, IsTrue, refl, sym, ap, subst, ◌∙◌, true≢false}
use Rattle.std.specs.List.{list_any}
use Rattle.pg_meaning.specs.Agreement.{given_in}
use Rattle.pg_meaning.specs.Answer.{unless, each_step}
use Rattle.pg_meaning.specs.Expressions.{evaluate}
use Rattle.pg_meaning.specs.Graph.{Graph, Relationship, IsGraph, node_at, relationship_at, has_node, contains_id}
use Rattle.pg_meaning.specs.GraphLaws.{found_among}
use Rattle.pg_meaning.specs.Lists.{IsIn}
use Rattle.pg_meaning.specs.Meters.{Setting}
use Rattle.pg_meaning.specs.Rows.{Row}
use Rattle.pg_meaning.specs.Tree.{Expression}
use Rattle.pg_meaning.specs.Turns.{Given}
use Rattle.pg_meaning.specs.Updates.{Doomed, is_doomed, doom_row, is_connected}
use Rattle.pg_meaning.specs.Value.{Value}
use Rattle.pg_meaning.specs.declared.fault.Fault.{Fault}
use Rattle.pg_meaning.specs.declared.fault.Fault.TheVariants.{NodeStillConnected}
use Rattle.pg_meaning.specs.Changes.{HasNode, HasRelationship, NodeGoes, RelationshipGoes, AllHaveDeletable, ElementsGo, StillConnected, GoFaults}
use Rattle.pg_soundness.specs.Changing.{Removal, RemovalFaults, DeleteIsComputed, DeleteFaultIsComputed, OneDeletion}
use Rattle.pg_soundness.proofs.ChangesDoomed.{Gathers, ValueHas, rows_gather, first_fault, fault_is_first, rows_go}
use Rattle.pg_soundness.proofs.ChangesIds.{id_is_in, is_in_id}
use Rattle.pg_soundness.proofs.ChangesOnce.{same_graph}
use Rattle.pg_soundness.proofs.ChangesOptions.{some_is, none_or_some}
use Rattle.pg_soundness.proofs.ChangesRemoval.{gone_nodes, left_over, cut_off, left_is_graph, nodes_go, nodes_stay, relationships_go, relationships_stay, connection}

-- a node goes or doesn't
either_node : (P : Type 0) (ids : List ℕ) (n : ℕ) → (IsIn n ids → P) → ((IsIn n ids → ⊥) → P) → P
either_node P ids n goes_by other = by_test (contains_id ids n) refl
  where
    by_test : (b : Bool) → contains_id ids n ≡ b → P
    by_test true e = goes_by (id_is_in ids n e)
    by_test false e = other (λ i. true≢false (sym (is_in_id ids n i) ∙ e))

module _ (s : Setting) (is_detach : Bool) (es : List Expression) (graph : Graph) (rows : List Row) (is : IsGraph graph) where
  abbrev g : Given
  g = given_in s

  -- at all rows, with the ids that they name
  module _ (d : Doomed) (named : each_step (doom_row s graph es) ([], []) rows ≡ Ok d) where
    gathered : Gathers (λ n. (row : Row) × IsIn row rows × ((e : Expression) × IsIn e es × ValueHas s graph (λ v. HasNode v n) row e)) (λ r. (row : Row) × IsIn row rows × ((e : Expression) × IsIn e es × ValueHas s graph (λ v. HasRelationship v r) row e)) ([], []) d
        × AllHaveDeletable g graph es rows
    gathered = rows_gather s graph es rows ([], []) d named

    node_named : (n : ℕ) → IsIn n d.0 → NodeGoes g es graph rows n
    node_named n i = by_new (gathered.0.nodes n i)
      where
        by_new : ⊥ ⊎ ((row : Row) × IsIn row rows × ((e : Expression) × IsIn e es × ValueHas s graph (λ v. HasNode v n) row e)) → NodeGoes g es graph rows n
        by_new (inl i) = absurd i
        by_new (inr p) = (p.2.2.0, (p.0, p.2.0, p.1, p.2.1, p.2.2.1), p.2.2.2)

    node_in : (n : ℕ) → NodeGoes g es graph rows n → IsIn n d.0
    node_in n p = gathered.0.new_nodes n (p.1.0, p.1.2, (p.1.1, p.1.3, (p.0, p.1.4, p.2)))

    relationship_named : (r : ℕ) → IsIn r d.1 → (v : Value) × ((row : Row) × (e : Expression) × IsIn row rows × IsIn e es × (evaluate row g.parameters graph e ≡ Ok v)) × HasRelationship v r
    relationship_named r i = by_new (gathered.0.relationships r i)
      where
        by_new : ⊥ ⊎ ((row : Row) × IsIn row rows × ((e : Expression) × IsIn e es × ValueHas s graph (λ v. HasRelationship v r) row e)) → (v : Value) × ((row : Row) × (e : Expression) × IsIn row rows × IsIn e es × (evaluate row g.parameters graph e ≡ Ok v)) × HasRelationship v r
        by_new (inl i) = absurd i
        by_new (inr p) = (p.2.2.0, (p.0, p.2.0, p.1, p.2.1, p.2.2.1), p.2.2.2)

    relationship_in : (r : ℕ) → (v : Value) × ((row : Row) × (e : Expression) × IsIn row rows × IsIn e es × (evaluate row g.parameters graph e ≡ Ok v)) × HasRelationship v r → IsIn r d.1
    relationship_in r p = gathered.0.new_relationships r (p.1.0, p.1.2, (p.1.1, p.1.3, (p.0, p.1.4, p.2)))

    or_second : (a b : Bool) → b ≡ true → (a || b) ≡ true
    or_second true b h = refl
    or_second false b h = h

    and_both : (a b : Bool) → a ≡ true → b ≡ true → (a && b) ≡ true
    and_both true b p q = q
    and_both false b p q = absurd (true≢false (sym p))

    -- one that goes is doomed
    goes_doomed : (r : ℕ) → RelationshipGoes g is_detach es graph rows r → (e : Relationship) → relationship_at graph r ≡ Some e → is_doomed is_detach d (r, e) ≡ true
    goes_doomed r (inl p) e there = ap (λ b. b || (is_detach && (contains_id d.0 e.source || contains_id d.0 e.target))) (is_in_id d.1 r (relationship_in r p))
    goes_doomed r (inr p) e there =
        or_second (contains_id d.1 r) (is_detach && (contains_id d.0 e.source || contains_id d.0 e.target))
        (and_both is_detach (contains_id d.0 e.source || contains_id d.0 e.target) p.0 (at_end p.3))
      where
        same : p.1 ≡ e
        same = some_is p.1 e (sym p.2 ∙ there)

        at_end : NodeGoes g es graph rows p.1.source ⊎ NodeGoes g es graph rows p.1.target → (contains_id d.0 e.source || contains_id d.0 e.target) ≡ true
        at_end (inl q) = ap (λ b. b || contains_id d.0 e.target) (is_in_id d.0 e.source (subst (λ x. IsIn x.source d.0) same (node_in p.1.source q)))
        at_end (inr q) = or_second (contains_id d.0 e.source) (contains_id d.0 e.target) (is_in_id d.0 e.target (subst (λ x. IsIn x.target d.0) same (node_in p.1.target q)))

    -- one that is there and doomed goes
    doomed_goes : (r : ℕ) (e : Relationship) → relationship_at graph r ≡ Some e → is_doomed is_detach d (r, e) ≡ true → RelationshipGoes g is_detach es graph rows r
    doomed_goes r e there h = by_tests (contains_id d.1 r) is_detach (contains_id d.0 e.source) (contains_id d.0 e.target) refl refl refl refl h
      where
        by_tests : (a b s t : Bool) → contains_id d.1 r ≡ a → is_detach ≡ b → contains_id d.0 e.source ≡ s → contains_id d.0 e.target ≡ t → (a || (b && (s || t))) ≡ true → RelationshipGoes g is_detach es graph rows r
        by_tests true b s t ea eb es et x = inl (relationship_named r (id_is_in d.1 r ea))
        by_tests false true true t ea eb es et x = inr (eb, e, there, inl (node_named e.source (id_is_in d.0 e.source es)))
        by_tests false true false true ea eb es et x = inr (eb, e, there, inr (node_named e.target (id_is_in d.0 e.target et)))
        by_tests false true false false ea eb es et x = absurd (true≢false (sym x))
        by_tests false false s t ea eb es et x = absurd (true≢false (sym x))

    left_goes : list_any (is_connected (cut_off is_detach graph d is)) (gone_nodes is_detach graph d is) ≡ false → ElementsGo g is_detach es graph rows (left_over is_detach graph d is)
    left_goes apart = record {
      evaluated = gathered.1;
      nodes_gone = λ n h. nodes_go is_detach graph d is n (node_in n h);
      nodes_kept = λ n h. nodes_stay is_detach graph d is n (λ i. h (node_named n i));
      relationships_gone = λ r h. relationships_go is_detach graph d is r (goes_doomed r h);
      relationships_kept = λ r h. relationships_stay is_detach graph d is r (λ e there doomed. h (doomed_goes r e there doomed));
      next_node = refl;
      next_relationship = refl;
      graph_again = left_is_graph is_detach graph d is apart;
    }

    still_connected : list_any (is_connected (cut_off is_detach graph d is)) (gone_nodes is_detach graph d is) ≡ true → StillConnected g is_detach es graph rows
    still_connected h =
        let c = connection is_detach graph d is h in
        record { id = c.0; relationship = c.1; is = c.2; stays = λ goes. c.3 (goes_doomed c.0 goes c.1 c.2); at_end = ends c.1 c.4 }
      where
        ends : (e : Relationship) → IsIn e.source d.0 ⊎ IsIn e.target d.0 → NodeGoes g es graph rows e.source ⊎ NodeGoes g es graph rows e.target
        ends e (inl i) = inl (node_named e.source i)
        ends e (inr i) = inr (node_named e.target i)

    either_goes : (P : Type 0) (r : ℕ) (e : Relationship) → relationship_at graph r ≡ Some e → (RelationshipGoes g is_detach es graph rows r → P) → ((RelationshipGoes g is_detach es graph rows r → ⊥) → P) → P
    either_goes P r e there goes_by other = by_test (is_doomed is_detach d (r, e)) refl
      where
        by_test : (b : Bool) → is_doomed is_detach d (r, e) ≡ b → P
        by_test true h = goes_by (doomed_goes r e there h)
        by_test false h = other (λ goes. true≢false (sym (goes_doomed r goes e there) ∙ h))

  -- ---- one graph

  gone_or_kept : (r : ℕ) (a : Graph) → ElementsGo g is_detach es graph rows a → relationship_at graph r ≡ None → (d : Doomed) → each_step (doom_row s graph es) ([], []) rows ≡ Ok d → relationship_at a r ≡ None
  gone_or_kept r a h none d named = either_named (contains_id d.1 r) refl
    where
      not_there : RelationshipGoes g is_detach es graph rows r → ((v : Value) × ((row : Row) × (e : Expression) × IsIn row rows × IsIn e es × (evaluate row g.parameters graph e ≡ Ok v)) × HasRelationship v r)
      not_there (inl p) = p
      not_there (inr p) = absurd (none_or_some (relationship_at graph r) p.1 p.2 none)

      either_named : (b : Bool) → contains_id d.1 r ≡ b → relationship_at a r ≡ None
      either_named true e = h.relationships_gone r (inl (relationship_named d named r (id_is_in d.1 r e)))
      either_named false e = h.relationships_kept r (λ goes. true≢false (sym (is_in_id d.1 r (relationship_in d named r (not_there goes))) ∙ e)) ∙ none

  one_left : (a b : Graph) → ElementsGo g is_detach es graph rows a → ElementsGo g is_detach es graph rows b → a ≡ b
  one_left a b p q =
      let made = rows_go s graph es rows ([], []) p.evaluated in
      same_graph a b p.graph_again q.graph_again
      (λ n. either_node (node_at a n ≡ node_at b n) made.0.0 n
      (λ i. p.nodes_gone n (node_named made.0 made.1 n i) ∙ sym (q.nodes_gone n (node_named made.0 made.1 n i)))
      (λ out. p.nodes_kept n (λ h. out (node_in made.0 made.1 n h)) ∙ sym (q.nodes_kept n (λ h. out (node_in made.0 made.1 n h)))))
      (λ r. by_there made.0 made.1 r (relationship_at graph r) refl)
      (p.next_node ∙ sym q.next_node)
      (p.next_relationship ∙ sym q.next_relationship)
    where
      by_there : (d : Doomed) → each_step (doom_row s graph es) ([], []) rows ≡ Ok d → (r : ℕ) (o : Option Relationship) → relationship_at graph r ≡ o → relationship_at a r ≡ relationship_at b r
      by_there d named r None there = gone_or_kept r a p there d named ∙ sym (gone_or_kept r b q there d named)
      by_there d named r (Some e) there =
          either_goes d named (relationship_at a r ≡ relationship_at b r) r e there
          (λ goes. p.relationships_gone r goes ∙ sym (q.relationships_gone r goes))
          (λ stays. p.relationships_kept r stays ∙ sym (q.relationships_kept r stays))

  -- ---- a connection that stays is refused

  pub no_connection : (after : Graph) → ElementsGo g is_detach es graph rows after → StillConnected g is_detach es graph rows → ⊥
  no_connection after h c = by_end c.at_end
    where
      stays : relationship_at after c.id ≡ Some c.relationship
      stays = h.relationships_kept c.id c.stays ∙ c.is

      no_end : (n : ℕ) → IsTrue (has_node after n) → NodeGoes g es graph rows n → ⊥
      no_end n there goes = true≢false (sym there ∙ ap is_some (h.nodes_gone n goes))

      by_end : NodeGoes g es graph rows c.relationship.source ⊎ NodeGoes g es graph rows c.relationship.target → ⊥
      by_end (inl goes) = no_end c.relationship.source (found_among (λ e. IsTrue (has_node after e.1.source)) c.id c.relationship after.relationships h.graph_again.sources stays) goes
      by_end (inr goes) = no_end c.relationship.target (found_among (λ e. IsTrue (has_node after e.1.target)) c.id c.relationship after.relationships h.graph_again.targets stays) goes

  passed : (b : Bool) → unless (not b) NodeStillConnected ≡ Ok tt → b ≡ false
  passed true e = cc
  passed false e = refl

  removed_goes : (after : Graph) → Removal s is_detach es graph rows after → ElementsGo g is_detach es graph rows after
  removed_goes after h =
      subst (ElementsGo g is_detach es graph rows) (sym h.removed) (left_goes h.doomed h.named (passed (list_any (is_connected (cut_off is_detach graph h.doomed is)) (gone_nodes is_detach graph h.doomed is)) h.connected))

  goes_removed : (after : Graph) → ElementsGo g is_detach es graph rows after → Removal s is_detach es graph rows after
  goes_removed after h = let made = rows_go s graph es rows ([], []) h.evaluated in by_test made.0 made.1 (list_any (is_connected (cut_off is_detach graph made.0 is)) (gone_nodes is_detach graph made.0 is)) refl
    where
      by_test : (d : Doomed) → each_step (doom_row s graph es) ([], []) rows ≡ Ok d → (b : Bool) → list_any (is_connected (cut_off is_detach graph d is)) (gone_nodes is_detach graph d is) ≡ b → Removal s is_detach es graph rows after
      by_test d named true e = absurd (no_connection after h (still_connected d named e))
      by_test d named false e = record { doomed = d; named = named; connected = ap (λ b. unless (not b) NodeStillConnected) e; removed = one_left after (left_over is_detach graph d is) h (left_goes d named e) }

  removed_fault : (f : Fault) → RemovalFaults s is_detach es graph rows f → GoFaults g is_detach es graph rows f
  removed_fault f (inl h) = inl (h.0, h.1, first_fault s graph h.0 es ([], []) f h.2)
  removed_fault f (inr h) = by_test (list_any (is_connected (cut_off is_detach graph h.0 is)) (gone_nodes is_detach graph h.0 is)) refl h.2
    where
      by_test : (b : Bool) → list_any (is_connected (cut_off is_detach graph h.0 is)) (gone_nodes is_detach graph h.0 is) ≡ b → unless (not b) NodeStillConnected ≡ Err f → GoFaults g is_detach es graph rows f
      by_test true e x = inr ((gathered h.0 h.1).1, still_connected h.0 h.1 e, same_fault x)
        where
          same_fault : ◌≡◌ {A = Result (Unit {0}) Fault} (Err NodeStillConnected) (Err f) → f ≡ NodeStillConnected
          same_fault x = cc
      by_test false e x = cc

  fault_removed : (f : Fault) → GoFaults g is_detach es graph rows f → RemovalFaults s is_detach es graph rows f
  fault_removed f (inl h) = inl (h.0, h.1, fault_is_first s graph h.0 es ([], []) f h.2)
  fault_removed f (inr h) = let made = rows_go s graph es rows ([], []) h.0 in by_test made.0 made.1 (list_any (is_connected (cut_off is_detach graph made.0 is)) (gone_nodes is_detach graph made.0 is)) refl
    where
      by_test : (d : Doomed) → each_step (doom_row s graph es) ([], []) rows ≡ Ok d → (b : Bool) → list_any (is_connected (cut_off is_detach graph d is)) (gone_nodes is_detach graph d is) ≡ b → RemovalFaults s is_detach es graph rows f
      by_test d named true e = inr (d, named, ap (λ b. unless (not b) NodeStillConnected) e ∙ ap Err (sym h.2))
      by_test d named false e = absurd (no_connection (left_over is_detach graph d is) (left_goes d named e) h.1)

-- a setting that gives just that
abbrev pub some_setting : Given → Setting
some_setting g = record { parameters = g.parameters; quota = record { max_steps = 0; max_elements = g.max_elements }; scope = g.scope; anchors = [] }

pub one_deletion : OneDeletion
one_deletion g is_detach es graph after other rows is = one_left (some_setting g) is_detach es graph rows is after other

pub delete_is_computed : DeleteIsComputed
delete_is_computed s is_detach es graph after rows is = (removed_goes s is_detach es graph rows is after, goes_removed s is_detach es graph rows is after)

pub delete_fault_is_computed : DeleteFaultIsComputed
delete_fault_is_computed s is_detach es graph rows f is = (removed_fault s is_detach es graph rows is f, fault_removed s is_detach es graph rows is f)
