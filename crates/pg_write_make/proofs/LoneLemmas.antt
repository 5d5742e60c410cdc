-- A path of one node or of one relationship: what it leaves.
use Rattle.std.proofs.Common.{◌≡◌, ◌≢◌, ℕ, List, [], ◌∷◌, ◌++◌, append-nil, map, Option, Some, None, Result, Ok, Err, refl, sym, ap, ◌∙◌}
use Rattle.std.specs.Borrow.{Bor}
use Rattle.std.specs.Prelude.{OnOk, IfOk, IfErr}
use Rattle.pg_meaning.specs.Answer.{◌>>=◌}
use Rattle.pg_meaning.specs.Graph.{Graph}
use Rattle.pg_meaning.specs.Patterns.{node_name, texts_of, Trail}
use Rattle.pg_meaning.specs.Rows.{Row}
use Rattle.pg_meaning.specs.Tree.{NodePattern, PathPattern, RelationshipPattern}
use Rattle.pg_meaning.specs.Updates.{Making}
use Rattle.pg_meaning.specs.Value.{Entries}
use Rattle.pg_meaning.specs.Walks.{bound_value}
use Rattle.pg_meaning.specs.declared.fault.Fault.{Fault}
use Rattle.pg_meaning.specs.declared.fault.Fault.TheVariants.{OutOfMemory}
use Rattle.pg_value_core.specs.declared.ids.NodeId.{NodeId}
use Rattle.pg_write_make.specs.Creations.{path_left}
use Rattle.pg_write_make.specs.Makings.{bindings}
use Rattle.pg_write_make.specs.Outcomes.{Outcome, Outcomes, bonds_made, hops_made, labelled_added, node_added, node_after, node_found, node_of, node_outcome, nodes_made, path_made, path_outcomes, relationship_of, relationship_outcome, trail_of, with_id, with_new}
use Rattle.pg_write_make.specs.Scenes.{reading}

-- the clause has bound no variable yet
pub none_bound : (row : Row) (named : List (Bor (List ℕ) × NodeId)) → named ≡ [] → row ≡ row ++ bindings named
none_bound row named none = sym (append-nil row) ∙ ap (λ bs. row ++ bindings bs) (sym none)

-- the graph alone
pub graph_alone : (r : Result (Graph × Trail) Fault) (q : Result (Graph × Trail) Fault) → r ≡ q → (r >>= λ (l : Graph × Trail). Ok l.0) ≡ (q >>= λ (l : Graph × Trail). Ok l.0)
graph_alone r q same = ap (λ u. u >>= λ (l : Graph × Trail). Ok l.0) same

module _ (parameters : Entries) (max : ℕ) (p : PathPattern) (graph : Graph) (row : Row) where
  abbrev pub on_node : NodePattern → Outcome
  on_node n = node_outcome (reading parameters) graph row n

  abbrev pub on_bond : RelationshipPattern → Outcome
  on_bond r = relationship_outcome (reading parameters) graph row r

  abbrev pub at_start : Making
  at_start = record { graph = graph; bound = row; ids = [] }

  abbrev left : Result (Graph × Row × Trail) Fault → Result (Graph × Trail) Fault
  left r = r >>= λ (made : Graph × Row × Trail). Ok (made.0, made.2)

  abbrev with_ids : Making → Result (Graph × List ℕ) Fault → Result (Graph × Row × Trail) Fault
  with_ids m r = r >>= λ (made : Graph × List ℕ). Ok (made.0, m.bound, trail_of m.ids made.1)

  abbrev with_bonds : List RelationshipPattern → Result Making Fault → Result (Graph × Trail) Fault
  with_bonds rs r = left (r >>= λ (m : Making). with_ids m (bonds_made max (map on_bond rs) rs m.ids m.graph))

  abbrev with_hops : List (RelationshipPattern × NodePattern) → Result (Graph × Trail) Fault
  with_hops hs =
      let ns : List NodePattern = p.first ∷ map (λ h. h.1) hs in
      with_bonds (map (λ h. h.0) hs) (nodes_made max (map on_node ns) ns at_start)

  -- a path from what was kept of it
  pub long_left : (os : Outcomes) (named : List (Bor (List ℕ) × NodeId)) → os ≡ path_outcomes (reading parameters) graph row p → named ≡ [] → (r : Result (Graph × Row × Trail) Fault) → path_made max os p (graph, row ++ bindings named) ≡ r → path_left parameters max p graph row ≡ left r
  long_left os named kept none r made =
      ap (λ (us : Outcomes). left (path_made max us p (graph, row))) (sym kept)
      ∙ ap (λ (rs : Row). left (path_made max os p (graph, rs))) (none_bound row named none)
      ∙ ap left made

  -- ---- one node

  abbrev with_none : Result Making Fault → Result (Graph × Trail) Fault
  with_none r = r >>= λ (m : Making). Ok (m.graph, trail_of m.ids [])

  module _ (alone : p.hops ≡ []) where
    one_node : path_left parameters max p graph row ≡ with_none (node_of max (on_node p.first) p.first at_start)
    one_node = ap with_hops alone ∙ by_node (node_of max (on_node p.first) p.first at_start)
      where
        by_ids : (m : Making) (ids : List ℕ) → left (with_ids m (bonds_made max [] [] ids m.graph)) ≡ Ok (m.graph, trail_of m.ids [])
        by_ids m [] = refl
        by_ids m (n ∷ ns) = refl

        by_node : (r : Result Making Fault) → with_bonds [] (r >>= nodes_made max [] []) ≡ with_none r
        by_node (Ok m) = by_ids m m.ids
        by_node (Err e) = refl

    abbrev by_found : Result (Option ℕ) Fault → Result (Graph × Trail) Fault
    by_found r = with_none (r >>= λ found. elim found [ Some id ↦ Ok (with_id id at_start) | None ↦ node_after max (on_node p.first) p.first at_start ])

    pub node_stays : (id : ℕ) → node_found (bound_value (node_name p.first) row) ≡ Ok (Some id) → path_left parameters max p graph row ≡ Ok (graph, trail_of (id ∷ []) [])
    node_stays id found = one_node ∙ ap by_found found

    pub node_unfit : (e : Fault) → node_found (bound_value (node_name p.first) row) ≡ Err e → path_left parameters max p graph row ≡ Err e
    node_unfit e found = one_node ∙ ap by_found found

    abbrev with_next : Result Graph Fault → Result (Graph × Trail) Fault
    with_next r = r >>= λ (after : Graph). Ok (after, trail_of (graph.next_node ∷ []) [])

    pub node_comes : (o : Outcome) (labels : List (List ℕ)) (r : Result Graph Fault) → node_found (bound_value (node_name p.first) row) ≡ Ok None → on_node p.first ≡ o → labels ≡ texts_of p.first.labels → labelled_added max o labels graph ≡ r
        → path_left parameters max p graph row ≡ with_next r
    node_comes o labels r found same named added =
        one_node
        ∙ ap by_found found
        ∙ by_added (node_added max (on_node p.first) p.first graph)
        ∙ ap with_next ((λ i. labelled_added max (same i) (texts_of p.first.labels) graph) ∙ ap (λ ls. labelled_added max o ls graph) (sym named) ∙ added)
      where
        by_added : (q : Result Graph Fault) → with_none (q >>= λ (after : Graph). Ok (with_new p.first at_start after)) ≡ with_next q
        by_added (Ok after) = refl
        by_added (Err e) = refl

    module _ (o : Outcome) (labels : List (List ℕ)) (found : node_found (bound_value (node_name p.first) row) ≡ Ok None) (same : on_node p.first ≡ o) (named : labels ≡ texts_of p.first.labels) where
      pub node_added_alone : (after : Graph) (r : Result NodeId Fault) → OnOk r (labelled_added max o labels graph ≡ Ok after) → IfOk r (λ id. id.0 ≡ graph.next_node) → IfOk r (λ id. path_left parameters max p graph row ≡ Ok (after, trail_of (id.0 ∷ []) []))
      node_added_alone after (Ok id) added next = node_comes o labels (Ok after) found same named added ∙ ap (λ n. Ok (after, trail_of (n ∷ []) [])) (sym next)
      node_added_alone after (Err e) added next = tt

      pub node_refused_alone : (r : Result NodeId Fault) → IfErr r (λ e. e ≢ OutOfMemory → labelled_added max o labels graph ≡ Err e) → IfErr r (λ e. e ≢ OutOfMemory → path_left parameters max p graph row ≡ Err e)
      node_refused_alone (Ok id) refused = tt
      node_refused_alone (Err e) refused = λ other. node_comes o labels (Err e) found same named (refused other)

  -- ---- one relationship

  module _ (h : RelationshipPattern × NodePattern) (alone : p.hops ≡ h ∷ []) where
    abbrev after_first : Result Making Fault → Result (Graph × Trail) Fault
    after_first r = with_bonds (h.0 ∷ []) (r >>= nodes_made max (on_node h.1 ∷ []) (h.1 ∷ []))

    abbrev after_last : Result Making Fault → Result (Graph × Trail) Fault
    after_last r = with_bonds (h.0 ∷ []) (r >>= nodes_made max [] [])

    two_nodes : path_left parameters max p graph row ≡ after_first (node_of max (on_node p.first) p.first at_start)
    two_nodes = ap with_hops alone

    pub first_unfit : (o : Outcome) (e : Fault) → on_node p.first ≡ o → node_of max o p.first at_start ≡ Err e → path_left parameters max p graph row ≡ Err e
    first_unfit o e same first = two_nodes ∙ ap after_first (ap (λ u. node_of max u p.first at_start) same ∙ first)

    module _ (o : Outcome) (m : Making) (same : on_node p.first ≡ o) (first : node_of max o p.first at_start ≡ Ok m) where
      second_left : (o' : Outcome) → on_node h.1 ≡ o' → path_left parameters max p graph row ≡ after_last (node_of max o' h.1 m)
      second_left o' same' = two_nodes ∙ ap after_first (ap (λ u. node_of max u p.first at_start) same ∙ first) ∙ ap (λ u. after_last (node_of max u h.1 m)) same'

      pub last_unfit : (o' : Outcome) (e : Fault) → on_node h.1 ≡ o' → node_of max o' h.1 m ≡ Err e → path_left parameters max p graph row ≡ Err e
      last_unfit o' e same' last = second_left o' same' ∙ ap after_last last

      pub bond_comes : (o' between : Outcome) (after : Graph) (bound : Row) (a b : ℕ) (r : Result Graph Fault) → on_node h.1 ≡ o' → node_of max o' h.1 m ≡ Ok (record { graph = after; bound = bound; ids = a ∷ b ∷ [] })
          → on_bond h.0 ≡ between → relationship_of max between h.0 a b after ≡ r → path_left parameters max p graph row ≡ (r >>= λ (later : Graph). Ok (later, trail_of (a ∷ b ∷ []) (after.next_relationship ∷ [])))
      bond_comes o' between after bound a b r same' last same'' joined =
          second_left o' same'
          ∙ ap after_last last
          ∙ by_bond (relationship_of max (on_bond h.0) h.0 a b after)
          ∙ ap with_bond (ap (λ u. relationship_of max u h.0 a b after) same'' ∙ joined)
        where
          with_bond : Result Graph Fault → Result (Graph × Trail) Fault
          with_bond q = q >>= λ (later : Graph). Ok (later, trail_of (a ∷ b ∷ []) (after.next_relationship ∷ []))

          by_bond : (q : Result Graph Fault)
              → left (with_ids (record { graph = after; bound = bound; ids = a ∷ b ∷ [] }) (q >>= λ (later : Graph). hops_made max [] [] b [] later >>= λ (made : Graph × List ℕ). Ok (made.0, after.next_relationship ∷ made.1))) ≡ with_bond q
          by_bond (Ok later) = refl
          by_bond (Err e) = refl
