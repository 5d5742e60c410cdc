-- What is made has a node for each node of its pattern, and a bond for each relationship.
use Rattle.std.proofs.Common.{◌≡◌, ◌+◌, ℕ, suc, List, [], ◌∷◌, map, length, Option, Some, None, Result, Ok, Err, refl, sym, ap, subst, ◌∙◌, add-one, arith}
use Rattle.std.proofs.lemmas.List.{length-map, length-append}
use Rattle.std.specs.List.{AllZip}
use Rattle.pg_meaning.specs.Answer.{◌>>=◌}
use Rattle.pg_meaning.specs.Graph.{Graph}
use Rattle.pg_meaning.specs.Meters.{Setting}
use Rattle.pg_meaning.specs.Patterns.{Assignment, nodes_of, node_name, single, Trail}
use Rattle.pg_meaning.specs.Rows.{Row}
use Rattle.pg_meaning.specs.Tree.{NodePattern, RelationshipPattern, PathPattern}
use Rattle.pg_meaning.specs.Updates.{Making}
use Rattle.pg_meaning.specs.Walks.{bound_value}
use Rattle.pg_meaning.specs.declared.fault.Fault.{Fault}
use Rattle.pg_write_make.specs.Outcomes.{Outcome, Outcomes, node_found, node_added, node_after, node_of, nodes_made, with_id, with_new, relationship_of, hops_made, bonds_made, relationships_of, node_outcome, relationship_outcome, path_outcomes, path_made, paths_made, trail_of}

pub record IsWhole (p : PathPattern) (t : Trail) : Type 0 where
  pub nodes : length t.nodes ≡ length p.hops + 1
  pub bonds : length t.bonds ≡ length p.hops

abbrev pub AreWhole : List PathPattern → Assignment → Type 0
AreWhole ps ts = AllZip IsWhole ps ts

-- outcomes for all parts of a path
record IsSized (os : Outcomes) (p : PathPattern) : Type 0 where
  nodes : length os.0 ≡ length p.hops + 1
  relationships : length os.1 ≡ length p.hops

module _ (max : ℕ) where
  one_more : (o : Outcome) (n : NodePattern) (m after : Making) → node_of max o n m ≡ Ok after → length after.ids ≡ length m.ids + 1
  one_more o n m after h = by_found (node_found (bound_value (node_name n) m.bound)) h
    where
      by_added : (r : Result Graph Fault) → (r >>= λ g. Ok (with_new n m g)) ≡ Ok after → length after.ids ≡ length m.ids + 1
      by_added (Ok g) e =
          let same : with_new n m g ≡ after = cc in
          ap (λ (k : Making). length k.ids) (sym same) ∙ length-append m.ids (m.graph.next_node ∷ [])
      by_added (Err f) e = absurd cc

      by_found : (r : Result (Option ℕ) Fault) → (r >>= λ found. elim found [ Some id ↦ Ok (with_id id m) | None ↦ node_after max o n m ]) ≡ Ok after → length after.ids ≡ length m.ids + 1
      by_found (Ok (Some id)) e =
          let same : with_id id m ≡ after = cc in
          ap (λ (k : Making). length k.ids) (sym same) ∙ length-append m.ids (id ∷ [])
      by_found (Ok None) e = by_added (node_added max o n m.graph) e
      by_found (Err f) e = absurd cc

  nodes_whole : (os : List Outcome) (ns : List NodePattern) (m after : Making) → length os ≡ length ns → nodes_made max os ns m ≡ Ok after → length after.ids ≡ length m.ids + length ns
  nodes_whole os [] m after l h =
      let same : m ≡ after = cc in
      ap (λ (k : Making). length k.ids) (sym same) ∙ omega arith
  nodes_whole [] (n ∷ ns) m after l h = absurd (omega (arith, l))
  nodes_whole (o ∷ os) (n ∷ ns) m after l h = by_first (λ k e. nodes_whole os ns k after (omega (arith, l)) e) (node_of max o n m) refl h
    where
      by_first : ((k : Making) → nodes_made max os ns k ≡ Ok after → length after.ids ≡ length k.ids + length ns) → (r : Result Making Fault) → node_of max o n m ≡ r → (r >>= nodes_made max os ns) ≡ Ok after → length after.ids ≡ length m.ids + suc (length ns)
      by_first rest (Ok k) is e =
          let one = one_more o n m k is in
          let others = rest k e in
          omega (arith, one, others)
      by_first rest (Err f) is e = absurd cc

  hops_whole : (os : List Outcome) (rs : List RelationshipPattern) (left : ℕ) (ns : List ℕ) (graph : Graph) (made : Graph × List ℕ) → length os ≡ length rs → length ns ≡ length rs → hops_made max os rs left ns graph ≡ Ok made → length made.1 ≡ length rs
  hops_whole os [] left ns graph made l k h =
      let same : ◌≡◌ {A = Graph × List ℕ} (graph, []) made = cc in
      ap (λ (p : Graph × List ℕ). length p.1) (sym same)
  hops_whole os (r ∷ rs) left [] graph made l k h = absurd (omega (arith, k))
  hops_whole [] (r ∷ rs) left (n ∷ ns) graph made l k h = absurd (omega (arith, l))
  hops_whole (o ∷ os) (r ∷ rs) left (n ∷ ns) graph made l k h = by_first (λ after m e. hops_whole os rs n ns after m (omega (arith, l)) (omega (arith, k)) e) (relationship_of max o r left n graph) h
    where
      by_others : ((after : Graph) (m : Graph × List ℕ) → hops_made max os rs n ns after ≡ Ok m → length m.1 ≡ length rs) → (after : Graph) (q : Result (Graph × List ℕ) Fault) → hops_made max os rs n ns after ≡ q → (q >>= λ (m : Graph × List ℕ). Ok (m.0, graph.next_relationship ∷ m.1)) ≡ Ok made → length made.1 ≡ suc (length rs)
      by_others rest after (Ok m) is e =
          let same : ◌≡◌ {A = Graph × List ℕ} (m.0, graph.next_relationship ∷ m.1) made = cc in
          ap (λ (p : Graph × List ℕ). length p.1) (sym same) ∙ ap suc (rest after m is)
      by_others rest after (Err f) is e = absurd cc

      by_first : ((after : Graph) (m : Graph × List ℕ) → hops_made max os rs n ns after ≡ Ok m → length m.1 ≡ length rs) → (q : Result Graph Fault) → (q >>= λ after. hops_made max os rs n ns after >>= λ (m : Graph × List ℕ). Ok (m.0, graph.next_relationship ∷ m.1)) ≡ Ok made → length made.1 ≡ suc (length rs)
      by_first rest (Ok after) e = by_others rest after (hops_made max os rs n ns after) refl e
      by_first rest (Err f) e = absurd cc

  node_places : (p : PathPattern) → length (nodes_of p) ≡ length p.hops + 1
  node_places p = ap suc (length-map p.hops (λ h. h.1)) ∙ sym (add-one (length p.hops))

  path_whole : (os : Outcomes) (p : PathPattern) (so_far : Graph × Row) (made : Graph × Row × Trail) → IsSized os p → path_made max os p so_far ≡ Ok made → IsWhole p made.2
  path_whole os p so_far made sized h = by_nodes (nodes_made max os.0 (nodes_of p) none) refl h
    where
      none : Making
      none = record { graph = so_far.0; bound = so_far.1; ids = [] }

      places : length (nodes_of p) ≡ length p.hops + 1
      places = node_places p

      between : length (relationships_of p) ≡ length p.hops
      between = length-map p.hops (λ h. h.0)

      by_bonds : (m : Making) → length m.ids ≡ length p.hops + 1 → (ids : List ℕ) → m.ids ≡ ids → (q : Result (Graph × List ℕ) Fault) → bonds_made max os.1 (relationships_of p) ids m.graph ≡ q → (q >>= λ (b : Graph × List ℕ). Ok (b.0, m.bound, trail_of m.ids b.1)) ≡ Ok made → IsWhole p made.2
      by_bonds m all [] none_there q is e =
          let few = ap length none_there in
          absurd (omega (arith, all, few))
      by_bonds m all (n ∷ ns) ids_are (Ok b) is e =
          let same : ◌≡◌ {A = Graph × Row × Trail} (b.0, m.bound, trail_of m.ids b.1) made = cc in
          let ends = ap length ids_are in
          let joined = hops_whole os.1 (relationships_of p) n ns m.graph b (sized.relationships ∙ sym between) (omega (arith, all, ends) ∙ sym between) is in
          record {
            nodes = ap (λ (t : Graph × Row × Trail). length t.2.nodes) (sym same) ∙ all;
            bonds = ap (λ (t : Graph × Row × Trail). length t.2.bonds) (sym same) ∙ length-map b.1 single ∙ joined ∙ between;
          }
      by_bonds m all (n ∷ ns) ids_are (Err f) is e = absurd cc

      by_nodes : (r : Result Making Fault) → nodes_made max os.0 (nodes_of p) none ≡ r → (r >>= λ m. bonds_made max os.1 (relationships_of p) m.ids m.graph >>= λ (b : Graph × List ℕ). Ok (b.0, m.bound, trail_of m.ids b.1)) ≡ Ok made → IsWhole p made.2
      by_nodes (Ok m) is e = by_bonds m (let many = nodes_whole os.0 (nodes_of p) none m (sized.nodes ∙ sym places) is in let all = places in omega (arith, many, all)) m.ids refl (bonds_made max os.1 (relationships_of p) m.ids m.graph) refl e
      by_nodes (Err f) is e = absurd cc

  paths_whole : (os : List Outcomes) (ps : List PathPattern) (so_far : Graph × Row) (made : Graph × Assignment) → AllZip IsSized os ps → paths_made max os ps so_far ≡ Ok made → AreWhole ps made.1
  paths_whole os [] so_far made sized h =
      let same : ◌≡◌ {A = Graph × Assignment} (so_far.0, []) made = cc in
      subst (λ (m : Graph × Assignment). AreWhole [] m.1) same tt
  paths_whole [] (p ∷ ps) so_far made sized h = absurd sized
  paths_whole (o ∷ os) (p ∷ ps) so_far made sized h = by_path (λ gr m e. paths_whole os ps gr m sized.1 e) (path_made max o p so_far) refl h
    where
      by_others : ((gr : Graph × Row) (m : Graph × Assignment) → paths_made max os ps gr ≡ Ok m → AreWhole ps m.1) → (m : Graph × Row × Trail) → IsWhole p m.2 → (q : Result (Graph × Assignment) Fault) → paths_made max os ps (m.0, m.1) ≡ q → (q >>= λ (others : Graph × Assignment). Ok (others.0, m.2 ∷ others.1)) ≡ Ok made → AreWhole (p ∷ ps) made.1
      by_others rest m first (Ok others) is e =
          let same : ◌≡◌ {A = Graph × Assignment} (others.0, m.2 ∷ others.1) made = cc in
          subst (λ (k : Graph × Assignment). AreWhole (p ∷ ps) k.1) same (first, rest (m.0, m.1) others is)
      by_others rest m first (Err f) is e = absurd cc

      by_path : ((gr : Graph × Row) (m : Graph × Assignment) → paths_made max os ps gr ≡ Ok m → AreWhole ps m.1) → (r : Result (Graph × Row × Trail) Fault) → path_made max o p so_far ≡ r → (r >>= λ (m : Graph × Row × Trail). paths_made max os ps (m.0, m.1) >>= λ (others : Graph × Assignment). Ok (others.0, m.2 ∷ others.1)) ≡ Ok made → AreWhole (p ∷ ps) made.1
      by_path rest (Ok m) is e = by_others rest m (path_whole o p so_far m sized.0 is) (paths_made max os ps (m.0, m.1)) refl e
      by_path rest (Err f) is e = absurd cc

-- the outcomes at a row are as many as there are parts
outcomes_sized : (s : Setting) (graph : Graph) (row : Row) (ps : List PathPattern) → AllZip IsSized (map (path_outcomes s graph row) ps) ps
outcomes_sized s graph row [] = tt
outcomes_sized s graph row (p ∷ ps) = (
  record {
    nodes = length-map (nodes_of p) (node_outcome s graph row) ∙ ap suc (length-map p.hops (λ h. h.1)) ∙ sym (add-one (length p.hops));
    relationships = length-map (relationships_of p) (relationship_outcome s graph row) ∙ length-map p.hops (λ h. h.0);
  },
  outcomes_sized s graph row ps,
)

pub made_whole : (max : ℕ) (s : Setting) (graph : Graph) (row : Row) (os : List Outcomes) (ps : List PathPattern) (made : Graph × Assignment) → os ≡ map (path_outcomes s graph row) ps → paths_made max os ps (graph, row) ≡ Ok made → AreWhole ps made.1
made_whole max s graph row os ps made are h = paths_whole max os ps (graph, row) made (subst (λ (qs : List Outcomes). AllZip IsSized qs ps) (sym are) (outcomes_sized s graph row ps)) h
