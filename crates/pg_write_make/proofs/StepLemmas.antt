-- What is left to be made, and what it is after the next part.
use Rattle.std.proofs.Common.{◌≡◌, ◌<◌, ◌+◌, ℕ, false, List, [], ◌∷◌, ◌++◌, map, drop, get_or, length, Result, Ok, Err, refl, sym, ap, ◌∙◌, append_assoc, append-nil, inl, inr, ◌⊎◌}
use Rattle.std.proofs.lemmas.List.{map-append}
use Rattle.std.proofs.lemmas.Option.{slice_get_read}
use Rattle.std.specs.Borrow.{Bor}
use Rattle.std.specs.Global.{Vec}
use Rattle.pg_meaning.specs.Answer.{◌>>=◌}
use Rattle.pg_meaning.specs.Graph.{Graph}
use Rattle.pg_meaning.specs.Patterns.{Assignment, Trail, node_name, nodes_of}
use Rattle.pg_meaning.specs.Reading.{test_bound, test_nodes, test_paths}
use Rattle.pg_meaning.specs.Rows.{Row}
use Rattle.pg_meaning.specs.Tree as tree
use Rattle.pg_meaning.specs.Updates.{Making}
use Rattle.pg_meaning.specs.Value.{Value as Datum, Entries}
use Rattle.pg_meaning.specs.Walks.{bound_value}
use Rattle.pg_meaning.specs.declared.fault.Fault.{Fault}
use Rattle.pg_rows.specs.Named.{row_of, rows_named}
use Rattle.pg_syntax_tree.specs.View.{node_view, path_view, relationship_view}
use Rattle.pg_syntax_tree.specs.declared.patterns.NodePattern.{NodePattern}
use Rattle.pg_syntax_tree.specs.declared.patterns.PathPattern.{PathPattern}
use Rattle.pg_syntax_tree.specs.declared.patterns.RelationshipPattern.{RelationshipPattern}
use Rattle.pg_value_core.specs.declared.ids.NodeId.{NodeId}
use Rattle.pg_value_core.specs.declared.ids.RelId.{RelId}
use Rattle.pg_value_core.specs.declared.value.Value.{Value}
use Rattle.pg_write_make.proofs.GrowthLemmas.{both_passed, paths_grow, tests_grow}
use Rattle.pg_write_make.proofs.BoundLemmas.{next_tested}
use Rattle.pg_write_make.proofs.TrailLemmas.{named_both}
use Rattle.pg_write_make.specs.Bindings.{Binding, match_bindings, named, path_bindings}
use Rattle.pg_write_make.specs.Creations.{row_created, rows_created}
use Rattle.pg_write_make.specs.Lent.{kept_view, paths_view, trail_view}
use Rattle.pg_write_make.specs.Makings.{node_ids, others_view, outcomes_view, relationship_ids, relationships_view, Grows}
use Rattle.pg_write_make.specs.declared.kept.Kept.{Kept}
use Rattle.pg_write_make.specs.declared.paths.Trail.{Trail as Code}
use Rattle.pg_write_make.proofs.RowLemmas.{drop_at}
use Rattle.pg_write_make.specs.Outcomes.{Outcome, hops_made, node_of, nodes_made, outcome_view, path_made, paths_made, relationship_of}

abbrev Given : Type 0
Given = Result (Vec (Bor (List ℕ) × Value)) Fault

abbrev pub behind : {X : Type 0} → List X → Result (Graph × List X) Fault → Result (Graph × List X) Fault
behind xs r = r >>= λ made. Ok (made.0, xs ++ made.1)

one_behind : {X : Type 0} (xs : List X) (x : X) (r : Result (Graph × List X) Fault) → ◌≡◌ {A = Result (Graph × List X) Fault} (behind xs (r >>= λ made. Ok (made.0, x ∷ made.1))) (behind (xs ++ x ∷ []) r)
one_behind xs x (Ok made) = ap (λ (ys : List _). Ok (made.0, ys)) (sym (append_assoc xs (x ∷ []) made.1))
one_behind xs x (Err e) = refl

-- ---- hops

-- where outcomes or nodes have run out, nothing more is made
hops_past : (max : ℕ) (os : List Outcome) (rs : List tree.RelationshipPattern) (left : ℕ) (ns : List ℕ) (graph : Graph) → (os ≡ []) ⊎ (ns ≡ []) → hops_made max os rs left ns graph ≡ Ok (graph, [])
hops_past max os [] left ns graph none = refl
hops_past max os (r ∷ rs) left [] graph none = refl
hops_past max [] (r ∷ rs) left (n ∷ ns) graph none = refl
hops_past max (o ∷ os) (r ∷ rs) left (n ∷ ns) graph (inl e) = absurd (cc)
hops_past max (o ∷ os) (r ∷ rs) left (n ∷ ns) graph (inr e) = absurd (cc)

pub hops_over : (max : ℕ) (os : List Given) (rs : List tree.RelationshipPattern) (left : ℕ) (ns : List NodeId) (graph : Graph) (ids : List ℕ) (whole : Result (Graph × List ℕ) Fault)
    → whole ≡ behind ids (hops_made max (outcomes_view os) rs left (node_ids ns) graph) → (os ≡ []) ⊎ (ns ≡ []) → whole ≡ Ok (graph, ids)
hops_over max os rs left ns graph ids whole rest none =
    rest ∙ ap (behind ids) (hops_past max (outcomes_view os) rs left (node_ids ns) graph (seen_none none)) ∙ ap (λ (xs : List ℕ). Ok (graph, xs)) (append-nil ids)
  where
    seen_none : (os ≡ []) ⊎ (ns ≡ []) → (outcomes_view os ≡ []) ⊎ (node_ids ns ≡ [])
    seen_none (inl e) = inl (ap outcomes_view e)
    seen_none (inr e) = inr (ap node_ids e)

module _ (max : ℕ) (hs : List (RelationshipPattern × NodePattern)) (i : ℕ) (h : RelationshipPattern × NodePattern) (at : h ≡ get_or hs i h) (within : i < length hs) where
  next_hop : drop i hs ≡ h ∷ drop (i + 1) hs
  next_hop = drop_at hs i h (slice_get_read hs (length hs) i h refl within at)

  abbrev hops_left : List Given → ℕ → List ℕ → Graph → Result (Graph × List ℕ) Fault
  hops_left os left ns graph = hops_made max (outcomes_view os) (relationships_view (drop i hs)) left ns graph

  module _ (o : Given) (os later : List Given) (left right : NodeId) (ns ahead : List NodeId) (graph : Graph) (ids : List RelId) (whole : Result (Graph × List ℕ) Fault) (outcomes : os ≡ o ∷ later) (nodes : ns ≡ right ∷ ahead) (rest : whole ≡ behind (relationship_ids ids) (hops_left os left.0 (node_ids ns) graph)) where
    unfolded : whole ≡ behind (relationship_ids ids) (relationship_of max (outcome_view o) (relationship_view h.0) left.0 right.0 graph >>= λ after.
        hops_made max (outcomes_view later) (relationships_view (drop (i + 1) hs)) right.0 (node_ids ahead) after >>= λ made. Ok (made.0, graph.next_relationship ∷ made.1))
    unfolded = rest ∙ (λ j. behind (relationship_ids ids) (hops_made max (outcomes_view (outcomes j)) (relationships_view (next_hop j)) left.0 (node_ids (nodes j)) graph))

    pub hop_made : (after : Graph) (id : RelId) (more : List RelId) → relationship_of max (outcome_view o) (relationship_view h.0) left.0 right.0 graph ≡ Ok after → id.0 ≡ graph.next_relationship → more ≡ ids ++ id ∷ []
        → whole ≡ behind (relationship_ids more) (hops_made max (outcomes_view later) (relationships_view (drop (i + 1) hs)) right.0 (node_ids ahead) after)
    hop_made after id more made named pushed =
        let others = hops_made max (outcomes_view later) (relationships_view (drop (i + 1) hs)) right.0 (node_ids ahead) after in
        unfolded
        ∙ ap (λ r. behind (relationship_ids ids) (r >>= λ g. hops_made max (outcomes_view later) (relationships_view (drop (i + 1) hs)) right.0 (node_ids ahead) g >>= λ made. Ok (made.0, graph.next_relationship ∷ made.1))) made
        ∙ one_behind (relationship_ids ids) graph.next_relationship others
        ∙ ap (λ n. behind (relationship_ids ids ++ n ∷ []) others) (sym named)
        ∙ ap (λ ns. behind ns others) (sym (map-append (λ (r : RelId). r.0) ids (id ∷ [])))
        ∙ ap (λ rs. behind (relationship_ids rs) others) (sym pushed)

    pub hop_refused : (e : Fault) → relationship_of max (outcome_view o) (relationship_view h.0) left.0 right.0 graph ≡ Err e → whole ≡ Err e
    hop_refused e made = unfolded ∙ ap (λ r. behind (relationship_ids ids) (r >>= λ g. hops_made max (outcomes_view later) (relationships_view (drop (i + 1) hs)) right.0 (node_ids ahead) g >>= λ made. Ok (made.0, graph.next_relationship ∷ made.1))) made

  -- ---- nodes

  module _ (o : Given) (os later : List Given) (m : Making) (whole : Result Making Fault) (outcomes : os ≡ o ∷ later) (rest : whole ≡ nodes_made max (outcomes_view os) (others_view (drop i hs)) m) where
    next_node : whole ≡ (node_of max (outcome_view o) (node_view h.1) m >>= nodes_made max (outcomes_view later) (others_view (drop (i + 1) hs)))
    next_node = rest ∙ (λ j. nodes_made max (outcomes_view (outcomes j)) (others_view (next_hop j)) m)

    pub node_made : (after : Making) → node_of max (outcome_view o) (node_view h.1) m ≡ Ok after → whole ≡ nodes_made max (outcomes_view later) (others_view (drop (i + 1) hs)) after
    node_made after made = next_node ∙ ap (λ r. r >>= nodes_made max (outcomes_view later) (others_view (drop (i + 1) hs))) made

    pub node_refused : (e : Fault) → node_of max (outcome_view o) (node_view h.1) m ≡ Err e → whole ≡ Err e
    node_refused e made = next_node ∙ ap (λ r. r >>= nodes_made max (outcomes_view later) (others_view (drop (i + 1) hs))) made

  pub tests_left : (before after : Graph) (row : Row) → Grows before after → test_nodes false before row (others_view (drop i hs)) ≡ Ok tt → test_nodes false after row (others_view (drop (i + 1) hs)) ≡ Ok tt
  tests_left before after row grows h' =
      let all = sym (ap (λ xs. test_nodes false before row (others_view xs)) next_hop) ∙ h' in
      tests_grow before after row (others_view (drop (i + 1) hs)) grows (both_passed (test_bound false before (bound_value (node_name (node_view h.1)) row)) (test_nodes false before row (others_view (drop (i + 1) hs))) all).1

-- ---- paths

module _ (max : ℕ) (ps : List PathPattern) (i : ℕ) (p : PathPattern) (at : p ≡ get_or ps i p) (within : i < length ps) where
  next_path : drop i ps ≡ p ∷ drop (i + 1) ps
  next_path = drop_at ps i p (slice_get_read ps (length ps) i p refl within at)

  module _ (k : Kept) (ks later : List Kept) (graph : Graph) (row : Row) (trails : List Code) (whole : Result (Graph × Assignment) Fault) (kept : ks ≡ k ∷ later) (rest : whole ≡ behind (map trail_view trails) (paths_made max (map kept_view ks) (paths_view (drop i ps)) (graph, row))) where
    abbrev paths_after : Result (Graph × Row × Trail) Fault → Result (Graph × Assignment) Fault
    paths_after r = behind (map trail_view trails) (r >>= λ made. paths_made max (map kept_view later) (paths_view (drop (i + 1) ps)) (made.0, made.1) >>= λ others. Ok (others.0, made.2 ∷ others.1))

    unfolded_path : whole ≡ paths_after (path_made max (kept_view k) (path_view p) (graph, row))
    unfolded_path = rest ∙ (λ j. behind (map trail_view trails) (paths_made max (map kept_view (kept j)) (paths_view (next_path j)) (graph, row)))

    pub path_done : (after : Graph) (bound : Row) (trail : Code) (more : List Code) → path_made max (kept_view k) (path_view p) (graph, row) ≡ Ok (after, bound, trail_view trail) → more ≡ trails ++ trail ∷ []
        → whole ≡ behind (map trail_view more) (paths_made max (map kept_view later) (paths_view (drop (i + 1) ps)) (after, bound))
    path_done after bound trail more made pushed =
        let others = paths_made max (map kept_view later) (paths_view (drop (i + 1) ps)) (after, bound) in
        unfolded_path
        ∙ ap paths_after made
        ∙ one_behind (map trail_view trails) (trail_view trail) others
        ∙ ap (λ ts. behind ts others) (sym (map-append trail_view trails (trail ∷ [])))
        ∙ ap (λ ts. behind (map trail_view ts) others) (sym pushed)

    pub path_failed : (e : Fault) → path_made max (kept_view k) (path_view p) (graph, row) ≡ Err e → whole ≡ Err e
    path_failed e made = unfolded_path ∙ ap paths_after made

  module _ (before : Graph) (row : Row) (tested : test_paths false before row (paths_view (drop i ps)) ≡ Ok tt) where
    both : (test_nodes false before row (nodes_of (path_view p)) ≡ Ok tt) × (test_paths false before row (paths_view (drop (i + 1) ps)) ≡ Ok tt)
    both = both_passed (test_nodes false before row (nodes_of (path_view p))) (test_paths false before row (paths_view (drop (i + 1) ps))) (sym (next_tested before row ps i p at within) ∙ tested)

    pub path_is_tested : test_nodes false before row (nodes_of (path_view p)) ≡ Ok tt
    path_is_tested = both.0

    pub paths_tested_on : (after : Graph) → Grows before after → test_paths false after row (paths_view (drop (i + 1) ps)) ≡ Ok tt
    paths_tested_on after grows = paths_grow before after row (paths_view (drop (i + 1) ps)) grows both.1

  module _ (graph : Graph) (ts later : List Code) (t : Code) (bs more : List Binding) (whole : List Binding) (trails : ts ≡ t ∷ later) (pushed : more ≡ bs ++ named (path_bindings graph (path_view p) (trail_view t))) (rest : whole ≡ bs ++ named (match_bindings graph (paths_view (drop i ps)) (map trail_view ts))) where
    pub path_binds : whole ≡ more ++ named (match_bindings graph (paths_view (drop (i + 1) ps)) (map trail_view later))
    path_binds =
        let own = path_bindings graph (path_view p) (trail_view t) in
        let others = match_bindings graph (paths_view (drop (i + 1) ps)) (map trail_view later) in
        rest
        ∙ (λ j. bs ++ named (match_bindings graph (paths_view (next_path j)) (map trail_view (trails j))))
        ∙ ap (λ xs. bs ++ xs) (named_both own others)
        ∙ sym (append_assoc bs (named own) (named others))
        ∙ ap (λ xs. xs ++ named others) (sym pushed)

-- ---- rows

module _ (parameters : Entries) (max : ℕ) (ps : List tree.PathPattern) (names : List (List ℕ)) (row : List Datum) (rows later : List (List Datum)) (before : Graph) (made : List (List Datum)) (whole : Result (Graph × List Row) Fault) (first : rows ≡ row ∷ later) (rest : whole ≡ behind (rows_named names made) (rows_created parameters max ps before (rows_named names rows))) where
  abbrev rows_after : Result (Graph × Row) Fault → Result (Graph × List Row) Fault
  rows_after r = behind (rows_named names made) (r >>= λ (one : Graph × Row). rows_created parameters max ps one.0 (rows_named names later) >>= λ (others : Graph × List Row). Ok (others.0, one.1 ∷ others.1))

  unfolded_row : whole ≡ rows_after (row_created parameters max ps before (row_of names row))
  unfolded_row = rest ∙ ap (λ rs. behind (rows_named names made) (rows_created parameters max ps before (rows_named names rs))) first

  pub row_done : (after : Graph) (values : List Datum) (more : List (List Datum)) → row_created parameters max ps before (row_of names row) ≡ Ok (after, row_of names values) → more ≡ made ++ values ∷ [] → whole ≡ behind (rows_named names more) (rows_created parameters max ps after (rows_named names later))
  row_done after values more done pushed =
      let others = rows_created parameters max ps after (rows_named names later) in
      unfolded_row
      ∙ ap rows_after done
      ∙ one_behind (rows_named names made) (row_of names values) others
      ∙ ap (λ rs. behind rs others) (sym (map-append (row_of names) made (values ∷ [])))
      ∙ ap (λ rs. behind (rows_named names rs) others) (sym pushed)

  pub row_failed : (e : Fault) → row_created parameters max ps before (row_of names row) ≡ Err e → whole ≡ Err e
  row_failed e done = unfolded_row ∙ ap rows_after done
