-- One path from its nodes and relationships, and what the loop over paths needs at its start and at its end.
use Rattle.std.proofs.Common.{◌≡◌, ◌≤◌, ℕ, List, [], ◌∷◌, ◌++◌, map, drop, length, append-nil, Result, Ok, Err, refl, sym, subst, ap, ◌∙◌}
use Rattle.std.proofs.lemmas.List.{drop_all}
use Rattle.std.specs.Borrow.{Bor}
use Rattle.pg_meaning.specs.Answer.{◌>>=◌}
use Rattle.pg_meaning.specs.Graph.{Graph}
use Rattle.pg_meaning.specs.Patterns.{Assignment, Trail, nodes_of}
use Rattle.pg_meaning.specs.Rows.{Row}
use Rattle.pg_meaning.specs.Tree as tree
use Rattle.pg_meaning.specs.Updates.{Making}
use Rattle.pg_meaning.specs.declared.fault.Fault.{Fault}
use Rattle.pg_syntax_tree.specs.declared.patterns.PathPattern.{PathPattern}
use Rattle.pg_value_core.specs.declared.ids.NodeId.{NodeId}
use Rattle.pg_write_make.proofs.CreatedRowLemmas.{behind_none}
use Rattle.pg_write_make.proofs.StepLemmas.{behind}
use Rattle.pg_write_make.specs.Lent.{kept_view, paths_view, trail_view}
use Rattle.pg_write_make.specs.Makings.{bindings, named_ids, AreThere}
use Rattle.pg_write_make.specs.declared.kept.Kept.{Kept}
use Rattle.pg_write_make.specs.declared.paths.Trail.{Trail as Code}
use Rattle.pg_write_make.specs.Outcomes.{Outcomes, bonds_made, nodes_made, path_made, paths_made, relationships_of, trail_of}

-- ---- one path

module _ (max : ℕ) (os : Outcomes) (p : tree.PathPattern) (graph : Graph) (row : Row) where
  abbrev none_made : Making
  none_made = record { graph = graph; bound = row; ids = [] }

  abbrev with_bonds : Making → Result (Graph × List ℕ) Fault → Result (Graph × Row × Trail) Fault
  with_bonds m r = r >>= λ (made : Graph × List ℕ). Ok (made.0, m.bound, trail_of m.ids made.1)

  abbrev with_nodes : Result Making Fault → Result (Graph × Row × Trail) Fault
  with_nodes r = r >>= λ (m : Making). with_bonds m (bonds_made max os.1 (relationships_of p) m.ids m.graph)

  pub nodes_failed : (e : Fault) → nodes_made max os.0 (nodes_of p) none_made ≡ Err e → path_made max os p (graph, row) ≡ Err e
  nodes_failed e nodes = ap with_nodes nodes

  module _ (m : Making) (nodes : nodes_made max os.0 (nodes_of p) none_made ≡ Ok m) where
    pub bonds_failed : (e : Fault) → bonds_made max os.1 (relationships_of p) m.ids m.graph ≡ Err e → path_made max os p (graph, row) ≡ Err e
    bonds_failed e bonds = ap with_nodes nodes ∙ ap (with_bonds m) bonds

    pub all_joined : (after : Graph) (ids : List ℕ) → bonds_made max os.1 (relationships_of p) m.ids m.graph ≡ Ok (after, ids) → path_made max os p (graph, row) ≡ Ok (after, m.bound, trail_of m.ids ids)
    all_joined after ids bonds = ap with_nodes nodes ∙ ap (with_bonds m) bonds

-- ---- all paths

pub none_named : (graph : Graph) (named : List (Bor (List ℕ) × NodeId)) → named ≡ [] → AreThere graph (named_ids named)
none_named graph named none = subst (λ (bs : List (Bor (List ℕ) × NodeId)). AreThere graph (named_ids bs)) (sym none) tt

nothing_kept : (max : ℕ) (ps : List tree.PathPattern) (graph : Graph) (row : Row) → paths_made max [] ps (graph, row) ≡ Ok (graph, [])
nothing_kept max [] graph row = refl
nothing_kept max (p ∷ ps) graph row = refl

no_path : (max : ℕ) (os : List Outcomes) (graph : Graph) (row : Row) → paths_made max os [] (graph, row) ≡ Ok (graph, [])
no_path max os graph row = refl

module _ (max : ℕ) (ps : List PathPattern) (graph : Graph) (trails : List Code) where
  pub paths_begun : (kept ks : List Kept) (row : Row) (named : List (Bor (List ℕ) × NodeId)) → ks ≡ kept → named ≡ [] → trails ≡ []
      → paths_made max (map kept_view kept) (paths_view ps) (graph, row) ≡ behind (map trail_view trails) (paths_made max (map kept_view ks) (paths_view ps) (graph, row ++ bindings named))
  paths_begun kept ks row named same none empty =
      behind_none (paths_made max (map kept_view kept) (paths_view ps) (graph, row))
      ∙ ap (λ (ts : List Code). behind (map trail_view ts) (paths_made max (map kept_view kept) (paths_view ps) (graph, row))) (sym empty)
      ∙ ap (λ (ks : List Kept). behind (map trail_view trails) (paths_made max (map kept_view ks) (paths_view ps) (graph, row))) (sym same)
      ∙ ap (λ (bound : Row). behind (map trail_view trails) (paths_made max (map kept_view ks) (paths_view ps) (graph, bound)))
      (sym (append-nil row) ∙ ap (λ (bs : List (Bor (List ℕ) × NodeId)). row ++ bindings bs) (sym none))

  module _ (ks : List Kept) (i : ℕ) (row : Row) (whole : Result (Graph × Assignment) Fault) (rest : whole ≡ behind (map trail_view trails) (paths_made max (map kept_view ks) (paths_view (drop i ps)) (graph, row))) where
    all_made : whole ≡ behind (map trail_view trails) (Ok (graph, [])) → whole ≡ Ok (graph, map trail_view trails)
    all_made h = h ∙ ap (λ (ts : Assignment). Ok (graph, ts)) (append-nil (map trail_view trails))

    -- nothing that was kept is left
    pub paths_over : ks ≡ [] → whole ≡ Ok (graph, map trail_view trails)
    paths_over none =
        all_made
        (rest
        ∙ ap (λ (ks : List Kept). behind (map trail_view trails) (paths_made max (map kept_view ks) (paths_view (drop i ps)) (graph, row))) none
        ∙ ap (behind (map trail_view trails)) (nothing_kept max (paths_view (drop i ps)) graph row))

    -- no path is left
    pub paths_past : length ps ≤ i → whole ≡ Ok (graph, map trail_view trails)
    paths_past past =
        all_made
        (rest
        ∙ ap (λ (ps : List PathPattern). behind (map trail_view trails) (paths_made max (map kept_view ks) (paths_view ps) (graph, row))) (drop_all i ps past)
        ∙ ap (behind (map trail_view trails)) (no_path max (map kept_view ks) graph row))
