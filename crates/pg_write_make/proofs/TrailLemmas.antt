-- What trails bind, part by part.
use Rattle.std.proofs.Common.{◌≡◌, ◌≤◌, ℕ, List, [], ◌∷◌, ◌++◌, map, flat_map, drop, length, append-nil, Option, Some, None, refl, ap, ◌∙◌, arith}
use Rattle.std.proofs.lemmas.List.{drop_all}
use Rattle.pg_meaning.specs.Graph.{Graph}
use Rattle.pg_meaning.specs.Patterns.{bond_ids, path_value, single, walk_on}
use Rattle.pg_meaning.specs.Rows.{Row, bind_if_named}
use Rattle.pg_meaning.specs.Tree.{PathPattern}
use Rattle.pg_meaning.specs.Value.{Value, path}
use Rattle.pg_syntax_tree.specs.declared.patterns.PathPattern.{PathPattern as PathCode}
use Rattle.pg_value_core.specs.declared.ids.NodeId.{NodeId}
use Rattle.pg_value_core.specs.declared.ids.RelId.{RelId}
use Rattle.pg_write_make.specs.Makings.{node_ids, relationship_ids}
use Rattle.pg_write_make.specs.Outcomes.{trail_of}
use Rattle.pg_write_make.specs.Bindings.{Binding, bind_each, match_bindings, named}
use Rattle.pg_write_make.specs.Lent.{paths_view, trail_view}
use Rattle.pg_write_make.specs.declared.paths.Trail.{Trail as TrailCode}

pub named_first : (o : Option (List ℕ)) (v : Value) (bs : List Binding) → named ((o, v) ∷ bs) ≡ named ((o, v) ∷ []) ++ named bs
named_first None v bs = refl
named_first (Some name) v bs = refl

pub named_both : (as_ bs : List Binding) → named (as_ ++ bs) ≡ named as_ ++ named bs
named_both [] bs = refl
named_both (a ∷ as_) bs = by_name a.0 (named_both as_ bs)
  where
    by_name : (o : Option (List ℕ)) → named (as_ ++ bs) ≡ named as_ ++ named bs → named ((o, a.1) ∷ as_ ++ bs) ≡ named ((o, a.1) ∷ as_) ++ named bs
    by_name None h = h
    by_name (Some name) h = ap (λ cs. (Some name, a.1) ∷ cs) h

pub bind_named : (bs : List Binding) (row : Row) → bind_each (named bs) row ≡ bind_each bs row
bind_named [] row = refl
bind_named (b ∷ bs) row = by_name (λ r. bind_named bs r) b.0
  where
    by_name : ((r : Row) → bind_each (named bs) r ≡ bind_each bs r) → (o : Option (List ℕ)) → bind_each (named ((o, b.1) ∷ bs)) row ≡ bind_each bs (bind_if_named o b.1 row)
    by_name rest None = rest row
    by_name rest (Some name) = rest (bind_if_named (Some name) b.1 row)

pub singles : (rs : List ℕ) → flat_map bond_ids (map single rs) ≡ rs
singles [] = refl
singles (r ∷ rs) = ap (λ qs. r ∷ qs) (singles rs)

module _ (graph : Graph) (nodes : List NodeId) (rels : List RelId) where
  pub path_seen : (n : NodeId) (others : List NodeId) → nodes ≡ n ∷ others → path_value graph (trail_of (node_ids nodes) (relationship_ids rels)) ≡ path (n.0 ∷ walk_on graph n.0 (relationship_ids rels))
  path_seen n others h = ap (λ ns. path_value graph (trail_of (node_ids ns) (relationship_ids rels))) h ∙ ap (λ rs. path (n.0 ∷ walk_on graph n.0 rs)) (singles (relationship_ids rels))

  pub path_of_none : nodes ≡ [] → path_value graph (trail_of (node_ids nodes) (relationship_ids rels)) ≡ path []
  path_of_none h = ap (λ ns. path_value graph (trail_of (node_ids ns) (relationship_ids rels))) h

pub none_there : {X : Type 0} (xs : List X) → length xs ≡ 0 → xs ≡ []
none_there [] h = refl
none_there (x ∷ xs) h = absurd (omega (arith, h))

nothing_bound : (graph : Graph) (ps : List PathPattern) → match_bindings graph ps [] ≡ []
nothing_bound graph [] = refl
nothing_bound graph (p ∷ ps) = refl

module _ (graph : Graph) (ps : List PathCode) (i : ℕ) (ts : List TrailCode) (bs whole : List Binding) (so_far : whole ≡ bs ++ named (match_bindings graph (paths_view (drop i ps)) (map trail_view ts))) where
  pub bindings_over : ts ≡ [] → whole ≡ bs
  bindings_over none =
      so_far
      ∙ ap (λ rest. bs ++ named (match_bindings graph (paths_view (drop i ps)) (map trail_view rest))) none
      ∙ ap (λ more. bs ++ named more) (nothing_bound graph (paths_view (drop i ps)))
      ∙ append-nil bs

  pub bindings_past : length ps ≤ i → whole ≡ bs
  bindings_past past = so_far ∙ ap (λ rest. bs ++ named (match_bindings graph (paths_view rest) (map trail_view ts))) (drop_all i ps past) ∙ append-nil bs
