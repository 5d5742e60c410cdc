-- What the loop over the hops of a trail binds at a turn and at its end.
use Rattle.std.proofs.Common.{◌≡◌, ◌<◌, ◌≤◌, ◌+◌, ℕ, List, [], ◌∷◌, ◌++◌, map, drop, get_or, length, append_assoc, append-nil, refl, sym, ap, ◌∙◌}
use Rattle.std.proofs.lemmas.List.{drop_all}
use Rattle.std.proofs.lemmas.Option.{slice_get_read}
use Rattle.pg_meaning.specs.Patterns.{Bond, node_name, relationship_name, single}
use Rattle.pg_meaning.specs.Tree as tree
use Rattle.pg_meaning.specs.Value.{Value as Datum, node, relationship}
use Rattle.pg_syntax_tree.specs.View.{hop_view, node_view, relationship_view}
use Rattle.pg_syntax_tree.specs.declared.patterns.NodePattern.{NodePattern}
use Rattle.pg_syntax_tree.specs.declared.patterns.RelationshipPattern.{RelationshipPattern}
use Rattle.pg_value_core.specs.View.{view, view_step}
use Rattle.pg_value_core.specs.declared.ids.NodeId.{NodeId}
use Rattle.pg_value_core.specs.declared.ids.RelId.{RelId}
use Rattle.pg_value_core.specs.declared.value.Value.TheFolds.{fold-roll-Value}
use Rattle.pg_value_core.specs.declared.value.Value.TheOpen.{Value-F}
use Rattle.pg_value_core.specs.declared.value.Value.TheVariants.{Node}
use Rattle.pg_value_core.specs.declared.value.Value.TheViews.{rolls-Node}
use Rattle.pg_write_make.proofs.TrailLemmas.{named_first}
use Rattle.pg_write_make.specs.Bindings.{Binding, hop_bindings, named}
use Rattle.pg_write_make.specs.Makings.{node_ids, relationship_ids}
use Rattle.pg_write_make.proofs.RowLemmas.{drop_at}

pub node_seen : (n : NodeId) → view (Node n) ≡ node n.0
node_seen n = ap view (sym (rolls-Node n)) ∙ fold-roll-Value Datum view_step (Value-F.Node n)

no_bond : (hs : List (tree.RelationshipPattern × tree.NodePattern)) (ns : List ℕ) → hop_bindings hs [] ns ≡ []
no_bond [] ns = refl
no_bond (h ∷ hs) ns = refl

no_node : (hs : List (tree.RelationshipPattern × tree.NodePattern)) (bs : List Bond) → hop_bindings hs bs [] ≡ []
no_node [] bs = refl
no_node (h ∷ hs) [] = refl
no_node (h ∷ hs) (b ∷ bs) = refl

module _ (hops : List (RelationshipPattern × NodePattern)) (i : ℕ) (bonds : List RelId) (ahead : List NodeId) (bound whole : List Binding) (rest : whole ≡ bound ++ named (hop_bindings (map hop_view (drop i hops)) (map single (relationship_ids bonds)) (node_ids ahead))) where
  nothing_left : hop_bindings (map hop_view (drop i hops)) (map single (relationship_ids bonds)) (node_ids ahead) ≡ [] → bound ≡ whole
  nothing_left none = sym (rest ∙ ap (λ (bs : List Binding). bound ++ named bs) none ∙ append-nil bound)

  pub bonds_over : bonds ≡ [] → bound ≡ whole
  bonds_over none =
      nothing_left
      (ap (λ (bs : List RelId). hop_bindings (map hop_view (drop i hops)) (map single (relationship_ids bs)) (node_ids ahead)) none
      ∙ no_bond (map hop_view (drop i hops)) (node_ids ahead))

  pub nodes_over : ahead ≡ [] → bound ≡ whole
  nodes_over none =
      nothing_left
      (ap (λ (ns : List NodeId). hop_bindings (map hop_view (drop i hops)) (map single (relationship_ids bonds)) (node_ids ns)) none
      ∙ no_node (map hop_view (drop i hops)) (map single (relationship_ids bonds)))

  pub hops_past : length hops ≤ i → bound ≡ whole
  hops_past past = nothing_left (ap (λ (hs : List (RelationshipPattern × NodePattern)). hop_bindings (map hop_view hs) (map single (relationship_ids bonds)) (node_ids ahead)) (drop_all i hops past))

  pub hop_bound : (h : RelationshipPattern × NodePattern) → h ≡ get_or hops i h → i < length hops → (bond : RelId) (other_bonds : List RelId) (next : NodeId) (others : List NodeId) → bonds ≡ bond ∷ other_bonds → ahead ≡ next ∷ others
      → (first both : List Binding) → first ≡ bound ++ named ((relationship_name (relationship_view h.0), relationship bond.0) ∷ []) → both ≡ first ++ named ((node_name (node_view h.1), view (Node next)) ∷ [])
      → whole ≡ both ++ named (hop_bindings (map hop_view (drop (i + 1) hops)) (map single (relationship_ids other_bonds)) (node_ids others))
  hop_bound h at within bond other_bonds next others bonds_are nodes_are first both first_is both_are =
      let next_hop = drop_at hops i h (slice_get_read hops (length hops) i h refl within at) in
      let later = hop_bindings (map hop_view (drop (i + 1) hops)) (map single (relationship_ids other_bonds)) (node_ids others) in
      let one = named ((relationship_name (relationship_view h.0), relationship bond.0) ∷ []) in
      let two = named ((node_name (node_view h.1), node next.0) ∷ []) in
      rest
      ∙ (λ j. bound ++ named (hop_bindings (map hop_view (next_hop j)) (map single (relationship_ids (bonds_are j))) (node_ids (nodes_are j))))
      ∙ ap (λ (bs : List Binding). bound ++ bs) (named_first (relationship_name (relationship_view h.0)) (relationship bond.0) ((node_name (node_view h.1), node next.0) ∷ later))
      ∙ ap (λ (bs : List Binding). bound ++ (one ++ bs)) (named_first (node_name (node_view h.1)) (node next.0) later)
      ∙ sym (append_assoc bound one (two ++ named later))
      ∙ ap (λ (bs : List Binding). bs ++ (two ++ named later)) (sym first_is)
      ∙ sym (append_assoc first two (named later))
      ∙ ap (λ (v : Datum). (first ++ named ((node_name (node_view h.1), v) ∷ [])) ++ named later) (sym (node_seen next))
      ∙ ap (λ (bs : List Binding). bs ++ named later) (sym both_are)
