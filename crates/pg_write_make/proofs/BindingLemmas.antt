-- A match binds its variables one after the other.
use Rattle.std.proofs.Common.{◌≡◌, ℕ, List, [], ◌∷◌, ◌++◌, refl, sym, ap, ◌∙◌}
use Rattle.pg_meaning.specs.Graph.{Graph}
use Rattle.pg_meaning.specs.Patterns.{bind_hops, bind_path, bind_match, Bond, Trail, Assignment, text_of, node_name, path_value}
use Rattle.pg_meaning.specs.Rows.{Row, bind_if_named}
use Rattle.pg_meaning.specs.Tree.{NodePattern, RelationshipPattern, PathPattern}
use Rattle.pg_meaning.specs.Value.{node}
use Rattle.pg_write_make.specs.Bindings.{Binding, bind_each, hop_bindings, path_bindings, match_bindings}

bind_both : (as_ bs : List Binding) (row : Row) → bind_each (as_ ++ bs) row ≡ bind_each bs (bind_each as_ row)
bind_both [] bs row = refl
bind_both (a ∷ as_) bs row = bind_both as_ bs (bind_if_named a.0 a.1 row)

hops_bound : (hs : List (RelationshipPattern × NodePattern)) (bs : List Bond) (ns : List ℕ) (row : Row) → bind_hops hs bs ns row ≡ bind_each (hop_bindings hs bs ns) row
hops_bound [] bs ns row = refl
hops_bound (h ∷ hs) [] ns row = refl
hops_bound (h ∷ hs) (b ∷ bs) [] row = refl
hops_bound (h ∷ hs) (b ∷ bs) (n ∷ ns) row = hops_bound hs bs ns _

path_bound : (graph : Graph) (p : PathPattern) (t : Trail) (row : Row) → bind_path graph p t row ≡ bind_each (path_bindings graph p t) row
path_bound graph p t row = by_nodes t.nodes
  where
    by_nodes : (ns : List ℕ) → (let row1 = bind_if_named (text_of p.variable) (path_value graph t) row in
        elim ns [ [] ↦ row1 | n ∷ ms ↦ bind_hops p.hops t.bonds ms (bind_if_named (node_name p.first) (node n) row1) ]
        ≡ bind_each (elim ns [ [] ↦ [] | n ∷ ms ↦ (node_name p.first, node n) ∷ hop_bindings p.hops t.bonds ms ]) row1)
    by_nodes [] = refl
    by_nodes (n ∷ ms) = hops_bound p.hops t.bonds ms _

pub match_bound : (graph : Graph) (ps : List PathPattern) (ts : Assignment) (row : Row) → bind_match graph ps ts row ≡ bind_each (match_bindings graph ps ts) row
match_bound graph [] ts row = refl
match_bound graph (p ∷ ps) [] row = refl
match_bound graph (p ∷ ps) (t ∷ ts) row =
    ap (bind_match graph ps ts) (path_bound graph p t row)
    ∙ match_bound graph ps ts (bind_each (path_bindings graph p t) row)
    ∙ sym (bind_both (path_bindings graph p t) (match_bindings graph ps ts) row)
