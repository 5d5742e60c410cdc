-- What a row binds when one more name is bound, and when a match is.
use Rattle.std.proofs.Common.{◌≡◌, ℕ, Bool, true, false, cond, ◌||◌, ◌⊎◌, inl, inr, List, [], ◌∷◌, ◌++◌, map, length, suc, pred, Option, Some, None, is_some, bytes_eq, refl, sym, ap, ◌∙◌, arith}
use Rattle.std.proofs.lemmas.Slice.Eq.{bytes_eq-Decides}
use Rattle.std.specs.List.{AllZip}
use Rattle.pg_soundness.proofs.MakingPlaces.{known_with}
use Rattle.pg_soundness.proofs.RowNames.{BindsOnly, among_behind, binds_if_named}
use Rattle.pg_meaning.specs.Graph.{Graph}
use Rattle.pg_meaning.specs.Names.{Names, is_among}
use Rattle.pg_meaning.specs.Patterns.{nodes_of, node_name, relationship_name, text_of, path_value, bond_value, Bond, Trail, Assignment, bind_hops, bind_path, bind_match, add_if_named, add_hop_names, add_path_names}
use Rattle.pg_meaning.specs.Rows.{Row, value_in, bind_new, bind_if_named}
use Rattle.pg_meaning.specs.Tree.{NodePattern, RelationshipPattern, PathPattern}
use Rattle.pg_meaning.specs.Value.{Value, node}
use Rattle.pg_meaning.specs.Walks.{bound_value}

-- ---- one more name

found_before : (q name : List ℕ) (v w : Value) (row : Row) → value_in q row ≡ Some w → value_in q (row ++ (name, v) ∷ []) ≡ Some w
found_before q name v w [] h = cc
found_before q name v w (b ∷ row) h =
    elim (bytes_eq q b.0) as (λ c. cond c (Some b.1) (value_in q row) ≡ Some w → cond c (Some b.1) (value_in q (row ++ (name, v) ∷ [])) ≡ Some w) [
      | true ↦ λ e. e
      | false ↦ λ e. found_before q name v w row e
    ] h

found_behind : (name : List ℕ) (v : Value) (row : Row) → value_in name row ≡ None → value_in name (row ++ (name, v) ∷ []) ≡ Some v
found_behind name v [] h = ap (λ c. cond c (Some v) None) ((bytes_eq-Decides name name).1 refl)
found_behind name v (b ∷ row) h =
    elim (bytes_eq name b.0) as (λ c. cond c (Some b.1) (value_in name row) ≡ None → cond c (Some b.1) (value_in name (row ++ (name, v) ∷ [])) ≡ Some v) [
      | true ↦ λ e. cc
      | false ↦ λ e. found_behind name v row e
    ] h

found_either : (q name : List ℕ) (v w : Value) (row : Row) → value_in q (row ++ (name, v) ∷ []) ≡ Some w → (value_in q row ≡ Some w) ⊎ (w ≡ v)
found_either q name v w [] h =
    elim (bytes_eq q name) as (λ c. cond c (Some v) (let none : Option Value = None in none) ≡ Some w → (let none : Option Value = None in none ≡ Some w) ⊎ (w ≡ v)) [
      | true ↦ λ e. inr (sym (ap (λ o. elim o [ Some x ↦ x | None ↦ v ]) e))
      | false ↦ λ e. cc
    ] h
found_either q name v w (b ∷ row) h =
    elim (bytes_eq q b.0) as (λ c. cond c (Some b.1) (value_in q (row ++ (name, v) ∷ [])) ≡ Some w → (cond c (Some b.1) (value_in q row) ≡ Some w) ⊎ (w ≡ v)) [
      | true ↦ λ e. inl e
      | false ↦ λ e. found_either q name v w row e
    ] h

new_is_bound : (name : List ℕ) (v w : Value) (q : List ℕ) (row : Row) → value_in q row ≡ Some w → value_in q (bind_new name v row) ≡ Some w
new_is_bound name v w q row h = elim (is_some (value_in name row)) as (λ c. value_in q (cond c row (row ++ (name, v) ∷ [])) ≡ Some w) [ true ↦ h | false ↦ found_before q name v w row h ]

-- what was bound stays
pub still_bound : (name : Option (List ℕ)) (v w : Value) (q : List ℕ) (row : Row) → value_in q row ≡ Some w → value_in q (bind_if_named name v row) ≡ Some w
still_bound None v w q row h = h
still_bound (Some name) v w q row h = new_is_bound name v w q row h

pub value_still_bound : (name : Option (List ℕ)) (v w : Value) (q : Option (List ℕ)) (row : Row) → bound_value q row ≡ Some w → bound_value q (bind_if_named name v row) ≡ Some w
value_still_bound name v w None row h = cc
value_still_bound name v w (Some q) row h = still_bound name v w q row h

-- the new name has its value
pub now_bound : (name : Option (List ℕ)) (v : Value) (row : Row) → bound_value name row ≡ None → (name ≡ None) ⊎ (bound_value name (bind_if_named name v row) ≡ Some v)
now_bound None v row h = inl refl
now_bound (Some name) v row h =
    inr (ap (λ o. value_in name (cond (is_some o) row (row ++ (name, v) ∷ []))) h ∙ found_behind name v row h)

-- each name has what it had, or the new value
pub bound_before : (name : Option (List ℕ)) (v w : Value) (q : List ℕ) (row : Row) → value_in q (bind_if_named name v row) ≡ Some w → (value_in q row ≡ Some w) ⊎ (w ≡ v)
bound_before None v w q row h = inl h
bound_before (Some name) v w q row h =
    elim (is_some (value_in name row)) as (λ c. value_in q (cond c row (row ++ (name, v) ∷ [])) ≡ Some w → (value_in q row ≡ Some w) ⊎ (w ≡ v)) [
      | true ↦ λ e. inl e
      | false ↦ λ e. found_either q name v w row e
    ] h

or_turned : (a b : Bool) → (a || b) ≡ (b || a)
or_turned true true = refl
or_turned true false = refl
or_turned false true = refl
or_turned false false = refl

-- the names of a row and those of the places are the same, whatever their order
same_names : (names : Names) (name : Option (List ℕ)) (q : List ℕ) → is_among (add_if_named name names) q ≡ is_among (known_with names name) q
same_names names None q = refl
same_names names (Some name) q =
    elim (is_among names name) as (λ b. is_among (cond b names (names ++ name ∷ [])) q ≡ is_among (cond b names (name ∷ names)) q) [
      | true ↦ refl
      | false ↦ among_behind q name names ∙ or_turned (is_among names q) (bytes_eq q name)
    ]

pub binds_known : (names : Names) (row : Row) (name : Option (List ℕ)) (v : Value) → BindsOnly names row → BindsOnly (known_with names name) (bind_if_named name v row)
binds_known names row name v h = λ q. binds_if_named names row name v h q ∙ same_names names name q

-- ---- a match

pub as_many_nodes : (hs : List (RelationshipPattern × NodePattern)) → length (map (λ h. h.1) hs) ≡ length hs
as_many_nodes [] = refl
as_many_nodes (h ∷ hs) = ap suc (as_many_nodes hs)

-- a node a place, a bond a hop
abbrev pub HasShape : PathPattern → Trail → Type 0
HasShape p t = (length t.nodes ≡ length (nodes_of p)) × (length t.bonds ≡ length p.hops)

binds_hops : (hs : List (RelationshipPattern × NodePattern)) (bs : List Bond) (ns : List ℕ) (names : Names) (row : Row) → length bs ≡ length hs → length ns ≡ length hs → BindsOnly names row
    → BindsOnly (add_hop_names hs names) (bind_hops hs bs ns row)
binds_hops [] bs ns names row e f h = h
binds_hops (p ∷ hs) [] ns names row e f h = cc
binds_hops (p ∷ hs) (b ∷ bs) [] names row e f h = cc
binds_hops (p ∷ hs) (b ∷ bs) (n ∷ ns) names row e f h =
    binds_hops hs bs ns (add_if_named (node_name p.1) (add_if_named (relationship_name p.0) names)) (bind_if_named (node_name p.1) (node n) (bind_if_named (relationship_name p.0) (bond_value b) row))
    (omega arith) (omega arith)
    (binds_if_named (add_if_named (relationship_name p.0) names) (bind_if_named (relationship_name p.0) (bond_value b) row) (node_name p.1) (node n) (binds_if_named names row (relationship_name p.0) (bond_value b) h))

binds_path : (graph : Graph) (p : PathPattern) (t : Trail) (names : Names) (row : Row) → HasShape p t → BindsOnly names row → BindsOnly (add_path_names (p ∷ []) names) (bind_path graph p t row)
binds_path graph p t names row shape h = by_nodes t.nodes shape.0
  where
    by_nodes : (ns : List ℕ) → length ns ≡ length (nodes_of p)
        → BindsOnly (add_path_names (p ∷ []) names) (elim ns [ [] ↦ bind_if_named (text_of p.variable) (path_value graph t) row | n ∷ ns ↦ bind_hops p.hops t.bonds ns (bind_if_named (node_name p.first) (node n) (bind_if_named (text_of p.variable) (path_value graph t) row)) ])
    by_nodes [] e = cc
    by_nodes (n ∷ ns) e =
        binds_hops p.hops t.bonds ns (add_if_named (node_name p.first) (add_if_named (text_of p.variable) names)) (bind_if_named (node_name p.first) (node n) (bind_if_named (text_of p.variable) (path_value graph t) row))
        shape.1 (as_many ns p.hops e)
        (binds_if_named (add_if_named (text_of p.variable) names) (bind_if_named (text_of p.variable) (path_value graph t) row) (node_name p.first) (node n) (binds_if_named names row (text_of p.variable) (path_value graph t) h))
      where
        as_many : (ns : List ℕ) (hs : List (RelationshipPattern × NodePattern)) → length (n ∷ ns) ≡ length (p.first ∷ map (λ h. h.1) hs) → length ns ≡ length hs
        as_many ns hs e = ap pred e ∙ as_many_nodes hs

pub binds_match : (graph : Graph) (paths : List PathPattern) (ts : Assignment) (names : Names) (row : Row) → AllZip HasShape paths ts → BindsOnly names row → BindsOnly (add_path_names paths names) (bind_match graph paths ts row)
binds_match graph [] [] names row shapes h = h
binds_match graph [] (t ∷ ts) names row shapes h = absurd shapes
binds_match graph (p ∷ ps) [] names row shapes h = absurd shapes
binds_match graph (p ∷ ps) (t ∷ ts) names row shapes h =
    binds_match graph ps ts (add_path_names (p ∷ []) names) (bind_path graph p t row) shapes.1 (binds_path graph p t names row shapes.0 h)
