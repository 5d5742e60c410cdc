-- A row that gets the variables of a short path, which has no variable of its own.
use Rattle.std.proofs.Common.{◌≡◌, ◌≤◌, ℕ, true, false, List, [], ◌∷◌, ◌++◌, map, length, take, append-nil, Option, Some, None, is_some, subst, Result, Ok, Err, refl, sym, ap, ◌∙◌}
use Rattle.std.proofs.lemmas.List.{length-map}
use Rattle.std.specs.Prelude.{OnOk}
use Rattle.std.specs.declared.alloc.AllocError.{AllocError}
use Rattle.pg_meaning.specs.Answer.{◌>>=◌}
use Rattle.pg_meaning.specs.Graph.{Graph}
use Rattle.pg_meaning.specs.Patterns.{Assignment, Trail, add_path_names, bind_match, node_name, nodes_of, path_value, relationship_name, single, text_of}
use Rattle.pg_meaning.specs.Reading.{test_nodes, test_paths}
use Rattle.pg_meaning.specs.Rows.{Row, bind_if_named, value_in}
use Rattle.pg_meaning.specs.Tree.{NodePattern, PathPattern, RelationshipPattern}
use Rattle.pg_meaning.specs.Value.{Value as Datum, Entries, node, relationship}
use Rattle.pg_meaning.specs.declared.fault.Fault.{Fault}
use Rattle.pg_rows.specs.Named.{row_of}
use Rattle.pg_value_core.specs.View.{view}
use Rattle.pg_value_core.specs.declared.value.Value.{Value}
use Rattle.pg_write_make.proofs.BindingLemmas.{match_bound}
use Rattle.pg_write_make.proofs.NameLemmas.{all_bound, bound_already, bound_now}
use Rattle.pg_write_make.proofs.ShapeLemmas.{named_alike, ready_row}
use Rattle.pg_write_make.specs.Bindings.{Binding, bind_each, hop_bindings, match_bindings, names_in, path_bindings, EndsWith, add_each}
use Rattle.pg_write_make.specs.Creations.{path_left, row_made}
use Rattle.pg_write_make.specs.Outcomes.{Outcomes, path_made, path_outcomes, paths_made, trail_of}
use Rattle.pg_write_make.specs.Scenes.{reading}

-- one variable, whatever is bound behind it
abbrev pub Binds : List (List ℕ) → (before after : List Datum) → Option (List ℕ) → Datum → Type 0
Binds names before after o v = (bs : List Binding) → EndsWith names before ((o, v) ∷ bs) → EndsWith names after bs × (bind_if_named o v (row_of names before) ≡ row_of names after)

module _ (names : List (List ℕ)) (vs : List Datum) (o : Option (List ℕ)) (v : Datum) where
  pub binds_nothing : o ≡ None → Binds names vs vs o v
  binds_nothing none = subst (λ (p : Option (List ℕ)). Binds names vs vs p v) (sym none) (λ bs e. (record { within = e.within; ends = e.ends }, refl))

  pub binds_old : (n : List ℕ) → o ≡ Some n → is_some (value_in n (row_of names vs)) ≡ true → Binds names vs vs o v
  binds_old n some is = subst (λ (p : Option (List ℕ)). Binds names vs vs p v) (sym some) (λ bs e. bound_already names vs n v bs is e)

  pub binds_last : (n : List ℕ) (ws : List Datum) → o ≡ Some n → is_some (value_in n (row_of names vs)) ≡ false → ws ≡ vs ++ v ∷ [] → Binds names vs ws o v
  binds_last n ws some is pushed =
      subst (λ (p : Option (List ℕ)). Binds names vs ws p v) (sym some)
      (subst (λ (us : List Datum). Binds names vs us (Some n) v) (sym pushed) (λ bs e. bound_now names vs n v bs is e))

pub binds_value : (names : List (List ℕ)) (before after : List Datum) (o : Option (List ℕ)) (v w : Datum) → v ≡ w → Binds names before after o v → Binds names before after o w
binds_value names before after o v w same binds = subst (λ (u : Datum). Binds names before after o u) same binds

-- the last variable
pub binds_whole : (names : List (List ℕ)) (before : List Datum) (values : List Value) (o : Option (List ℕ)) (v : Datum) → EndsWith names before ((o, v) ∷ []) → Binds names before (map view values) o v
    → (row_of names (map view values) ≡ bind_each ((o, v) ∷ []) (row_of names before)) × (length values ≡ length names)
binds_whole names before values o v ends binds =
    let last = binds [] ends in
    (sym last.1, sym (length-map values view) ∙ all_bound names (map view values) last.0)

pub on_map : {X P Q : Type 0} (r : Result X AllocError) → (P → Q) → OnOk r P → OnOk r Q
on_map (Ok x) f p = f p
on_map (Err e) f p = tt

pub on_both : {X P Q R : Type 0} (r : Result X AllocError) → (P → Q × R) → OnOk r P → OnOk r Q × OnOk r R
on_both (Ok x) f p = f p
on_both (Err e) f p = (tt, tt)

-- the tests of a path by itself
pub one_tested : (graph : Graph) (row : Row) (p : PathPattern) → test_paths false graph row (p ∷ []) ≡ Ok tt → test_nodes false graph row (nodes_of p) ≡ Ok tt
one_tested graph row p tested = ap (test_nodes false graph row) (sym (append-nil (nodes_of p))) ∙ tested

-- what is bound for a path of one node, and for one of one relationship
module _ (graph : Graph) (p : PathPattern) (unnamed : p.variable ≡ None) where
  pub node_binds : (id : ℕ) → p.hops ≡ [] → path_bindings graph p (trail_of (id ∷ []) []) ≡ (None, path_value graph (trail_of (id ∷ []) [])) ∷ (node_name p.first, node id) ∷ []
  node_binds id alone = λ i. (text_of (unnamed i), path_value graph (trail_of (id ∷ []) [])) ∷ (node_name p.first, node id) ∷ hop_bindings (alone i) [] []

  pub bond_binds : (h : RelationshipPattern × NodePattern) (left right id : ℕ) → p.hops ≡ h ∷ []
      → path_bindings graph p (trail_of (left ∷ right ∷ []) (id ∷ [])) ≡ (None, path_value graph (trail_of (left ∷ right ∷ []) (id ∷ []))) ∷ (node_name p.first, node left) ∷ (relationship_name h.0, relationship id) ∷ (node_name h.1, node right) ∷ []
  bond_binds h left right id alone =
      λ i. (text_of (unnamed i), path_value graph (trail_of (left ∷ right ∷ []) (id ∷ []))) ∷ (node_name p.first, node left) ∷ hop_bindings (alone i) (single id ∷ []) (right ∷ [])

module _ (parameters : Entries) (max : ℕ) (names : List (List ℕ)) (values : List Value) (ps : List PathPattern) (few : length values ≤ length names) (all : add_path_names ps (take (length values) names) ≡ names) where
  abbrev row : Row
  row = row_of names (map view values)

  module _ (graph : Graph) (p : PathPattern) (alone : ps ≡ p ∷ []) where
    abbrev made_of : Result (Graph × Row × Trail) Fault → Result (Graph × Assignment) Fault
    made_of r = r >>= λ (made : Graph × Row × Trail). Ok (made.0, made.2 ∷ [])

    abbrev left_of : Result (Graph × Row × Trail) Fault → Result (Graph × Trail) Fault
    left_of r = r >>= λ (made : Graph × Row × Trail). Ok (made.0, made.2)

    abbrev given : List Outcomes
    given = map (path_outcomes (reading parameters) graph row) ps

    abbrev with_names : Result (Graph × Assignment) Fault → Result (Graph × Row) Fault
    with_names r = r >>= λ (made : Graph × Assignment). Ok (made.0, bind_match made.0 ps made.1 row)

    paths_are : paths_made max given ps (graph, row) ≡ made_of (path_made max (path_outcomes (reading parameters) graph row p) p (graph, row))
    paths_are = ap (λ qs. paths_made max (map (path_outcomes (reading parameters) graph row) qs) qs (graph, row)) alone

    pub row_unmade : (e : Fault) → path_left parameters max p graph row ≡ Err e → row_made parameters max ps graph row ≡ Err e
    row_unmade e left = by_path (path_made max (path_outcomes (reading parameters) graph row p) p (graph, row)) paths_are left
      where
        by_path : (r : Result (Graph × Row × Trail) Fault) → paths_made max given ps (graph, row) ≡ made_of r → left_of r ≡ Err e → row_made parameters max ps graph row ≡ Err e
        by_path (Ok made) is h = absurd cc
        by_path (Err f) is h =
            let same : f ≡ e = cc in
            ap with_names is ∙ ap Err same

    module _ (after : Graph) (t : Trail) (left : path_left parameters max p graph row ≡ Ok (after, t)) (bs : List Binding) (are : path_bindings after p t ≡ (None, path_value after t) ∷ bs) where
      made : paths_made max given ps (graph, row) ≡ Ok (after, t ∷ [])
      made = by_path (path_made max (path_outcomes (reading parameters) graph row p) p (graph, row)) paths_are left
        where
          by_path : (r : Result (Graph × Row × Trail) Fault) → paths_made max given ps (graph, row) ≡ made_of r → left_of r ≡ Ok (after, t) → paths_made max given ps (graph, row) ≡ Ok (after, t ∷ [])
          by_path (Ok m) is h =
              let same : ◌≡◌ {A = Graph × Trail} (m.0, m.2) (after, t) = cc in
              is ∙ ap (λ (l : Graph × Trail). Ok (l.0, l.1 ∷ [])) same
          by_path (Err f) is h = absurd cc

      match_are : match_bindings after ps (t ∷ []) ≡ (None, path_value after t) ∷ bs
      match_are = ap (λ qs. match_bindings after qs (t ∷ [])) alone ∙ append-nil (path_bindings after p t) ∙ are

      pub ready_alone : EndsWith names (map view values) bs
      ready_alone =
          let e = ready_row max (reading parameters) graph graph after after names values given ps (t ∷ []) few all refl refl refl made in
          let xs = names_in row in
          record {
            within = e.within;
            ends = ap (λ cs. add_each (map (λ b. b.0) cs) xs) (sym match_are) ∙ sym (named_alike (match_bindings after ps (t ∷ [])) xs) ∙ e.ends;
          }

      pub row_alone : (found : Row) → found ≡ bind_each bs row → row_made parameters max ps graph row ≡ Ok (after, found)
      row_alone found is =
          ap with_names made
          ∙ ap (λ (r : Row). Ok (after, r)) (match_bound after ps (t ∷ []) row ∙ ap (λ cs. bind_each cs row) match_are ∙ sym is)
