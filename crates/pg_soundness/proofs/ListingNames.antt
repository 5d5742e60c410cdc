-- Which names an earlier path binds, as the text says and as a walk has bound them.
use Rattle.std.proofs.Common.{◌≡◌, ℕ, Bool, true, false, cond, ◌||◌, inl, inr, ◌⊎◌, List, [], ◌∷◌, ◌++◌, map, flat_map, Option, Some, None, is_some, bytes_eq, refl, sym, ap, subst, ◌∙◌, true≢false}
use Rattle.pg_meaning.specs.EntriesLaws.{same_text}
use Rattle.pg_meaning.specs.Graph.{Graph}
use Rattle.pg_meaning.specs.Lists.{IsIn}
use Rattle.pg_soundness.proofs.MatchParts.{same_some}
use Rattle.pg_meaning.specs.Names.{Names, is_among}
use Rattle.pg_meaning.specs.Patterns.{PathFits, named_nodes, node_name, nodes_of, text_of, relationship_name, add_path_names}
use Rattle.pg_meaning.specs.Plans.{Fixed}
use Rattle.pg_meaning.specs.Rows.{Row, value_in}
use Rattle.pg_meaning.specs.StaticFaults.{hop_parts, path_variable_part, path_parts}
use Rattle.pg_meaning.specs.Tree.{Name, NodePattern, RelationshipPattern, PathPattern}
use Rattle.pg_meaning.specs.Value.{Value, node, Entries}
use Rattle.pg_soundness.proofs.MatchAnchors.{path_has}
use Rattle.pg_soundness.proofs.MatchAssignments.{Wanting}
use Rattle.pg_soundness.proofs.MatchBindings.{has_name, has_hops, has_paths, among_paths, or_both, is_other_named, NoOther, all_front, all_back, name_of_relationship}
use Rattle.pg_soundness.proofs.MatchLists.{Alike, in_left, in_right, in_either}
use Rattle.pg_soundness.proofs.MatchOrders.{key_names, nodes_named}
use Rattle.pg_soundness.proofs.MatchPaths.{PathKey, Placed, trail_by, names_by, TrailFits}
use Rattle.pg_soundness.proofs.MatchStates.{by_bool, text_itself, by_option, none_some, named_by, OneId, bound_row, Compatible, stays_bound, bound_by, reads_bound}
use Rattle.pg_soundness.proofs.MatchTrails.{key_fits}

-- ---- a name of a path is that of one of its nodes

named_is : (name : Option (List ℕ)) (q : List ℕ) → has_name name q ≡ true → name ≡ Some q
named_is None q e = absurd (true≢false (sym e))
named_is (Some u) q e = ap (λ t. Some t) (sym (same_text q u e))

is_named : (name : Option (List ℕ)) (q : List ℕ) → name ≡ Some q → has_name name q ≡ true
is_named None q e = none_some None q refl e
is_named (Some u) q e = subst (λ t. bytes_eq q t ≡ true) (sym (same_some u q e)) (text_itself q)

or_left : (a b : Bool) → a ≡ true → (a || b) ≡ true
or_left a b e = ap (λ c. c || b) e

skipped : (a b : Bool) → a ≡ false → (a || b) ≡ true → b ≡ true
skipped a b e f = sym (ap (λ c. c || b) e) ∙ f

abbrev IsNodeName : List NodePattern → List ℕ → Type 0
IsNodeName ns q = (n : NodePattern) × IsIn n ns × (node_name n ≡ Some q)

later_node : (m : NodePattern) (ns : List NodePattern) (q : List ℕ) → IsNodeName ns q → IsNodeName (m ∷ ns) q
later_node m ns q k = (k.0, inr k.1, k.2)

module _ (q : List ℕ) where
  -- the names of the nodes are among those that a path has
  node_of_hops : (hs : List (RelationshipPattern × NodePattern)) (n : NodePattern) → IsIn n (map (λ h. h.1) hs) → node_name n ≡ Some q → has_hops hs q ≡ true
  node_of_hops [] n i e = absurd i
  node_of_hops (h ∷ hs) n (inl same) e =
      or_both (has_name (relationship_name h.0) q) (has_name (node_name h.1) q || has_hops hs q)
      (or_left (has_name (node_name h.1) q) (has_hops hs q) (is_named (node_name h.1) q (subst (λ m. node_name m ≡ Some q) same e)))
  node_of_hops (h ∷ hs) n (inr later) e =
      or_both (has_name (relationship_name h.0) q) (has_name (node_name h.1) q || has_hops hs q)
      (or_both (has_name (node_name h.1) q) (has_hops hs q) (node_of_hops hs n later e))

  node_of_path : (x : PathPattern) (n : NodePattern) → IsIn n (nodes_of x) → node_name n ≡ Some q → has_paths (x ∷ []) q ≡ true
  node_of_path x n (inl same) e =
      or_both (has_name (text_of x.variable) q) (has_name (node_name x.first) q || (has_hops x.hops q || false))
      (or_left (has_name (node_name x.first) q) (has_hops x.hops q || false) (is_named (node_name x.first) q (subst (λ m. node_name m ≡ Some q) same e)))
  node_of_path x n (inr later) e =
      or_both (has_name (text_of x.variable) q) (has_name (node_name x.first) q || (has_hops x.hops q || false))
      (or_both (has_name (node_name x.first) q) (has_hops x.hops q || false) (or_left (has_hops x.hops q) false (node_of_hops x.hops n later e)))

  -- and where no relationship or path has the name, a node has it
  hops_node : (hs : List (RelationshipPattern × NodePattern)) → NoOther q (flat_map hop_parts hs) → has_hops hs q ≡ true → IsNodeName (map (λ h. h.1) hs) q
  hops_node [] o e = absurd (true≢false (sym e))
  hops_node (h ∷ hs) o e =
      let rest = skipped (has_name (relationship_name h.0) q) (has_name (node_name h.1) q || has_hops hs q) (ap (λ v. has_name v q) (name_of_relationship h.0) ∙ o.0) e in
      by_bool (has_name (node_name h.1) q)
      (λ here. (h.1, inl refl, named_is (node_name h.1) q here))
      (λ other. later_node h.1 (map (λ h. h.1) hs) q (hops_node hs o.1.1 (skipped (has_name (node_name h.1) q) (has_hops hs q) other rest)))

  variable_other : (v : Option Name) → NoOther q (path_variable_part v) → has_name (text_of v) q ≡ false
  variable_other None o = refl
  variable_other (Some n) o = o.0

  or_false : (b : Bool) → (b || false) ≡ true → b ≡ true
  or_false true e = refl
  or_false false e = e

  path_node : (x : PathPattern) → NoOther q (path_parts x) → has_paths (x ∷ []) q ≡ true → IsNodeName (nodes_of x) q
  path_node x o e =
      let rest = skipped (has_name (text_of x.variable) q) (has_name (node_name x.first) q || (has_hops x.hops q || false)) (variable_other x.variable (all_front (λ y. is_other_named q y ≡ false) (path_variable_part x.variable) _ o)) e in
      by_bool (has_name (node_name x.first) q)
      (λ here. (x.first, inl refl, named_is (node_name x.first) q here))
      (λ other. later_node x.first (map (λ h. h.1) x.hops) q
      (hops_node x.hops (all_back (λ y. is_other_named q y ≡ false) (path_variable_part x.variable) _ o).1
      (or_false (has_hops x.hops q) (skipped (has_name (node_name x.first) q) (has_hops x.hops q || false) other rest))))

  -- each pair of a name and an id is of a node
  named_of : (ps : List NodePattern) (ns : List ℕ) (m : ℕ) → IsIn {X = List ℕ × ℕ} (q, m) (named_nodes ps ns) → IsNodeName ps q
  named_of [] ns m i = absurd i
  named_of (p ∷ ps) [] m i = absurd i
  named_of (p ∷ ps) (n ∷ ns) m i =
      elim (in_either (q, m) (named_by (node_name p) n) (named_nodes ps ns) (subst (IsIn {X = List ℕ × ℕ} (q, m)) (nodes_named p ps n ns) i)) [
        | inl j ↦ (p, inl refl, of_one (node_name p) j)
        | inr j ↦ later_node p ps q (named_of ps ns m j)
      ]
    where
      of_one : (name : Option (List ℕ)) → IsIn {X = List ℕ × ℕ} (q, m) (named_by name n) → name ≡ Some q
      of_one None j = absurd j
      of_one (Some u) (inl same) = ap (λ z. Some z.0) (sym same)
      of_one (Some u) (inr later) = absurd later

module _ (parameters : Entries) (graph : Graph) (row : Row) (IsNodes : List ℕ → Type 0) where
  -- the names in scope at a path are those that the walk has bound, where they are names of nodes
  pub record Naming (named : List (List ℕ × ℕ)) (bound : Names) : Type 0 where
    pub of_row : (q : List ℕ) (u : Value) → value_in q row ≡ Some u → is_among bound q ≡ true
    pub of_named : (q : List ℕ) (m : ℕ) → IsIn {X = List ℕ × ℕ} (q, m) named → is_among bound q ≡ true
    pub of_bound : (q : List ℕ) → IsNodes q → is_among bound q ≡ true → (is_some (value_in q row) ≡ true) ⊎ ((m : ℕ) × IsIn {X = List ℕ × ℕ} (q, m) named)

  pub read_bound : (named : List (List ℕ × ℕ)) (bound : Names) → Naming named bound → (q : List ℕ) (u : Value) → value_in q (bound_row parameters graph row named) ≡ Some u → is_among bound q ≡ true
  read_bound named bound n q u e = elim (bound_by parameters graph row q u named e) [ inl h ↦ n.of_row q u h | inr k ↦ n.of_named q k.0 k.1 ]

  pub unread_free : (named : List (List ℕ × ℕ)) (bound : Names) → Naming named bound → Compatible parameters graph row named → (q : List ℕ) → IsNodes q → value_in q (bound_row parameters graph row named) ≡ None → is_among bound q ≡ false
  unread_free named bound n c q is none =
      by_bool (is_among bound q)
      (λ e. elim (n.of_bound q is e) [
        | inl s ↦ by_option (value_in q row) (λ no. absurd (true≢false (sym s ∙ ap (λ o. is_some o) no))) (λ u some. none_some (value_in q (bound_row parameters graph row named)) u none (stays_bound parameters graph row q u named some))
        | inr k ↦ none_some (value_in q (bound_row parameters graph row named)) (node k.0) none (reads_bound parameters graph row named c (q, k.0) k.1)
      ])
      (λ e. e)

  pub row_naming : Naming [] (map (λ b. b.0) row)
  row_naming = record {
    of_row = λ q u e. among_row row q u e;
    of_named = λ q m i. absurd i;
    of_bound = λ q is e. inl (in_row row q e);
  }
    where
      among_row : (bs : Row) (q : List ℕ) (u : Value) → value_in q bs ≡ Some u → is_among (map (λ b. b.0) bs) q ≡ true
      among_row [] q u e = none_some None u refl e
      among_row (b ∷ bs) q u e = by_bool (bytes_eq q b.0) (λ same. or_left (bytes_eq q b.0) (is_among (map (λ b. b.0) bs) q) same)
          (λ other. or_both (bytes_eq q b.0) (is_among (map (λ b. b.0) bs) q) (among_row bs q u (sym (ap (λ c. cond c (Some b.1) (value_in q bs)) other) ∙ e)))

      in_row : (bs : Row) (q : List ℕ) → is_among (map (λ b. b.0) bs) q ≡ true → is_some (value_in q bs) ≡ true
      in_row [] q e = absurd (true≢false (sym e))
      in_row (b ∷ bs) q e = elim (bytes_eq q b.0) as (λ c. (c || is_among (map (λ b. b.0) bs) q) ≡ true → is_some (cond c (Some b.1) (value_in q bs)) ≡ true) [
        | true ↦ λ f. refl
        | false ↦ λ f. in_row bs q f
      ] e

  -- and so behind the path
  pub path_naming : (leads : List Fixed) (x : PathPattern) (p : Placed) (k : PathKey) → Wanting parameters graph row leads x p → TrailFits parameters graph row p k → ((q : List ℕ) → IsNodes q → NoOther q (path_parts x))
      → (named : List (List ℕ × ℕ)) (bound : Names) → Naming named bound → Naming (names_by p k named) (add_path_names (x ∷ []) bound)
  path_naming leads x p k w f others named bound n = record {
    of_row = λ q u e. grown q (or_left (is_among bound q) (has_paths (x ∷ []) q) (n.of_row q u e));
    of_named = λ q m i. grown q (of_either q m (in_either (q, m) here named (alike.into (q, m) i)));
    of_bound = λ q is e. by_bool (is_among bound q) (λ before. kept q (n.of_bound q is before)) (λ fresh. inr (new q is (skipped (is_among bound q) (has_paths (x ∷ []) q) fresh (sym (among_paths (x ∷ []) bound q) ∙ e))));
  }
    where
      here : List (List ℕ × ℕ)
      here = named_nodes (nodes_of x) (trail_by k).nodes

      alike : Alike OneId (names_by p k named) (here ++ named)
      alike = subst (λ y. Alike OneId (names_by p k named) (named_nodes (nodes_of y) (trail_by k).nodes ++ named)) (sym w.pattern) (key_names parameters graph row x.variable p k named w.placed f)

      grown : (q : List ℕ) → (is_among bound q || has_paths (x ∷ []) q) ≡ true → is_among (add_path_names (x ∷ []) bound) q ≡ true
      grown q e = among_paths (x ∷ []) bound q ∙ e

      of_either : (q : List ℕ) (m : ℕ) → IsIn {X = List ℕ × ℕ} (q, m) here ⊎ IsIn {X = List ℕ × ℕ} (q, m) named → (is_among bound q || has_paths (x ∷ []) q) ≡ true
      of_either q m (inl j) = let o = named_of q (nodes_of x) (trail_by k).nodes m j in or_both (is_among bound q) (has_paths (x ∷ []) q) (node_of_path q x o.0 o.1 o.2)
      of_either q m (inr j) = or_left (is_among bound q) (has_paths (x ∷ []) q) (n.of_named q m j)

      kept : (q : List ℕ) → (is_some (value_in q row) ≡ true) ⊎ ((m : ℕ) × IsIn {X = List ℕ × ℕ} (q, m) named) → (is_some (value_in q row) ≡ true) ⊎ ((m : ℕ) × IsIn {X = List ℕ × ℕ} (q, m) (names_by p k named))
      kept q (inl s) = inl s
      kept q (inr j) = inr (j.0, alike.back (q, j.0) (in_right (q, j.0) here named j.1))

      new : (q : List ℕ) → IsNodes q → has_paths (x ∷ []) q ≡ true → (m : ℕ) × IsIn {X = List ℕ × ℕ} (q, m) (names_by p k named)
      new q is e =
          let o = path_node q x (others q is) e in
          let fits = subst (λ y. PathFits parameters graph row y (trail_by k)) (sym w.pattern) (key_fits parameters graph row x.variable p k w.placed f) in
          let id = path_has parameters graph row x (trail_by k) o.0 q fits o.1 o.2 in
          (id.0, alike.back (q, id.0) (in_left (q, id.0) here named id.1))
