-- What is gathered is what the definition dooms.
use Rattle.std.proofs.Common.{◌≡◌, ◌==◌, ℕ, Bool, true, false, ◌&&◌, ◌||◌, List, [], ◌∷◌, Option, Some, None, is_some, Result, Ok, Err, refl, sym, ap, ◌∙◌}
use Rattle.std.specs.List.{list_any}
use Rattle.std.specs.Prelude.{IsTrue}
use Rattle.pg_soundness.proofs.ChangesIds.{same_id, filtered_id, passes, found_passes, ids_found}
use Rattle.pg_meaning.specs.Answer.{◌>>=◌, each_step}
use Rattle.pg_meaning.specs.EqualityLaws.{nat_same}
use Rattle.pg_meaning.specs.Expressions.{evaluate}
use Rattle.pg_meaning.specs.Graph.{Graph, Relationship, IsGraph, has_node, has_relationship, relationship_at, contains_id, ids_of, both, goes_from, incident}
use Rattle.pg_meaning.specs.GraphLaws.{found_among}
use Rattle.pg_meaning.specs.ListsLaws.{pairs_filtered}
use Rattle.pg_meaning.specs.Meters.{Setting}
use Rattle.pg_meaning.specs.Rows.{Row}
use Rattle.pg_meaning.specs.Tree.{Expression}
use Rattle.pg_meaning.specs.Updates.{Doomed, add_path, doom, doom_row, is_doomed, doomed_nodes, doomed_relationships}
use Rattle.pg_meaning.specs.Value.{Value, null, boolean, integer, text, list, mapping, node, relationship, path, Entries}
use Rattle.pg_meaning.specs.declared.fault.Fault.{Fault}
use Rattle.pg_write.specs.Gathered.{put_live, put_node, put_relationship, put_path, put_value, put_given, put_row, put_incident, put_detached, Rises, AreThere}
use Rattle.pg_write.proofs.IdLemmas.{same_members, all_members, ids_rise, all_ids_rise, member_live, rises_live, member_all, rises_all}

-- ---- the ids of what is there among those that are named

abbrev HasLive : (ℕ → Bool) → (live named : List ℕ) → Type 0
HasLive is_there live named = (q : ℕ) → contains_id live q ≡ (is_there q && contains_id named q)

pub record Stands (graph : Graph) (s d : Doomed) : Type 0 where
  pub nodes : HasLive (has_node graph) s.0 d.0
  pub relationships : HasLive (has_relationship graph) s.1 d.1
  pub nodes_rise : Rises s.0
  pub relationships_rise : Rises s.1

-- one more id
one_more : (is_there : ℕ → Bool) (live named : List ℕ) (n : ℕ) → HasLive is_there live named → HasLive is_there (put_live (is_there n) n live) (n ∷ named)
one_more is_there live named n h q =
    member_live (is_there n) n live q
    ∙ ap (λ b. (is_there n && (n == q)) || b) (h q)
    ∙ by_same (n == q) refl
  where
    joined : (a b : Bool) → ((a && true) || (a && b)) ≡ (a && (true || b))
    joined true b = refl
    joined false b = refl

    left_out : (a b c : Bool) → ((a && false) || (b && c)) ≡ (b && (false || c))
    left_out true b c = refl
    left_out false b c = refl

    by_same : (t : Bool) → (n == q) ≡ t → ((is_there n && t) || (is_there q && contains_id named q)) ≡ (is_there q && (t || contains_id named q))
    by_same true e =
        let same : n ≡ q = nat_same n q e in
        ap (λ m. (is_there m && true) || (is_there q && contains_id named q)) same ∙ joined (is_there q) (contains_id named q)
    by_same false e = left_out (is_there n) (is_there q) (contains_id named q)

module _ (graph : Graph) where
  nothing_stands : Stands graph ([], []) ([], [])
  nothing_stands = record {
    nodes = λ q. none (has_node graph q);
    relationships = λ q. none (has_relationship graph q);
    nodes_rise = tt;
    relationships_rise = tt;
  }
    where
      none : (b : Bool) → false ≡ (b && false)
      none true = refl
      none false = refl

  node_stands : (n : ℕ) (s d : Doomed) → Stands graph s d → Stands graph (put_node graph n s) (n ∷ d.0, d.1)
  node_stands n s d h = record {
    nodes = one_more (has_node graph) s.0 d.0 n h.nodes;
    relationships = h.relationships;
    nodes_rise = rises_live (has_node graph n) n s.0 h.nodes_rise;
    relationships_rise = h.relationships_rise;
  }

  relationship_stands : (r : ℕ) (s d : Doomed) → Stands graph s d → Stands graph (put_relationship graph r s) (d.0, r ∷ d.1)
  relationship_stands r s d h = record {
    nodes = h.nodes;
    relationships = one_more (has_relationship graph) s.1 d.1 r h.relationships;
    nodes_rise = h.nodes_rise;
    relationships_rise = rises_live (has_relationship graph r) r s.1 h.relationships_rise;
  }

  path_stands : (ids : List ℕ) (s d : Doomed) → Stands graph s d → Stands graph (put_path graph ids s) (add_path ids d)
  path_stands [] s d h = h
  path_stands (n ∷ []) s d h = node_stands n s d h
  path_stands (n ∷ r ∷ ids) s d h =
      path_stands ids (put_relationship graph r (put_node graph n s)) (n ∷ d.0, r ∷ d.1)
      (relationship_stands r (put_node graph n s) (n ∷ d.0, d.1) (node_stands n s d h))

  -- ---- one after the other

  -- both go well and stand for one another, or both end in one fault
  abbrev pub Alike : Result Doomed Fault → Result Doomed Fault → Type 0
  Alike (Ok s) (Ok d) = Stands graph s d
  Alike (Err e) (Err f) = e ≡ f
  Alike a b = ⊥

  value_alike : (v : Value) (s d : Doomed) → Stands graph s d → Alike (put_value graph s v) (doom d v)
  value_alike null s d h = h
  value_alike (node n) s d h = node_stands n s d h
  value_alike (relationship r) s d h = relationship_stands r s d h
  value_alike (path ids) s d h = path_stands ids s d h
  value_alike (boolean b) s d h = refl
  value_alike (integer i) s d h = refl
  value_alike (text t) s d h = refl
  value_alike (list vs) s d h = refl
  value_alike (mapping es) s d h = refl

  then_alike : (a b : Result Doomed Fault) (f g : Doomed → Result Doomed Fault) → Alike a b → ((s d : Doomed) → Stands graph s d → Alike (f s) (g d)) → Alike (a >>= f) (b >>= g)
  then_alike (Ok s) (Ok d) f g h next = next s d h
  then_alike (Err e) (Err x) f g h next = h
  then_alike (Ok s) (Err x) f g h next = absurd h
  then_alike (Err e) (Ok d) f g h next = absurd h

  steps_alike : {X : Type 0} (f g : Doomed → X → Result Doomed Fault) → ((x : X) (s d : Doomed) → Stands graph s d → Alike (f s x) (g d x)) → (xs : List X) (s d : Doomed) → Stands graph s d → Alike (each_step f s xs) (each_step g d xs)
  steps_alike f g each [] s d h = h
  steps_alike f g each (x ∷ xs) s d h = then_alike (f s x) (g d x) (λ t. each_step f t xs) (λ t. each_step g t xs) (each x s d h) (λ t e k. steps_alike f g each xs t e k)

  given_alike : (row : Row) (parameters : Entries) (e : Expression) (s d : Doomed) → Stands graph s d → Alike (put_given parameters graph row s e) (evaluate row parameters graph e >>= doom d)
  given_alike row parameters e s d h = by_value (evaluate row parameters graph e)
    where
      by_value : (r : Result Value Fault) → Alike (r >>= put_value graph s) (r >>= doom d)
      by_value (Ok v) = value_alike v s d h
      by_value (Err f) = refl

  pub rows_alike : (g : Setting) (es : List Expression) (rows : List Row) → Alike (each_step (put_row g.parameters graph es) ([], []) rows) (each_step (doom_row g graph es) ([], []) rows)
  rows_alike g es rows =
      steps_alike (put_row g.parameters graph es) (doom_row g graph es)
      (λ row. steps_alike (put_given g.parameters graph row) (λ c e. evaluate row g.parameters graph e >>= doom c) (given_alike row g.parameters) es)
      rows ([], []) ([], []) nothing_stands

  -- ---- with DETACH

  member_incident : (ns rs : List ℕ) (q : ℕ) → contains_id (put_incident graph ns rs) q ≡ (list_any (λ n. contains_id (incident both n graph) q) ns || contains_id rs q)
  member_incident [] rs q = refl
  member_incident (n ∷ ns) rs q =
      let here = contains_id (incident both n graph) q in
      let later = list_any (λ m. contains_id (incident both m graph) q) ns in
      member_incident ns _ q ∙ ap (λ b. later || b) (member_all (incident both n graph) rs q) ∙ turned later here (contains_id rs q)
    where
      turned : (a b c : Bool) → (a || (b || c)) ≡ ((b || a) || c)
      turned true true c = refl
      turned true false c = refl
      turned false true c = refl
      turned false false c = refl

  rises_incident : (ns rs : List ℕ) → Rises rs → Rises (put_incident graph ns rs)
  rises_incident [] rs rises = rises
  rises_incident (n ∷ ns) rs rises = rises_incident ns _ (rises_all (incident both n graph) rs rises)

  rises_detached : (is_detach : Bool) (s : Doomed) → Rises s.1 → Rises (put_detached is_detach graph s).1
  rises_detached true s rises = rises_incident s.0 s.1 rises
  rises_detached false s rises = rises

  pub nodes_stay : (is_detach : Bool) (s : Doomed) → (put_detached is_detach graph s).0 ≡ s.0
  nodes_stay true s = refl
  nodes_stay false s = refl

-- a node is an end of a relationship exactly where it is its source or its target
either_end : (ns : List ℕ) (e : Relationship) → list_any (λ n. goes_from both n e) ns ≡ (contains_id ns e.source || contains_id ns e.target)
either_end [] e = refl
either_end (n ∷ ns) e =
    (λ i. (turned e.source n i || turned e.target n i) || either_end ns e i)
    ∙ regrouped (n == e.source) (n == e.target) (contains_id ns e.source) (contains_id ns e.target)
  where
    turned : (a b : ℕ) → (a == b) ≡ (b == a)
    turned a b = by_test (a == b) (b == a) refl refl
      where
        by_test : (s t : Bool) → (a == b) ≡ s → (b == a) ≡ t → s ≡ t
        by_test true true p q = refl
        by_test false false p q = refl
        by_test true false p q = sym (same_id a) ∙ ap (λ (k : ℕ). k == a) (nat_same a b p) ∙ q
        by_test false true p q = sym (sym (same_id b) ∙ ap (λ (k : ℕ). k == b) (nat_same b a q) ∙ p)

    regrouped : (a b c d : Bool) → ((a || b) || (c || d)) ≡ ((a || c) || (b || d))
    regrouped true b c d = refl
    regrouped false true true d = refl
    regrouped false true false d = refl
    regrouped false false c d = refl

same_any : {X : Type 0} (f g : X → Bool) → ((x : X) → f x ≡ g x) → (xs : List X) → list_any f xs ≡ list_any g xs
same_any f g same [] = refl
same_any f g same (x ∷ xs) = λ i. same x i || same_any f g same xs i

no_any : {X : Type 0} (xs : List X) → list_any (λ (x : X). false) xs ≡ false
no_any [] = refl
no_any (x ∷ xs) = no_any xs

module _ (graph : Graph) (is : IsGraph graph) (s d : Doomed) (stands : Stands graph s d) where
  -- an end that is there is named where it is among those that are there
  end_named : (n : ℕ) → IsTrue (has_node graph n) → contains_id s.0 n ≡ contains_id d.0 n
  end_named n there = stands.nodes n ∙ ap (λ b. b && contains_id d.0 n) there

  node_members : (q : ℕ) → contains_id s.0 q ≡ contains_id (doomed_nodes graph d) q
  node_members q = stands.nodes q ∙ sym (filtered_id (contains_id d.0) q (ids_of graph.nodes) ∙ ap (λ b. b && contains_id d.0 q) (ids_found q graph.nodes))

  at_nodes : (q : ℕ) (o : Option Relationship) → relationship_at graph q ≡ o → list_any (λ n. contains_id (incident both n graph) q) s.0 ≡ list_any (λ n. passes (λ e. goes_from both n e.1) q o) s.0
  at_nodes q o there = same_any _ _ (λ n. found_passes (λ e. goes_from both n e.1) q graph.relationships is.relationship_ids_rise ∙ ap (passes (λ e. goes_from both n e.1) q) there) s.0

  -- where a relationship is there, or isn't
  detached_member : (is_detach : Bool) (q : ℕ) (o : Option Relationship) → relationship_at graph q ≡ o → contains_id (put_detached is_detach graph s).1 q ≡ passes (is_doomed is_detach d) q o
  detached_member true q None there =
      member_incident graph s.0 s.1 q
      ∙ ap (λ b. b || contains_id s.1 q) (at_nodes q None there ∙ no_any s.0)
      ∙ stands.relationships q ∙ ap (λ x. is_some x && contains_id d.1 q) there
  detached_member false q None there = stands.relationships q ∙ ap (λ x. is_some x && contains_id d.1 q) there
  detached_member false q (Some e) there = stands.relationships q ∙ ap (λ x. is_some x && contains_id d.1 q) there ∙ or_false (contains_id d.1 q)
    where
      or_false : (b : Bool) → b ≡ (b || false)
      or_false true = refl
      or_false false = refl
  detached_member true q (Some e) there =
      let source = found_among (λ f. IsTrue (has_node graph f.1.source)) q e graph.relationships is.sources there in
      let target = found_among (λ f. IsTrue (has_node graph f.1.target)) q e graph.relationships is.targets there in
      member_incident graph s.0 s.1 q
      ∙ ap (λ b. b || contains_id s.1 q) (at_nodes q (Some e) there ∙ either_end s.0 e)
      ∙ (λ i. (end_named e.source source i || end_named e.target target i) || (stands.relationships q ∙ ap (λ x. is_some x && contains_id d.1 q) there) i)
      ∙ turned (contains_id d.0 e.source || contains_id d.0 e.target) (contains_id d.1 q)
    where
      turned : (a b : Bool) → (a || b) ≡ (b || a)
      turned true true = refl
      turned true false = refl
      turned false true = refl
      turned false false = refl

  pub nodes_are : s.0 ≡ doomed_nodes graph d
  nodes_are = same_members s.0 (doomed_nodes graph d) stands.nodes_rise (pairs_filtered _ (contains_id d.0) (ids_of graph.nodes) (all_ids_rise graph.nodes is.node_ids_rise)) node_members

  pub relationships_are : (is_detach : Bool) → (put_detached is_detach graph s).1 ≡ doomed_relationships is_detach graph d
  relationships_are is_detach =
      same_members (put_detached is_detach graph s).1 (doomed_relationships is_detach graph d)
      (rises_detached graph is_detach s stands.relationships_rise)
      (ids_rise (is_doomed is_detach d) graph.relationships is.relationship_ids_rise)
      (λ q. detached_member is_detach q (relationship_at graph q) refl ∙ sym (found_passes (is_doomed is_detach d) q graph.relationships is.relationship_ids_rise))

  passes_there : (test : ℕ × Relationship → Bool) (q : ℕ) (o : Option Relationship) → passes test q o ≡ true → is_some o ≡ true
  passes_there test q None h = h
  passes_there test q (Some e) h = refl

  first_of_both : (a b : Bool) → (a && b) ≡ true → a ≡ true
  first_of_both true b h = refl
  first_of_both false b h = h

  pub are_there : (is_detach : Bool) → AreThere graph (put_detached is_detach graph s)
  are_there is_detach =
      let c = put_detached is_detach graph s in
      let nodes = nodes_stay graph is_detach s in
      record {
        nodes = all_members (λ n. IsTrue (has_node graph n)) c.0 (λ q h. first_of_both (has_node graph q) (contains_id d.0 q) (sym (stands.nodes q) ∙ ap (λ (ns : List ℕ). contains_id ns q) (sym nodes) ∙ h));
        relationships = all_members (λ r. IsTrue (has_relationship graph r)) c.1 (λ q h. passes_there (is_doomed is_detach d) q (relationship_at graph q) (sym (detached_member is_detach q (relationship_at graph q) refl) ∙ h));
        nodes_rise = rw nodes stands.nodes_rise;
        relationships_rise = rises_detached graph is_detach s stands.relationships_rise;
      }
