-- Elements that leave one after the other leave together.
use Rattle.std.proofs.Common.{subst, sym, ◌≡◌, ◌==◌, ◌<◌, ℕ, Bool, true, false, cond, not, ◌||◌, List, [], ◌∷◌, filter, Ok, Err, refl, ap, ◌∙◌, arith, true≢false}
use Rattle.std.proofs.lemmas.Bool.Decides.{nat_tests}
use Rattle.std.specs.FinMap.Entries as by_id
use Rattle.std.specs.List.{AllByRecursion, list_any}
use Rattle.std.specs.Ordering.{nat_cmp}
use Rattle.std.specs.Prelude.{IsTrue, is_some}
use Rattle.pg_soundness.proofs.ChangesIds.{or_parts}
use Rattle.pg_meaning.specs.Answer.{◌>>◌, unless}
use Rattle.pg_meaning.specs.Graph.{Graph, Relationship, has_node, has_relationship, contains_id, ids_of, Way, outgoing, incoming, both, goes_from, incident, remove_elements}
use Rattle.pg_meaning.specs.GraphLaws.{remove_removes}
use Rattle.pg_meaning.specs.ListsLaws.{all_weaker, all_both}
use Rattle.pg_meaning.specs.Updates.{Doomed, is_connected, test_unconnected}
use Rattle.pg_meaning.specs.declared.fault.Fault.{Fault}
use Rattle.pg_meaning.specs.declared.fault.Fault.TheVariants.{NodeStillConnected}
use Rattle.pg_write.specs.Gathered.{Rises, taken_out}

-- ---- entries without ids

module _ {X : Type 0} where
  abbrev pub without : List ℕ → List (ℕ × X) → List (ℕ × X)
  without ids = by_id.where_key nat_cmp (λ n. not (contains_id ids n))

  without_none : (es : List (ℕ × X)) → without [] es ≡ es
  without_none [] = refl
  without_none (e ∷ es) = ap (λ r. e ∷ r) (without_none es)

  without_one_more : (x : ℕ) (xs : List ℕ) (es : List (ℕ × X)) → without xs (without (x ∷ []) es) ≡ without (x ∷ xs) es
  without_one_more x xs [] = refl
  without_one_more x xs (e ∷ es) = by_test (x == e.0) (without_one_more x xs es)
    where
      by_test : (b : Bool) → without xs (without (x ∷ []) es) ≡ without (x ∷ xs) es
          → without xs (cond (not (b || false)) (e ∷ without (x ∷ []) es) (without (x ∷ []) es)) ≡ cond (not (b || contains_id xs e.0)) (e ∷ without (x ∷ xs) es) (without (x ∷ xs) es)
      by_test true rest = rest
      by_test false rest = ap (λ r. cond (not (contains_id xs e.0)) (e ∷ r) r) rest

-- one first, and then the rest
module _ (graph : Graph) where
  pub none_left : remove_elements [] [] graph ≡ graph
  none_left = λ i. record graph { nodes = without_none graph.nodes i; relationships = without_none graph.relationships i }

  pub relationship_leaves : (r : ℕ) (rs : List ℕ) → remove_elements [] rs (remove_elements [] (r ∷ []) graph) ≡ remove_elements [] (r ∷ rs) graph
  relationship_leaves r rs = λ i. record graph { nodes = without_none (without [] graph.nodes) i; relationships = without_one_more r rs graph.relationships i }

  pub node_leaves : (n : ℕ) (ns : List ℕ) → remove_elements ns [] (remove_elements (n ∷ []) [] graph) ≡ remove_elements (n ∷ ns) [] graph
  node_leaves n ns = λ i. record graph { nodes = without_one_more n ns graph.nodes i; relationships = without_none (without [] graph.relationships) i }

  pub nodes_after : (ns rs : List ℕ) → remove_elements ns [] (remove_elements [] rs graph) ≡ remove_elements ns rs graph
  nodes_after ns rs = λ i. record graph { nodes = ap (without ns) (without_none graph.nodes) i; relationships = without_none (without rs graph.relationships) i }

  -- ---- what stays

  not_the_one : (x y : ℕ) → x < y → contains_id (x ∷ []) y ≡ false
  not_the_one x y h = ap (λ b. b || false) (apart x y h)
    where
      apart : (x y : ℕ) → x < y → (x == y) ≡ false
      apart x y h = grind (arith, nat_tests)

  pub relationships_there : (r : ℕ) (rs : List ℕ) → AllByRecursion (λ s. r < s) rs → AllByRecursion (λ s. IsTrue (has_relationship graph s)) rs → AllByRecursion (λ s. IsTrue (has_relationship (remove_elements [] (r ∷ []) graph) s)) rs
  relationships_there r rs above there =
      all_weaker (λ s. (r < s) × IsTrue (has_relationship graph s)) (λ s. IsTrue (has_relationship (remove_elements [] (r ∷ []) graph) s))
      (λ s h. ap is_some ((remove_removes [] (r ∷ []) graph).relationships_kept s (not_the_one r s h.0)) ∙ h.1) rs
      (all_both (λ s. r < s) (λ s. IsTrue (has_relationship graph s)) rs above there)

  pub nodes_there : (n : ℕ) (ns : List ℕ) → AllByRecursion (λ m. n < m) ns → AllByRecursion (λ m. IsTrue (has_node graph m)) ns → AllByRecursion (λ m. IsTrue (has_node (remove_elements (n ∷ []) [] graph) m)) ns
  nodes_there n ns above there =
      all_weaker (λ m. (n < m) × IsTrue (has_node graph m)) (λ m. IsTrue (has_node (remove_elements (n ∷ []) [] graph) m))
      (λ m h. ap is_some ((remove_removes (n ∷ []) [] graph).nodes_kept m (not_the_one n m h.0)) ∙ h.1) ns
      (all_both (λ m. n < m) (λ m. IsTrue (has_node graph m)) ns above there)

  pub nodes_there_yet : (rs ns : List ℕ) → AllByRecursion (λ m. IsTrue (has_node graph m)) ns → AllByRecursion (λ m. IsTrue (has_node (remove_elements [] rs graph) m)) ns
  nodes_there_yet rs ns there = all_weaker (λ m. IsTrue (has_node graph m)) _ (λ m h. ap is_some ((remove_removes [] rs graph).nodes_kept m refl) ∙ h) ns there

  pub still_apart : (n : ℕ) (ns : List ℕ) → AllByRecursion (λ m. incident both m graph ≡ []) ns → AllByRecursion (λ m. incident both m (remove_elements (n ∷ []) [] graph) ≡ []) ns
  still_apart n ns apart = all_weaker (λ m. incident both m graph ≡ []) _ (λ m h. ap (λ (es : List (ℕ × Relationship)). ids_of (filter (λ e. goes_from both m e.1) es)) (without_none graph.relationships) ∙ h) ns apart

-- ---- nodes without relationships

none_in : (n : ℕ) (way : Way) (es : List (ℕ × Relationship)) → ((e : Relationship) → goes_from both n e ≡ false → goes_from way n e ≡ false)
    → ids_of (filter (λ e. goes_from both n e.1) es) ≡ [] → ids_of (filter (λ e. goes_from way n e.1) es) ≡ []
none_in n way [] weaker h = refl
none_in n way (e ∷ es) weaker h =
    elim (goes_from both n e.1) as (λ b. goes_from both n e.1 ≡ b → ids_of (cond b (e ∷ filter (λ e. goes_from both n e.1) es) (filter (λ e. goes_from both n e.1) es)) ≡ [] → ids_of (filter (λ e. goes_from way n e.1) (e ∷ es)) ≡ []) [
      | true ↦ λ is h. cc
      | false ↦ λ is h.
          ap (λ b. ids_of (cond b (e ∷ filter (λ e. goes_from way n e.1) es) (filter (λ e. goes_from way n e.1) es))) (weaker e.1 is)
          ∙ none_in n way es weaker h
    ] refl h

pub none_outgoing : (graph : Graph) (n : ℕ) → incident both n graph ≡ [] → incident outgoing n graph ≡ []
none_outgoing graph n h = none_in n outgoing graph.relationships (λ e is. (or_parts (e.source == n) (e.target == n) is).0) h

pub none_incoming : (graph : Graph) (n : ℕ) → incident both n graph ≡ [] → incident incoming n graph ≡ []
none_incoming graph n h = none_in n incoming graph.relationships (λ e is. (or_parts (e.source == n) (e.target == n) is).1) h

passed : (b : Bool) → unless (not b) NodeStillConnected ≡ Ok tt → b ≡ false
passed true e = cc
passed false e = refl

none_at : (ids : List ℕ) → elim ids [ [] ↦ false | r ∷ rs ↦ true ] ≡ false → ids ≡ []
none_at [] h = refl
none_at (r ∷ rs) h = absurd (true≢false h)

none_connected : (graph : Graph) (ns : List ℕ) → list_any (is_connected graph) ns ≡ false → AllByRecursion (λ n. incident both n graph ≡ []) ns
none_connected graph [] h = tt
none_connected graph (n ∷ ns) h =
    let parts = or_parts (is_connected graph n) (list_any (is_connected graph) ns) h in
    (none_at (incident both n graph) parts.0, none_connected graph ns parts.1)

pub all_apart : (graph : Graph) (ns : List ℕ) → test_unconnected graph ns ≡ Ok tt → AllByRecursion (λ n. incident both n graph ≡ []) ns
all_apart graph ns h = none_connected graph ns (passed (list_any (is_connected graph) ns) h)

-- ---- one more leaves

abbrev pub RelationshipsThere : Graph → List ℕ → Type 0
RelationshipsThere graph = AllByRecursion (λ r. IsTrue (has_relationship graph r))

abbrev pub NodesThere : Graph → List ℕ → Type 0
NodesThere graph = AllByRecursion (λ n. IsTrue (has_node graph n))

abbrev pub NodesApart : Graph → List ℕ → Type 0
NodesApart graph = AllByRecursion (λ n. incident both n graph ≡ [])

pub one_relationship_goes : (before after : Graph) (r : ℕ) (left rest : List ℕ) → left ≡ r ∷ rest → after ≡ remove_elements [] (r ∷ []) before → Rises left → RelationshipsThere before left
    → (remove_elements [] rest after ≡ remove_elements [] left before) × RelationshipsThere after rest × Rises rest
one_relationship_goes before after r left rest is gone rises there =
    let rising = subst Rises is rises in
    let all_there = subst (RelationshipsThere before) is there in (
      ap (remove_elements [] rest) gone ∙ relationship_leaves before r rest ∙ sym (ap (λ rs. remove_elements [] rs before) is),
      subst (λ graph. RelationshipsThere graph rest) (sym gone) (relationships_there before r rest rising.0 all_there.1),
      rising.1,
    )

pub one_node_goes : (before after : Graph) (n : ℕ) (left rest : List ℕ) → left ≡ n ∷ rest → after ≡ remove_elements (n ∷ []) [] before → Rises left → NodesThere before left → NodesApart before left
    → (remove_elements rest [] after ≡ remove_elements left [] before) × NodesThere after rest × Rises rest × NodesApart after rest
one_node_goes before after n left rest is gone rises there apart =
    let rising = subst Rises is rises in
    let all_there = subst (NodesThere before) is there in
    let all_apart = subst (NodesApart before) is apart in (
      ap (remove_elements rest []) gone ∙ node_leaves before n rest ∙ sym (ap (λ ns. remove_elements ns [] before) is),
      subst (λ graph. NodesThere graph rest) (sym gone) (nodes_there before n rest rising.0 all_there.1),
      rising.1,
      subst (λ graph. NodesApart graph rest) (sym gone) (still_apart before n rest all_apart.1),
    )

pub this_one : (P : ℕ → Type 0) (n : ℕ) (left rest : List ℕ) → left ≡ n ∷ rest → AllByRecursion P left → P n
this_one P n left rest is all = (subst (AllByRecursion P) is all).0

-- ---- all of them

module _ (before middle : Graph) (d : Doomed) (rs : List ℕ) (rs_are : rs ≡ d.1) (cut : middle ≡ remove_elements [] rs before) where
  pub still_there : (ns : List ℕ) → ns ≡ d.0 → NodesThere before d.0 → NodesThere middle ns
  still_there ns is there = rw (cut, is) (nodes_there_yet before rs d.0 there)

  pub now_apart : (seen : Graph) (ns ms : List ℕ) → seen ≡ middle → ns ≡ d.0 → ms ≡ d.0 → Ok tt ≡ test_unconnected seen ns → NodesApart middle ms
  now_apart seen ns ms same is is' passes = subst (NodesApart middle) (is ∙ sym is') (all_apart middle ns (ap (λ graph. test_unconnected graph ns) (sym same) ∙ sym passes))

  pub still_connected : (seen : Graph) (ns : List ℕ) → seen ≡ middle → ns ≡ d.0 → (e : Fault) → Err e ≡ test_unconnected seen ns → taken_out d before ≡ Err e
  still_connected seen ns same is e stops =
      (λ i. test_unconnected (remove_elements [] (sym rs_are i) before) (sym is i) >> Ok (remove_elements d.0 d.1 before))
      ∙ ap (λ r. r >> Ok (remove_elements d.0 d.1 before)) (ap (λ graph. test_unconnected graph ns) (sym (same ∙ cut)) ∙ sym stops)

  pub all_taken_out : (seen after : Graph) (ns ms : List ℕ) → seen ≡ middle → ns ≡ d.0 → ms ≡ d.0 → Ok tt ≡ test_unconnected seen ns → after ≡ remove_elements ms [] middle → taken_out d before ≡ Ok after
  all_taken_out seen after ns ms same is is' passes left =
      (λ i. test_unconnected (remove_elements [] (sym rs_are i) before) (sym is i) >> Ok (remove_elements (sym is' i) (sym rs_are i) before))
      ∙ ap (λ r. r >> Ok (remove_elements ms rs before)) (ap (λ graph. test_unconnected graph ns) (sym (same ∙ cut)) ∙ sym passes)
      ∙ ap Ok (sym (left ∙ ap (remove_elements ms []) cut ∙ nodes_after before ms rs))
