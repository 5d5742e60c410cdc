-- The graph that tables stand for: what reads tell of it, and what changes make of it.
use Rattle.std.proofs.Common.{◌≡◌, ◌==◌, ◌<◌, ◌+◌, ℕ, zero, suc, Bool, true, false, not, ◌&&◌, ◌||◌, cond, T, List, [], ◌∷◌, map as map_list, filter, length, slice_get, Option, Some, None, IsSome, Ordering, Less, Equal, Greater, arith, refl, sym, ap, ◌∙◌}
use Rattle.std.proofs.lemmas.Bool.Decides.{nat_tests}
use Rattle.std.specs.Cmp.{nat_cmp_total, unsigned_tied}
use Rattle.std.specs.FinMap as map
use Rattle.std.specs.FinMap.{FinMap, find, is_sorted}
use Rattle.std.specs.FinMap.Entries.{put as put_entry, by_order, below_all, where_key}
use Rattle.std.specs.List.{AllByRecursion}
use Rattle.std.specs.Option.{option_map, option_map_or}
use Rattle.std.specs.Ordering.{nat_cmp, eq_by_cmp, is_lt}
use Rattle.pg_graph.proofs.Entries.{entries_removed}
use Rattle.pg_graph.proofs.Ids.{ids_in}
use Rattle.pg_graph.proofs.SortedLists.{less}
use Rattle.pg_graph.specs.Content.{with_rel}
use Rattle.pg_names.specs.Names.{KeepsNames}
use Rattle.pg_graph.specs.Refinement.{text_of, put_shown, named_entries, property_entries, node_of, relationship_of, elements, graph_of, AreNamed, IsNodeOf, IsRelOf, NodeIsRead, RelationshipIsRead, OutgoingAreRead, IncomingAreRead, NamesMayGrow, NodeIsAdded, RelationshipIsAdded, NodeIsChanged, RelationshipIsChanged, NodeIsDropped, RelationshipIsDropped}
use Rattle.pg_graph.specs.declared.records.NodeRecord.{NodeRecord}
use Rattle.pg_graph.specs.declared.records.RelRecord.{RelRecord}
use Rattle.pg_meaning.specs.Graph.{Graph, Node, Relationship, contains_id}
use Rattle.pg_meaning.specs.Names.{in_byte_order}
use Rattle.pg_meaning.specs.Value.{Value}

pub left : (a b : Bool) → T (a && b) → T a
left true b h = tt
left false b h = h

pub right : (a b : Bool) → T (a && b) → T b
right true b h = h
right false b h = absurd h

less_of : (o : Ordering) → T (is_lt o) → o ≡ Less
less_of Less h = refl
less_of Equal h = absurd h
less_of Greater h = absurd h

pub is_less : (a b : ℕ) → T (is_lt (nat_cmp a b)) → a < b
is_less a b h = less a b (less_of (nat_cmp a b) h)

not_same : (k x : ℕ) → k < x → eq_by_cmp nat_cmp k x ≡ false
not_same k x h = grind (arith, nat_tests)

itself : (k : ℕ) → eq_by_cmp nat_cmp k k ≡ true
itself k = grind (arith, nat_tests)

tested : (k x : ℕ) → eq_by_cmp nat_cmp k x ≡ true → k ≡ x
tested k x h = grind (arith, nat_tests)

or_false : (b : Bool) → (b || false) ≡ b
or_false true = refl
or_false false = refl

-- entries of a rising list, one by one
module _ {A : Type 0} where
  pub find_below : (k : ℕ) (es : List (ℕ × A)) → T (below_all nat_cmp k es) → find nat_cmp k es ≡ None
  find_below k [] h = refl
  find_below k (e ∷ es) h =
      ap (λ b. cond b (Some e.1) (find nat_cmp k es)) (not_same k e.0 (is_less k e.0 (left _ _ h)))
      ∙ find_below k es (right _ _ h)

  all_found : (P : ℕ → A → Type 0) (es : List (ℕ × A)) → T (is_sorted nat_cmp es) → ((q : ℕ) (a : A) → find nat_cmp q es ≡ Some a → P q a) → AllByRecursion (λ e. P e.0 e.1) es
  all_found P [] s h = tt
  all_found P (e ∷ es) s h = (
    h e.0 e.1 (ap (λ b. cond b (Some e.1) (find nat_cmp e.0 es)) (itself e.0)),
    all_found P es (right _ _ s) (λ q a f. h q a (by_test q a (eq_by_cmp nat_cmp q e.0) refl f (find_below e.0 es (left _ _ s)))),
  )
    where
      by_test : (q : ℕ) (a : A) (b : Bool) → eq_by_cmp nat_cmp q e.0 ≡ b → find nat_cmp q es ≡ Some a → find nat_cmp e.0 es ≡ None → cond b (Some e.1) (find nat_cmp q es) ≡ Some a
      by_test q a true is f none = cc (ap (λ n. find nat_cmp n es) (tested q e.0 is))
      by_test q a false is f none = f

  -- what each value of a map has, each entry has
  pub all_entries : (P : ℕ → A → Type 0) (m : FinMap nat_cmp A) → ((q : ℕ) (a : A) → map.get m q ≡ Some a → P q a) → AllByRecursion (λ e. P e.0 e.1) (map.entries m)
  all_entries P m h = all_found P (map.entries m) (map.entries_sorted m) (λ q a f. h q a (map.get-entries m q ∙ f))

-- entries with each value mapped
module _ {A B : Type 0} (f : A → B) where
  abbrev mapped : List (ℕ × A) → List (ℕ × B)
  mapped es = map_list (λ e. (e.0, f e.1)) es

  chosen_value : (b : Bool) (a : A) (o : Option A) → cond b (Some (f a)) (option_map f o) ≡ option_map f (cond b (Some a) o)
  chosen_value true a o = refl
  chosen_value false a o = refl

  at_mapped : (n : ℕ) (es : List (ℕ × A)) → find nat_cmp n (mapped es) ≡ option_map f (find nat_cmp n es)
  at_mapped n [] = refl
  at_mapped n (e ∷ es) =
      ap (cond (eq_by_cmp nat_cmp n e.0) (Some (f e.1))) (at_mapped n es)
      ∙ chosen_value (eq_by_cmp nat_cmp n e.0) e.1 (find nat_cmp n es)

  pub element_read : (m : FinMap nat_cmp A) (n : ℕ) → find nat_cmp n (elements f m) ≡ option_map f (map.get m n)
  element_read m n = at_mapped n (map.entries m) ∙ ap (option_map f) (sym (map.get-entries m n))

  pub ids_mapped : (p : B → Bool) (es : List (ℕ × A)) → ids_in p (mapped es) ≡ ids_in (λ a. p (f a)) es
  ids_mapped p [] = refl
  ids_mapped p (e ∷ es) = by_test (p (f e.1)) (ids_mapped p es)
    where
      by_test : (b : Bool) → ids_in p (mapped es) ≡ ids_in (λ a. p (f a)) es
          → map_list {B = ℕ} (λ (e : ℕ × B). e.0) (cond b ((e.0, f e.1) ∷ filter (λ e. p e.1) (mapped es)) (filter (λ e. p e.1) (mapped es)))
          ≡ map_list {B = ℕ} (λ (e : ℕ × A). e.0) (cond b (e ∷ filter (λ e. p (f e.1)) es) (filter (λ e. p (f e.1)) es))
      by_test true rest = ap (λ r. e.0 ∷ r) rest
      by_test false rest = rest

  put_mapped : (k : ℕ) (v : A) (es : List (ℕ × A)) → mapped (put_entry nat_cmp k v es) ≡ put_entry nat_cmp k (f v) (mapped es)
  put_mapped k v [] = refl
  put_mapped k v (e ∷ es) = chosen (nat_cmp k e.0) (put_mapped k v es)
    where
      chosen : (o : Ordering) → mapped (put_entry nat_cmp k v es) ≡ put_entry nat_cmp k (f v) (mapped es)
          → mapped (by_order o ((k, v) ∷ e ∷ es) ((e.0, v) ∷ es) (e ∷ put_entry nat_cmp k v es))
          ≡ by_order o ((k, f v) ∷ (e.0, f e.1) ∷ mapped es) ((e.0, f v) ∷ mapped es) ((e.0, f e.1) ∷ put_entry nat_cmp k (f v) (mapped es))
      chosen Less rest = refl
      chosen Equal rest = refl
      chosen Greater rest = ap (λ r. (e.0, f e.1) ∷ r) rest

  pub elements_put : (m : FinMap nat_cmp A) (k : ℕ) (v : A) → elements f (map.insert m k v) ≡ put_entry nat_cmp k (f v) (elements f m)
  elements_put m k v = ap mapped (map.entries-insert nat_cmp_total m k v) ∙ put_mapped k v (map.entries m)

  abbrev stays : List ℕ → ℕ → Bool
  stays gone n = not (contains_id gone n)

  kept_mapped : (k : ℕ) (es : List (ℕ × A)) → mapped (filter (λ e. not (eq_by_cmp nat_cmp k e.0)) es) ≡ where_key nat_cmp (stays (k ∷ [])) (mapped es)
  kept_mapped k [] = refl
  kept_mapped k (e ∷ es) =
      by_test (eq_by_cmp nat_cmp k e.0) (kept_mapped k es)
      ∙ ap (λ b. cond (not b) ((e.0, f e.1) ∷ where_key nat_cmp (stays (k ∷ [])) (mapped es)) (where_key nat_cmp (stays (k ∷ [])) (mapped es))) (unsigned_tied k e.0 ∙ sym (or_false (k == e.0)))
    where
      by_test : (b : Bool) → mapped (filter (λ e. not (eq_by_cmp nat_cmp k e.0)) es) ≡ where_key nat_cmp (stays (k ∷ [])) (mapped es)
          → mapped (cond (not b) (e ∷ filter (λ e. not (eq_by_cmp nat_cmp k e.0)) es) (filter (λ e. not (eq_by_cmp nat_cmp k e.0)) es))
          ≡ cond (not b) ((e.0, f e.1) ∷ where_key nat_cmp (stays (k ∷ [])) (mapped es)) (where_key nat_cmp (stays (k ∷ [])) (mapped es))
      by_test true rest = rest
      by_test false rest = ap (λ r. (e.0, f e.1) ∷ r) rest

  pub elements_dropped : (m : FinMap nat_cmp A) (k : ℕ) → elements f (map.remove m k) ≡ where_key nat_cmp (stays (k ∷ [])) (elements f m)
  elements_dropped m k = ap mapped (entries_removed m k) ∙ kept_mapped k (map.entries m)

nothing_gone : {X : Type 0} (es : List (ℕ × X)) → es ≡ where_key nat_cmp (λ n. not (contains_id [] n)) es
nothing_gone [] = refl
nothing_gone (e ∷ es) = ap (λ r. e ∷ r) (nothing_gone es)

pub elements_alike : {A B : Type 0} (f g : A → B) (m : FinMap nat_cmp A) → ((q : ℕ) (a : A) → map.get m q ≡ Some a → f a ≡ g a) → elements f m ≡ elements g m
elements_alike {A} {B} f g m alike = each (map.entries m) (all_entries (λ q a. f a ≡ g a) m alike)
  where
    each : (es : List (ℕ × A)) → AllByRecursion (λ e. f e.1 ≡ g e.1) es → mapped f es ≡ mapped g es
    each [] all = refl
    each (e ∷ es) all = (λ i. (e.0, all.0 i) ∷ each es all.1 i)

-- ---- names that stay

pub text_stays : {X : Type 0} (xs : List X) (n : ℕ) → n < length xs → (x : X) × (slice_get xs n ≡ Some x)
text_stays [] n h = absurd (omega arith)
text_stays (x ∷ xs) zero h = (x, refl)
text_stays (x ∷ xs) (suc n) h = text_stays xs n (omega arith)

module _ (old new : List (List ℕ)) (keeps : KeepsNames old new) where
  text_kept : (n : ℕ) → n < length old → text_of new n ≡ text_of old n
  text_kept n h =
      let t = text_stays old n h in
      ap (λ o. option_map_or (λ t. t) o []) (keeps n t.0 t.1 ∙ sym t.1)

  pub labels_kept : (labels : List ℕ) → AreNamed old labels → map_list (text_of new) labels ≡ map_list (text_of old) labels
  labels_kept [] named = refl
  labels_kept (l ∷ ls) named = (λ i. text_kept l named.0 i ∷ labels_kept ls named.1 i)

  pub entries_kept : (es : List (ℕ × Value)) → AreNamed old (map_list (λ e. e.0) es) → named_entries new es ≡ named_entries old es
  entries_kept [] named = refl
  entries_kept (e ∷ es) named = (λ i. put_shown (text_kept e.0 named.0 i) e.1 (entries_kept es named.1 i))

  node_kept : (next id : ℕ) (n : NodeRecord) → IsNodeOf old next id n → node_of new n ≡ node_of old n
  node_kept next id n held = (λ i. record { labels = in_byte_order (labels_kept n.labels held.labels i); properties = entries_kept (map.entries n.properties) held.keys i })

  relationship_kept : (nodes : FinMap nat_cmp NodeRecord) (next id : ℕ) (r : RelRecord) → IsRelOf old nodes next id r → relationship_of new r ≡ relationship_of old r
  relationship_kept nodes next id r held = (λ i. record {
    type = text_kept r.kind held.kind i;
    source = r.source.0;
    target = r.target.0;
    properties = entries_kept (map.entries r.properties) held.keys i;
  })

-- ---- the laws

pub node_is_read : NodeIsRead
node_is_read names c i j id = element_read (node_of names) c.nodes id

pub relationship_is_read : RelationshipIsRead
relationship_is_read names c i j id = element_read (relationship_of names) c.rels id

pub outgoing_are_read : OutgoingAreRead
outgoing_are_read names c i j node = ids_mapped (relationship_of names) (λ r. r.source == node) (map.entries c.rels)

pub incoming_are_read : IncomingAreRead
incoming_are_read names c i j node = ids_mapped (relationship_of names) (λ r. r.target == node) (map.entries c.rels)

-- a graph with other nodes or relationships
abbrev made : List (ℕ × Node) → List (ℕ × Relationship) → ℕ → ℕ → Graph
made nodes rels i j = record { nodes = nodes; relationships = rels; next_node = i; next_relationship = j }

pub names_may_grow : NamesMayGrow
names_may_grow old new c i j held keeps =
    ap (λ nodes. made nodes (elements (relationship_of new) c.rels) i j) (elements_alike (node_of new) (node_of old) c.nodes (λ q n h. node_kept old new keeps i q n (held.nodes q n h)))
    ∙ ap (λ rels. made (elements (node_of old) c.nodes) rels i j) (elements_alike (relationship_of new) (relationship_of old) c.rels (λ q r h. relationship_kept old new keeps c.nodes j q r (held.rels q r h)))

pub node_is_added : NodeIsAdded
node_is_added names c i j n = ap (λ nodes. made nodes (elements (relationship_of names) c.rels) (i + 1) j) (elements_put (node_of names) c.nodes i n)

pub relationship_is_added : RelationshipIsAdded
relationship_is_added names c i j r = ap (λ rels. made (elements (node_of names) c.nodes) rels i (j + 1)) (elements_put (relationship_of names) c.rels j r)

present : {X : Type 0} (o : Option X) → IsSome o → (x : X) × (o ≡ Some x)
present None h = absurd (cc)
present (Some x) h = (x, refl)

pub node_is_changed : NodeIsChanged
node_is_changed names c i j id n there =
    let old = present (map.get c.nodes id) there in
    let g = graph_of names c i j in
    ap (λ nodes. made nodes (elements (relationship_of names) c.rels) i j) (elements_put (node_of names) c.nodes id n)
    ∙ sym (ap (λ o. elim o [ None ↦ g | Some e ↦ record g { nodes = put_entry nat_cmp id (node_of names n) g.nodes } ]) (element_read (node_of names) c.nodes id ∙ ap (option_map (node_of names)) old.1))

pub relationship_is_changed : RelationshipIsChanged
relationship_is_changed names c i j id properties there =
    let old = present (map.get c.rels id) there in
    let g = graph_of names c i j in
    ap (λ o. graph_of names (option_map_or (λ rel. with_rel c id (record rel { properties = properties })) o c) i j) old.1
    ∙ ap (λ rels. made (elements (node_of names) c.nodes) rels i j) (elements_put (relationship_of names) c.rels id (record old.0 { properties = properties }))
    ∙ sym (ap (λ o. elim o [ None ↦ g | Some e ↦ record g { relationships = put_entry nat_cmp id (record e { properties = property_entries names properties }) g.relationships } ]) (element_read (relationship_of names) c.rels id ∙ ap (option_map (relationship_of names)) old.1))

pub node_is_dropped : NodeIsDropped
node_is_dropped names c i j id =
    ap (λ nodes. made nodes (elements (relationship_of names) c.rels) i j) (elements_dropped (node_of names) c.nodes id)
    ∙ ap (λ rels. made (where_key nat_cmp (λ n. not (contains_id (id ∷ []) n)) (elements (node_of names) c.nodes)) rels i j) (nothing_gone (elements (relationship_of names) c.rels))

pub relationship_is_dropped : RelationshipIsDropped
relationship_is_dropped names c i j id =
    ap (λ rels. made (elements (node_of names) c.nodes) rels i j) (elements_dropped (relationship_of names) c.rels id)
    ∙ ap (λ nodes. made nodes (where_key nat_cmp (λ n. not (contains_id (id ∷ []) n)) (elements (relationship_of names) c.rels)) i j) (nothing_gone (elements (node_of names) c.nodes))
