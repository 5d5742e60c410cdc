-- What is read of values whose ids were handed out is the same in every graph that keeps what was there.
use Rattle.std.proofs.Common.{◌≡◌, ℕ, suc, ◌<◌, Bool, true, false, cond, ℤ, pos, negsuc, List, [], ◌∷◌, ◌||◌, not, is_some, Option, Some, None, Result, Ok, Err, refl, sym, ap, subst}
use Rattle.pg_meaning.specs.Answer.{◌>>=◌}
use Rattle.pg_meaning.specs.Entries.{value_at}
use Rattle.pg_meaning.specs.Expressions.{property_of, indexed, labelled}
use Rattle.pg_meaning.specs.Functions.{of_node, of_relationship, properties_of, item_count, item_at, path_nodes, nodes_behind, path_relationships, relationships_behind, id_of, labels_of, type_of, start_node_of, end_node_of, size_of, length_of, nodes_of, relationships_of, head_of, last_of, string_of, integer_of, integer_in, spelled_by, absolute_of, steps_within, integers_from, range_by, integers_of, range_over, Function, is_deleted, has_deleted, has_null, of_one, function_at, applied, texts}
use Rattle.pg_meaning.specs.Functions as function
use Rattle.pg_meaning.specs.Graph.{Graph, Node, Relationship, node_at, relationship_at}
use Rattle.pg_meaning.specs.Measure.{made}
use Rattle.pg_meaning.specs.Order.{keys_of}
use Rattle.pg_meaning.specs.Tree.{Name}
use Rattle.pg_meaning.specs.Value.{Value, null, boolean, integer, text, list, mapping, node, relationship, path, Values, no_items, item}
use Rattle.pg_meaning.specs.declared.fault.Fault.{Fault}
use Rattle.pg_meaning.specs.declared.fault.Fault.TheVariants.{DeletedEntity}
use Rattle.pg_relations.specs.HandedOut.{IsHandedOut, ItemsHandedOut, EntriesHandedOut, StoresHandedOut}
use Rattle.pg_relations.specs.Numbered.{Keeps}
use Rattle.pg_relations.proofs.HandedOutValues.{Has, One, Any, any, has_then, one_then, made_out, checked_out, place_out, value_at_out, texts_out, nodes_out, hops_out, item_out, range_out}

module _ (before : Graph) where
  abbrev Out : Value → Type 0
  Out = IsHandedOut before

  module _ (after : Graph) (keeps : Keeps before after) (stores : StoresHandedOut before) where
    of_node_one : {X : Type 0} (P : X → Type 0) (n : ℕ) (f : Node → Result X Fault) → n < before.next_node → ((e : Node) → EntriesHandedOut before e.properties → Has P (f e)) → One P (of_node after n f) (of_node before n f)
    of_node_one {X} P n f below h =
        (ap (λ o. elim o as (λ o. Result X Fault) [ Some x ↦ f x | None ↦ Err DeletedEntity ]) (keeps.nodes n below), subst (λ o. Has P (elim o as (λ o. Result X Fault) [ Some x ↦ f x | None ↦ Err DeletedEntity ])) (sym (keeps.nodes n below)) (by_found (node_at before n) refl))
      where
        by_found : (o : Option Node) → node_at before n ≡ o → Has P (elim o as (λ o. Result X Fault) [ Some x ↦ f x | None ↦ Err DeletedEntity ])
        by_found None e = tt
        by_found (Some x) e = h x (stores.nodes n x e)

    of_relationship_one : {X : Type 0} (P : X → Type 0) (r : ℕ) (f : Relationship → Result X Fault) → r < before.next_relationship
        → ((e : Relationship) → (e.source < before.next_node) × (e.target < before.next_node) × EntriesHandedOut before e.properties → Has P (f e)) → One P (of_relationship after r f) (of_relationship before r f)
    of_relationship_one {X} P r f below h =
        (ap (λ o. elim o as (λ o. Result X Fault) [ Some x ↦ f x | None ↦ Err DeletedEntity ]) (keeps.relationships r below), subst (λ o. Has P (elim o as (λ o. Result X Fault) [ Some x ↦ f x | None ↦ Err DeletedEntity ])) (sym (keeps.relationships r below)) (by_found (relationship_at before r) refl))
      where
        by_found : (o : Option Relationship) → relationship_at before r ≡ o → Has P (elim o as (λ o. Result X Fault) [ Some x ↦ f x | None ↦ Err DeletedEntity ])
        by_found None e = tt
        by_found (Some x) e = h x (stores.relationships r x e)

    properties_one : (v : Value) → Out v → One (EntriesHandedOut before) (properties_of after v) (properties_of before v)
    properties_one (mapping es) h = (refl, h)
    properties_one (node n) h = of_node_one (EntriesHandedOut before) n (λ x. Ok x.properties) h (λ e k. k)
    properties_one (relationship r) h = of_relationship_one (EntriesHandedOut before) r (λ x. Ok x.properties) h (λ e k. k.2)
    properties_one v h = (refl, tt)

    pub property_one : (v : Value) (k : List ℕ) → Out v → One Out (property_of after v k) (property_of before v k)
    property_one null k h = (refl, tt)
    property_one v k h = one_then (EntriesHandedOut before) Out (properties_of after v) (properties_of before v) (λ es. Ok (value_at k es)) (λ es. Ok (value_at k es)) (properties_one v h) (λ es all. (refl, value_at_out before k es all))

    pub indexed_one : (v i : Value) → Out v → One Out (indexed after v i) (indexed before v i)
    indexed_one null i h = (refl, tt)
    indexed_one v null h = (refl, tt)
    indexed_one (list vs) (integer i) h = (refl, place_out before vs i h)
    indexed_one (mapping es) (text k) h = (refl, value_at_out before k es h)
    indexed_one (node n) (text k) h = property_one (node n) k h
    indexed_one (relationship r) (text k) h = property_one (relationship r) k h
    indexed_one v i h = (refl, tt)

    pub labelled_one : (v : Value) (ls : List Name) → Out v → One Out (labelled after v ls) (labelled before v ls)
    labelled_one v [] h = (refl, h)
    labelled_one null (l ∷ ls) h = (refl, tt)
    labelled_one (node n) (l ∷ ls) h = of_node_one Out n _ h (λ e k. tt)
    labelled_one v (l ∷ ls) h = (refl, tt)

    -- ---- functions

    abbrev pub OneOf : (Value → Result Value Fault) → (Value → Result Value Fault) → Type 0
    OneOf f h = (v : Value) → Out v → One Out (f v) (h v)

    one_of : (f h : Value → Result Value Fault) → OneOf f h → (vs : Values) → ItemsHandedOut before vs → One Out (of_one f vs) (of_one h vs)
    one_of f h each no_items all = (refl, tt)
    one_of f h each (item v no_items) all = each v all.0
    one_of f h each (item v (item w vs)) all = (refl, tt)

    labels_one : OneOf (labels_of after) (labels_of before)
    labels_one (node n) h = of_node_one Out n _ h (λ e k. texts_out before e.labels)
    labels_one v h = (refl, tt)

    type_one : OneOf (type_of after) (type_of before)
    type_one (relationship r) h = of_relationship_one Out r _ h (λ e k. tt)
    type_one v h = (refl, tt)

    start_one : OneOf (start_node_of after) (start_node_of before)
    start_one (relationship r) h = of_relationship_one Out r _ h (λ e k. k.0)
    start_one v h = (refl, tt)

    end_one : OneOf (end_node_of after) (end_node_of before)
    end_one (relationship r) h = of_relationship_one Out r _ h (λ e k. k.1)
    end_one v h = (refl, tt)

    id_one : OneOf id_of id_of
    id_one (node n) h = (refl, tt)
    id_one (relationship r) h = (refl, tt)
    id_one v h = (refl, tt)

    size_one : OneOf size_of size_of
    size_one (list vs) h = (refl, tt)
    size_one (text s) h = (refl, tt)
    size_one v h = (refl, tt)

    length_one : OneOf length_of length_of
    length_one (path ids) h = (refl, tt)
    length_one v h = (refl, tt)

    nodes_one : OneOf nodes_of nodes_of
    nodes_one (path ids) h = (refl, nodes_out before ids h)
    nodes_one v h = (refl, tt)

    relationships_one : OneOf relationships_of relationships_of
    relationships_one (path ids) h = (refl, hops_out before ids h)
    relationships_one v h = (refl, tt)

    head_one : OneOf head_of head_of
    head_one (list vs) h = (refl, item_out before 0 vs h)
    head_one v h = (refl, tt)

    last_one : OneOf last_of last_of
    last_one (list vs) h = (refl, item_out before _ vs h)
    last_one v h = (refl, tt)

    string_one : OneOf string_of string_of
    string_one (integer i) h = (refl, tt)
    string_one (boolean true) h = (refl, tt)
    string_one (boolean false) h = (refl, tt)
    string_one (text s) h = (refl, tt)
    string_one v h = (refl, tt)

    spelled_out : (b : Bool) (ds : List ℕ) → Out (spelled_by b ds)
    spelled_out b [] = tt
    spelled_out b (d ∷ ds) = by_tests _ _ _
      where
        by_tests : (c d : Bool) (i : ℤ) → Out (cond c (cond d (integer i) null) null)
        by_tests true true i = tt
        by_tests true false i = tt
        by_tests false d i = tt

    integer_out : (bs : List ℕ) → Out (integer_in bs)
    integer_out [] = tt
    integer_out (b ∷ bs) = by_tests _ _ _ _ _ (spelled_out true bs) (spelled_out false bs) (spelled_out false (b ∷ bs))
      where
        by_tests : (u v w : Value) (c d : Bool) → Out u → Out v → Out w → Out (cond c u (cond d v w))
        by_tests u v w true d h k l = h
        by_tests u v w false true h k l = k
        by_tests u v w false false h k l = l

    integer_one : OneOf integer_of integer_of
    integer_one (integer i) h = (refl, tt)
    integer_one (text s) h = (refl, integer_out s)
    integer_one v h = (refl, tt)

    absolute_one : OneOf absolute_of absolute_of
    absolute_one (integer (pos n)) h = (refl, tt)
    absolute_one (integer (negsuc n)) h = (refl, checked_out before (pos (suc n)))
    absolute_one v h = (refl, tt)

    keys_one : OneOf (λ v. properties_of after v >>= λ es. Ok (texts (keys_of es))) (λ v. properties_of before v >>= λ es. Ok (texts (keys_of es)))
    keys_one v h = one_then (EntriesHandedOut before) Out (properties_of after v) (properties_of before v) _ _ (properties_one v h) (λ es all. (refl, texts_out before (keys_of es)))

    map_one : OneOf (λ v. properties_of after v >>= λ es. Ok (mapping es)) (λ v. properties_of before v >>= λ es. Ok (mapping es))
    map_one v h = one_then (EntriesHandedOut before) Out (properties_of after v) (properties_of before v) _ _ (properties_one v h) (λ es all. (refl, all))

    function_one : (f : Function) (vs : Values) → ItemsHandedOut before vs → One Out (function_at after f vs) (function_at before f vs)
    function_one function.id vs h = one_of id_of id_of id_one vs h
    function_one function.labels vs h = one_of (labels_of after) (labels_of before) labels_one vs h
    function_one function.type vs h = one_of (type_of after) (type_of before) type_one vs h
    function_one function.keys vs h = one_of _ _ keys_one vs h
    function_one function.properties vs h = one_of _ _ map_one vs h
    function_one function.size vs h = one_of size_of size_of size_one vs h
    function_one function.length vs h = one_of length_of length_of length_one vs h
    function_one function.nodes vs h = one_of nodes_of nodes_of nodes_one vs h
    function_one function.relationships vs h = one_of relationships_of relationships_of relationships_one vs h
    function_one function.head vs h = one_of head_of head_of head_one vs h
    function_one function.last vs h = one_of last_of last_of last_one vs h
    function_one function.coalesce vs h = one_of Ok Ok (λ v k. (refl, k)) vs h
    function_one function.range vs h = (refl, has_then Any Out (integers_of vs) range_over (any (integers_of vs)) (λ is k. range_out before is))
    function_one function.to_string vs h = one_of string_of string_of string_one vs h
    function_one function.to_integer vs h = one_of integer_of integer_of integer_one vs h
    function_one function.abs vs h = one_of absolute_of absolute_of absolute_one vs h
    function_one function.start_node vs h = one_of (start_node_of after) (start_node_of before) start_one vs h
    function_one function.end_node vs h = one_of (end_node_of after) (end_node_of before) end_one vs h

    deleted_one : (v : Value) → Out v → is_deleted after v ≡ is_deleted before v
    deleted_one (node n) h = ap (λ o. not (is_some o)) (keeps.nodes n h)
    deleted_one (relationship r) h = ap (λ o. not (is_some o)) (keeps.relationships r h)
    deleted_one v h = refl

    any_deleted : (vs : Values) → ItemsHandedOut before vs → has_deleted after vs ≡ has_deleted before vs
    any_deleted no_items h = refl
    any_deleted (item v vs) h = λ i. deleted_one v h.0 i || any_deleted vs h.1 i

    abbrev applied_by : Graph → Function → Values → Bool → Bool → Result Value Fault
    applied_by graph f vs b c = elim b as (λ b. Result Value Fault) [ true ↦ Err DeletedEntity | false ↦ elim c as (λ b. Result Value Fault) [ true ↦ Ok null | false ↦ function_at graph f vs >>= made ] ]

    pub applied_one : (f : Function) (vs : Values) → ItemsHandedOut before vs → One Out (applied after f vs) (applied before f vs)
    applied_one f vs h = subst (λ b. One Out (applied_by after f vs b (has_null vs)) (applied_by before f vs (has_deleted before vs) (has_null vs))) (sym (any_deleted vs h)) (by_test (has_deleted before vs) (has_null vs))
      where
        by_test : (b c : Bool) → One Out (applied_by after f vs b c) (applied_by before f vs b c)
        by_test true c = (refl, tt)
        by_test false true = (refl, tt)
        by_test false false = one_then Out Out (function_at after f vs) (function_at before f vs) made made (function_one f vs h) (λ v k. (refl, made_out before v k))
