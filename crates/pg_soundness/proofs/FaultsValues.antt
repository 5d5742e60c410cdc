-- The faults of operators, reads and functions at values.
use Rattle.std.proofs.Common.{◌≡◌, ℕ, zero, suc, ◌+◌, nat_le, ◌==◌, ◌||◌, Bool, true, false, cond, ℤ, pos, negsuc, ◌+ℤ◌, ◌-ℤ◌, List, [], ◌∷◌, Option, Some, None, Result, Ok, Err, refl, sym, ap, ◌∙◌, true≢false, arith}
use Rattle.std.proofs.lemmas.Bool.Decides.{nat_tests}
use Rattle.std.specs.Prelude.{◌*ℤ◌, neg_ℤ, int_div, int_rem, nat_eq}
use Rattle.std.specs.Bool.{⊤}
use Rattle.std.specs.List.{AllByRecursion, starts_with, ends_with}
use Rattle.pg_meaning.specs.Answer.{◌>>=◌, ◌>>◌, unless}
use Rattle.pg_meaning.specs.Arithmetic.{is_in_range, checked, appended, plus, minus, times, divide, modulo, signed}
use Rattle.pg_meaning.specs.Entries.{value_at}
use Rattle.pg_meaning.specs.EqualityLaws.{nat_same}
use Rattle.pg_meaning.specs.Expressions.{by_truth, is_comparison, compared, all_compared, combined, all_signed, on_texts, has_part, is_in, tested, property_of, indexed, labelled, is_coalesce, condition_of}
use Rattle.pg_meaning.specs.Functions.{of_node, of_relationship, properties_of, item_count, id_of, labels_of, type_of, start_node_of, end_node_of, size_of, length_of, nodes_of, relationships_of, head_of, last_of, string_of, integer_of, absolute_of, steps_within, integers_from, range_by, integers_of, range_over, Function, has_deleted, has_null, of_one, function_at, applied, texts}
use Rattle.pg_meaning.specs.Functions as function
use Rattle.pg_meaning.specs.Graph.{Graph, Node, Relationship, node_at, relationship_at}
use Rattle.pg_meaning.specs.Logic.{and3, or3, xor3, truth_of}
use Rattle.pg_meaning.specs.Measure.{is_within_limits, made, greatest_weight}
use Rattle.pg_meaning.specs.Order.{less3, keys_of}
use Rattle.pg_meaning.specs.StaticFaults.{takes}
use Rattle.pg_meaning.specs.Tree.{Name}
use Rattle.pg_meaning.specs.Value.{Value, null, boolean, integer, text, list, mapping, node, relationship, path, Values, no_items, item}
use Rattle.pg_meaning.specs.declared.fault.Fault.{Fault}
use Rattle.pg_meaning.specs.declared.fault.Fault.TheVariants.{ValueTooLarge, DeletedEntity}
use Rattle.pg_meaning.specs.declared.logic.Tri.{Tri}
use Rattle.pg_meaning.specs.declared.operators.Operator.{Operator}
use Rattle.pg_meaning.specs.declared.operators.Operator.TheVariants.{Or, Xor, And, Equal, NotEqual, Less, LessOrEqual, Greater, GreaterOrEqual, Plus, Minus, Times, Divide, Modulo}
use Rattle.pg_meaning.specs.declared.operators.TextTest.{TextTest}
use Rattle.pg_meaning.specs.declared.operators.TextTest.TheVariants.{StartsWith, EndsWith, Contains, In}
use Rattle.pg_soundness.specs.Faults.{is_of_run}

-- it went well, or ended in such a fault
abbrev pub Fine : {X : Type 0} → Result X Fault → Type 0
Fine (Ok x) = ⊤
Fine (Err f) = is_of_run f ≡ true

pub fine_fault : {X : Type 0} (r : Result X Fault) (f : Fault) → Fine r → r ≡ Err f → is_of_run f ≡ true
fine_fault (Ok x) f h e = cc
fine_fault (Err g) f h e = sym (ap (λ r. elim r as (λ r. Bool) [ Ok x ↦ is_of_run g | Err k ↦ is_of_run k ]) e) ∙ h

pub fine_then : {X Y : Type 0} (r : Result X Fault) (next : X → Result Y Fault) → Fine r → ((x : X) → r ≡ Ok x → Fine (next x)) → Fine (r >>= next)
fine_then (Ok x) next h g = g x refl
fine_then (Err f) next h g = h

pub fine_all : {X Y : Type 0} (r : Result X Fault) (next : X → Result Y Fault) → Fine r → ((x : X) → Fine (next x)) → Fine (r >>= next)
fine_all r next h g = fine_then r next h (λ x e. g x)

pub fine_after : {Y : Type 0} (r : Result (Unit {0}) Fault) (next : Result Y Fault) → Fine r → Fine next → Fine (r >> next)
fine_after (Ok x) next h g = g
fine_after (Err f) next h g = h

pub fine_unless : (b : Bool) (f : Fault) → is_of_run f ≡ true → Fine (unless b f)
fine_unless true f h = tt
fine_unless false f h = h

fine_if : {X : Type 0} (b : Bool) (x : X) (f : Fault) → is_of_run f ≡ true → Fine (cond b (Ok x) (Err f))
fine_if true x f h = tt
fine_if false x f h = h

pub fine_checked : (i : ℤ) → Fine (checked i)
fine_checked i = fine_if (is_in_range i) (integer i) _ refl

pub fine_made : (v : Value) → Fine (made v)
fine_made v = fine_if (is_within_limits v) v _ refl

-- ---- arithmetic

fine_plus : (v w : Value) → Fine (plus v w)
fine_plus null w = tt
fine_plus v null = tt
fine_plus (integer x) (integer y) = fine_checked (x +ℤ y)
fine_plus (text x) (text y) = fine_made (text _)
fine_plus (list xs) (list ys) = fine_made (list (appended xs ys))
fine_plus (list xs) w = fine_made (list (appended xs (item w no_items)))
fine_plus v (list ys) = fine_made (list (item v ys))
fine_plus v w = refl

fine_minus : (v w : Value) → Fine (minus v w)
fine_minus null w = tt
fine_minus v null = tt
fine_minus (integer x) (integer y) = fine_checked (x -ℤ y)
fine_minus v w = refl

fine_times : (v w : Value) → Fine (times v w)
fine_times null w = tt
fine_times v null = tt
fine_times (integer x) (integer y) = fine_checked (x *ℤ y)
fine_times v w = refl

fine_divide : (v w : Value) → Fine (divide v w)
fine_divide null w = tt
fine_divide v null = tt
fine_divide (integer x) (integer (pos zero)) = refl
fine_divide (integer x) (integer y) = fine_checked (int_div x y)
fine_divide v w = refl

fine_modulo : (v w : Value) → Fine (modulo v w)
fine_modulo null w = tt
fine_modulo v null = tt
fine_modulo (integer x) (integer (pos zero)) = refl
fine_modulo (integer x) (integer y) = fine_checked (int_rem x y)
fine_modulo v w = refl

fine_signed : (b : Bool) (v : Value) → Fine (signed b v)
fine_signed b null = tt
fine_signed true (integer i) = fine_checked (neg_ℤ i)
fine_signed false (integer i) = tt
fine_signed b v = refl

pub fine_all_signed : (bs : List Bool) (v : Value) → Fine (all_signed bs v)
fine_all_signed [] v = tt
fine_all_signed (b ∷ bs) v = fine_all (all_signed bs v) (signed b) (fine_all_signed bs v) (fine_signed b)

-- ---- logic and comparisons

pub fine_truth : (v : Value) → Fine (truth_of v)
fine_truth (boolean b) = tt
fine_truth null = tt
fine_truth v = refl

fine_by_truth : (f : Tri → Tri → Tri) (v w : Value) → Fine (by_truth f v w)
fine_by_truth f v w = fine_all (truth_of v) _ (fine_truth v) (λ s. fine_all (truth_of w) _ (fine_truth w) (λ t. tt))

fine_less : (v w : Value) → Fine (less3 v w)
fine_less (integer x) (integer y) = tt
fine_less (text x) (text y) = tt
fine_less (boolean x) (boolean y) = tt
fine_less (list xs) (list ys) = refl
fine_less (mapping xs) (mapping ys) = refl
fine_less (node x) (node y) = refl
fine_less (relationship x) (relationship y) = refl
fine_less (path x) (path y) = refl
fine_less v w = tt

fine_compared : (o : Operator) (v w : Value) → is_comparison o ≡ true → Fine (compared o v w)
fine_compared Equal v w h = tt
fine_compared NotEqual v w h = tt
fine_compared Less v w h = fine_less v w
fine_compared LessOrEqual v w h = fine_all (less3 w v) _ (fine_less w v) (λ t. tt)
fine_compared Greater v w h = fine_less w v
fine_compared GreaterOrEqual v w h = fine_all (less3 v w) _ (fine_less v w) (λ t. tt)
fine_compared o v w h = absurd (true≢false (sym h))

pub fine_all_compared : (v : Value) (ps : List (Operator × Value)) → AllByRecursion (λ p. is_comparison p.0 ≡ true) ps → Fine (all_compared v ps)
fine_all_compared v [] h = tt
fine_all_compared v (p ∷ ps) h = fine_all (compared p.0 v p.1) _ (fine_compared p.0 v p.1 h.0) (λ t. fine_all (all_compared p.1 ps) _ (fine_all_compared p.1 ps h.1) (λ u. tt))

pub fine_combined : (o : Operator) (v w : Value) → is_comparison o ≡ false → Fine (combined o v w)
fine_combined Or v w h = fine_by_truth or3 v w
fine_combined Xor v w h = fine_by_truth xor3 v w
fine_combined And v w h = fine_by_truth and3 v w
fine_combined Plus v w h = fine_plus v w
fine_combined Minus v w h = fine_minus v w
fine_combined Times v w h = fine_times v w
fine_combined Divide v w h = fine_divide v w
fine_combined Modulo v w h = fine_modulo v w
fine_combined o v w h = absurd (true≢false h)

pub fine_condition : (subject : Option Value) (v : Value) → Fine (condition_of subject v)
fine_condition None v = fine_truth v
fine_condition (Some s) v = tt

-- ---- tests

fine_on_texts : (f : List ℕ → List ℕ → Bool) (v w : Value) → Fine (on_texts f v w)
fine_on_texts f (text s) (text t) = tt
fine_on_texts f v w = tt

fine_is_in : (v w : Value) → Fine (is_in v w)
fine_is_in v null = tt
fine_is_in v (list ws) = tt
fine_is_in v w = refl

pub fine_tested : (t : TextTest) (v w : Value) → Fine (tested t v w)
fine_tested StartsWith v w = fine_on_texts (starts_with nat_eq) v w
fine_tested EndsWith v w = fine_on_texts (ends_with nat_eq) v w
fine_tested Contains v w = fine_on_texts has_part v w
fine_tested In v w = fine_is_in v w

-- ---- elements

module _ (graph : Graph) where
  fine_of_node : {X : Type 0} (n : ℕ) (f : Node → Result X Fault) → ((x : Node) → Fine (f x)) → Fine (of_node graph n f)
  fine_of_node {X} n f h = elim (node_at graph n) as (λ o. Fine (elim o as (λ o. Result X Fault) [ Some x ↦ f x | None ↦ Err DeletedEntity ])) [ Some x ↦ h x | None ↦ refl ]

  fine_of_relationship : {X : Type 0} (r : ℕ) (f : Relationship → Result X Fault) → ((x : Relationship) → Fine (f x)) → Fine (of_relationship graph r f)
  fine_of_relationship {X} r f h = elim (relationship_at graph r) as (λ o. Fine (elim o as (λ o. Result X Fault) [ Some x ↦ f x | None ↦ Err DeletedEntity ])) [ Some x ↦ h x | None ↦ refl ]

  fine_properties : (v : Value) → Fine (properties_of graph v)
  fine_properties (mapping es) = tt
  fine_properties (node n) = fine_of_node n _ (λ x. tt)
  fine_properties (relationship r) = fine_of_relationship r _ (λ x. tt)
  fine_properties v = refl

  pub fine_property : (v : Value) (k : List ℕ) → Fine (property_of graph v k)
  fine_property null k = tt
  fine_property v k = fine_all (properties_of graph v) (λ es. Ok (value_at k es)) (fine_properties v) (λ es. tt)

  pub fine_indexed : (v i : Value) → Fine (indexed graph v i)
  fine_indexed null i = tt
  fine_indexed v null = tt
  fine_indexed (list vs) (integer i) = tt
  fine_indexed (mapping es) (text k) = tt
  fine_indexed (node n) (text k) = fine_property (node n) k
  fine_indexed (relationship r) (text k) = fine_property (relationship r) k
  fine_indexed v i = refl

  pub fine_labelled : (v : Value) (ls : List Name) → Fine (labelled graph v ls)
  fine_labelled v [] = tt
  fine_labelled null (l ∷ ls) = tt
  fine_labelled (node n) (l ∷ ls) = fine_of_node n _ (λ x. tt)
  fine_labelled v (l ∷ ls) = refl

  -- ---- functions

  fine_one : (f : Value → Result Value Fault) → ((v : Value) → Fine (f v)) → (vs : Values) → (item_count vs == 1) ≡ true → Fine (of_one f vs)
  fine_one f h no_items e = absurd (true≢false (sym e))
  fine_one f h (item v no_items) e = h v
  fine_one f h (item v (item w vs)) e = absurd (too_many (item_count vs) (nat_same (1 + (1 + item_count vs)) 1 e))
    where
      too_many : (n : ℕ) → 1 + (1 + n) ≡ 1 → ⊥
      too_many n e = omega (arith, e)

  fine_id : (v : Value) → Fine (id_of v)
  fine_id (node n) = tt
  fine_id (relationship r) = tt
  fine_id v = refl

  fine_labels : (v : Value) → Fine (labels_of graph v)
  fine_labels (node n) = fine_of_node n _ (λ x. tt)
  fine_labels v = refl

  fine_type : (v : Value) → Fine (type_of graph v)
  fine_type (relationship r) = fine_of_relationship r _ (λ x. tt)
  fine_type v = refl

  fine_start : (v : Value) → Fine (start_node_of graph v)
  fine_start (relationship r) = fine_of_relationship r _ (λ x. tt)
  fine_start v = refl

  fine_end : (v : Value) → Fine (end_node_of graph v)
  fine_end (relationship r) = fine_of_relationship r _ (λ x. tt)
  fine_end v = refl

  fine_size : (v : Value) → Fine (size_of v)
  fine_size (list vs) = tt
  fine_size (text s) = tt
  fine_size v = refl

  fine_length : (v : Value) → Fine (length_of v)
  fine_length (path ids) = tt
  fine_length v = refl

  fine_nodes : (v : Value) → Fine (nodes_of v)
  fine_nodes (path ids) = tt
  fine_nodes v = refl

  fine_relationships : (v : Value) → Fine (relationships_of v)
  fine_relationships (path ids) = tt
  fine_relationships v = refl

  fine_head : (v : Value) → Fine (head_of v)
  fine_head (list vs) = tt
  fine_head v = refl

  fine_last : (v : Value) → Fine (last_of v)
  fine_last (list vs) = tt
  fine_last v = refl

  fine_string : (v : Value) → Fine (string_of v)
  fine_string (integer i) = tt
  fine_string (boolean true) = tt
  fine_string (boolean false) = tt
  fine_string (text s) = tt
  fine_string v = refl

  fine_integer : (v : Value) → Fine (integer_of v)
  fine_integer (integer i) = tt
  fine_integer (text s) = tt
  fine_integer v = refl

  fine_absolute : (v : Value) → Fine (absolute_of v)
  fine_absolute (integer (pos n)) = tt
  fine_absolute (integer (negsuc n)) = fine_checked (pos (suc n))
  fine_absolute v = refl

  fine_within : (n : ℕ) (start step : ℤ) → Fine (elim (nat_le (1 + n) greatest_weight) as (λ b. Result Value Fault) [ true ↦ Ok (list (integers_from n start step)) | false ↦ Err ValueTooLarge ])
  fine_within n start step = elim (nat_le (1 + n) greatest_weight) as (λ b. Fine (elim b as (λ b. Result Value Fault) [ true ↦ Ok (list (integers_from n start step)) | false ↦ Err ValueTooLarge ])) [ true ↦ tt | false ↦ refl ]

  fine_range_by : (start end step : ℤ) → Fine (range_by start end step)
  fine_range_by start end (pos zero) = refl
  fine_range_by start end (pos (suc n)) = fine_within (steps_within (end -ℤ start) (pos (suc n))) start (pos (suc n))
  fine_range_by start end (negsuc n) = fine_within (steps_within (end -ℤ start) (negsuc n)) start (negsuc n)

  fine_integers : (vs : Values) → Fine (integers_of vs)
  fine_integers no_items = tt
  fine_integers (item (integer i) vs) = fine_all (integers_of vs) _ (fine_integers vs) (λ is. tt)
  fine_integers (item v vs) = refl

  abbrev two_or_three : ℕ → Bool
  two_or_three n = (n == 2) || (n == 3)

  fine_range : (vs : Values) → two_or_three (item_count vs) ≡ true → Fine (integers_of vs >>= range_over)
  fine_range no_items e = absurd (true≢false (sym e))
  fine_range (item (integer i) no_items) e = absurd (true≢false (sym e))
  fine_range (item (integer i) (item (integer j) no_items)) e = fine_range_by i j (pos 1)
  fine_range (item (integer i) (item (integer j) (item (integer k) no_items))) e = fine_range_by i j k
  fine_range (item (integer i) (item (integer j) (item (integer k) (item v vs)))) e = absurd (too_many (item_count vs) e)
    where
      too_many : (n : ℕ) → two_or_three (1 + (1 + (1 + (1 + n)))) ≡ true → ⊥
      too_many n e = grind (arith, nat_tests)
  fine_range (item (integer i) (item (integer j) (item v vs))) e = refl
  fine_range (item (integer i) (item v vs)) e = refl
  fine_range (item v vs) e = refl

  fine_function : (f : Function) (vs : Values) → is_coalesce f ≡ false → takes f (item_count vs) ≡ true → Fine (function_at graph f vs)
  fine_function function.id vs other e = fine_one id_of fine_id vs e
  fine_function function.labels vs other e = fine_one (labels_of graph) fine_labels vs e
  fine_function function.type vs other e = fine_one (type_of graph) fine_type vs e
  fine_function function.keys vs other e = fine_one (λ v. properties_of graph v >>= λ es. Ok (texts (keys_of es))) (λ v. fine_all (properties_of graph v) _ (fine_properties v) (λ es. tt)) vs e
  fine_function function.properties vs other e = fine_one (λ v. properties_of graph v >>= λ es. Ok (mapping es)) (λ v. fine_all (properties_of graph v) _ (fine_properties v) (λ es. tt)) vs e
  fine_function function.size vs other e = fine_one size_of fine_size vs e
  fine_function function.length vs other e = fine_one length_of fine_length vs e
  fine_function function.nodes vs other e = fine_one nodes_of fine_nodes vs e
  fine_function function.relationships vs other e = fine_one relationships_of fine_relationships vs e
  fine_function function.head vs other e = fine_one head_of fine_head vs e
  fine_function function.last vs other e = fine_one last_of fine_last vs e
  fine_function function.coalesce vs other e = absurd (true≢false other)
  fine_function function.range vs other e = fine_range vs e
  fine_function function.to_string vs other e = fine_one string_of fine_string vs e
  fine_function function.to_integer vs other e = fine_one integer_of fine_integer vs e
  fine_function function.abs vs other e = fine_one absolute_of fine_absolute vs e
  fine_function function.start_node vs other e = fine_one (start_node_of graph) fine_start vs e
  fine_function function.end_node vs other e = fine_one (end_node_of graph) fine_end vs e

  pub fine_applied : (f : Function) (vs : Values) → is_coalesce f ≡ false → takes f (item_count vs) ≡ true → Fine (applied graph f vs)
  fine_applied f vs other e =
      elim (has_deleted graph vs) as (λ b. Fine (elim b as (λ b. Result Value Fault) [ true ↦ Err DeletedEntity | false ↦ elim (has_null vs) as (λ c. Result Value Fault) [ true ↦ Ok null | false ↦ function_at graph f vs >>= made ] ])) [
        | true ↦ refl
        | false ↦ elim (has_null vs) as (λ c. Fine (elim c as (λ c. Result Value Fault) [ true ↦ Ok null | false ↦ function_at graph f vs >>= made ])) [
          | true ↦ tt
          | false ↦ fine_all (function_at graph f vs) made (fine_function f vs other e) fine_made
        ]
      ]
