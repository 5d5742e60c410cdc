-- An expression over values whose ids were handed out has one value in every graph that keeps what was there.
use Rattle.std.proofs.Common.{◌≡◌, ℕ, Bool, true, false, cond, List, [], ◌∷◌, Option, Some, None, unwrap_or, Result, Ok, Err, refl, ap, subst}
use Rattle.std.specs.Bool.{⊤}
use Rattle.std.specs.Prelude.{bytes_eq}
use Rattle.pg_meaning.specs.Answer.{◌>>=◌}
use Rattle.pg_meaning.specs.Entries.{at_key, with_entry}
use Rattle.pg_meaning.specs.Expressions.{all_compared, or_fault, null_tested, is_coalesce, fault_of_name, condition_of, all_signed, begins_comparison, evaluate, evaluate_each, first_given, evaluate_pairs, evaluate_perhaps, first_true, evaluate_chain, evaluate_operands, evaluate_tests, evaluate_suffixes, combined, tested, property_of, indexed}
use Rattle.pg_meaning.specs.Functions.{Function, function_named, is_null, applied}
use Rattle.pg_meaning.specs.Grammar.{IsLiteral, IsWellFormed, AllWellFormed, ArePairs, MayBe, AreWhens, AreOperands, AreTests, AreSuffixes}
use Rattle.pg_meaning.specs.Graph.{Graph}
use Rattle.pg_meaning.specs.Logic.{value_of_truth, truth_of, is_true, negated}
use Rattle.pg_meaning.specs.Rows.{Row, value_in}
use Rattle.pg_meaning.specs.Tree.{Name, Expression, literal, parameter, variable, list_literal, map_literal, parentheses, call, case, chain, negation, signs, tests, suffixes, Expressions, no_expressions, expression, Pairs, no_pairs, pair, Perhaps, absent, present, Whens, no_whens, when, Operands, no_operands, operand, Tests, no_tests, text_test, null_test, Suffixes, no_suffixes, property, index}
use Rattle.pg_meaning.specs.Value.{Value, null, boolean, integer, text, list, mapping, node, relationship, path, Values, Entries, no_entries}
use Rattle.pg_meaning.specs.declared.fault.Fault.{Fault}
use Rattle.pg_meaning.specs.declared.fault.Fault.TheVariants.{UndefinedVariable, MissingParameter}
use Rattle.pg_relations.proofs.HandedOutValues.{Has, One, Any, any, one_then, Out, made_out, value_out, all_signed_out, combined_out, tested_out, found_out, put_out}
use Rattle.pg_relations.proofs.ReadAlike.{property_one, indexed_one, labelled_one, applied_one}
use Rattle.pg_relations.specs.HandedOut.{ItemsHandedOut, EntriesHandedOut, RowHandedOut, StoresHandedOut, EvaluatesAlike}
use Rattle.pg_relations.specs.Numbered.{Keeps}

module _ (before after : Graph) (keeps : Keeps before after) (stores : StoresHandedOut before) (row : Row) (parameters : Entries) (bound : RowHandedOut before row) (given : EntriesHandedOut before parameters) where
  abbrev OneAnswer : Result Value Fault → Result Value Fault → Type 0
  OneAnswer r s = One (Out before) r s

  abbrev MayBeOut : Option Value → Type 0
  MayBeOut None = ⊤
  MayBeOut (Some v) = Out before v

  literal_out : (v : Value) → IsLiteral v → Out before v
  literal_out null w = tt
  literal_out (boolean b) w = tt
  literal_out (integer i) w = tt
  literal_out (text t) w = tt
  literal_out (list vs) w = absurd w
  literal_out (mapping es) w = absurd w
  literal_out (node n) w = absurd w
  literal_out (relationship r) w = absurd w
  literal_out (path ids) w = absurd w

  in_row : (name : List ℕ) (r : Row) (v : Value) → RowHandedOut before r → value_in name r ≡ Some v → Out before v
  in_row name [] v h e = cc
  in_row name (b ∷ r) v h e = by_name (bytes_eq name b.0) e (in_row name r v h.1)
    where
      by_name : (c : Bool) → cond c (Some b.1) (value_in name r) ≡ Some v → (value_in name r ≡ Some v → Out before v) → Out before v
      by_name true e rest = subst (Out before) (ap (λ o. unwrap_or o null) e) h.0
      by_name false e rest = rest e

  or_out : (o : Option Value) (f : Fault) → ((v : Value) → o ≡ Some v → Out before v) → Has (Out before) (or_fault o f)
  or_out (Some v) f h = h v refl
  or_out None f h = tt

  -- ---- branches

  null_one : (v : Value) (b : Bool) (es : Expressions) → Out before v → OneAnswer (first_given row parameters after es) (first_given row parameters before es)
      → OneAnswer (elim b as (λ b. Result Value Fault) [ true ↦ first_given row parameters after es | false ↦ Ok v ]) (elim b as (λ b. Result Value Fault) [ true ↦ first_given row parameters before es | false ↦ Ok v ])
  null_one v true es h k = k
  null_one v false es h k = (refl, h)

  abbrev called_by : Graph → Name → Expressions → Option Function → Result Value Fault
  called_by graph n es o = elim o as (λ o. Result Value Fault) [
    | Some f ↦ elim (is_coalesce f) as (λ b. Result Value Fault) [ true ↦ first_given row parameters graph es | false ↦ evaluate_each row parameters graph es >>= applied graph f ]
    | None ↦ Err (fault_of_name n.text)
  ]

  abbrev OneItems : Result Values Fault → Result Values Fault → Type 0
  OneItems r s = One (ItemsHandedOut before) r s

  called_one : (n : Name) (es : Expressions) (o : Option Function) → OneAnswer (first_given row parameters after es) (first_given row parameters before es) → OneItems (evaluate_each row parameters after es) (evaluate_each row parameters before es)
      → OneAnswer (called_by after n es o) (called_by before n es o)
  called_one n es None first each = (refl, tt)
  called_one n es (Some f) first each = by_kind (is_coalesce f)
    where
      by_kind : (b : Bool)
          → OneAnswer (elim b as (λ b. Result Value Fault) [ true ↦ first_given row parameters after es | false ↦ evaluate_each row parameters after es >>= applied after f ])
          (elim b as (λ b. Result Value Fault) [ true ↦ first_given row parameters before es | false ↦ evaluate_each row parameters before es >>= applied before f ])
      by_kind true = first
      by_kind false = one_then (ItemsHandedOut before) (Out before) (evaluate_each row parameters after es) (evaluate_each row parameters before es) (applied after f) (applied before f) each (λ vs h. applied_one before after keeps stores f vs h)

  abbrev found_by : Graph → Perhaps → Option Value → Result Value Fault
  found_by graph otherwise o = elim o as (λ o. Result Value Fault) [ Some v ↦ Ok v | None ↦ evaluate_perhaps row parameters graph otherwise >>= λ o. Ok (unwrap_or o null) ]

  unwrapped_out : (o : Option Value) → MayBeOut o → Out before (unwrap_or o null)
  unwrapped_out None h = tt
  unwrapped_out (Some v) h = h

  found_one : (otherwise : Perhaps) (found : Option Value) → MayBeOut found → One MayBeOut (evaluate_perhaps row parameters after otherwise) (evaluate_perhaps row parameters before otherwise) → OneAnswer (found_by after otherwise found) (found_by before otherwise found)
  found_one otherwise (Some v) h k = (refl, h)
  found_one otherwise None h k = one_then MayBeOut (Out before) (evaluate_perhaps row parameters after otherwise) (evaluate_perhaps row parameters before otherwise) _ _ k (λ o l. (refl, unwrapped_out o l))

  abbrev branch_by : Graph → Option Value → Expression → Whens → Bool → Result (Option Value) Fault
  branch_by graph subject x ws b = elim b as (λ b. Result (Option Value) Fault) [ true ↦ evaluate row parameters graph x >>= λ v. Ok (Some v) | false ↦ first_true row parameters graph subject ws ]

  branch_one : (subject : Option Value) (b : Bool) (x : Expression) (ws : Whens) → OneAnswer (evaluate row parameters after x) (evaluate row parameters before x) → One MayBeOut (first_true row parameters after subject ws) (first_true row parameters before subject ws)
      → One MayBeOut (branch_by after subject x ws b) (branch_by before subject x ws b)
  branch_one subject true x ws h k = one_then (Out before) MayBeOut (evaluate row parameters after x) (evaluate row parameters before x) _ _ h (λ v l. (refl, l))
  branch_one subject false x ws h k = k

  abbrev kind_by : Graph → Value → Operands → Bool → Result Value Fault
  kind_by graph v os b = elim b as (λ b. Result Value Fault) [ true ↦ evaluate_operands row parameters graph os >>= λ ps. all_compared v ps >>= λ t. Ok (value_of_truth t) | false ↦ evaluate_chain row parameters graph v os ]

  kind_one : (v : Value) (b : Bool) (os : Operands) → One Any (evaluate_operands row parameters after os) (evaluate_operands row parameters before os) → OneAnswer (evaluate_chain row parameters after v os) (evaluate_chain row parameters before v os)
      → OneAnswer (kind_by after v os b) (kind_by before v os b)
  kind_one v true os h k =
      one_then Any (Out before) (evaluate_operands row parameters after os) (evaluate_operands row parameters before os) _ _ h
      (λ ps l. one_then Any (Out before) (all_compared v ps) (all_compared v ps) _ _ (refl, any (all_compared v ps)) (λ t m. (refl, value_out before t)))
  kind_one v false os h k = k

  -- ---- trees

  mutual
    pub evaluate_one : (e : Expression) → IsWellFormed e → OneAnswer (evaluate row parameters after e) (evaluate row parameters before e)
    evaluate_one (literal v) w = (refl, literal_out v w)
    evaluate_one (parameter p) w = (refl, or_out (at_key p.text parameters) MissingParameter (λ v e. found_out before p.text parameters v given e))
    evaluate_one (variable x) w = (refl, or_out (value_in x.text row) UndefinedVariable (λ v e. in_row x.text row v bound e))
    evaluate_one (list_literal es) w = one_then (ItemsHandedOut before) (Out before) (evaluate_each row parameters after es) (evaluate_each row parameters before es) _ _ (each_one es w) (λ vs h. (refl, made_out before (list vs) h))
    evaluate_one (map_literal ps) w = one_then (EntriesHandedOut before) (Out before) (evaluate_pairs row parameters after no_entries ps) (evaluate_pairs row parameters before no_entries ps) _ _ (pairs_one no_entries ps w tt) (λ es h. (refl, made_out before (mapping es) h))
    evaluate_one (parentheses x) w = evaluate_one x w
    evaluate_one (call n star distinct es) w = called_one n es (function_named n.text) (first_one es w.2) (each_one es w.2)
    evaluate_one (case subject ws otherwise) w =
        one_then MayBeOut (Out before) (evaluate_perhaps row parameters after subject) (evaluate_perhaps row parameters before subject) _ _ (perhaps_one subject w.0)
        (λ s h. one_then MayBeOut (Out before) (first_true row parameters after s ws) (first_true row parameters before s ws) _ _ (whens_one s ws w.2) (λ found k. found_one otherwise found k (perhaps_one otherwise w.3)))
    evaluate_one (chain x os) w =
        one_then (Out before) (Out before) (evaluate row parameters after x) (evaluate row parameters before x) _ _ (evaluate_one x w.1)
        (λ v h. kind_one v (begins_comparison os) os (operands_one _ os w.3) (chain_one _ v os w.3 h))
    evaluate_one (negation n x) w =
        one_then (Out before) (Out before) (evaluate row parameters after x) (evaluate row parameters before x) _ _ (evaluate_one x w.1)
        (λ v h. one_then Any (Out before) (truth_of v) (truth_of v) _ _ (refl, any (truth_of v)) (λ t k. (refl, value_out before (negated n t))))
    evaluate_one (signs bs x) w = one_then (Out before) (Out before) (evaluate row parameters after x) (evaluate row parameters before x) (all_signed bs) (all_signed bs) (evaluate_one x w.1) (λ v h. (refl, all_signed_out before bs v h))
    evaluate_one (tests x ts) w = one_then (Out before) (Out before) (evaluate row parameters after x) (evaluate row parameters before x) _ _ (evaluate_one x w.1) (λ v h. tests_one v ts w.3 h)
    evaluate_one (suffixes x xs ls) w =
        one_then (Out before) (Out before) (evaluate row parameters after x) (evaluate row parameters before x) _ _ (evaluate_one x w.1)
        (λ v h. one_then (Out before) (Out before) (evaluate_suffixes row parameters after v xs) (evaluate_suffixes row parameters before v xs) _ _ (suffixes_one v xs w.3 h) (λ u k. labelled_one before after keeps stores u ls k))

    each_one : (es : Expressions) → AllWellFormed es → OneItems (evaluate_each row parameters after es) (evaluate_each row parameters before es)
    each_one no_expressions w = (refl, tt)
    each_one (expression x es) w =
        one_then (Out before) (ItemsHandedOut before) (evaluate row parameters after x) (evaluate row parameters before x) _ _ (evaluate_one x w.0)
        (λ v h. one_then (ItemsHandedOut before) (ItemsHandedOut before) (evaluate_each row parameters after es) (evaluate_each row parameters before es) _ _ (each_one es w.1) (λ vs k. (refl, (h, k))))

    first_one : (es : Expressions) → AllWellFormed es → OneAnswer (first_given row parameters after es) (first_given row parameters before es)
    first_one no_expressions w = (refl, tt)
    first_one (expression x es) w =
        one_then (Out before) (Out before) (evaluate row parameters after x) (evaluate row parameters before x) _ _ (evaluate_one x w.0) (λ v h. null_one v (is_null v) es h (first_one es w.1))

    pairs_one : (found : Entries) (ps : Pairs) → ArePairs ps → EntriesHandedOut before found → One (EntriesHandedOut before) (evaluate_pairs row parameters after found ps) (evaluate_pairs row parameters before found ps)
    pairs_one found no_pairs w all = (refl, all)
    pairs_one found (pair n x ps) w all =
        one_then (Out before) (EntriesHandedOut before) (evaluate row parameters after x) (evaluate row parameters before x) _ _ (evaluate_one x w.0) (λ v h. pairs_one (with_entry n.text v found) ps w.1 (put_out before n.text v found h all))

    perhaps_one : (p : Perhaps) → MayBe p → One MayBeOut (evaluate_perhaps row parameters after p) (evaluate_perhaps row parameters before p)
    perhaps_one absent w = (refl, tt)
    perhaps_one (present x) w = one_then (Out before) MayBeOut (evaluate row parameters after x) (evaluate row parameters before x) _ _ (evaluate_one x w) (λ v h. (refl, h))

    whens_one : (subject : Option Value) (ws : Whens) → AreWhens ws → One MayBeOut (first_true row parameters after subject ws) (first_true row parameters before subject ws)
    whens_one subject no_whens w = (refl, tt)
    whens_one subject (when c x ws) w =
        one_then (Out before) MayBeOut (evaluate row parameters after c) (evaluate row parameters before c) _ _ (evaluate_one c w.0)
        (λ v h. one_then Any MayBeOut (condition_of subject v) (condition_of subject v) _ _ (refl, any (condition_of subject v)) (λ t k. branch_one subject (is_true t) x ws (evaluate_one x w.1) (whens_one subject ws w.2)))

    operands_one : (at : ℕ) (os : Operands) → AreOperands at os → One Any (evaluate_operands row parameters after os) (evaluate_operands row parameters before os)
    operands_one at no_operands w = (refl, tt)
    operands_one at (operand o x os) w =
        one_then (Out before) Any (evaluate row parameters after x) (evaluate row parameters before x) _ _ (evaluate_one x w.1)
        (λ v h. one_then Any Any (evaluate_operands row parameters after os) (evaluate_operands row parameters before os) _ _ (operands_one at os w.3) (λ ps k. (refl, tt)))

    chain_one : (at : ℕ) (v : Value) (os : Operands) → AreOperands at os → Out before v → OneAnswer (evaluate_chain row parameters after v os) (evaluate_chain row parameters before v os)
    chain_one at v no_operands w h = (refl, h)
    chain_one at v (operand o x os) w h =
        one_then (Out before) (Out before) (evaluate row parameters after x) (evaluate row parameters before x) _ _ (evaluate_one x w.1)
        (λ u k. one_then (Out before) (Out before) (combined o v u) (combined o v u) _ _ (refl, combined_out before o v u h k) (λ t l. chain_one at t os w.3 l))

    tests_one : (v : Value) (ts : Tests) → AreTests ts → Out before v → OneAnswer (evaluate_tests row parameters after v ts) (evaluate_tests row parameters before v ts)
    tests_one v no_tests w h = (refl, h)
    tests_one v (text_test t x ts) w h =
        one_then (Out before) (Out before) (evaluate row parameters after x) (evaluate row parameters before x) _ _ (evaluate_one x w.0)
        (λ u k. one_then (Out before) (Out before) (tested t v u) (tested t v u) _ _ (refl, tested_out before t v u) (λ r l. tests_one r ts w.2 l))
    tests_one v (null_test is_not ts) w h = tests_one (null_tested is_not v) ts w tt

    suffixes_one : (v : Value) (xs : Suffixes) → AreSuffixes xs → Out before v → OneAnswer (evaluate_suffixes row parameters after v xs) (evaluate_suffixes row parameters before v xs)
    suffixes_one v no_suffixes w h = (refl, h)
    suffixes_one v (property n xs) w h =
        one_then (Out before) (Out before) (property_of after v n.text) (property_of before v n.text) _ _ (property_one before after keeps stores v n.text h) (λ u k. suffixes_one u xs w k)
    suffixes_one v (index x xs) w h =
        one_then (Out before) (Out before) (evaluate row parameters after x) (evaluate row parameters before x) _ _ (evaluate_one x w.0)
        (λ i l. one_then (Out before) (Out before) (indexed after v i) (indexed before v i) _ _ (indexed_one before after keeps stores v i h) (λ u k. suffixes_one u xs w.1 k))

pub evaluates_alike : EvaluatesAlike
evaluates_alike before after row parameters e keeps stores bound given w = (evaluate_one before after keeps stores row parameters bound given e w).0
