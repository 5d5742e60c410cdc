-- What an expression gives at rows that agree on the variables that it reads.
use Rattle.std.proofs.Common.{◌≡◌, ℕ, ◌||◌, Bool, true, false, List, [], ◌∷◌, Result, Ok, Err, Option, Some, None, unwrap_or, bytes_eq, refl, sym, ◌∙◌}
use Rattle.std.proofs.lemmas.Slice.Eq.{bytes_eq-Decides}
use Rattle.std.proofs.lemmas.Bool.{or_left, or_right}
use Rattle.std.specs.List.{list_any}
use Rattle.pg_meaning.specs.Answer.{Answer, ◌>>=◌}
use Rattle.pg_meaning.specs.Conditions.{all_true, condition, conjuncts, operands_of}
use Rattle.pg_meaning.specs.Entries.{with_entry}
use Rattle.pg_meaning.specs.Expressions.{evaluate, evaluate_each, first_given, evaluate_pairs, evaluate_perhaps, first_true, evaluate_chain, evaluate_operands, evaluate_tests, evaluate_suffixes, all_compared, all_signed, begins_comparison, combined, condition_of, fault_of_name, indexed, is_coalesce, labelled, null_tested, or_fault, property_of, tested}
use Rattle.pg_meaning.specs.Functions.{Function, applied, function_named, is_null}
use Rattle.pg_meaning.specs.Graph.{Graph}
use Rattle.pg_meaning.specs.Logic.{is_true, negated, truth_of, value_of_truth}
use Rattle.pg_meaning.specs.Measure.{made}
use Rattle.pg_meaning.specs.Rows.{Row}
use Rattle.pg_meaning.specs.Tree.{Expression, literal, parameter, variable, list_literal, map_literal, parentheses, call, case, chain, negation, signs, tests, suffixes, Expressions, no_expressions, expression, Pairs, no_pairs, pair, Perhaps, absent, present, Whens, no_whens, when, Operands, no_operands, operand, Tests, no_tests, text_test, null_test, Suffixes, no_suffixes, property, index}
use Rattle.pg_meaning.specs.Value.{Value, null, list, mapping, Values, no_items, item, Entries, no_entries}
use Rattle.pg_meaning.specs.declared.fault.Fault.{Fault}
use Rattle.pg_meaning.specs.declared.fault.Fault.TheVariants.{UndefinedVariable, MissingParameter}
use Rattle.pg_meaning.specs.declared.logic.Tri.{Tri}
use Rattle.pg_meaning.specs.declared.operators.Operator.TheVariants.{And}
use Rattle.pg_reads.specs.Reads.{AgreeOn, condition_reads, reads, any_reads, pairs_read, perhaps_reads, whens_read, operands_read, tests_read, suffixes_read}

or_false : (a : Bool) → (a || false) ≡ a
or_false true = refl
or_false false = refl

same_bytes : (xs : List ℕ) → bytes_eq xs xs ≡ true
same_bytes xs = (bytes_eq-Decides xs xs).1 refl

pub agree_first : (p q : List ℕ → Bool) (row other : Row) → AgreeOn (λ x. p x || q x) row other → AgreeOn p row other
agree_first p q row other h = λ x is. h x (or_left (p x) (q x) is)

pub agree_second : (p q : List ℕ → Bool) (row other : Row) → AgreeOn (λ x. p x || q x) row other → AgreeOn q row other
agree_second p q row other h = λ x is. h x (or_right (p x) (q x) is)

module _ (row other : Row) (parameters : Entries) (graph : Graph) where
  abbrev Agree : (List ℕ → Bool) → Type 0
  Agree names = AgreeOn names row other

  first : (p q : List ℕ → Bool) → Agree (λ x. p x || q x) → Agree p
  first p q h = agree_first p q row other h

  second : (p q : List ℕ → Bool) → Agree (λ x. p x || q x) → Agree q
  second p q h = agree_second p q row other h

  mutual
    pub evaluate_alike : (e : Expression) → Agree (λ x. reads x e) → evaluate row parameters graph e ≡ evaluate other parameters graph e
    evaluate_alike (literal v) h = refl
    evaluate_alike (parameter p) h = refl
    evaluate_alike (variable x) h = λ i. or_fault (h x.text (same_bytes x.text) i) UndefinedVariable
    evaluate_alike (list_literal es) h = λ i. each_alike es h i >>= λ vs. made (list vs)
    evaluate_alike (map_literal ps) h = λ i. pairs_alike no_entries ps h i >>= λ es. made (mapping es)
    evaluate_alike (parentheses e) h = evaluate_alike e h
    evaluate_alike (call name star distinct es) h = λ i. elim (function_named name.text) [
      | Some f ↦ elim (is_coalesce f) [ true ↦ given_alike es h i | false ↦ each_alike es h i >>= applied graph f ]
      | None ↦ Err (fault_of_name name.text)
    ]
    evaluate_alike (case subject ws otherwise) h =
        let rest = second (λ x. perhaps_reads x subject) (λ x. whens_read x ws || perhaps_reads x otherwise) h in
        λ i. perhaps_alike subject (first (λ x. perhaps_reads x subject) (λ x. whens_read x ws || perhaps_reads x otherwise) h) i >>= λ s. whens_alike s ws (first (λ x. whens_read x ws) (λ x. perhaps_reads x otherwise) rest) i >>= λ found. elim found [
          | Some v ↦ Ok v
          | None ↦ perhaps_alike otherwise (second (λ x. whens_read x ws) (λ x. perhaps_reads x otherwise) rest) i >>= λ o. Ok (unwrap_or o null)
        ]
    evaluate_alike (chain e os) h =
        let rest = second (λ x. reads x e) (λ x. operands_read x os) h in
        λ i. evaluate_alike e (first (λ x. reads x e) (λ x. operands_read x os) h) i >>= λ v. elim (begins_comparison os) [
          | true ↦ operands_alike os rest i >>= λ ps. all_compared v ps >>= λ t. Ok (value_of_truth t)
          | false ↦ chain_alike v os rest i
        ]
    evaluate_alike (negation n e) h = λ i. evaluate_alike e h i >>= λ v. truth_of v >>= λ t. Ok (value_of_truth (negated n t))
    evaluate_alike (signs ss e) h = λ i. evaluate_alike e h i >>= all_signed ss
    evaluate_alike (tests e ts) h = λ i. evaluate_alike e (first (λ x. reads x e) (λ x. tests_read x ts) h) i >>= λ v. tests_alike v ts (second (λ x. reads x e) (λ x. tests_read x ts) h) i
    evaluate_alike (suffixes e ss ls) h = λ i. evaluate_alike e (first (λ x. reads x e) (λ x. suffixes_read x ss) h) i >>= λ v. suffixes_alike v ss (second (λ x. reads x e) (λ x. suffixes_read x ss) h) i >>= λ w. labelled graph w ls

    each_alike : (es : Expressions) → Agree (λ x. any_reads x es) → evaluate_each row parameters graph es ≡ evaluate_each other parameters graph es
    each_alike no_expressions h = refl
    each_alike (expression e es) h = λ i. evaluate_alike e (first (λ x. reads x e) (λ x. any_reads x es) h) i >>= λ v. each_alike es (second (λ x. reads x e) (λ x. any_reads x es) h) i >>= λ vs. Ok (item v vs)

    given_alike : (es : Expressions) → Agree (λ x. any_reads x es) → first_given row parameters graph es ≡ first_given other parameters graph es
    given_alike no_expressions h = refl
    given_alike (expression e es) h = λ i. evaluate_alike e (first (λ x. reads x e) (λ x. any_reads x es) h) i >>= λ v. elim (is_null v) [ true ↦ given_alike es (second (λ x. reads x e) (λ x. any_reads x es) h) i | false ↦ Ok v ]

    pairs_alike : (found : Entries) (ps : Pairs) → Agree (λ x. pairs_read x ps) → evaluate_pairs row parameters graph found ps ≡ evaluate_pairs other parameters graph found ps
    pairs_alike found no_pairs h = refl
    pairs_alike found (pair k e ps) h = λ i. evaluate_alike e (first (λ x. reads x e) (λ x. pairs_read x ps) h) i >>= λ v. pairs_alike (with_entry k.text v found) ps (second (λ x. reads x e) (λ x. pairs_read x ps) h) i

    perhaps_alike : (p : Perhaps) → Agree (λ x. perhaps_reads x p) → evaluate_perhaps row parameters graph p ≡ evaluate_perhaps other parameters graph p
    perhaps_alike absent h = refl
    perhaps_alike (present e) h = λ i. evaluate_alike e h i >>= λ v. Ok (Some v)

    whens_alike : (subject : Option Value) (ws : Whens) → Agree (λ x. whens_read x ws) → first_true row parameters graph subject ws ≡ first_true other parameters graph subject ws
    whens_alike subject no_whens h = refl
    whens_alike subject (when c e ws) h =
        let rest = second (λ x. reads x c) (λ x. reads x e || whens_read x ws) h in
        λ i. evaluate_alike c (first (λ x. reads x c) (λ x. reads x e || whens_read x ws) h) i >>= λ v. condition_of subject v >>= λ t. elim (is_true t) [
          | true ↦ evaluate_alike e (first (λ x. reads x e) (λ x. whens_read x ws) rest) i >>= λ w. Ok (Some w)
          | false ↦ whens_alike subject ws (second (λ x. reads x e) (λ x. whens_read x ws) rest) i
        ]

    chain_alike : (v : Value) (os : Operands) → Agree (λ x. operands_read x os) → evaluate_chain row parameters graph v os ≡ evaluate_chain other parameters graph v os
    chain_alike v no_operands h = refl
    chain_alike v (operand o e os) h = λ i. evaluate_alike e (first (λ x. reads x e) (λ x. operands_read x os) h) i >>= λ w. combined o v w >>= λ u. chain_alike u os (second (λ x. reads x e) (λ x. operands_read x os) h) i

    operands_alike : (os : Operands) → Agree (λ x. operands_read x os) → evaluate_operands row parameters graph os ≡ evaluate_operands other parameters graph os
    operands_alike no_operands h = refl
    operands_alike (operand o e os) h = λ i. evaluate_alike e (first (λ x. reads x e) (λ x. operands_read x os) h) i >>= λ v. operands_alike os (second (λ x. reads x e) (λ x. operands_read x os) h) i >>= λ ps. Ok ((o, v) ∷ ps)

    tests_alike : (v : Value) (ts : Tests) → Agree (λ x. tests_read x ts) → evaluate_tests row parameters graph v ts ≡ evaluate_tests other parameters graph v ts
    tests_alike v no_tests h = refl
    tests_alike v (text_test test e ts) h = λ i. evaluate_alike e (first (λ x. reads x e) (λ x. tests_read x ts) h) i >>= λ w. tested test v w >>= λ u. tests_alike u ts (second (λ x. reads x e) (λ x. tests_read x ts) h) i
    tests_alike v (null_test is_negated ts) h = tests_alike (null_tested is_negated v) ts h

    suffixes_alike : (v : Value) (ss : Suffixes) → Agree (λ x. suffixes_read x ss) → evaluate_suffixes row parameters graph v ss ≡ evaluate_suffixes other parameters graph v ss
    suffixes_alike v no_suffixes h = refl
    suffixes_alike v (property k ss) h = λ i. property_of graph v k.text >>= λ w. suffixes_alike w ss h i
    suffixes_alike v (index e ss) h = λ i. evaluate_alike e (first (λ x. reads x e) (λ x. suffixes_read x ss) h) i >>= λ j. indexed graph v j >>= λ w. suffixes_alike w ss (second (λ x. reads x e) (λ x. suffixes_read x ss) h) i

-- ---- conditions

conjuncts_read : (x : List ℕ) (e : Expression) → list_any (λ f. reads x f) (conjuncts e) ≡ reads x e
conjuncts_read x (chain e (operand And f os)) = λ i. reads x e || (reads x f || others os i)
  where
    others : (os : Operands) → list_any (λ f. reads x f) (operands_of os) ≡ operands_read x os
    others no_operands = refl
    others (operand o e os) = λ i. reads x e || others os i
conjuncts_read x e = or_false (reads x e)

module _ (row other : Row) (parameters : Entries) (graph : Graph) where
  all_alike : (es : List Expression) → AgreeOn (λ x. list_any (λ f. reads x f) es) row other → all_true row parameters graph es ≡ all_true other parameters graph es
  all_alike [] h = refl
  all_alike (e ∷ es) h = λ i. evaluate_alike row other parameters graph e (agree_first (λ x. reads x e) (λ x. list_any (λ f. reads x f) es) row other h) i >>= λ v. truth_of v >>= λ t. elim (is_true t) [
    | true ↦ all_alike es (agree_second (λ x. reads x e) (λ x. list_any (λ f. reads x f) es) row other h) i
    | false ↦ Ok false
  ]

  pub condition_alike : (where_ : Option Expression) → AgreeOn (λ x. condition_reads x where_) row other → condition where_ row parameters graph ≡ condition where_ other parameters graph
  condition_alike None h = refl
  condition_alike (Some e) h = all_alike (conjuncts e) (λ x is. h x (sym (conjuncts_read x e) ∙ is))
