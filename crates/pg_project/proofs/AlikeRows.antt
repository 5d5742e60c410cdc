-- What an expression gives at a row depends on what its names stand for alone.
use Rattle.std.proofs.Common.{◌≡◌, ℕ, true, false, List, [], ◌∷◌, Option, Some, None, Ok, Err, unwrap_or, refl}
use Rattle.pg_meaning.specs.Answer.{◌>>=◌}
use Rattle.pg_meaning.specs.Conditions.{all_true, condition, conjuncts_of}
use Rattle.pg_meaning.specs.Entries.{with_entry}
use Rattle.pg_meaning.specs.Expressions.{evaluate, evaluate_each, first_given, evaluate_pairs, evaluate_perhaps, first_true, evaluate_chain, evaluate_operands, evaluate_tests, evaluate_suffixes, all_compared, all_signed, begins_comparison, combined, condition_of, fault_of_name, indexed, is_coalesce, labelled, null_tested, or_fault, property_of, tested}
use Rattle.pg_meaning.specs.Functions.{applied, function_named, is_null}
use Rattle.pg_meaning.specs.Graph.{Graph}
use Rattle.pg_meaning.specs.Logic.{is_true, negated, truth_of, value_of_truth}
use Rattle.pg_meaning.specs.Measure.{made}
use Rattle.pg_meaning.specs.Rows.{Row, value_in}
use Rattle.pg_meaning.specs.Tree.{Expression, literal, parameter, variable, list_literal, map_literal, parentheses, call, case, chain, negation, signs, tests, suffixes, Expressions, no_expressions, expression, Pairs, no_pairs, pair, Perhaps, absent, present, Whens, no_whens, when, Operands, no_operands, operand, Tests, no_tests, text_test, null_test, Suffixes, no_suffixes, property, index}
use Rattle.pg_meaning.specs.Value.{Value, null, list, mapping, item, Entries, no_entries}
use Rattle.pg_meaning.specs.declared.fault.Fault.TheVariants.{UndefinedVariable}

-- whether the rows give each name the same value
abbrev pub Alike : Row → Row → Type 0
Alike row other = (name : List ℕ) → value_in name row ≡ value_in name other

module _ (row other : Row) (parameters : Entries) (graph : Graph) (alike : Alike row other) where
  mutual
    pub same_value : (e : Expression) → evaluate row parameters graph e ≡ evaluate other parameters graph e
    same_value (literal v) = refl
    same_value (parameter p) = refl
    same_value (variable x) = λ i. or_fault (alike x.text i) UndefinedVariable
    same_value (list_literal es) = λ i. same_each es i >>= λ vs. made (list vs)
    same_value (map_literal ps) = λ i. same_pairs no_entries ps i >>= λ es. made (mapping es)
    same_value (parentheses e) = same_value e
    same_value (call name star distinct es) = λ i. elim (function_named name.text) [
      | Some f ↦ elim (is_coalesce f) [ true ↦ same_first es i | false ↦ same_each es i >>= applied graph f ]
      | None ↦ Err (fault_of_name name.text)
    ]
    same_value (case subject ws otherwise) =
        λ i. same_perhaps subject i >>= λ s. same_whens s ws i >>= λ found. elim found [
          | Some v ↦ Ok v
          | None ↦ same_perhaps otherwise i >>= λ o. Ok (unwrap_or o null)
        ]
    same_value (chain e os) = λ i. same_value e i >>= λ v. elim (begins_comparison os) [
      | true ↦ same_operands os i >>= λ ps. all_compared v ps >>= λ t. Ok (value_of_truth t)
      | false ↦ same_chain v os i
    ]
    same_value (negation n e) = λ i. same_value e i >>= λ v. truth_of v >>= λ t. Ok (value_of_truth (negated n t))
    same_value (signs ss e) = λ i. same_value e i >>= all_signed ss
    same_value (tests e ts) = λ i. same_value e i >>= λ v. same_tests v ts i
    same_value (suffixes e ss ls) = λ i. same_value e i >>= λ v. same_suffixes v ss i >>= λ w. labelled graph w ls

    same_each : (es : Expressions) → evaluate_each row parameters graph es ≡ evaluate_each other parameters graph es
    same_each no_expressions = refl
    same_each (expression e es) = λ i. same_value e i >>= λ v. same_each es i >>= λ vs. Ok (item v vs)

    same_first : (es : Expressions) → first_given row parameters graph es ≡ first_given other parameters graph es
    same_first no_expressions = refl
    same_first (expression e es) = λ i. same_value e i >>= λ v. elim (is_null v) [ true ↦ same_first es i | false ↦ Ok v ]

    same_pairs : (found : Entries) (ps : Pairs) → evaluate_pairs row parameters graph found ps ≡ evaluate_pairs other parameters graph found ps
    same_pairs found no_pairs = refl
    same_pairs found (pair k e ps) = λ i. same_value e i >>= λ v. same_pairs (with_entry k.text v found) ps i

    same_perhaps : (p : Perhaps) → evaluate_perhaps row parameters graph p ≡ evaluate_perhaps other parameters graph p
    same_perhaps absent = refl
    same_perhaps (present e) = λ i. same_value e i >>= λ v. Ok (Some v)

    same_whens : (subject : Option Value) (ws : Whens) → first_true row parameters graph subject ws ≡ first_true other parameters graph subject ws
    same_whens subject no_whens = refl
    same_whens subject (when c e ws) =
        λ i. same_value c i >>= λ v. condition_of subject v >>= λ t. elim (is_true t) [
          | true ↦ same_value e i >>= λ w. Ok (Some w)
          | false ↦ same_whens subject ws i
        ]

    same_chain : (v : Value) (os : Operands) → evaluate_chain row parameters graph v os ≡ evaluate_chain other parameters graph v os
    same_chain v no_operands = refl
    same_chain v (operand o e os) = λ i. same_value e i >>= λ w. combined o v w >>= λ u. same_chain u os i

    same_operands : (os : Operands) → evaluate_operands row parameters graph os ≡ evaluate_operands other parameters graph os
    same_operands no_operands = refl
    same_operands (operand o e os) = λ i. same_value e i >>= λ v. same_operands os i >>= λ ps. Ok ((o, v) ∷ ps)

    same_tests : (v : Value) (ts : Tests) → evaluate_tests row parameters graph v ts ≡ evaluate_tests other parameters graph v ts
    same_tests v no_tests = refl
    same_tests v (text_test test e ts) = λ i. same_value e i >>= λ w. tested test v w >>= λ u. same_tests u ts i
    same_tests v (null_test is_negated ts) = same_tests (null_tested is_negated v) ts

    same_suffixes : (v : Value) (ss : Suffixes) → evaluate_suffixes row parameters graph v ss ≡ evaluate_suffixes other parameters graph v ss
    same_suffixes v no_suffixes = refl
    same_suffixes v (property k ss) = λ i. property_of graph v k.text >>= λ w. same_suffixes w ss i
    same_suffixes v (index e ss) = λ i. same_value e i >>= λ n. indexed graph v n >>= λ w. same_suffixes w ss i

  all_same : (es : List Expression) → all_true row parameters graph es ≡ all_true other parameters graph es
  all_same [] = refl
  all_same (e ∷ es) = λ i. same_value e i >>= λ v. truth_of v >>= λ t. elim (is_true t) [ true ↦ all_same es i | false ↦ Ok false ]

  pub same_condition : (where_ : Option Expression) → condition where_ row parameters graph ≡ condition where_ other parameters graph
  same_condition where_ = all_same (conjuncts_of where_)
