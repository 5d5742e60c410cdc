-- The faults of expressions that have no static fault.
use Rattle.std.proofs.Common.{◌≡◌, ℕ, ◌+◌, ◌&&◌, not, Bool, true, false, List, [], ◌∷◌, ◌++◌, Option, Some, None, is_some, unwrap_or, replicate, Result, Ok, Err, refl, sym, ap, subst, ◌∙◌, true≢false}
use Rattle.std.specs.List.{AllByRecursion}
use Rattle.pg_meaning.specs.Aggregates.{Summary, aggregate_named}
use Rattle.pg_meaning.specs.Agreement.{AreGiven}
use Rattle.pg_meaning.specs.AgreementLaws.{named_in, given_split}
use Rattle.pg_meaning.specs.Answer.{◌>>=◌}
use Rattle.pg_meaning.specs.AnswerLaws.{went_well, same_ok}
use Rattle.pg_meaning.specs.Entries.{at_key, with_entry}
use Rattle.pg_meaning.specs.Expressions.{is_comparison, all_compared, or_fault, null_tested, is_coalesce, fault_of_name, condition_of, all_signed, evaluate, evaluate_each, first_given, evaluate_pairs, evaluate_perhaps, first_true, evaluate_chain, evaluate_operands, evaluate_tests, evaluate_suffixes, combined, tested, property_of, indexed}
use Rattle.pg_meaning.specs.Functions.{Function, function_named, is_null, applied, item_count}
use Rattle.pg_meaning.specs.Grammar.{Mark, mark, key, sign, flag, further, commas, marks, list_marks, pair_marks, perhaps_marks, when_marks, operand_marks, test_marks, suffix_marks, text_test_marks, sign_marks, label_marks, operator_what, operator_level, IsWellFormed, AllWellFormed, ArePairs, MayBe, AreWhens, AreOperands, AreTests, AreSuffixes}
use Rattle.pg_meaning.specs.Graph.{Graph}
use Rattle.pg_meaning.specs.Logic.{value_of_truth, truth_of, is_true}
use Rattle.pg_meaning.specs.Names.{Names, is_among}
use Rattle.pg_meaning.specs.Rows.{Row, value_in}
use Rattle.pg_meaning.specs.StaticFaults.{found_if, elsewhere, takes, is_known, is_known_aggregate, is_known_function, is_aggregate, argument_count, expression_faults, all_faults, pair_faults, perhaps_faults, when_faults, operand_faults, test_faults, suffix_faults, PlacedFault}
use Rattle.pg_meaning.specs.Tree.{Name, Expression, literal, parameter, variable, list_literal, map_literal, parentheses, call, case, chain, negation, signs, tests, suffixes, Expressions, no_expressions, expression, Pairs, no_pairs, pair, Perhaps, absent, present, Whens, no_whens, when, Operands, no_operands, operand, Tests, no_tests, text_test, null_test, Suffixes, no_suffixes, property, index}
use Rattle.pg_meaning.specs.Value.{Value, null, list, mapping, Values, no_items, item, Entries, no_entries}
use Rattle.pg_meaning.specs.declared.fault.Fault.{Fault}
use Rattle.pg_meaning.specs.declared.fault.Fault.TheVariants.{UndefinedVariable, BadAggregate, UnknownFunction, MissingParameter}
use Rattle.pg_meaning.specs.declared.lexemes.Keyword.TheVariants as k
use Rattle.pg_meaning.specs.declared.lexemes.Symbol.TheVariants as s
use Rattle.pg_meaning.specs.declared.operators.Operator.{Operator}
use Rattle.pg_meaning.specs.declared.operators.Operator.TheVariants.{Equal, NotEqual, Less, LessOrEqual, Greater, GreaterOrEqual}
use Rattle.pg_soundness.proofs.FaultsValues.{Fine, fine_fault, fine_then, fine_all, fine_made, fine_all_signed, fine_truth, fine_all_compared, fine_combined, fine_condition, fine_tested, fine_property, fine_indexed, fine_labelled, fine_applied}
use Rattle.pg_soundness.proofs.MatchScopes.{first_none, second_none, none_found}
use Rattle.pg_soundness.proofs.MatchStates.{by_bool}
use Rattle.pg_soundness.specs.Faults.{FaultsOfExpressions}

-- ---- operators of a chain

level_is : (o : Operator) → is_comparison o ≡ true → operator_level o ≡ 5
level_is Equal h = refl
level_is NotEqual h = refl
level_is Less h = refl
level_is LessOrEqual h = refl
level_is Greater h = refl
level_is GreaterOrEqual h = refl
level_is o h = absurd (true≢false (sym h))

is_level : (o : Operator) → operator_level o ≡ 5 → is_comparison o ≡ true
is_level Equal h = refl
is_level NotEqual h = refl
is_level Less h = refl
is_level LessOrEqual h = refl
is_level Greater h = refl
is_level GreaterOrEqual h = refl
is_level o h = cc

pub was_false : (b : Bool) → not b ≡ false → b ≡ true
was_false true e = refl
was_false false e = absurd (true≢false e)

-- ---- calls

known_takes : (f : Option Function) (star distinct : Bool) (n : ℕ) → is_known_function f star distinct n ≡ true → (g : Function) × (f ≡ Some g) × (takes g n ≡ true)
known_takes (Some f) false false n e = (f, refl, e)
known_takes f star distinct n e = absurd (true≢false (sym e))

known_by : (o : Option Summary) (f : Option Function) (star distinct : Bool) (n : ℕ) → is_some o ≡ false → elim o as (λ o. Bool) [ Some a ↦ is_known_aggregate a star n | None ↦ is_known_function f star distinct n ] ≡ true → is_known_function f star distinct n ≡ true
known_by None f star distinct n none e = e
known_by (Some a) f star distinct n none e = absurd (true≢false none)

module _ (visible : Names) (row : Row) (parameters : Entries) (graph : Graph) (bound : (q : List ℕ) → is_among visible q ≡ true → is_some (value_in q row) ≡ true) where
  abbrev Given : List Mark → Type 0
  Given ms = AreGiven (named_in ms) parameters

  abbrev AllGiven : List (List Mark) → Type 0
  AllGiven mss = AllByRecursion Given mss

  given_further : (mss : List (List Mark)) → Given (further mss) → AllGiven mss
  given_further [] h = tt
  given_further (ms ∷ mss) h = let parts = given_split parameters ms (further mss) h in (parts.0, given_further mss parts.1)

  given_commas : (mss : List (List Mark)) → Given (commas mss) → AllGiven mss
  given_commas [] h = tt
  given_commas (ms ∷ mss) h = let parts = given_split parameters ms (further mss) h in (parts.0, given_further mss parts.1)

  front : (ms more : List Mark) → Given (ms ++ more) → Given ms
  front ms more h = (given_split parameters ms more h).0

  back : (ms more : List Mark) → Given (ms ++ more) → Given more
  back ms more h = (given_split parameters ms more h).1

  fine_or : (o : Option Value) (f : Fault) → is_some o ≡ true → Fine (or_fault o f)
  fine_or (Some v) f e = tt
  fine_or None f e = absurd (true≢false (sym e))

  counted : (es : Expressions) (vs : Values) → evaluate_each row parameters graph es ≡ Ok vs → item_count vs ≡ argument_count es
  counted no_expressions vs e = ap item_count (sym (same_ok no_items vs e))
  counted (expression x es) vs e =
      let first = went_well (evaluate row parameters graph x) (λ v. evaluate_each row parameters graph es >>= λ ws. Ok (item v ws)) vs e in
      let rest = went_well (evaluate_each row parameters graph es) (λ ws. Ok (item first.0 ws)) vs first.2 in
      ap item_count (sym (same_ok (item first.0 rest.0) vs rest.2)) ∙ ap (λ n. 1 + n) (counted es rest.0 rest.1)

  abbrev called : Bool → Function → Expressions → Result Value Fault
  called b f es = elim b as (λ b. Result Value Fault) [ true ↦ first_given row parameters graph es | false ↦ evaluate_each row parameters graph es >>= applied graph f ]

  abbrev called_by : Name → Expressions → Option Function → Result Value Fault
  called_by n es o = elim o as (λ o. Result Value Fault) [ Some f ↦ called (is_coalesce f) f es | None ↦ Err (fault_of_name n.text) ]

  fine_called : (n : Name) (es : Expressions) (o : Option Function) (f : Function) → o ≡ Some f → takes f (argument_count es) ≡ true → Fine (first_given row parameters graph es) → Fine (evaluate_each row parameters graph es) → Fine (called_by n es o)
  fine_called n es o f is e first each =
      subst (λ o. Fine (called_by n es o)) (sym is)
      (by_bool (is_coalesce f)
      (λ c. subst (λ b. Fine (called b f es)) (sym c) first)
      (λ c. subst (λ b. Fine (called b f es)) (sym c) (fine_then (evaluate_each row parameters graph es) (applied graph f) each (λ vs is. fine_applied graph f vs c (subst (λ m. takes f m ≡ true) (sym (counted es vs is)) e)))))

  abbrev aggregate_faults : Name → List PlacedFault
  aggregate_faults n = found_if (is_aggregate n && true) n.place BadAggregate

  abbrev unknown_faults : Name → (star distinct : Bool) → Expressions → List PlacedFault
  unknown_faults n star distinct es = found_if (not (is_known n star distinct (argument_count es))) n.place UnknownFunction

  call_known : (n : Name) (star distinct : Bool) (es : Expressions) → expression_faults visible elsewhere (call n star distinct es) ≡ [] → (f : Function) × (function_named n.text ≡ Some f) × (takes f (argument_count es) ≡ true)
  call_known n star distinct es e =
      let own = first_none (aggregate_faults n ++ unknown_faults n star distinct es) (all_faults visible es) e in
      let aggregate = none_found (is_aggregate n && true) n.place BadAggregate (first_none (aggregate_faults n) (unknown_faults n star distinct es) own) in
      let known = was_false (is_known n star distinct (argument_count es)) (none_found (not (is_known n star distinct (argument_count es))) n.place UnknownFunction (second_none (aggregate_faults n) (unknown_faults n star distinct es) own)) in
      known_takes (function_named n.text) star distinct (argument_count es) (known_by (aggregate_named n.text) (function_named n.text) star distinct (argument_count es) (plain (is_aggregate n) aggregate) known)
    where
      plain : (b : Bool) → (b && true) ≡ false → b ≡ false
      plain true e = e
      plain false e = refl

  call_rest : (n : Name) (star distinct : Bool) (es : Expressions) → expression_faults visible elsewhere (call n star distinct es) ≡ [] → all_faults visible es ≡ []
  call_rest n star distinct es e = second_none (aggregate_faults n ++ unknown_faults n star distinct es) (all_faults visible es) e

  -- ---- branches

  fine_unless_null : (v : Value) (b : Bool) (es : Expressions) → Fine (first_given row parameters graph es) → Fine (elim b as (λ b. Result Value Fault) [ true ↦ first_given row parameters graph es | false ↦ Ok v ])
  fine_unless_null v true es h = h
  fine_unless_null v false es h = tt

  fine_found : (otherwise : Perhaps) (found : Option Value) → Fine (evaluate_perhaps row parameters graph otherwise)
      → Fine (elim found as (λ o. Result Value Fault) [ Some v ↦ Ok v | None ↦ evaluate_perhaps row parameters graph otherwise >>= λ o. Ok (unwrap_or o null) ])
  fine_found otherwise (Some v) h = tt
  fine_found otherwise None h = fine_all (evaluate_perhaps row parameters graph otherwise) _ h (λ o. tt)

  fine_branch : (subject : Option Value) (b : Bool) (x : Expression) (ws : Whens) → Fine (evaluate row parameters graph x) → Fine (first_true row parameters graph subject ws)
      → Fine (elim b as (λ b. Result (Option Value) Fault) [ true ↦ evaluate row parameters graph x >>= λ v. Ok (Some v) | false ↦ first_true row parameters graph subject ws ])
  fine_branch subject true x ws h g = fine_all (evaluate row parameters graph x) _ h (λ v. tt)
  fine_branch subject false x ws h g = g

  fine_kind : (v : Value) (b : Bool) (os : Operands) → (b ≡ true → Fine (evaluate_operands row parameters graph os) × ((ps : List (Operator × Value)) → evaluate_operands row parameters graph os ≡ Ok ps → AllByRecursion (λ p. is_comparison p.0 ≡ true) ps)) → (b ≡ false → Fine (evaluate_chain row parameters graph v os))
      → Fine (elim b as (λ b. Result Value Fault) [ true ↦ evaluate_operands row parameters graph os >>= λ ps. all_compared v ps >>= λ t. Ok (value_of_truth t) | false ↦ evaluate_chain row parameters graph v os ])
  fine_kind v true os h g =
      let both = h refl in
      fine_then (evaluate_operands row parameters graph os) _ both.0 (λ ps is. fine_all (all_compared v ps) _ (fine_all_compared v ps (both.1 ps is)) (λ t. tt))
  fine_kind v false os h g = g refl

  -- ---- trees

  mutual
    pub fine_evaluate : (e : Expression) → IsWellFormed e → expression_faults visible elsewhere e ≡ [] → Given (marks e) → Fine (evaluate row parameters graph e)
    fine_evaluate (literal v) w e h = tt
    fine_evaluate (parameter p) w e h = fine_or (at_key p.text parameters) MissingParameter h.0
    fine_evaluate (variable x) w e h = fine_or (value_in x.text row) UndefinedVariable (bound x.text (was_false (is_among visible x.text) (none_found (not (is_among visible x.text)) x.place UndefinedVariable e)))
    fine_evaluate (list_literal es) w e h = fine_all (evaluate_each row parameters graph es) _ (fine_each es w e (given_commas (list_marks es) (front (commas (list_marks es)) (sign s.CloseBracket ∷ []) h))) (λ vs. fine_made (list vs))
    fine_evaluate (map_literal ps) w e h = fine_all (evaluate_pairs row parameters graph no_entries ps) _ (fine_pairs no_entries ps w e (given_commas (pair_marks ps) (front (commas (pair_marks ps)) (sign s.CloseBrace ∷ []) h))) (λ es. fine_made (mapping es))
    fine_evaluate (parentheses x) w e h = fine_evaluate x w e (front (marks x) (sign s.CloseParenthesis ∷ []) h)
    fine_evaluate (call n star distinct es) w e h =
        let known = call_known n star distinct es e in
        let flags : List Mark = flag star (sign s.Star) ++ flag distinct (key k.Distinct) in
        let given = given_commas (list_marks es) (back flags (commas (list_marks es)) (front (flags ++ commas (list_marks es)) (sign s.CloseParenthesis ∷ []) h)) in
        let rest = call_rest n star distinct es e in
        fine_called n es (function_named n.text) known.0 known.1 known.2 (fine_first es w.2 rest given) (fine_each es w.2 rest given)
    fine_evaluate (case subject ws otherwise) w e h =
        let ms : List Mark = perhaps_marks [] subject in
        let ns : List Mark = perhaps_marks (key k.Else ∷ []) otherwise in
        let all = front ((ms ++ when_marks ws) ++ ns) (key k.End ∷ []) h in
        let first = front (ms ++ when_marks ws) ns all in
        let in_subject = front ms (when_marks ws) first in
        let in_whens = back ms (when_marks ws) first in
        let in_otherwise = back (ms ++ when_marks ws) ns all in
        let own = first_none (perhaps_faults visible subject ++ when_faults visible ws) (perhaps_faults visible otherwise) e in
        fine_all (evaluate_perhaps row parameters graph subject) _ (fine_perhaps [] subject w.0 (first_none (perhaps_faults visible subject) (when_faults visible ws) own) in_subject)
        (λ v. fine_all (first_true row parameters graph v ws) _ (fine_whens v ws w.2 (second_none (perhaps_faults visible subject) (when_faults visible ws) own) in_whens)
        (λ found. fine_found otherwise found (fine_perhaps (key k.Else ∷ []) otherwise w.3 (second_none (perhaps_faults visible subject ++ when_faults visible ws) (perhaps_faults visible otherwise) e) in_otherwise)))
    fine_evaluate (chain x no_operands) w e h = absurd w.0
    fine_evaluate (chain x (operand o y os)) w e h =
        let rest = second_none (expression_faults visible elsewhere x) (operand_faults visible (operand o y os)) e in
        let given = back (marks x) (operand_marks (operand o y os)) h in
        fine_all (evaluate row parameters graph x) _ (fine_evaluate x w.1 (first_none (expression_faults visible elsewhere x) (operand_faults visible (operand o y os)) e) (front (marks x) (operand_marks (operand o y os)) h))
        (λ v. fine_kind v (is_comparison o) (operand o y os)
        (λ is. fine_operands (operator_level o) (operand o y os) (level_is o is) w.3 rest given)
        (λ other. fine_chain (operator_level o) v (operand o y os) (λ five. true≢false (sym (is_level o five) ∙ other)) w.3 rest given))
    fine_evaluate (negation n x) w e h =
        fine_all (evaluate row parameters graph x) _ (fine_evaluate x w.1 e (back (replicate n (key k.Not)) (marks x) h)) (λ v. fine_all (truth_of v) _ (fine_truth v) (λ t. tt))
    fine_evaluate (signs bs x) w e h = fine_all (evaluate row parameters graph x) (all_signed bs) (fine_evaluate x w.1 e (back (sign_marks bs) (marks x) h)) (fine_all_signed bs)
    fine_evaluate (tests x ts) w e h =
        fine_all (evaluate row parameters graph x) _ (fine_evaluate x w.1 (first_none (expression_faults visible elsewhere x) (test_faults visible ts) e) (front (marks x) (test_marks ts) h))
        (λ v. fine_tests v ts w.3 (second_none (expression_faults visible elsewhere x) (test_faults visible ts) e) (back (marks x) (test_marks ts) h))
    fine_evaluate (suffixes x xs ls) w e h =
        fine_all (evaluate row parameters graph x) _ (fine_evaluate x w.1 (first_none (expression_faults visible elsewhere x) (suffix_faults visible xs) e) (front (marks x) (suffix_marks xs) (front (marks x ++ suffix_marks xs) (label_marks ls) h)))
        (λ v. fine_all (evaluate_suffixes row parameters graph v xs) _ (fine_suffixes v xs w.3 (second_none (expression_faults visible elsewhere x) (suffix_faults visible xs) e) (back (marks x) (suffix_marks xs) (front (marks x ++ suffix_marks xs) (label_marks ls) h))) (λ u. fine_labelled graph u ls))

    fine_each : (es : Expressions) → AllWellFormed es → all_faults visible es ≡ [] → AllGiven (list_marks es) → Fine (evaluate_each row parameters graph es)
    fine_each no_expressions w e h = tt
    fine_each (expression x es) w e h =
        fine_all (evaluate row parameters graph x) _ (fine_evaluate x w.0 (first_none (expression_faults visible elsewhere x) (all_faults visible es) e) h.0)
        (λ v. fine_all (evaluate_each row parameters graph es) _ (fine_each es w.1 (second_none (expression_faults visible elsewhere x) (all_faults visible es) e) h.1) (λ vs. tt))

    fine_first : (es : Expressions) → AllWellFormed es → all_faults visible es ≡ [] → AllGiven (list_marks es) → Fine (first_given row parameters graph es)
    fine_first no_expressions w e h = tt
    fine_first (expression x es) w e h =
        fine_all (evaluate row parameters graph x) _ (fine_evaluate x w.0 (first_none (expression_faults visible elsewhere x) (all_faults visible es) e) h.0)
        (λ v. fine_unless_null v (is_null v) es (fine_first es w.1 (second_none (expression_faults visible elsewhere x) (all_faults visible es) e) h.1))

    fine_pairs : (found : Entries) (ps : Pairs) → ArePairs ps → pair_faults visible ps ≡ [] → AllGiven (pair_marks ps) → Fine (evaluate_pairs row parameters graph found ps)
    fine_pairs found no_pairs w e h = tt
    fine_pairs found (pair n x ps) w e h =
        fine_all (evaluate row parameters graph x) _ (fine_evaluate x w.0 (first_none (expression_faults visible elsewhere x) (pair_faults visible ps) e) h.0)
        (λ v. fine_pairs (with_entry n.text v found) ps w.1 (second_none (expression_faults visible elsewhere x) (pair_faults visible ps) e) h.1)

    fine_perhaps : (ms : List Mark) (p : Perhaps) → MayBe p → perhaps_faults visible p ≡ [] → Given (perhaps_marks ms p) → Fine (evaluate_perhaps row parameters graph p)
    fine_perhaps ms absent w e h = tt
    fine_perhaps ms (present x) w e h = fine_all (evaluate row parameters graph x) _ (fine_evaluate x w e (back ms (marks x) h)) (λ v. tt)

    fine_whens : (subject : Option Value) (ws : Whens) → AreWhens ws → when_faults visible ws ≡ [] → Given (when_marks ws) → Fine (first_true row parameters graph subject ws)
    fine_whens subject no_whens w e h = tt
    fine_whens subject (when c x ws) w e h =
        let behind = back (marks c) (key k.Then ∷ (marks x ++ when_marks ws)) h in
        let own = first_none (expression_faults visible elsewhere c ++ expression_faults visible elsewhere x) (when_faults visible ws) e in
        fine_all (evaluate row parameters graph c) _ (fine_evaluate c w.0 (first_none (expression_faults visible elsewhere c) (expression_faults visible elsewhere x) own) (front (marks c) (key k.Then ∷ (marks x ++ when_marks ws)) h))
        (λ v. fine_all (condition_of subject v) _ (fine_condition subject v)
        (λ t. fine_branch subject (is_true t) x ws
        (fine_evaluate x w.1 (second_none (expression_faults visible elsewhere c) (expression_faults visible elsewhere x) own) (front (marks x) (when_marks ws) behind))
        (fine_whens subject ws w.2 (second_none (expression_faults visible elsewhere c ++ expression_faults visible elsewhere x) (when_faults visible ws) e) (back (marks x) (when_marks ws) behind))))

    fine_operands : (at : ℕ) (os : Operands) → at ≡ 5 → AreOperands at os → operand_faults visible os ≡ [] → Given (operand_marks os)
        → Fine (evaluate_operands row parameters graph os) × ((ps : List (Operator × Value)) → evaluate_operands row parameters graph os ≡ Ok ps → AllByRecursion (λ p. is_comparison p.0 ≡ true) ps)
    fine_operands at no_operands five w e h = (tt, λ ps is. subst (AllByRecursion (λ p. is_comparison p.0 ≡ true)) (same_ok [] ps is) tt)
    fine_operands at (operand o x os) five w e h =
        let given = back (mark (operator_what o) ∷ []) (marks x ++ operand_marks os) h in
        let rest = fine_operands at os five w.3 (second_none (expression_faults visible elsewhere x) (operand_faults visible os) e) (back (marks x) (operand_marks os) given) in (
          fine_all (evaluate row parameters graph x) _ (fine_evaluate x w.1 (first_none (expression_faults visible elsewhere x) (operand_faults visible os) e) (front (marks x) (operand_marks os) given))
              (λ v. fine_all (evaluate_operands row parameters graph os) _ rest.0 (λ ps. tt)),
          λ ps is.
              let first = went_well (evaluate row parameters graph x) (λ v. evaluate_operands row parameters graph os >>= λ qs. Ok ((o, v) ∷ qs)) ps is in
              let others = went_well (evaluate_operands row parameters graph os) (λ qs. Ok ((o, first.0) ∷ qs)) ps first.2 in
              subst (AllByRecursion (λ p. is_comparison p.0 ≡ true)) (same_ok ((o, first.0) ∷ others.0) ps others.2) (is_level o (w.0 ∙ five), rest.1 others.0 others.1),
        )

    fine_chain : (at : ℕ) (v : Value) (os : Operands) → (at ≡ 5 → ⊥) → AreOperands at os → operand_faults visible os ≡ [] → Given (operand_marks os) → Fine (evaluate_chain row parameters graph v os)
    fine_chain at v no_operands other w e h = tt
    fine_chain at v (operand o x os) other w e h =
        let given = back (mark (operator_what o) ∷ []) (marks x ++ operand_marks os) h in
        fine_all (evaluate row parameters graph x) _ (fine_evaluate x w.1 (first_none (expression_faults visible elsewhere x) (operand_faults visible os) e) (front (marks x) (operand_marks os) given))
        (λ u. fine_all (combined o v u) _ (fine_combined o v u (by_bool (is_comparison o) (λ is. absurd (other (sym w.0 ∙ level_is o is))) (λ no. no)))
        (λ t. fine_chain at t os other w.3 (second_none (expression_faults visible elsewhere x) (operand_faults visible os) e) (back (marks x) (operand_marks os) given)))

    fine_tests : (v : Value) (ts : Tests) → AreTests ts → test_faults visible ts ≡ [] → Given (test_marks ts) → Fine (evaluate_tests row parameters graph v ts)
    fine_tests v no_tests w e h = tt
    fine_tests v (text_test t x ts) w e h =
        let given = front (text_test_marks t ++ marks x) (test_marks ts) h in
        fine_all (evaluate row parameters graph x) _ (fine_evaluate x w.0 (first_none (expression_faults visible elsewhere x) (test_faults visible ts) e) (back (text_test_marks t) (marks x) given))
        (λ u. fine_all (tested t v u) _ (fine_tested t v u) (λ r. fine_tests r ts w.2 (second_none (expression_faults visible elsewhere x) (test_faults visible ts) e) (back (text_test_marks t ++ marks x) (test_marks ts) h)))
    fine_tests v (null_test is_not ts) w e h = fine_tests (null_tested is_not v) ts w e (back (flag is_not (key k.Not)) (key k.Null ∷ test_marks ts) h)

    fine_suffixes : (v : Value) (xs : Suffixes) → AreSuffixes xs → suffix_faults visible xs ≡ [] → Given (suffix_marks xs) → Fine (evaluate_suffixes row parameters graph v xs)
    fine_suffixes v no_suffixes w e h = tt
    fine_suffixes v (property n xs) w e h = fine_all (property_of graph v n.text) _ (fine_property graph v n.text) (λ u. fine_suffixes u xs w e h)
    fine_suffixes v (index x xs) w e h =
        fine_all (evaluate row parameters graph x) _ (fine_evaluate x w.0 (first_none (expression_faults visible elsewhere x) (suffix_faults visible xs) e) (front (marks x) _ h))
        (λ i. fine_all (indexed graph v i) _ (fine_indexed graph v i) (λ u. fine_suffixes u xs w.1 (second_none (expression_faults visible elsewhere x) (suffix_faults visible xs) e) (back (marks x) _ h)))

pub faults_of_expressions : FaultsOfExpressions
faults_of_expressions visible row parameters graph e bound w faultless given f is = fine_fault (evaluate row parameters graph e) f (fine_evaluate visible row parameters graph bound e w faultless given) is
