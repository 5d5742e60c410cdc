-- The parts of an expression one after the other: what is found so far, and what is left.
use Rattle.std.proofs.Common.{◌≡◌, ℕ, ◌≤◌, Bool, true, false, List, [], ◌∷◌, ◌++◌, map, length, drop, Option, Some, None, Result, Ok, Err, refl, sym, ap, subst, ◌∙◌}
use Rattle.std.proofs.lemmas.List.{drop_all}
use Rattle.std.specs.Prelude.{◌≢◌, Box, Vec, IfOk, IfErr, option_map, string_bytes, unwrap_or}
use Rattle.std.specs.declared.alloc.Global.{Global}
use Rattle.pg_expr.specs.Calls.{given_call}
use Rattle.pg_expr.specs.Operators.{is_chosen}
use Rattle.pg_expr.specs.Contexts.{found_view, founds_view, pairs_view, given, given_each, given_pairs, given_first, given_true, given_chain, given_chained, given_operands, given_text_test, given_tests, given_index, given_suffixes, given_reads, given_perhaps, given_otherwise}
use Rattle.pg_expr.specs.declared.value_ref.ValueRef.{ValueRef}
use Rattle.pg_expr.specs.declared.row_context.RowContext.{RowContext}
use Rattle.pg_meaning.specs.Answer.{Answer, ◌>>=◌}
use Rattle.pg_meaning.specs.Arithmetic.{appended}
use Rattle.pg_meaning.specs.Entries.{with_entry}
use Rattle.pg_meaning.specs.Expressions.{condition_of, tested, indexed}
use Rattle.pg_meaning.specs.Functions.{is_null}
use Rattle.pg_meaning.specs.Graph.{Graph}
use Rattle.pg_meaning.specs.Logic.{is_true}
use Rattle.pg_meaning.specs.Parse.{expressions_of, operands_of, pairs_of, whens_of}
use Rattle.pg_meaning.specs.Tree as tree
use Rattle.pg_meaning.specs.Value.{Value as Datum, Values, null, no_items, item, Entries}
use Rattle.pg_meaning.specs.declared.fault.Fault.{Fault}
use Rattle.pg_meaning.specs.declared.fault.Fault.TheVariants.{OutOfMemory}
use Rattle.pg_meaning.specs.declared.logic.Tri.{Tri}
use Rattle.pg_meaning.specs.declared.logic.Tri.TheVariants.{True, False, Null}
use Rattle.pg_meaning.specs.declared.operators.Operator.{Operator}
use Rattle.pg_meaning.specs.declared.operators.TextTest.{TextTest}
use Rattle.pg_syntax_tree.specs.View.{expression_view, pair_view, when_view, operand_view, test_view, tests_of, suffix_view, suffixes_of, names_view, perhaps_view}
use Rattle.pg_syntax_tree.proofs.Views.{call_is, case_is, chain_is, suffixes_is}
use Rattle.pg_syntax_tree.specs.declared.expression.Expression.{Expression}
use Rattle.pg_syntax_tree.specs.declared.expression.Expression.TheVariants as expression
use Rattle.pg_syntax_tree.specs.declared.expression.Name.{Name}
use Rattle.pg_syntax_tree.specs.declared.expression.Suffix.{Suffix}
use Rattle.pg_syntax_tree.specs.declared.expression.Suffix.TheVariants as suffix
use Rattle.pg_syntax_tree.specs.declared.expression.Test.{Test}
use Rattle.pg_syntax_tree.specs.declared.expression.Test.TheVariants as test

-- the values that are there, and those that are left
abbrev pub joined : Values → Result Values Fault → Result Values Fault
joined found rest = rest >>= λ ws. Ok (appended found ws)

abbrev pub joined_pairs : List (Operator × Datum) → Result (List (Operator × Datum)) Fault → Result (List (Operator × Datum)) Fault
joined_pairs found rest = rest >>= λ ps. Ok (found ++ ps)

pub appended_nothing : (vs : Values) → appended vs no_items ≡ vs
appended_nothing no_items = refl
appended_nothing (item v vs) = ap (item v) (appended_nothing vs)

pushed : (fs : List ValueRef) (f : ValueRef) (ws : Values) → appended (founds_view (fs ++ f ∷ [])) ws ≡ appended (founds_view fs) (item (found_view f) ws)
pushed [] f ws = refl
pushed (g ∷ fs) f ws = ap (item (found_view g)) (pushed fs f ws)

moved : (fs : List ValueRef) (f : ValueRef) (r : Result Values Fault) → joined (founds_view fs) (r >>= λ ws. Ok (item (found_view f) ws)) ≡ joined (founds_view (fs ++ f ∷ [])) r
moved fs f (Ok ws) = ap Ok (sym (pushed fs f ws))
moved fs f (Err e) = refl

pairs_pushed : (fs : List (Operator × ValueRef)) (o : Operator) (f : ValueRef) (ps : List (Operator × Datum)) → pairs_view (fs ++ (o, f) ∷ []) ++ ps ≡ pairs_view fs ++ (o, found_view f) ∷ ps
pairs_pushed [] o f ps = refl
pairs_pushed (g ∷ fs) o f ps = ap (λ qs. (g.0, found_view g.1) ∷ qs) (pairs_pushed fs o f ps)

pairs_moved : (fs : List (Operator × ValueRef)) (o : Operator) (f : ValueRef) (r : Result (List (Operator × Datum)) Fault)
    → joined_pairs (pairs_view fs) (r >>= λ ps. Ok ((o, found_view f) ∷ ps)) ≡ joined_pairs (pairs_view (fs ++ (o, f) ∷ [])) r
pairs_moved fs o f (Ok ps) = ap Ok (sym (pairs_pushed fs o f ps))
pairs_moved fs o f (Err e) = refl

append_nothing : (ps : List (Operator × Datum)) → ps ++ [] ≡ ps
append_nothing [] = refl
append_nothing (p ∷ ps) = ap (λ qs. p ∷ qs) (append_nothing ps)

in_turn : (a : Answer) (f h : Datum → Answer) → (a >>= f >>= h) ≡ (a >>= λ v. f v >>= h)
in_turn (Ok v) f h = refl
in_turn (Err e) f h = refl

as_given : (a : Answer) → ((a >>= λ v. Ok (Some v)) >>= λ o. Ok (unwrap_or o null)) ≡ a
as_given (Ok v) = refl
as_given (Err e) = refl

picked_as : (s : RowContext) (g : Graph) (otherwise : tree.Perhaps) (a : Answer) → ((a >>= λ v. Ok (Some v)) >>= λ o. given_otherwise s g o otherwise) ≡ a
picked_as s g otherwise (Ok v) = refl
picked_as s g otherwise (Err e) = refl

by_truth : (q : Result Tri Fault) (x y : Result (Option Datum) Fault) → (q >>= λ t. elim (is_true t) [ true ↦ x | false ↦ y ]) ≡ ((q >>= λ t. Ok (is_true t)) >>= λ b. elim b [ true ↦ x | false ↦ y ])
by_truth (Ok True) x y = refl
by_truth (Ok False) x y = refl
by_truth (Ok Null) x y = refl
by_truth (Err e) x y = refl

module _ (s : RowContext) (g : Graph) where
  abbrev pub each_of : List Expression → Result Values Fault
  each_of xs = given_each s g (expressions_of (map expression_view xs))

  abbrev pub pairs_given : Entries → List (Name × Expression) → Result Entries Fault
  pairs_given found ps = given_pairs s g found (pairs_of (map pair_view ps))

  abbrev pub first_of : List Expression → Answer
  first_of xs = given_first s g (expressions_of (map expression_view xs))

  abbrev pub true_of : Option Datum → List (Expression × Expression) → Result (Option Datum) Fault
  true_of subject ws = given_true s g subject (whens_of (map when_view ws))

  abbrev pub chain_of : Datum → List (Operator × Expression) → Answer
  chain_of v os = given_chain s g v (operands_of (map operand_view os))

  abbrev pub operands_given : List (Operator × Expression) → Result (List (Operator × Datum)) Fault
  operands_given os = given_operands s g (operands_of (map operand_view os))

  abbrev pub tests_given : Datum → List (Test Expression) → Answer
  tests_given v ts = given_tests s g v (tests_of (map test_view ts))

  abbrev pub suffixes_given : Datum → List (Suffix Expression) → Answer
  suffixes_given v ss = given_suffixes s g v (suffixes_of (map suffix_view ss))

  pub next_item : (fs : List ValueRef) (x : Expression) (xs : List Expression) (f : ValueRef) → given s g (expression_view x) ≡ Ok (found_view f)
      → joined (founds_view fs) (each_of (x ∷ xs)) ≡ joined (founds_view (fs ++ f ∷ [])) (each_of xs)
  next_item fs x xs f h = ap (λ r. joined (founds_view fs) (r >>= λ u. each_of xs >>= λ us. Ok (item u us))) h ∙ moved fs f (each_of xs)

  pub no_more_items : (fs : List ValueRef) (i : ℕ) (xs : List Expression) → length xs ≤ i → joined (founds_view fs) (each_of (drop i xs)) ≡ Ok (founds_view fs)
  no_more_items fs i xs h = ap (λ ys. joined (founds_view fs) (each_of ys)) (drop_all i xs h) ∙ ap Ok (appended_nothing (founds_view fs))

  pub next_pair : (found : Entries) (p : Name × Expression) (ps : List (Name × Expression)) (v : Datum) → given s g (expression_view p.1) ≡ Ok v
      → pairs_given found (p ∷ ps) ≡ pairs_given (with_entry (string_bytes p.0.text) v found) ps
  next_pair found p ps v h = ap (λ r. r >>= λ u. pairs_given (with_entry (string_bytes p.0.text) u found) ps) h

  pub next_null : (x : Expression) (xs : List Expression) (v : Datum) → given s g (expression_view x) ≡ Ok v → is_null v ≡ true → first_of (x ∷ xs) ≡ first_of xs
  next_null x xs v h k =
      ap (λ r. r >>= λ u. elim (is_null u) [ true ↦ first_of xs | false ↦ Ok u ]) h
      ∙ (let P : Bool → Type 0 = λ b. ◌≡◌ {A = Answer} (elim b [ true ↦ first_of xs | false ↦ Ok v ]) (first_of xs) in subst P (sym k) refl)

  pub next_given : (x : Expression) (xs : List Expression) (v : Datum) → given s g (expression_view x) ≡ Ok v → is_null v ≡ false → first_of (x ∷ xs) ≡ Ok v
  next_given x xs v h k =
      ap (λ r. r >>= λ u. elim (is_null u) [ true ↦ first_of xs | false ↦ Ok u ]) h
      ∙ (let P : Bool → Type 0 = λ b. ◌≡◌ {A = Answer} (elim b [ true ↦ first_of xs | false ↦ Ok v ]) (Ok v) in subst P (sym k) refl)

  abbrev pub result_of : Expression → Result (Option Datum) Fault
  result_of x = given s g (expression_view x) >>= λ u. Ok (Some u)

  abbrev picked : Option Datum → Expression → List (Expression × Expression) → Result Bool Fault → Result (Option Datum) Fault
  picked subject x ws q = q >>= λ b. elim b [ true ↦ result_of x | false ↦ true_of subject ws ]

  one_when : (subject : Option Datum) (w : Expression × Expression) (ws : List (Expression × Expression)) (v : Datum) → given s g (expression_view w.0) ≡ Ok v
      → true_of subject (w ∷ ws) ≡ picked subject w.1 ws (is_chosen subject v)
  one_when subject w ws v h =
      ap (λ r. r >>= λ u. condition_of subject u >>= λ t. elim (is_true t) [ true ↦ result_of w.1 | false ↦ true_of subject ws ]) h
      ∙ by_truth (condition_of subject v) (result_of w.1) (true_of subject ws)

  pub met_when : (subject : Option Datum) (w : Expression × Expression) (ws : List (Expression × Expression)) (v : Datum)
      → given s g (expression_view w.0) ≡ Ok v → is_chosen subject v ≡ Ok true → true_of subject (w ∷ ws) ≡ result_of w.1
  met_when subject w ws v h k = one_when subject w ws v h ∙ ap (picked subject w.1 ws) k

  pub next_unmet : (subject : Option Datum) (w : Expression × Expression) (ws : List (Expression × Expression)) (v : Datum)
      → given s g (expression_view w.0) ≡ Ok v → is_chosen subject v ≡ Ok false → true_of subject (w ∷ ws) ≡ true_of subject ws
  next_unmet subject w ws v h k = one_when subject w ws v h ∙ ap (picked subject w.1 ws) k

  pub failed_when : (subject : Option Datum) (w : Expression × Expression) (ws : List (Expression × Expression)) (e : Fault)
      → given s g (expression_view w.0) ≡ Err e → true_of subject (w ∷ ws) ≡ Err e
  failed_when subject w ws e h = ap (λ r. r >>= λ u. condition_of subject u >>= λ t. elim (is_true t) [ true ↦ result_of w.1 | false ↦ true_of subject ws ]) h

  pub met_value : (subject : Option Datum) (w : Expression × Expression) (ws : List (Expression × Expression)) (v u : Datum)
      → given s g (expression_view w.0) ≡ Ok v → is_chosen subject v ≡ Ok true → given s g (expression_view w.1) ≡ Ok u → true_of subject (w ∷ ws) ≡ Ok (Some u)
  met_value subject w ws v u h k m = one_when subject w ws v h ∙ ap (picked subject w.1 ws) k ∙ ap (λ r. r >>= λ z. Ok (Some z)) m

  pub met_fault : (subject : Option Datum) (w : Expression × Expression) (ws : List (Expression × Expression)) (v : Datum) (e : Fault)
      → given s g (expression_view w.0) ≡ Ok v → is_chosen subject v ≡ Ok true → given s g (expression_view w.1) ≡ Err e → true_of subject (w ∷ ws) ≡ Err e
  met_fault subject w ws v e h k m = one_when subject w ws v h ∙ ap (picked subject w.1 ws) k ∙ ap (λ r. r >>= λ z. Ok (Some z)) m

  pub next_unknown : (subject : Option Datum) (w : Expression × Expression) (ws : List (Expression × Expression)) (v : Datum) (e : Fault)
      → given s g (expression_view w.0) ≡ Ok v → is_chosen subject v ≡ Err e → true_of subject (w ∷ ws) ≡ Err e
  next_unknown subject w ws v e h k = one_when subject w ws v h ∙ ap (picked subject w.1 ws) k

  pub next_operand : (fs : List (Operator × ValueRef)) (o : Operator) (x : Expression) (os : List (Operator × Expression)) (f : ValueRef) → given s g (expression_view x) ≡ Ok (found_view f)
      → joined_pairs (pairs_view fs) (operands_given ((o, x) ∷ os)) ≡ joined_pairs (pairs_view (fs ++ (o, f) ∷ [])) (operands_given os)
  next_operand fs o x os f h = ap (λ r. joined_pairs (pairs_view fs) (r >>= λ u. operands_given os >>= λ ps. Ok ((o, u) ∷ ps))) h ∙ pairs_moved fs o f (operands_given os)

  pub no_more_operands : (fs : List (Operator × ValueRef)) (i : ℕ) (os : List (Operator × Expression)) → length os ≤ i → joined_pairs (pairs_view fs) (operands_given (drop i os)) ≡ Ok (pairs_view fs)
  no_more_operands fs i os h = ap (λ ps. joined_pairs (pairs_view fs) (operands_given ps)) (drop_all i os h) ∙ ap Ok (append_nothing (pairs_view fs))

  pub next_text_test : (v : Datum) (t : TextTest) (y : Expression) (ts : List (Test Expression)) (u : Datum) → given_text_test s g v t (expression_view y) ≡ Ok u
      → tests_given v (test.Text t y ∷ ts) ≡ tests_given u ts
  next_text_test v t y ts u h = sym (in_turn (given s g (expression_view y)) (λ w. tested t v w) (λ z. tests_given z ts)) ∙ ap (λ r. r >>= λ z. tests_given z ts) h

  pub failed_text_test : (v : Datum) (t : TextTest) (y : Expression) (ts : List (Test Expression)) (e : Fault) → given_text_test s g v t (expression_view y) ≡ Err e
      → tests_given v (test.Text t y ∷ ts) ≡ Err e
  failed_text_test v t y ts e h = sym (in_turn (given s g (expression_view y)) (λ w. tested t v w) (λ z. tests_given z ts)) ∙ ap (λ r. r >>= λ z. tests_given z ts) h

  pub next_index : (v : Datum) (y : Expression) (ss : List (Suffix Expression)) (u : Datum) → given_index s g v (expression_view y) ≡ Ok u
      → suffixes_given v (suffix.Index y ∷ ss) ≡ suffixes_given u ss
  next_index v y ss u h = sym (in_turn (given s g (expression_view y)) (λ w. indexed g v w) (λ z. suffixes_given z ss)) ∙ ap (λ r. r >>= λ z. suffixes_given z ss) h

  pub failed_index : (v : Datum) (y : Expression) (ss : List (Suffix Expression)) (e : Fault) → given_index s g v (expression_view y) ≡ Err e
      → suffixes_given v (suffix.Index y ∷ ss) ≡ Err e
  failed_index v y ss e h = sym (in_turn (given s g (expression_view y)) (λ w. indexed g v w) (λ z. suffixes_given z ss)) ∙ ap (λ r. r >>= λ z. suffixes_given z ss) h

  -- what the expressions that are made of others give, behind their first part
  pub of_call : (n : Name) (star distinct : Bool) (xs : Vec Expression Global) → given s g (expression_view (expression.Call n star distinct xs)) ≡ given_call s g (string_bytes n.text) (expressions_of (map expression_view xs.items))
  of_call n star distinct xs = ap (λ e. given s g e) (call_is n star distinct xs)

  pub of_chain : (x : Box Expression Global) (os : Vec (Operator × Expression) Global) (v : Datum) → given s g (expression_view x.value) ≡ Ok v
      → given s g (expression_view (expression.Chain x os)) ≡ given_chained s g v (operands_of (map operand_view os.items))
  of_chain x os v h = ap (λ e. given s g e) (chain_is x os) ∙ ap (λ r. r >>= λ u. given_chained s g u (operands_of (map operand_view os.items))) h

  pub of_suffixes : (x : Box Expression Global) (ss : Vec (Suffix Expression) Global) (ls : Vec Name Global) (v : Datum) → given s g (expression_view x.value) ≡ Ok v
      → given s g (expression_view (expression.Suffixes x ss ls)) ≡ given_reads s g v (suffixes_of (map suffix_view ss.items)) (names_view ls.items)
  of_suffixes x ss ls v h = ap (λ e. given s g e) (suffixes_is x ss ls) ∙ ap (λ r. r >>= λ u. given_reads s g u (suffixes_of (map suffix_view ss.items)) (names_view ls.items)) h

  -- CASE without a subject
  module _ (ws : List (Expression × Expression)) (otherwise : Option (Box Expression Global)) where
    abbrev pub case_of : List (Expression × Expression) → Answer
    case_of us = true_of None us >>= λ o. given_otherwise s g o (perhaps_view otherwise)

    pub found_when : (x : Expression) → true_of None ws ≡ result_of x → case_of ws ≡ given s g (expression_view x)
    found_when x h = ap (λ r. r >>= λ o. given_otherwise s g o (perhaps_view otherwise)) h ∙ picked_as s g (perhaps_view otherwise) (given s g (expression_view x))

    pub found_otherwise : (x : Box Expression Global) → true_of None ws ≡ Ok None → otherwise ≡ Some x → case_of ws ≡ given s g (expression_view x.value)
    found_otherwise x h is = ap (λ r. r >>= λ o. given_otherwise s g o (perhaps_view otherwise)) h ∙ ap (λ z. given_otherwise s g None (perhaps_view z)) is ∙ as_given (given s g (expression_view x.value))

    pub found_null : true_of None ws ≡ Ok None → otherwise ≡ None → case_of ws ≡ Ok null
    found_null h is = ap (λ r. r >>= λ o. given_otherwise s g o (perhaps_view otherwise)) h ∙ ap (λ z. given_otherwise s g None (perhaps_view z)) is

  module _ (subject : Option (Box Expression Global)) (ws : Vec (Expression × Expression) Global) (otherwise : Option (Box Expression Global)) (v : Option Datum) (h : given_perhaps s g (perhaps_view subject) ≡ Ok v) where
    pub in_case : given s g (expression_view (expression.Case subject ws otherwise)) ≡ (true_of v ws.items >>= λ o. given_otherwise s g o (perhaps_view otherwise))
    in_case = ap (λ e. given s g e) (case_is subject ws otherwise) ∙ ap (λ r. r >>= λ u. true_of u ws.items >>= λ o. given_otherwise s g o (perhaps_view otherwise)) h

    pub failed_case : (e : Fault) → true_of v ws.items ≡ Err e → given s g (expression_view (expression.Case subject ws otherwise)) ≡ Err e
    failed_case e k = in_case ∙ ap (λ r. r >>= λ z. given_otherwise s g z (perhaps_view otherwise)) k

    module _ (o : Option ValueRef) (k : true_of v ws.items ≡ Ok (option_map found_view o)) where
      in_choice : (p : Option ValueRef) → o ≡ p → given s g (expression_view (expression.Case subject ws otherwise)) ≡ given_otherwise s g (option_map found_view p) (perhaps_view otherwise)
      in_choice p is = in_case ∙ ap (λ r. r >>= λ z. given_otherwise s g z (perhaps_view otherwise)) k ∙ ap (λ z. given_otherwise s g (option_map found_view z) (perhaps_view otherwise)) is

      pub chosen_case : (f : ValueRef) → o ≡ Some f → given s g (expression_view (expression.Case subject ws otherwise)) ≡ Ok (found_view f)
      chosen_case f is = in_choice (Some f) is

      pub otherwise_case : (x : Box Expression Global) → o ≡ None → otherwise ≡ Some x → given s g (expression_view (expression.Case subject ws otherwise)) ≡ given s g (expression_view x.value)
      otherwise_case x is there = in_choice None is ∙ ap (λ z. given_otherwise s g None (perhaps_view z)) there ∙ as_given (given s g (expression_view x.value))

      pub null_case : o ≡ None → otherwise ≡ None → given s g (expression_view (expression.Case subject ws otherwise)) ≡ Ok null
      null_case is none = in_choice None is ∙ ap (λ z. given_otherwise s g None (perhaps_view z)) none

-- one answer in the place of an equal one
pub ok_by : {X : Type 0} (result : Result X Fault) (seen : X → Datum) {a b : Answer} → a ≡ b → IfOk result (λ x. b ≡ Ok (seen x)) → IfOk result (λ x. a ≡ Ok (seen x))
ok_by result seen same h = subst (λ (r : Answer). IfOk result (λ x. r ≡ Ok (seen x))) (sym same) h

pub err_by : {X : Type 0} (result : Result X Fault) {a b : Answer} → a ≡ b → IfErr result (λ e. e ≢ OutOfMemory → b ≡ Err e) → IfErr result (λ e. e ≢ OutOfMemory → a ≡ Err e)
err_by result same h = subst (λ (r : Answer). IfErr result (λ e. e ≢ OutOfMemory → r ≡ Err e)) (sym same) h
