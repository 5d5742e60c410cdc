-- What one step of an evaluation gives: a fault that is passed on, the next value, and what a part of an expression decides.
use Rattle.std.proofs.Common.{◌≡◌, ◌≢◌, ◌<◌, ◌≤◌, ℕ, arith, get_or, length, Bool, true, false, List, [], ◌∷◌, map, Option, Some, None, Result, Ok, Err, IsErrAnd, refl, sym, ap, subst, ◌∙◌}
use Rattle.std.specs.Prelude.{Box, Vec, IfOk, IfErr, string_bytes}
use Rattle.std.specs.declared.alloc.Global.{Global}
use Rattle.pg_expr.proofs.Walks.{joined, joined_pairs, each_of, pairs_given, first_of, true_of, chain_of, operands_given, tests_given, suffixes_given}
use Rattle.pg_expr.specs.Calls.{given_call}
use Rattle.pg_expr.specs.Operators.{truth_compared}
use Rattle.pg_expr.specs.Contexts.{found_view, founds_view, pairs_view, given, given_each, given_map, given_first, given_compared, given_chain, given_chained, given_tests, given_perhaps, given_otherwise, given_reads, row_at, parameters_at}
use Rattle.pg_expr.specs.declared.value_ref.ValueRef.{ValueRef}
use Rattle.pg_expr.specs.declared.row_context.RowContext.{RowContext}
use Rattle.pg_meaning.specs.Answer.{Answer, ◌>>=◌}
use Rattle.pg_meaning.specs.Entries.{at_key, with_entry}
use Rattle.pg_meaning.specs.Expressions.{begins_comparison, combined, fault_of_name, is_coalesce, or_fault, property_of}
use Rattle.pg_meaning.specs.Functions.{Function, applied, function_named, is_null}
use Rattle.pg_meaning.specs.Graph.{Graph}
use Rattle.pg_meaning.specs.Measure.{made}
use Rattle.pg_meaning.specs.Parse.{expressions_of, operands_of, pairs_of}
use Rattle.pg_meaning.specs.Tree as tree
use Rattle.pg_meaning.specs.Value.{Value as Datum, Values, Entries, list, no_items, item}
use Rattle.pg_meaning.specs.declared.fault.Fault.{Fault}
use Rattle.pg_meaning.specs.declared.fault.Fault.TheVariants.{OutOfMemory}
use Rattle.pg_meaning.specs.declared.operators.Operator.{Operator}
use Rattle.pg_meaning.specs.declared.fault.Fault.TheVariants as fault
use Rattle.pg_meaning.specs.Rows.{value_in}
use Rattle.pg_syntax_tree.proofs.Views.{case_is, chain_is, map_is, suffixes_is, tests_is}
use Rattle.pg_syntax_tree.specs.View.{expression_view, literal_view, names_view, operand_view, pair_view, perhaps_view, suffix_view, suffixes_of, test_view, tests_of, view_step}
use Rattle.pg_syntax_tree.specs.declared.expression.Expression.{Expression}
use Rattle.pg_syntax_tree.specs.declared.expression.Expression.TheFolds.{fold-roll-Expression}
use Rattle.pg_syntax_tree.specs.declared.expression.Expression.TheOpen.{Expression-F}
use Rattle.pg_syntax_tree.specs.declared.expression.Expression.TheViews.{rolls-Literal, rolls-Parameter, rolls-Variable, rolls-ListLiteral, rolls-Parentheses}
use Rattle.pg_syntax_tree.specs.declared.expression.Literal.{Literal}
use Rattle.pg_syntax_tree.specs.declared.expression.Expression.TheVariants as expression
use Rattle.pg_syntax_tree.specs.declared.expression.Name.{Name}
use Rattle.pg_syntax_tree.specs.declared.expression.Suffix.{Suffix}
use Rattle.pg_syntax_tree.specs.declared.expression.Suffix.TheVariants as suffix
use Rattle.pg_syntax_tree.specs.declared.expression.Test.{Test}
use Rattle.pg_value_core.specs.Gives.{Gives}

pub fault_gives : {X A : Type 0} {seen : X → A} {answer : Result A Fault} (e : Fault) (result : Result X Fault) → IsErrAnd result (λ f. f ≡ e) → (e ≢ OutOfMemory → answer ≡ Err e) → Gives result answer seen
fault_gives e (Ok x) h same = absurd h
fault_gives {answer = answer} e (Err f) h same = record { ok = tt; err = subst (λ k. k ≢ OutOfMemory → answer ≡ Err k) (sym h) same }

pub no_memory : {X A : Type 0} {seen : X → A} {answer : Result A Fault} (result : Result X Fault) → IsErrAnd result (λ f. f ≡ OutOfMemory) → Gives result answer seen
no_memory result h = fault_gives OutOfMemory result h (λ other. absurd (other refl))

pub gives_by : {X A : Type 0} {seen : X → A} {a b : Result A Fault} (result : Result X Fault) → a ≡ b → Gives result b seen → Gives result a seen
gives_by {seen = seen} result same h = subst (λ r. Gives result r seen) (sym same) h

-- where every fault is told
pub told : {X A : Type 0} {seen : X → A} {answer : Result A Fault} (result : Result X Fault) → IfOk result (λ x. answer ≡ Ok (seen x)) → IfErr result (λ e. answer ≡ Err e) → Gives result answer seen
told (Ok x) h k = record { ok = h; err = tt }
told (Err e) h k = record { ok = tt; err = λ other. k }

pub literal_gives : (l : Literal) (result : Result ValueRef Fault) → IfOk result (λ f. found_view f ≡ literal_view l) → IfErr result (λ e. e ≡ OutOfMemory) → Gives result (Ok (literal_view l)) found_view
literal_gives l (Ok f) h k = record { ok = ap Ok (sym h); err = tt }
literal_gives l (Err e) h k = record { ok = tt; err = λ other. absurd (other k) }

none_before : (r : Result Values Fault) → r ≡ joined no_items r
none_before (Ok vs) = refl
none_before (Err e) = refl

no_pairs_before : (r : Result (List (Operator × Datum)) Fault) → r ≡ joined_pairs [] r
no_pairs_before (Ok ps) = refl
no_pairs_before (Err e) = refl

single : (os : List (Operator × Expression)) (p q : Operator × Expression) → 1 ≤ length os → length os < 2 → p ≡ get_or os 0 p → q ≡ get_or os 0 q → operands_of (map operand_view os) ≡ tree.operand p.0 (expression_view q.1) tree.no_operands
single [] p q least below is there = absurd (omega arith)
single (x ∷ []) p q least below is there = ap (λ r. tree.operand r.0 (expression_view x.1) tree.no_operands) (sym is) ∙ ap (λ r. tree.operand p.0 (expression_view r.1) tree.no_operands) (sym there)
single (x ∷ y ∷ os) p q least below is there = absurd (omega arith)

-- a chain with one operand
pub one_left : (os all : List (Operator × Expression)) (p q : Operator × Expression) → os ≡ all → 1 ≤ length os → length os < 2 → p ≡ get_or os 0 p → q ≡ get_or os 0 q
    → operands_of (map operand_view all) ≡ tree.operand p.0 (expression_view q.1) tree.no_operands
one_left os all p q same least below is there = ap (λ qs. operands_of (map operand_view qs)) (sym same) ∙ single os p q least below is there

pub one_operand : (v : Datum) (o : Operator) (a : Answer) → ((a >>= λ w. Ok ((o, w) ∷ [])) >>= λ ps. truth_compared v ps) ≡ (a >>= λ w. truth_compared v ((o, w) ∷ []))
one_operand v o (Ok w) = refl
one_operand v o (Err e) = refl

only_argument : (xs : List Expression) (x : Expression) → 1 ≤ length xs → length xs < 2 → x ≡ get_or xs 0 x → expressions_of (map expression_view xs) ≡ tree.expression (expression_view x) tree.no_expressions
only_argument [] x least below is = absurd (omega arith)
only_argument (y ∷ []) x least below is = ap (λ z. tree.expression (expression_view z) tree.no_expressions) (sym is)
only_argument (y ∷ z ∷ xs) x least below is = absurd (omega arith)

-- a call with one argument
pub one_argument : (xs all : List Expression) (x : Expression) → xs ≡ all → 1 ≤ length xs → length xs < 2 → x ≡ get_or xs 0 x
    → expressions_of (map expression_view all) ≡ tree.expression (expression_view x) tree.no_expressions
one_argument xs all x same least below is = ap (λ ys. expressions_of (map expression_view ys)) (sym same) ∙ only_argument xs x least below is

pub applied_alone : (g : Graph) (f : Function) (a : Answer) → ((a >>= λ v. (Ok no_items) >>= λ vs. Ok (item v vs)) >>= applied g f) ≡ (a >>= λ v. applied g f (item v no_items))
applied_alone g f (Ok v) = refl
applied_alone g f (Err e) = refl

pub behind_all : (r : Result Values Fault) (f : Values → Answer) (h : Datum → Answer) → ((r >>= f) >>= h) ≡ (r >>= λ vs. f vs >>= h)
behind_all (Ok vs) f h = refl
behind_all (Err e) f h = refl

module _ (s : RowContext) (g : Graph) where
  pub first_item : (fs : List ValueRef) (xs : List Expression) → fs ≡ [] → each_of s g xs ≡ joined (founds_view fs) (each_of s g xs)
  first_item fs xs h = none_before (each_of s g xs) ∙ ap (λ ys. joined (founds_view ys) (each_of s g xs)) (sym h)

  pub failed_item : (fs : List ValueRef) (x : Expression) (xs : List Expression) (e : Fault) → given s g (expression_view x) ≡ Err e → joined (founds_view fs) (each_of s g (x ∷ xs)) ≡ Err e
  failed_item fs x xs e h = ap (λ r. joined (founds_view fs) (r >>= λ u. each_of s g xs >>= λ us. Ok (item u us))) h

  pub first_operand : (fs : List (Operator × ValueRef)) (os : List (Operator × Expression)) → fs ≡ [] → operands_given s g os ≡ joined_pairs (pairs_view fs) (operands_given s g os)
  first_operand fs os h = no_pairs_before (operands_given s g os) ∙ ap (λ ps. joined_pairs (pairs_view ps) (operands_given s g os)) (sym h)

  pub failed_operand : (fs : List (Operator × ValueRef)) (p : Operator × Expression) (os : List (Operator × Expression)) (e : Fault) → given s g (expression_view p.1) ≡ Err e
      → joined_pairs (pairs_view fs) (operands_given s g (p ∷ os)) ≡ Err e
  failed_operand fs p os e h = ap (λ r. joined_pairs (pairs_view fs) (r >>= λ u. operands_given s g os >>= λ ps. Ok ((p.0, u) ∷ ps))) h

  pub failed_pair : (found : Entries) (p : Name × Expression) (ps : List (Name × Expression)) (e : Fault) → given s g (expression_view p.1) ≡ Err e → pairs_given s g found (p ∷ ps) ≡ Err e
  failed_pair found p ps e h = ap (λ r. r >>= λ u. pairs_given s g (with_entry (string_bytes p.0.text) u found) ps) h

  pub failed_first : (x : Expression) (xs : List Expression) (e : Fault) → given s g (expression_view x) ≡ Err e → first_of s g (x ∷ xs) ≡ Err e
  failed_first x xs e h = ap (λ r. r >>= λ u. elim (is_null u) [ true ↦ first_of s g xs | false ↦ Ok u ]) h

  module _ (v : Datum) (p : Operator × Expression) (os : List (Operator × Expression)) where
    pub failed_right : (e : Fault) → given s g (expression_view p.1) ≡ Err e → chain_of s g v (p ∷ os) ≡ Err e
    failed_right e h = ap (λ r. r >>= λ w. combined p.0 v w >>= λ u. chain_of s g u os) h

    by_right : (w : Datum) → given s g (expression_view p.1) ≡ Ok w → chain_of s g v (p ∷ os) ≡ (combined p.0 v w >>= λ u. chain_of s g u os)
    by_right w h = ap (λ r. r >>= λ z. combined p.0 v z >>= λ u. chain_of s g u os) h

    pub next_combined : (w u : Datum) → given s g (expression_view p.1) ≡ Ok w → combined p.0 v w ≡ Ok u → chain_of s g v (p ∷ os) ≡ chain_of s g u os
    next_combined w u h k = by_right w h ∙ ap (λ r. r >>= λ z. chain_of s g z os) k

    pub failed_combined : (w : Datum) (e : Fault) → given s g (expression_view p.1) ≡ Ok w → combined p.0 v w ≡ Err e → chain_of s g v (p ∷ os) ≡ Err e
    failed_combined w e h k = by_right w h ∙ ap (λ r. r >>= λ z. chain_of s g z os) k

  pub next_property : (v u : Datum) (n : Name) (ss : List (Suffix Expression)) → property_of g v (string_bytes n.text) ≡ Ok u → suffixes_given s g v (suffix.Property n ∷ ss) ≡ suffixes_given s g u ss
  next_property v u n ss h = ap (λ r. r >>= λ w. suffixes_given s g w ss) h

  pub failed_property : (v : Datum) (e : Fault) (n : Name) (ss : List (Suffix Expression)) → property_of g v (string_bytes n.text) ≡ Err e → suffixes_given s g v (suffix.Property n ∷ ss) ≡ Err e
  failed_property v e n ss h = ap (λ r. r >>= λ w. suffixes_given s g w ss) h

  pub of_literal : (l : Literal) → given s g (expression_view (expression.Literal l)) ≡ Ok (literal_view l)
  of_literal l = ap (λ e. given s g (expression_view e)) (sym (rolls-Literal l)) ∙ ap (λ t. given s g t) (fold-roll-Expression tree.Expression view_step (Expression-F.Literal l))

  pub of_parameter : (n : Name) → given s g (expression_view (expression.Parameter n)) ≡ or_fault (at_key (string_bytes n.text) (parameters_at s)) fault.MissingParameter
  of_parameter n = ap (λ e. given s g (expression_view e)) (sym (rolls-Parameter n)) ∙ ap (λ t. given s g t) (fold-roll-Expression tree.Expression view_step (Expression-F.Parameter n))

  pub of_variable : (n : Name) → given s g (expression_view (expression.Variable n)) ≡ or_fault (value_in (string_bytes n.text) (row_at s)) fault.UndefinedVariable
  of_variable n = ap (λ e. given s g (expression_view e)) (sym (rolls-Variable n)) ∙ ap (λ t. given s g t) (fold-roll-Expression tree.Expression view_step (Expression-F.Variable n))

  pub of_list : (xs : Vec Expression Global) → given s g (expression_view (expression.ListLiteral xs)) ≡ (each_of s g xs.items >>= λ vs. made (list vs))
  of_list xs = ap (λ e. given s g (expression_view e)) (sym (rolls-ListLiteral xs)) ∙ ap (λ t. given s g t) (fold-roll-Expression tree.Expression view_step (Expression-F.ListLiteral xs))

  pub of_map : (ps : Vec (Name × Expression) Global) → given s g (expression_view (expression.MapLiteral ps)) ≡ given_map s g (pairs_of (map pair_view ps.items))
  of_map ps = ap (λ t. given s g t) (map_is ps)

  pub of_parentheses : (x : Box Expression Global) → given s g (expression_view (expression.Parentheses x)) ≡ given s g (expression_view x.value)
  of_parentheses x = ap (λ e. given s g (expression_view e)) (sym (rolls-Parentheses x)) ∙ ap (λ t. given s g t) (fold-roll-Expression tree.Expression view_step (Expression-F.Parentheses x))

  -- what a box gives, of what it holds
  pub boxed : {y z : Expression} {answer : Answer} → y ≡ z → given s g (expression_view y) ≡ answer → given s g (expression_view z) ≡ answer
  boxed {answer = answer} same h = subst (λ x. given s g (expression_view x) ≡ answer) same h

  pub failed_chain : (x : Box Expression Global) (os : Vec (Operator × Expression) Global) (e : Fault) → given s g (expression_view x.value) ≡ Err e → given s g (expression_view (expression.Chain x os)) ≡ Err e
  failed_chain x os e h = ap (λ t. given s g t) (chain_is x os) ∙ ap (λ r. r >>= λ v. given_chained s g v (operands_of (map operand_view os.items))) h

  by_tested : (x : Box Expression Global) (ts : Vec (Test Expression) Global) → given s g (expression_view (expression.Tests x ts)) ≡ (given s g (expression_view x.value) >>= λ v. tests_given s g v ts.items)
  by_tested x ts = ap (λ t. given s g t) (tests_is x ts)

  pub of_tests : (x : Box Expression Global) (ts : Vec (Test Expression) Global) (v : Datum) → given s g (expression_view x.value) ≡ Ok v
      → given s g (expression_view (expression.Tests x ts)) ≡ given_tests s g v (tests_of (map test_view ts.items))
  of_tests x ts v h = by_tested x ts ∙ ap (λ r. r >>= λ u. tests_given s g u ts.items) h

  pub failed_tests : (x : Box Expression Global) (ts : Vec (Test Expression) Global) (e : Fault) → given s g (expression_view x.value) ≡ Err e → given s g (expression_view (expression.Tests x ts)) ≡ Err e
  failed_tests x ts e h = by_tested x ts ∙ ap (λ r. r >>= λ u. tests_given s g u ts.items) h

  pub failed_suffixes : (x : Box Expression Global) (ss : Vec (Suffix Expression) Global) (ls : Vec Name Global) (e : Fault) → given s g (expression_view x.value) ≡ Err e
      → given s g (expression_view (expression.Suffixes x ss ls)) ≡ Err e
  failed_suffixes x ss ls e h = ap (λ t. given s g t) (suffixes_is x ss ls) ∙ ap (λ r. r >>= λ u. given_reads s g u (suffixes_of (map suffix_view ss.items)) (names_view ls.items)) h

  pub failed_subject : (subject : Option (Box Expression Global)) (ws : Vec (Expression × Expression) Global) (otherwise : Option (Box Expression Global)) (x : Box Expression Global) (e : Fault)
      → subject ≡ Some x → given s g (expression_view x.value) ≡ Err e → given s g (expression_view (expression.Case subject ws otherwise)) ≡ Err e
  failed_subject subject ws otherwise x e is h =
      ap (λ t. given s g t) (case_is subject ws otherwise)
      ∙ ap (λ o. given_perhaps s g (perhaps_view o) >>= λ v. true_of s g v ws.items >>= λ c. given_otherwise s g c (perhaps_view otherwise)) is
      ∙ ap (λ r. (r >>= λ u. Ok (Some u)) >>= λ v. true_of s g v ws.items >>= λ c. given_otherwise s g c (perhaps_view otherwise)) h

  pub given_subject : {subject : Option (Box Expression Global)} (x : Box Expression Global) (v : Datum) → subject ≡ Some x → given s g (expression_view x.value) ≡ Ok v
      → given_perhaps s g (perhaps_view subject) ≡ Ok (Some v)
  given_subject x v is h = ap (λ o. given_perhaps s g (perhaps_view o)) is ∙ ap (λ r. r >>= λ u. Ok (Some u)) h

  pub no_subject : {subject : Option (Box Expression Global)} → subject ≡ None → given_perhaps s g (perhaps_view subject) ≡ Ok None
  no_subject is = ap (λ o. given_perhaps s g (perhaps_view o)) is

  module _ (v : Datum) (os : tree.Operands) where
    abbrev by_kind : Bool → Answer
    by_kind b = elim b [ true ↦ given_compared s g v os | false ↦ given_chain s g v os ]

    pub of_comparisons : begins_comparison os ≡ true → given_chained s g v os ≡ given_compared s g v os
    of_comparisons h = ap by_kind h

    pub of_others : begins_comparison os ≡ false → given_chained s g v os ≡ given_chain s g v os
    of_others h = ap by_kind h

  module _ (name : List ℕ) (es : tree.Expressions) where
    abbrev by_choice : Function → Bool → Answer
    by_choice f b = elim b [ true ↦ given_first s g es | false ↦ given_each s g es >>= applied g f ]

    abbrev by_name : Option Function → Answer
    by_name o = elim o [ Some f ↦ by_choice f (is_coalesce f) | None ↦ Err (fault_of_name name) ]

    pub coalesced : (f : Function) → function_named name ≡ Some f → is_coalesce f ≡ true → given_call s g name es ≡ given_first s g es
    coalesced f h k = ap by_name h ∙ ap (by_choice f) k

    pub called : (f : Function) → function_named name ≡ Some f → is_coalesce f ≡ false → given_call s g name es ≡ (given_each s g es >>= applied g f)
    called f h k = ap by_name h ∙ ap (by_choice f) k
