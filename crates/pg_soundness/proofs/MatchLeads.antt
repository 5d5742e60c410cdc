-- The conjuncts that lead a WHERE: at a match they have no fault, and where one is not true the condition is false.
use Rattle.std.proofs.Common.{◌≡◌, ℕ, Bool, true, false, cond, inl, inr, ◌⊎◌, List, [], ◌∷◌, ◌++◌, map, Option, Some, None, is_some, unwrap_or, Result, Ok, Err, refl, sym, ap, subst, ◌∙◌, true≢false}
use Rattle.std.specs.List.{AllByRecursion}
use Rattle.pg_meaning.specs.Agreement.{AreGiven}
use Rattle.pg_meaning.specs.AgreementLaws.{named_in, given_split}
use Rattle.pg_meaning.specs.Answer.{◌>>=◌}
use Rattle.pg_meaning.specs.Conditions.{conjuncts, conjuncts_of, operands_of, all_true}
use Rattle.pg_meaning.specs.Entries.{at_key, value_at}
use Rattle.pg_meaning.specs.Equality.{eq3}
use Rattle.pg_meaning.specs.Expressions.{evaluate, or_fault, property_of, labelled, all_compared}
use Rattle.pg_meaning.specs.Grammar.{mark, operator_what, marks, operand_marks, optional_marks, keyed, commas, flag, key, path_marks, clause_parameters}
use Rattle.pg_meaning.specs.Graph.{Graph, Node, node_at}
use Rattle.pg_meaning.specs.Lists.{IsIn}
use Rattle.pg_meaning.specs.Logic.{and3, is_true, value_of_truth, truth_of}
use Rattle.pg_soundness.proofs.MatchParts.{same_some}
use Rattle.pg_meaning.specs.Names.{Names, is_among}
use Rattle.pg_meaning.specs.Plans.{Fixed, is_constant, fixed_by, leading}
use Rattle.pg_meaning.specs.Rows.{Row, value_in}
use Rattle.pg_meaning.specs.Tree.{Name, Expression, literal, parameter, variable, list_literal, map_literal, parentheses, call, case, chain, negation, signs, tests, suffixes, Operands, no_operands, operand, no_suffixes, property, PathPattern, match_paths}
use Rattle.pg_meaning.specs.Value.{Value, null, node, Entries}
use Rattle.pg_meaning.specs.Walks.{constant_value}
use Rattle.pg_meaning.specs.declared.fault.Fault.{Fault}
use Rattle.pg_meaning.specs.declared.fault.Fault.TheVariants.{MissingParameter, UndefinedVariable, DeletedEntity}
use Rattle.pg_meaning.specs.declared.lexemes.Keyword.TheVariants as k
use Rattle.pg_meaning.specs.declared.logic.Tri.{Tri}
use Rattle.pg_meaning.specs.declared.logic.Tri.TheVariants.{True, False, Null}
use Rattle.pg_meaning.specs.declared.operators.Operator.TheVariants.{And, Equal}
use Rattle.pg_soundness.proofs.MatchStates.{by_bool, none_some}

-- n.k = c
abbrev pub lead_expression : Name → Name → Expression → Expression
lead_expression n k c = chain (suffixes (variable n) (property k no_suffixes) []) (operand Equal c no_operands)

abbrev pub lead_fixed : Name → Name → Expression → Fixed
lead_fixed n k c = record { name = n.text; key = k.text; value = c }

abbrev IsLead : Expression → Fixed → Type 0
IsLead x f = (n : Name) × (k : Name) × (c : Expression) × (x ≡ lead_expression n k c) × (is_constant c ≡ true) × (f ≡ lead_fixed n k c)

no_lead : {C : Type 0} (f : Fixed) → ◌≡◌ {A = Option Fixed} None (Some f) → C
no_lead f e = none_some None f refl e

constant_lead : (n k : Name) (c : Expression) (f : Fixed) → cond (is_constant c) (Some (lead_fixed n k c)) None ≡ Some f → IsLead (lead_expression n k c) f
constant_lead n k c f e =
    by_bool (is_constant c)
    (λ is. (n, k, c, refl, is, sym (same_some (lead_fixed n k c) f (sym (ap (λ b. cond b (Some (lead_fixed n k c)) None) is) ∙ e))))
    (λ other. no_lead f (sym (ap (λ b. cond b (Some (lead_fixed n k c)) None) other) ∙ e))

fixed_is : (x : Expression) (f : Fixed) → fixed_by x ≡ Some f → IsLead x f
fixed_is (chain (suffixes (variable n) (property k no_suffixes) []) (operand Equal c no_operands)) f e = constant_lead n k c f e
fixed_is _ f e = no_lead f e

-- ---- the value of such a conjunct

and_true : (t : Tri) → and3 t True ≡ t
and_true True = refl
and_true False = refl
and_true Null = refl

truth_again : (t : Tri) → truth_of (value_of_truth t) ≡ Ok t
truth_again True = refl
truth_again False = refl
truth_again Null = refl

module _ (parameters : Entries) (graph : Graph) (here : Row) where
  -- the variable reads as a node that is there
  pub record Stands (name : List ℕ) : Type 0 where
    pub id : ℕ
    pub element : Node
    pub reads : value_in name here ≡ Some (node id)
    pub present : node_at graph id ≡ Some element

  -- what the graph has there, compared with the constant
  abbrev pub lead_truth : (f : Fixed) → Stands f.name → Tri
  lead_truth f s = eq3 (value_at f.key s.element.properties) (constant_value parameters f.value)

  property_read : (n k : Name) (s : Stands n.text) → evaluate here parameters graph (suffixes (variable n) (property k no_suffixes) []) ≡ Ok (value_at k.text s.element.properties)
  property_read n k s =
      ap (λ o. or_fault o UndefinedVariable >>= λ v. (property_of graph v k.text >>= λ w. Ok w) >>= λ w. labelled graph w []) s.reads
      ∙ ap (λ o. (((elim o as (λ o. Result Entries Fault) [ Some x ↦ Ok x.properties | None ↦ Err DeletedEntity ]) >>= λ es. Ok (value_at k.text es)) >>= λ w. Ok w) >>= λ w. labelled graph w []) s.present

  given_read : (o : Option Value) → is_some o ≡ true → or_fault o MissingParameter ≡ Ok (unwrap_or o null)
  given_read None e = absurd (true≢false (sym e))
  given_read (Some v) e = refl

  constant_read : (c : Expression) → is_constant c ≡ true → AreGiven (named_in (marks c)) parameters → evaluate here parameters graph c ≡ Ok (constant_value parameters c)
  constant_read (literal v) is h = refl
  constant_read (parameter p) is h = given_read (at_key p.text parameters) h.0
  constant_read (variable n) is h = absurd (true≢false (sym is))
  constant_read (list_literal xs) is h = absurd (true≢false (sym is))
  constant_read (map_literal ps) is h = absurd (true≢false (sym is))
  constant_read (parentheses x) is h = absurd (true≢false (sym is))
  constant_read (call n star distinct xs) is h = absurd (true≢false (sym is))
  constant_read (case s ws o) is h = absurd (true≢false (sym is))
  constant_read (chain x os) is h = absurd (true≢false (sym is))
  constant_read (negation n x) is h = absurd (true≢false (sym is))
  constant_read (signs bs x) is h = absurd (true≢false (sym is))
  constant_read (tests x ts) is h = absurd (true≢false (sym is))
  constant_read (suffixes x xs ls) is h = absurd (true≢false (sym is))

  constant_given : (n k : Name) (c : Expression) → AreGiven (named_in (marks (lead_expression n k c))) parameters → AreGiven (named_in (marks c)) parameters
  constant_given n k c h = (given_split parameters (marks c) [] (given_split parameters (marks (suffixes (variable n) (property k no_suffixes) [])) (operand_marks (operand Equal c no_operands)) h).1).0

  lead_read : (n k : Name) (c : Expression) → is_constant c ≡ true → AreGiven (named_in (marks (lead_expression n k c))) parameters → (s : Stands n.text) → evaluate here parameters graph (lead_expression n k c) ≡ Ok (value_of_truth (lead_truth (lead_fixed n k c) s))
  lead_read n k c is h s =
      ap (λ (o : Result Value Fault). o >>= λ v. ((evaluate here parameters graph c >>= λ w. Ok ((Equal, w) ∷ [])) >>= λ ps. all_compared v ps >>= λ t. Ok (value_of_truth t))) (property_read n k s)
      ∙ ap (λ (o : Result Value Fault). (o >>= λ w. Ok ((Equal, w) ∷ [])) >>= λ ps. all_compared (value_at k.text s.element.properties) ps >>= λ t. Ok (value_of_truth t)) (constant_read c is (constant_given n k c h))
      ∙ ap (λ t. Ok (value_of_truth t)) (and_true (lead_truth (lead_fixed n k c) s))

  -- ---- the leading conjuncts

  abbrev AllGiven : List Expression → Type 0
  AllGiven es = AllByRecursion (λ x. AreGiven (named_in (marks x)) parameters) es

  abbrev leading_by : Names → List Expression → Option Fixed → List Fixed
  leading_by names es o = elim o as (λ o. List Fixed) [ None ↦ [] | Some f ↦ cond (is_among names f.name) (f ∷ leading names es) [] ]

  pub leading_among : (names : Names) (es : List Expression) (f : Fixed) → IsIn f (leading names es) → is_among names f.name ≡ true
  leading_among names [] f i = absurd i
  leading_among names (x ∷ es) f i = by_fixed (fixed_by x) i (leading_among names es f)
    where
      by_fixed : (o : Option Fixed) → IsIn f (leading_by names es o) → (IsIn f (leading names es) → is_among names f.name ≡ true) → is_among names f.name ≡ true
      by_fixed None j rest = absurd j
      by_fixed (Some g) j rest =
          elim (is_among names g.name) as (λ b. is_among names g.name ≡ b → IsIn f (cond b (g ∷ leading names es) []) → is_among names f.name ≡ true) [
            | true ↦ λ e j. by_place e j
            | false ↦ λ e j. absurd j
          ] refl j
        where
          by_place : is_among names g.name ≡ true → IsIn f (g ∷ leading names es) → is_among names f.name ≡ true
          by_place e (inl same) = subst (λ z. is_among names z.name ≡ true) (sym same) e
          by_place e (inr later) = rest later

  abbrev Decided : List Expression → (f : Fixed) → Stands f.name → Type 0
  Decided es f s = (is_true (lead_truth f s) ≡ true) ⊎ (all_true here parameters graph es ≡ Ok false)

  pub lead_decides : (names : Names) (es : List Expression) → ((f : Fixed) → IsIn f (leading names es) → Stands f.name) → AllGiven es → (f : Fixed) → IsIn f (leading names es) → (s : Stands f.name) → Decided es f s
  lead_decides names [] st h f i s = absurd i
  lead_decides names (x ∷ es) st h f i s = by_fixed (fixed_by x) refl i st (λ st i. lead_decides names es st h.1 f i s)
    where
      rest_after : Result Value Fault → Result Bool Fault
      rest_after o = o >>= λ v. truth_of v >>= λ t. elim (is_true t) as (λ b. Result Bool Fault) [ true ↦ all_true here parameters graph es | false ↦ Ok false ]

      by_truth : (t : Tri) → evaluate here parameters graph x ≡ Ok (value_of_truth t) → all_true here parameters graph (x ∷ es) ≡ elim (is_true t) as (λ b. Result Bool Fault) [ true ↦ all_true here parameters graph es | false ↦ Ok false ]
      by_truth t e = ap rest_after e ∙ ap (λ (o : Result Tri Fault). o >>= λ t. elim (is_true t) as (λ b. Result Bool Fault) [ true ↦ all_true here parameters graph es | false ↦ Ok false ]) (truth_again t)

      of_lead : (g : Fixed) → IsLead x g → (sg : Stands g.name) → evaluate here parameters graph x ≡ Ok (value_of_truth (lead_truth g sg))
      of_lead g l = subst (λ z. (sz : Stands z.name) → evaluate here parameters graph x ≡ Ok (value_of_truth (lead_truth z sz))) (sym l.5)
          (λ sz. subst (λ y. evaluate here parameters graph y ≡ Ok (value_of_truth (lead_truth (lead_fixed l.0 l.1 l.2) sz))) (sym l.3) (lead_read l.0 l.1 l.2 l.4 (subst (λ y. AreGiven (named_in (marks y)) parameters) l.3 h.0) sz))

      Rest : Type 0
      Rest = ((f : Fixed) → IsIn f (leading names es) → Stands f.name) → IsIn f (leading names es) → Decided es f s

      by_place : (g : Fixed) → IsLead x g → ((f : Fixed) → IsIn f (g ∷ leading names es) → Stands f.name) → IsIn f (g ∷ leading names es) → Rest → Decided (x ∷ es) f s
      by_place g l st (inl same) rest =
          let here_is = by_truth (lead_truth f s) (of_lead f (subst (IsLead x) (sym same) l) s) in
          by_bool (is_true (lead_truth f s)) (λ e. inl e) (λ e. inr (here_is ∙ ap (λ b. elim b as (λ b. Result Bool Fault) [ true ↦ all_true here parameters graph es | false ↦ Ok false ]) e))
      by_place g l st (inr later) rest =
          let sg = st g (inl refl) in
          let here_is = by_truth (lead_truth g sg) (of_lead g l sg) in
          by_bool (is_true (lead_truth g sg))
          (λ e. elim (rest (λ f i. st f (inr i)) later) [
            | inl d ↦ inl d
            | inr d ↦ inr (here_is ∙ ap (λ b. elim b as (λ b. Result Bool Fault) [ true ↦ all_true here parameters graph es | false ↦ Ok false ]) e ∙ d)
          ])
          (λ e. inr (here_is ∙ ap (λ b. elim b as (λ b. Result Bool Fault) [ true ↦ all_true here parameters graph es | false ↦ Ok false ]) e))

      by_fixed : (o : Option Fixed) → fixed_by x ≡ o → IsIn f (leading_by names es o) → ((f : Fixed) → IsIn f (leading_by names es o) → Stands f.name) → Rest → Decided (x ∷ es) f s
      by_fixed None e j st rest = absurd j
      by_fixed (Some g) e j st rest =
          elim (is_among names g.name) as (λ b. IsIn f (cond b (g ∷ leading names es) []) → ((f : Fixed) → IsIn f (cond b (g ∷ leading names es) []) → Stands f.name) → Decided (x ∷ es) f s) [
            | true ↦ λ j st. by_place g (fixed_is x g e) st j rest
            | false ↦ λ j st. absurd j
          ] j st

  -- ---- parameters of the conjuncts

  operands_given : (os : Operands) → AreGiven (named_in (operand_marks os)) parameters → AllGiven (operands_of os)
  operands_given no_operands h = tt
  operands_given (operand o x os) h =
      let parts = given_split parameters (marks x) (operand_marks os) (given_split parameters (mark (operator_what o) ∷ []) (marks x ++ operand_marks os) h).1 in
      (parts.0, operands_given os parts.1)

  conjuncts_given : (x : Expression) → AreGiven (named_in (marks x)) parameters → AllGiven (conjuncts x)
  conjuncts_given (chain x (operand And y os)) h =
      let parts = given_split parameters (marks x) (operand_marks (operand And y os)) h in
      (parts.0, operands_given (operand And y os) parts.1)
  conjuncts_given x h = (h, tt)

  where_given : (where_ : Option Expression) → AreGiven (named_in (optional_marks (keyed k.Where) where_)) parameters → AllGiven (conjuncts_of where_)
  where_given None h = tt
  where_given (Some x) h = conjuncts_given x h

  -- the parameters of a clause are given, and so those of each conjunct
  pub clause_given : (is_optional : Bool) (paths : List PathPattern) (where_ : Option Expression) → AreGiven (clause_parameters (match_paths is_optional paths where_)) parameters → AllGiven (conjuncts_of where_)
  clause_given is_optional paths where_ h =
      where_given where_
      (given_split parameters (commas (map path_marks paths)) (optional_marks (keyed k.Where) where_)
      (given_split parameters (flag is_optional (key k.Optional)) (key k.Match ∷ (commas (map path_marks paths) ++ optional_marks (keyed k.Where) where_)) h).1).1
