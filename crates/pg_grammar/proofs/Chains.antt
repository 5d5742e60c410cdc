-- Chains of operands with operators of one level between.
use Rattle.std.proofs.Common.{◌≡◌, ◌≢◌, ℕ, suc, ◌<◌, ◌≤◌, Bool, true, false, is_some, List, [], ◌∷◌, ◌++◌, Option, Some, None, refl, sym, ap, subst, ◌∙◌, inl, inr, arith}
use Rattle.std.proofs.lemmas.List.{append-nil}
use Rattle.std.proofs.lemmas.Bool.Decides.{nat_tests}
use Rattle.std.proofs.Math.Nat.{eq-or-lt_of_le}
use Rattle.std.specs.Prelude.{◌==◌}
use Rattle.pg_meaning.specs.declared.lexemes.Keyword.TheVariants as k
use Rattle.pg_meaning.specs.declared.lexemes.Symbol.TheVariants as s
use Rattle.pg_meaning.specs.declared.operators.Operator.{Operator}
use Rattle.pg_meaning.specs.declared.operators.Operator.TheVariants as op
use Rattle.pg_meaning.specs.Tokens.{Lexeme, Token}
use Rattle.pg_meaning.specs.Tokens as lexeme
use Rattle.pg_meaning.specs.Tree.{Expression, Operands}
use Rattle.pg_meaning.specs.Tree as tree
use Rattle.pg_meaning.specs.Grammar.{Mark, mark, operator_what, operator_level, chain_level, level, marks, operand_marks, IsSpelled, Fit, HasOperands, IsWellFormed, AreOperands}
use Rattle.pg_meaning.specs.Parse.{Parser, operator_of, at_level, begins_operator, operator, link, operands_of, chained, chain}
use Rattle.pg_grammar.specs.Rules.{Sound, Complete, Exactly, Anything, binding, operator_binding, follow, Ends, Spelled, Exact}
use Rattle.pg_grammar.proofs.Fits.{fit_append, fit_split}
use Rattle.pg_grammar.proofs.Generic.{Each, pick, chosen}
use Rattle.pg_grammar.proofs.Openings.{refuted}
use Rattle.pg_grammar.proofs.Combinators.{Fitting, Free, Sequence, Made, fitting, restated, step, made, tail_exact, ending, no_tokens}
use Rattle.pg_grammar.proofs.Terminals.{with_rest_is}

-- ---- operators

operator_spelled : (l : Lexeme) (o : Operator) → operator_of l ≡ Some o → IsSpelled (operator_what o) l
operator_spelled (lexeme.keyword k.Or w) o e = let same : op.Or ≡ o = cc in subst (λ (p : Operator). IsSpelled (operator_what p) (lexeme.keyword k.Or w)) same (w, refl)
operator_spelled (lexeme.keyword k.Xor w) o e = let same : op.Xor ≡ o = cc in subst (λ (p : Operator). IsSpelled (operator_what p) (lexeme.keyword k.Xor w)) same (w, refl)
operator_spelled (lexeme.keyword k.And w) o e = let same : op.And ≡ o = cc in subst (λ (p : Operator). IsSpelled (operator_what p) (lexeme.keyword k.And w)) same (w, refl)
operator_spelled (lexeme.symbol s.Equal) o e = let same : op.Equal ≡ o = cc in subst (λ (p : Operator). IsSpelled (operator_what p) (lexeme.symbol s.Equal)) same refl
operator_spelled (lexeme.symbol s.NotEqual) o e = let same : op.NotEqual ≡ o = cc in subst (λ (p : Operator). IsSpelled (operator_what p) (lexeme.symbol s.NotEqual)) same refl
operator_spelled (lexeme.symbol s.Less) o e = let same : op.Less ≡ o = cc in subst (λ (p : Operator). IsSpelled (operator_what p) (lexeme.symbol s.Less)) same refl
operator_spelled (lexeme.symbol s.LessOrEqual) o e = let same : op.LessOrEqual ≡ o = cc in subst (λ (p : Operator). IsSpelled (operator_what p) (lexeme.symbol s.LessOrEqual)) same refl
operator_spelled (lexeme.symbol s.Greater) o e = let same : op.Greater ≡ o = cc in subst (λ (p : Operator). IsSpelled (operator_what p) (lexeme.symbol s.Greater)) same refl
operator_spelled (lexeme.symbol s.GreaterOrEqual) o e = let same : op.GreaterOrEqual ≡ o = cc in subst (λ (p : Operator). IsSpelled (operator_what p) (lexeme.symbol s.GreaterOrEqual)) same refl
operator_spelled (lexeme.symbol s.Plus) o e = let same : op.Plus ≡ o = cc in subst (λ (p : Operator). IsSpelled (operator_what p) (lexeme.symbol s.Plus)) same refl
operator_spelled (lexeme.symbol s.Minus) o e = let same : op.Minus ≡ o = cc in subst (λ (p : Operator). IsSpelled (operator_what p) (lexeme.symbol s.Minus)) same refl
operator_spelled (lexeme.symbol s.Star) o e = let same : op.Times ≡ o = cc in subst (λ (p : Operator). IsSpelled (operator_what p) (lexeme.symbol s.Star)) same refl
operator_spelled (lexeme.symbol s.Slash) o e = let same : op.Divide ≡ o = cc in subst (λ (p : Operator). IsSpelled (operator_what p) (lexeme.symbol s.Slash)) same refl
operator_spelled (lexeme.symbol s.Percent) o e = let same : op.Modulo ≡ o = cc in subst (λ (p : Operator). IsSpelled (operator_what p) (lexeme.symbol s.Percent)) same refl
operator_spelled _ o e = absurd cc

operator_found : (o : Operator) (l : Lexeme) → IsSpelled (operator_what o) l → operator_of l ≡ Some o
operator_found op.Or l h = rw h.1 refl
operator_found op.Xor l h = rw h.1 refl
operator_found op.And l h = rw h.1 refl
operator_found op.Equal l h = rw h refl
operator_found op.NotEqual l h = rw h refl
operator_found op.Less l h = rw h refl
operator_found op.LessOrEqual l h = rw h refl
operator_found op.Greater l h = rw h refl
operator_found op.GreaterOrEqual l h = rw h refl
operator_found op.Plus l h = rw h refl
operator_found op.Minus l h = rw h refl
operator_found op.Times l h = rw h refl
operator_found op.Divide l h = rw h refl
operator_found op.Modulo l h = rw h refl

operator_binds : (l : Lexeme) (o : Operator) → operator_of l ≡ Some o → binding l ≡ operator_level o
operator_binds (lexeme.symbol s.OpenParenthesis) o e = absurd cc
operator_binds (lexeme.symbol s.Dot) o e = absurd cc
operator_binds (lexeme.symbol s.OpenBracket) o e = absurd cc
operator_binds (lexeme.symbol s.Colon) o e = absurd cc
operator_binds (lexeme.keyword k.Starts w) o e = absurd cc
operator_binds (lexeme.keyword k.Ends w) o e = absurd cc
operator_binds (lexeme.keyword k.Contains w) o e = absurd cc
operator_binds (lexeme.keyword k.In w) o e = absurd cc
operator_binds (lexeme.keyword k.Is w) o e = absurd cc
operator_binds l o e = ap operator_binding e

same_number : (m n : ℕ) → (m == n) ≡ true → m ≡ n
same_number m n e = grind (arith, nat_tests)

number_same : (m n : ℕ) → m ≡ n → (m == n) ≡ true
number_same m n e = grind (arith, nat_tests)

abbrev present : Operator → Option Operator
present o = Some o

at_level_is : (at : ℕ) (found : Option Operator) (o : Operator) → at_level at found ≡ Some o → (found ≡ Some o) × (operator_level o ≡ at)
at_level_is at None o e = absurd cc
at_level_is at (Some p) o e =
    elim (chosen (operator_level p == at) (present p) None (present o) e) [
      | inl h ↦ let same : p ≡ o = let i = h.1 in cc in (ap present same, ap operator_level (sym same) ∙ same_number (operator_level p) at h.0)
      | inr h ↦ absurd (let bad = h.1 in cc)
    ]

at_level_found : (at : ℕ) (o : Operator) → operator_level o ≡ at → at_level at (Some o) ≡ Some o
at_level_found at o e = ap (λ (b : Bool). pick b (present o) None) (number_same (operator_level o) at e)

is_some_is : (o : Option Operator) → is_some o ≡ true → (p : Operator) × (o ≡ Some p)
is_some_is (Some p) e = (p, refl)
is_some_is None e = absurd cc

pub operator_follows : (at : ℕ) (ts : List Token) → begins_operator at ts ≡ true → follow ts ≡ at
operator_follows at [] e = absurd cc
operator_follows at (t ∷ ts) e =
    let i = is_some_is (at_level at (operator_of t.lexeme)) e in
    let j = at_level_is at (operator_of t.lexeme) i.0 i.1 in
    operator_binds t.lexeme i.0 j.0 ∙ j.1

pub operator_unbound : (at : ℕ) (ts : List Token) → follow ts < at → begins_operator at ts ≡ false
operator_unbound at ts less = refuted (begins_operator at ts) (λ e. let i = operator_follows at ts e in omega arith)

-- no chain stands at the level of another form
operator_levels : (o : Operator) → (operator_level o ≢ 4) × (operator_level o ≢ 6) × (operator_level o < 9)
operator_levels op.Or = omega arith
operator_levels op.Xor = omega arith
operator_levels op.And = omega arith
operator_levels op.Plus = omega arith
operator_levels op.Minus = omega arith
operator_levels op.Times = omega arith
operator_levels op.Divide = omega arith
operator_levels op.Modulo = omega arith
operator_levels _ = omega arith

pub chain_levels : (os : Operands) → (chain_level os ≢ 4) × (chain_level os ≢ 6) × (chain_level os < 9)
chain_levels tree.no_operands = omega arith
chain_levels (tree.operand o x os) = operator_levels o

operator_counts : (o : Operator) → 1 ≤ operator_level o
operator_counts op.Or = omega arith
operator_counts op.Xor = omega arith
operator_counts op.And = omega arith
operator_counts op.Plus = omega arith
operator_counts op.Minus = omega arith
operator_counts op.Times = omega arith
operator_counts op.Divide = omega arith
operator_counts op.Modulo = omega arith
operator_counts _ = omega arith

chain_counts : (os : Operands) → HasOperands os → 1 ≤ chain_level os
chain_counts tree.no_operands has = absurd has
chain_counts (tree.operand o x os) has = operator_counts o

level_counts : (x : Expression) → IsWellFormed x → 1 ≤ level x
level_counts (tree.chain x os) well = chain_counts os well.0
level_counts (tree.negation n x) well = omega arith
level_counts (tree.tests x ts) well = omega arith
level_counts (tree.signs bs x) well = omega arith
level_counts (tree.suffixes x xs ls) well = omega arith
level_counts _ well = omega arith

pub any_spelled : (x : Expression) (front : List Token) → IsWellFormed x → Fit front (marks x) → Spelled 1 x front
any_spelled x front well fits = record { well = well; tight = level_counts x well; fits = fits }

-- ---- an operator and its operand

abbrev LinkedOperand : ℕ → Expression → Type 0
LinkedOperand at x = IsWellFormed x × (suc at ≤ level x)

abbrev IsLinked : ℕ → Operator × Expression → Type 0
IsLinked at p = (operator_level p.0 ≡ at) × (LinkedOperand at p.1 × Free p)

abbrev link_marks : Operator × Expression → List Mark
link_marks p = mark (operator_what p.0) ∷ (marks p.1 ++ [])

abbrev Linked : ℕ → Operator × Expression → List Token → Type 0
Linked at = Fitting (IsLinked at) link_marks

linked_made : (at : ℕ) (ps : List (Operator × Expression)) (g : List Token) → Each (Linked at) ps g → AreOperands at (operands_of ps) × Fit g (operand_marks (operands_of ps))
linked_made at [] g each = (tt, rw each tt)
linked_made at (p ∷ ps) g each =
    let more = linked_made at ps each.1 each.4 in
    let fits : Fit each.0 (mark (operator_what p.0) ∷ marks p.1) = rw append-nil at each.3.fits in
    let w = each.3.well in
    ((w.0, w.1.0.0, w.1.0.1, more.0), rw each.2 (fit_append each.0 each.1 (mark (operator_what p.0) ∷ marks p.1) (operand_marks (operands_of ps)) fits more.1))

linked_of : (at : ℕ) (os : Operands) (g : List Token) → AreOperands at os → Fit g (operand_marks os) → (ps : List (Operator × Expression)) × (operands_of ps ≡ os) × Each (Linked at) ps g
linked_of at tree.no_operands g are fits = ([], refl, no_tokens g fits)
linked_of at (tree.operand o x os) g are fits =
    let parts = fit_split g (mark (operator_what o) ∷ marks x) (operand_marks os) fits in
    let more = linked_of at os parts.1 are.3 parts.4 in
    ((o, x) ∷ more.0, ap (tree.operand o x) more.1, (parts.0, parts.1, parts.2, fitting (are.0, ((are.1, are.2), tt)) (rw append-nil parts.3), more.2))

module _ (limit at : ℕ) (low : at < 9) (not_four : at ≢ 4) (not_six : at ≢ 6) (operand : Parser Expression) (exact : Exact limit (suc at) operand) where
  abbrev ChainTailed : Expression → List Token → Type 0
  ChainTailed = Sequence (Spelled (suc at)) (λ x. Made (chained x) (Each (Linked at)))

  abbrev IsOperator : Operator → List Token → Type 0
  IsOperator = Fitting (λ o. operator_level o ≡ at) (λ o. mark (operator_what o) ∷ [])

  operator_sound : Sound (operator at) IsOperator
  unfolding operator
  operator_sound [] o more e = absurd cc
  operator_sound (t ∷ ts) o more e =
      let w = with_rest_is (at_level at (operator_of t.lexeme)) ts o more e in
      let i = at_level_is at (operator_of t.lexeme) o w.0 in
      (t ∷ [], ap (λ (r : List Token). t ∷ r) w.1, fitting i.1 (record { spelled = operator_spelled t.lexeme o i.0; starts = tt; finishes = tt }, tt))

  operator_complete : Complete limit (operator at) IsOperator Anything
  unfolding operator
  operator_complete o [] more h ends less = absurd h.fits
  operator_complete o (t ∷ []) more h ends less = rw (operator_found o t.lexeme h.fits.0.spelled, at_level_found at o h.well) refl
  operator_complete o (t ∷ u ∷ front) more h ends less = absurd h.fits.1

  abbrev linked_with : Operator → Expression → Operator × Expression
  linked_with o x = (o, x)

  link_exact : Exactly limit (link at operand) (Linked at) (Ends (suc at))
  link_exact =
      step (λ (p : Operator × Expression). p.0) Free (record { sound = operator_sound; complete = operator_complete })
      (λ o. step (λ (p : Operator × Expression). p.1) (λ (p : Operator × Expression). (p.0 ≡ o) × Free p) (restated exact (λ x front h. fitting (h.well, h.tight) h.fits) (λ x front h. record { well = h.well.0; tight = h.well.1; fits = h.fits }) (λ more h. h))
      (λ x. made (linked_with o x) (λ (p : Operator × Expression). (p.1 ≡ x) × ((p.0 ≡ o) × Free p)) (refl, (refl, tt)) (λ p h. rw (← h.0, ← h.1.0) refl))
      (λ p y more well fits ends. ending (Ends (suc at)) y more fits ends))
      (λ p y more well fits ends. tt)

  link_first : (p : Operator × Expression) (front more : List Token) → Linked at p front → begins_operator at (front ++ more) ≡ true
  link_first p [] more h = absurd h.fits
  link_first p (t ∷ front) more h = rw (operator_found p.0 t.lexeme h.fits.0.spelled, at_level_found at p.0 h.well.0) refl

  chained_made : (x : Expression) (ps : List (Operator × Expression)) (f g : List Token) → Spelled (suc at) x f → Each (Linked at) ps g → Spelled at (chained x ps) (f ++ g)
  chained_made x [] f g one each = rw (each, append-nil f) (record { well = one.well; tight = omega (arith, one.tight); fits = one.fits })
  chained_made x (p ∷ ps) f g one each =
      let more = linked_made at (p ∷ ps) g each in
      let level_is : operator_level p.0 ≡ at = each.3.well.0 in
      let are : AreOperands (operator_level p.0) (operands_of (p ∷ ps)) = subst (λ (n : ℕ). AreOperands n (operands_of (p ∷ ps))) (sym level_is) more.0 in
      record { well = (tt, one.well, omega (arith, one.tight), are); tight = omega arith; fits = fit_append f g (marks x) (operand_marks (operands_of (p ∷ ps))) one.fits more.1 }

  chained_of : (a : Expression) (front : List Token) → IsWellFormed a → Fit front (marks a) → level a ≡ at → ChainTailed a front
  chained_of (tree.chain x os) front well fits is =
      let parts = fit_split front (marks x) (operand_marks os) fits in
      let are : AreOperands at os = subst (λ (n : ℕ). AreOperands n os) is well.3 in
      let l = linked_of at os parts.1 are parts.4 in
      record { value = x; f = parts.0; g = parts.1; whole = parts.2; first = record { well = well.1; tight = omega (arith, well.2); fits = parts.3 }; second = record { value = l.0; is = by os well.0 l.0 l.1; inner = l.2 } }
    where
      by : (os : Operands) → HasOperands os → (ps : List (Operator × Expression)) → operands_of ps ≡ os → tree.chain x os ≡ chained x ps
      by os has [] e = absurd (subst HasOperands (sym e) has)
      by os has (p ∷ ps) e = ap (tree.chain x) (sym e)
  chained_of (tree.negation n x) front well fits is = absurd (omega arith)
  chained_of (tree.tests x ts) front well fits is = absurd (omega arith)
  chained_of (tree.signs bs x) front well fits is = absurd (omega arith)
  chained_of (tree.suffixes x xs ls) front well fits is = absurd (omega arith)
  chained_of _ front well fits is = absurd (omega arith)

  tailed_of : (a : Expression) (front : List Token) → Spelled at a front → ChainTailed a front
  tailed_of a front h =
      elim (eq-or-lt_of_le h.tight) [
        | inl e ↦ chained_of a front h.well h.fits (sym e)
        | inr less ↦ record { value = a; f = front; g = []; whole = sym (append-nil front); first = record { well = h.well; tight = less; fits = h.fits }; second = record { value = []; is = refl; inner = refl } }
      ]

  tailed_made : (a : Expression) (front : List Token) → ChainTailed a front → Spelled at a front
  tailed_made a front h = rw (h.second.is, h.whole) (chained_made h.value h.second.value h.f h.g h.first h.second.inner)

  pub chain_exact : Exact limit at (chain at operand)
  unfolding chain
  chain_exact =
      restated (tail_exact (begins_operator at) chained refl exact link_exact link_first (λ more ends. (operator_unbound at more ends, omega arith)) (λ more goes. let f = operator_follows at more goes in omega arith)) tailed_made tailed_of (λ more h. h)
