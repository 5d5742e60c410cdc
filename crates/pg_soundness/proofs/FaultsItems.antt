-- The items of a projection without static faults.
use Rattle.std.proofs.Common.{◌≡◌, ℕ, suc, ◌+◌, nat_lt, Bool, true, false, cond, not, ◌&&◌, ◌||◌, List, [], ◌∷◌, ◌++◌, map, length, position, Option, Some, None, option_map, is_some, Less, Equal, Greater, refl, sym, ap, subst, ◌∙◌, true≢false, arith}
use Rattle.std.proofs.lemmas.Bool.Decides.{nat_tests}
use Rattle.std.specs.BTreeSet.{insert_key}
use Rattle.std.specs.List.{AllByRecursion, list_any, position_or_len}
use Rattle.std.specs.Ordering.{match_ordering}
use Rattle.pg_meaning.specs.Aggregates.{Summary, Aggregate, aggregate_named, first_argument, aggregate_of}
use Rattle.pg_meaning.specs.Agreement.{AreGiven}
use Rattle.pg_meaning.specs.AgreementLaws.{named_in, given_split}
use Rattle.pg_meaning.specs.Entries.{at_key}
use Rattle.pg_meaning.specs.Grammar.{Mark, parameter_name, sign, flag, commas, further, begun, ended, marks, list_marks, optional_marks, alias_marks, item_marks, items_marks, IsWellFormed}
use Rattle.pg_meaning.specs.Grammar as grammar
use Rattle.pg_meaning.specs.ListsLaws.{all_joined, all_in_themselves, all_weaker}
use Rattle.pg_meaning.specs.Names.{Names, is_among, put_texts, in_byte_order}
use Rattle.pg_meaning.specs.Order.{text_order}
use Rattle.pg_meaning.specs.Scopes.{Column, variable_column, star_columns, is_aggregate as is_aggregate_column}
use Rattle.pg_meaning.specs.StaticFaults.{PlacedFault, found_if, elsewhere, whole_item, argument_count, is_known, is_aggregate, expression_faults, all_faults, item_faults}
use Rattle.pg_meaning.specs.Tree.{Name, Expression, literal, parameter, variable, list_literal, map_literal, parentheses, call, case, chain, negation, signs, tests, suffixes, Expressions, no_expressions, expression, Item}
use Rattle.pg_meaning.specs.Value.{Entries}
use Rattle.pg_meaning.specs.declared.fault.Fault.TheVariants.{UndefinedVariable, BadAggregate, UnknownFunction}
use Rattle.pg_meaning.specs.declared.lexemes.Keyword.TheVariants as k
use Rattle.pg_meaning.specs.declared.lexemes.Symbol.TheVariants as s
use Rattle.pg_soundness.proofs.FaultsReads.{commas_given, further_given}
use Rattle.pg_soundness.proofs.FaultsSteps.{Ready, ReadyIfAny}
use Rattle.pg_soundness.proofs.MatchBindings.{all_front, all_back}
use Rattle.pg_soundness.proofs.MatchScopes.{first_none, second_none}
use Rattle.pg_soundness.proofs.PlanningPlans.{in_among}

-- ---- positions

first_place : {X : Type 0} (p : X → Bool) (xs : List X) → list_any p xs ≡ true → nat_lt (position_or_len p xs) (length xs) ≡ true
first_place p [] e = absurd (true≢false (sym e))
first_place p (x ∷ xs) e =
    elim (p x) as (λ b. (b || list_any p xs) ≡ true → nat_lt (cond (not b) (1 + position_or_len p xs) 0) (suc (length xs)) ≡ true) [
      | true ↦ λ f. here (length xs)
      | false ↦ λ f. later (position_or_len p xs) (length xs) (first_place p xs f)
    ] e
  where
    here : (n : ℕ) → nat_lt 0 (suc n) ≡ true
    here n = grind (arith, nat_tests)

    later : (a n : ℕ) → nat_lt a n ≡ true → nat_lt (1 + a) (suc n) ≡ true
    later a n h = grind (arith, nat_tests)

pub has_place : {X C : Type 0} (p : X → Bool) (xs : List X) → list_any p xs ≡ true → position p xs ≡ None → C
has_place p xs e f = absurd (nothing (sym (ap (λ b. cond b (Some (position_or_len p xs)) None) (first_place p xs e)) ∙ f))
  where
    nothing : {x : ℕ} → ◌≡◌ {A = Option ℕ} (Some x) None → ⊥
    nothing e = cc

-- ---- names in byte order

all_insert : (P : List ℕ → Type 0) (t : List ℕ) (us : Names) → P t → AllByRecursion P us → AllByRecursion P (insert_key text_order us t)
all_insert P t [] p h = (p, tt)
all_insert P t (u ∷ us) p h =
    elim (text_order t u) as (λ r. AllByRecursion P (match_ordering r (t ∷ u ∷ us) (u ∷ us) (u ∷ insert_key text_order us t))) [
      | Less ↦ (p, h)
      | Equal ↦ h
      | Greater ↦ (h.0, all_insert P t us p h.1)
    ]

all_put : (P : List ℕ → Type 0) (more us : Names) → AllByRecursion P more → AllByRecursion P us → AllByRecursion P (put_texts more us)
all_put P [] us g h = h
all_put P (t ∷ more) us g h = all_put P more (insert_key text_order us t) g.1 (all_insert P t us g.0 h)

all_among : (names : Names) → AllByRecursion (λ t. is_among names t ≡ true) (in_byte_order names)
all_among names = all_put (λ t. is_among names t ≡ true) names [] (all_weaker _ _ (λ t i. in_among names t i) names (all_in_themselves names)) tt

-- ---- items

module _ (scope : Names) (parameters : Entries) where
  abbrev Given : List Mark → Type 0
  Given ms = AreGiven (named_in ms) parameters

  abbrev ByAggregate : Expression → Option Aggregate → Type 0
  ByAggregate e o = elim o [ None ↦ Ready scope parameters e | Some a ↦ ReadyIfAny scope parameters a.argument ]

  -- an aggregate's argument, or the whole expression
  abbrev pub ItemReady : Expression → Type 0
  ItemReady e = ByAggregate e (aggregate_of e)

  abbrev pub ColumnReady : Column → Type 0
  ColumnReady c = ItemReady c.value

  argument_ready : (es : Expressions) → grammar.AllWellFormed es → all_faults scope es ≡ [] → AllByRecursion Given (list_marks es) → ReadyIfAny scope parameters (first_argument es)
  argument_ready no_expressions w e h = tt
  argument_ready (expression x es) w e h = (w.0, first_none (expression_faults scope elsewhere x) (all_faults scope es) e, h.0)

  abbrev unknown : Name → (star distinct : Bool) → Expressions → List PlacedFault
  unknown n star distinct es = found_if (not (is_known n star distinct (argument_count es))) n.place UnknownFunction

  call_ready : (n : Name) (star distinct : Bool) (es : Expressions) → IsWellFormed (call n star distinct es) → expression_faults scope whole_item (call n star distinct es) ≡ [] → Given (marks (call n star distinct es)) → ItemReady (call n star distinct es)
  call_ready n star distinct es w e h = by_name (aggregate_named n.text) refl
    where
      arguments : AllByRecursion Given (list_marks es)
      arguments =
          let flags : List Mark = flag star (sign s.Star) ++ flag distinct (grammar.key k.Distinct) in
          commas_given parameters (list_marks es) (given_split parameters flags (commas (list_marks es)) (given_split parameters (flags ++ commas (list_marks es)) (sign s.CloseParenthesis ∷ []) h).0).1

      by_name : (o : Option Summary) → aggregate_named n.text ≡ o → ByAggregate (call n star distinct es) (option_map (λ a. let x : Aggregate = record { summary = a; distinct = distinct; argument = first_argument es } in x) o)
      by_name (Some a) is = argument_ready es w.2 (second_none (found_if (is_aggregate n && false) n.place BadAggregate ++ unknown n star distinct es) (all_faults scope es) e) arguments
      by_name None is =
          let plain : is_aggregate n ≡ false = ap (λ o. is_some o) is in
          (w, subst (λ b. (found_if (b && true) n.place BadAggregate ++ unknown n star distinct es) ++ all_faults scope es ≡ []) (sym plain) (subst (λ b. (found_if (b && false) n.place BadAggregate ++ unknown n star distinct es) ++ all_faults scope es ≡ []) plain e), h)

  item_ready : (x : Expression) → IsWellFormed x → expression_faults scope whole_item x ≡ [] → Given (marks x) → ItemReady x
  item_ready (call n star distinct es) w e h = call_ready n star distinct es w e h
  item_ready (literal v) w e h = (w, e, h)
  item_ready (parameter n) w e h = (w, e, h)
  item_ready (variable n) w e h = (w, e, h)
  item_ready (list_literal es) w e h = (w, e, h)
  item_ready (map_literal ps) w e h = (w, e, h)
  item_ready (parentheses x) w e h = (w, e, h)
  item_ready (case a ws o) w e h = (w, e, h)
  item_ready (chain x os) w e h = (w, e, h)
  item_ready (negation n x) w e h = (w, e, h)
  item_ready (signs bs x) w e h = (w, e, h)
  item_ready (tests x ts) w e h = (w, e, h)
  item_ready (suffixes x xs ls) w e h = (w, e, h)

  begun_given : (at : ℕ) (ms : List Mark) → Given (begun at ms) → Given ms
  begun_given at [] h = h
  begun_given at (m ∷ ms) h = h

  ended_given : (at : ℕ) (ms : List Mark) → Given (ended at ms) → Given ms
  ended_given at [] h = h
  ended_given at (m ∷ []) h = h
  ended_given at (m ∷ n ∷ ms) h =
      all_joined IsGiven (parameter_name m.what) (named_in (n ∷ ms)) (all_front IsGiven (parameter_name m.what) (named_in (ended at (n ∷ ms))) h)
      (ended_given at (n ∷ ms) (all_back IsGiven (parameter_name m.what) (named_in (ended at (n ∷ ms))) h))
    where
      IsGiven : List ℕ → Type 0
      IsGiven name = is_some (at_key name parameters) ≡ true

  item_given : (x : Item) → Given (item_marks x) → Given (marks x.value)
  item_given x h =
      ended_given (x.start + length x.source) (marks x.value)
      (begun_given x.start (ended (x.start + length x.source) (marks x.value))
      (given_split parameters (begun x.start (ended (x.start + length x.source) (marks x.value))) (optional_marks alias_marks x.alias) h).0)

  pub items_given : (star : Option ℕ) (xs : List Item) → Given (items_marks star xs) → AllByRecursion Given (map item_marks xs)
  items_given None xs h = commas_given parameters (map item_marks xs) h
  items_given (Some at) xs h = further_given parameters (map item_marks xs) h

  stars_ready : (names : Names) → AllByRecursion (λ t. is_among scope t ≡ true) names → AllByRecursion ColumnReady (map variable_column names)
  stars_ready [] h = tt
  stars_ready (t ∷ names) h = ((tt, ap (λ b. found_if (not b) 0 UndefinedVariable) h.0, tt), stars_ready names h.1)

  pub star_ready : (star : Option ℕ) → AllByRecursion ColumnReady (star_columns scope star)
  star_ready None = tt
  star_ready (Some at) = stars_ready (in_byte_order scope) (all_among scope)

  pub items_ready : (column : Item → Column) → ((x : Item) → (column x).value ≡ x.value) → (before : Names) (xs : List Item) → AllByRecursion (λ x. IsWellFormed x.value) xs → item_faults column scope before xs ≡ [] → AllByRecursion Given (map item_marks xs) → AllByRecursion ColumnReady (map column xs)
  items_ready column same before [] w e h = tt
  items_ready column same before (x ∷ xs) w e h =
      let own = first_none (found_if _ x.start _ ++ expression_faults scope whole_item x.value) (item_faults column scope ((column x).name ∷ before) xs) e in (
        subst ItemReady (sym (same x)) (item_ready x.value w.0 (second_none (found_if _ x.start _) (expression_faults scope whole_item x.value) own) (item_given x h.0)),
        items_ready column same ((column x).name ∷ before) xs w.1 (second_none (found_if _ x.start _ ++ expression_faults scope whole_item x.value) (item_faults column scope ((column x).name ∷ before) xs) e) h.1,
      )

  pub plain_ready : (cs : List Column) → list_any is_aggregate_column cs ≡ false → AllByRecursion ColumnReady cs → AllByRecursion (λ c. Ready scope parameters c.value) cs
  plain_ready [] e h = tt
  plain_ready (c ∷ cs) e h = (by_one (aggregate_of c.value) (left (is_aggregate_column c) _ e) h.0, plain_ready cs (right (is_aggregate_column c) _ e) h.1)
    where
      left : (a b : Bool) → (a || b) ≡ false → a ≡ false
      left true b e = e
      left false b e = refl

      right : (a b : Bool) → (a || b) ≡ false → b ≡ false
      right true b e = absurd (true≢false e)
      right false b e = e

      by_one : (o : Option Aggregate) → is_some o ≡ false → ByAggregate c.value o → Ready scope parameters c.value
      by_one None e r = r
      by_one (Some a) e r = absurd (true≢false e)
