-- What an aggregate takes in passes the test of a value alone.
use Rattle.std.proofs.Common.{◌≡◌, Bool, true, false, cond, ◌&&◌, inl, inr, List, [], ◌∷◌, ◌++◌, Result, Ok, Err, refl, sym, subst, ◌∙◌, Ordering, Equal, Less, Greater}
use Rattle.std.specs.List.{AllByRecursion, list_any}
use Rattle.std.specs.Ordering.{is_eq}
use Rattle.pg_soundness.proofs.ChangesOptions.{ok_or_err}
use Rattle.pg_soundness.proofs.MatchLists.{all_members}
use Rattle.pg_meaning.specs.Aggregates.{Summary, counting, summing, least, greatest, collecting, Aggregate, extended, take_in, total}
use Rattle.pg_meaning.specs.Answer.{◌>>=◌, each_step}
use Rattle.pg_meaning.specs.AnswerLaws.{went_well, same_ok}
use Rattle.pg_meaning.specs.Arithmetic.{is_in_range}
use Rattle.pg_meaning.specs.EntriesLaws.{both}
use Rattle.pg_meaning.specs.Graph.{Graph}
use Rattle.pg_meaning.specs.Lists.{IsIn}
use Rattle.pg_meaning.specs.ListsLaws.{all_at, all_joined}
use Rattle.pg_meaning.specs.Meaning.{taken_in, ArgumentFaults}
use Rattle.pg_meaning.specs.Order.{value_order, is_equivalent}
use Rattle.pg_meaning.specs.OrderLaws.{order_exact}
use Rattle.pg_meaning.specs.Projections.{argument_value, test_alone}
use Rattle.pg_meaning.specs.Rows.{Row}
use Rattle.pg_meaning.specs.Turns.{Given}
use Rattle.pg_meaning.specs.Value.{Value, null, boolean, integer, text, list, mapping, node, relationship, path}
use Rattle.pg_meaning.specs.declared.fault.Fault.{Fault}
use Rattle.pg_meaning.specs.declared.fault.Fault.TheVariants.{Overflow}
use Rattle.pg_relations.proofs.Lists.{any_at}

abbrev Passes : Summary → Value → Type 0
Passes s v = test_alone s v ≡ Ok tt

abbrev AllPass : Summary → List Value → Type 0
AllPass s vs = AllByRecursion (Passes s) vs

tied : (o : Ordering) → is_eq o ≡ true → o ≡ Equal
tied Less e = cc
tied Equal e = refl
tied Greater e = cc

null_passes : (s : Summary) → Passes s null
null_passes counting = refl
null_passes summing = refl
null_passes least = refl
null_passes greatest = refl
null_passes collecting = refl

sum_passes : (vs ws : List Value) (v : Value) → AllPass summing vs → extended summing vs v ≡ Ok ws → AllPass summing ws × Passes summing v
sum_passes vs ws null h e = cc
sum_passes vs ws (boolean b) h e = cc
sum_passes vs ws (integer i) h e = by_range (is_in_range (total (vs ++ integer i ∷ []))) e
  where
    by_range : (b : Bool) → cond b (Ok (vs ++ integer i ∷ [])) (Err Overflow) ≡ Ok ws → AllPass summing ws × Passes summing (integer i)
    by_range true e = (subst (AllPass summing) (same_ok (vs ++ integer i ∷ []) ws e) (all_joined (Passes summing) vs (integer i ∷ []) h (refl, tt)), refl)
    by_range false e = cc
sum_passes vs ws (text t) h e = cc
sum_passes vs ws (list us) h e = cc
sum_passes vs ws (mapping es) h e = cc
sum_passes vs ws (node n) h e = cc
sum_passes vs ws (relationship r) h e = cc
sum_passes vs ws (path ids) h e = cc

more_pass : (s : Summary) (vs ws : List Value) (v : Value) → AllPass s vs → extended s vs v ≡ Ok ws → AllPass s ws × Passes s v
more_pass counting vs ws v h e = (all_members (Passes counting) ws (λ w i. refl), refl)
more_pass summing vs ws v h e = sum_passes vs ws v h e
more_pass least vs ws v h e = (all_members (Passes least) ws (λ w i. refl), refl)
more_pass greatest vs ws v h e = (all_members (Passes greatest) ws (λ w i. refl), refl)
more_pass collecting vs ws v h e = (all_members (Passes collecting) ws (λ w i. refl), refl)

module _ (a : Aggregate) where
  there_passes : (vs ws : List Value) (v : Value) → AllPass a.summary vs
      → elim (a.distinct && list_any (is_equivalent v) vs) as (λ b. Result (List Value) Fault) [ true ↦ Ok vs | false ↦ extended a.summary vs v ] ≡ Ok ws → AllPass a.summary ws × Passes a.summary v
  there_passes vs ws v h e = by_test (a.distinct && list_any (is_equivalent v) vs) refl e
    where
      by_test : (b : Bool) → (a.distinct && list_any (is_equivalent v) vs) ≡ b
          → elim b as (λ b. Result (List Value) Fault) [ true ↦ Ok vs | false ↦ extended a.summary vs v ] ≡ Ok ws → AllPass a.summary ws × Passes a.summary v
      by_test true t e =
          let same = any_at (is_equivalent v) vs (both a.distinct (list_any (is_equivalent v) vs) t).1 in
          let is = order_exact v same.0 (tied (value_order v same.0) same.2) in
          (subst (AllPass a.summary) (same_ok vs ws e) h, subst (Passes a.summary) (sym is) (all_at (Passes a.summary) same.0 vs h same.1))
      by_test false t e = more_pass a.summary vs ws v h e

  taken_passes : (vs ws : List Value) (v : Value) → AllPass a.summary vs → take_in a vs v ≡ Ok ws → AllPass a.summary ws × Passes a.summary v
  taken_passes vs ws null h e = (subst (AllPass a.summary) (same_ok vs ws e) h, null_passes a.summary)
  taken_passes vs ws (boolean b) h e = there_passes vs ws (boolean b) h e
  taken_passes vs ws (integer i) h e = there_passes vs ws (integer i) h e
  taken_passes vs ws (text t) h e = there_passes vs ws (text t) h e
  taken_passes vs ws (list us) h e = there_passes vs ws (list us) h e
  taken_passes vs ws (mapping es) h e = there_passes vs ws (mapping es) h e
  taken_passes vs ws (node n) h e = there_passes vs ws (node n) h e
  taken_passes vs ws (relationship r) h e = there_passes vs ws (relationship r) h e
  taken_passes vs ws (path ids) h e = there_passes vs ws (path ids) h e

  module _ (g : Given) (graph : Graph) where
    abbrev step : List Value → Row → Result (List Value) Fault
    step vs row = argument_value g.parameters graph row a >>= take_in a vs

    no_fault_from : (rows : List Row) (row : Row) (f : Fault) (vs ws : List Value) → AllPass a.summary vs → each_step step vs rows ≡ Ok ws → IsIn row rows → ArgumentFaults g graph row a f → ⊥
    no_fault_from [] row f vs ws h e i x = absurd i
    no_fault_from (r ∷ rows) row f vs ws h e (inr i) x =
        let first = went_well (step vs r) (λ t. each_step step t rows) ws e in
        let value = went_well (argument_value g.parameters graph r a) (take_in a vs) first.0 first.1 in
        no_fault_from rows row f first.0 ws (taken_passes vs first.0 value.0 h value.2).0 first.2 i x
    no_fault_from (r ∷ rows) row f vs ws h e (inl same) x =
        let first = went_well (step vs r) (λ t. each_step step t rows) ws e in
        let value = went_well (argument_value g.parameters graph r a) (take_in a vs) first.0 first.1 in
        here value.0 value.1 (taken_passes vs first.0 value.0 h value.2).1 (subst (λ q. ArgumentFaults g graph q a f) same x)
      where
        here : (v : Value) → argument_value g.parameters graph r a ≡ Ok v → Passes a.summary v → ArgumentFaults g graph r a f → ⊥
        here v is p (inl y) = ok_or_err (argument_value g.parameters graph r a) v f is y
        here v is p (inr y) = ok_or_err (test_alone a.summary y.0) tt f (subst (Passes a.summary) (same_ok v y.0 (sym is ∙ y.1)) p) y.2

    -- where an aggregate takes in some rows, it has no fault at any of them
    pub no_argument_fault : (rows : List Row) (row : Row) (f : Fault) (ws : List Value) → taken_in g graph a rows ≡ Ok ws → IsIn row rows → ArgumentFaults g graph row a f → ⊥
    no_argument_fault rows row f ws e = no_fault_from rows row f [] ws tt e
