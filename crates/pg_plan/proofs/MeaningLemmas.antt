-- What the query of a text answers, and where its walks begin.
use Rattle.std.proofs.Common.{◌≡◌, List, [], ◌∷◌, true, false, Result, Ok, Err, Option, Some, None, is_some, refl, sym, ap, subst, ◌∙◌, true≢false}
use Rattle.pg_soundness.proofs.PlanningPlans.{plan_of_is_plan, plan_of_is_whole}
use Rattle.pg_soundness.proofs.WholeQueriesAnswers.{answers_are_meant}
use Rattle.pg_meaning.specs.Plans.{Catalogue, Plan, plan_of, plan_over, IsPlanOf}
use Rattle.pg_meaning.specs.StaticFaults.{PlacedFault, goes_before, least, static_fault, static_faults}
use Rattle.pg_meaning.specs.Texts.{checked_query, checked_by, read}
use Rattle.pg_meaning.specs.Tree.{Query}
use Rattle.pg_meaning.specs.declared.fault.Fault.{Fault}
use Rattle.pg_plan.specs.Laws.{PlansAreGood, TextsMean}
use Rattle.pg_plan.specs.Plans.{plan_query, plan_anchors}

some_stays : (b : PlacedFault) (fs : List PlacedFault) → is_some (least (Some b) fs) ≡ true
some_stays b [] = refl
some_stays b (f ∷ fs) =
    elim (goes_before f b) as (λ t. is_some (elim t [ true ↦ least (Some f) fs | false ↦ least (Some b) fs ]) ≡ true) [
      | true ↦ some_stays f fs
      | false ↦ some_stays b fs
    ]

none_found : (fs : List PlacedFault) → least None fs ≡ None → fs ≡ []
none_found [] e = refl
none_found (f ∷ fs) e = absurd (true≢false (sym (some_stays f fs) ∙ ap is_some e))

without_fault : (p : Query) (found : Option PlacedFault) (q : Query) → static_fault p ≡ found → checked_by found p ≡ Ok q → static_fault q ≡ None
without_fault p None q is h = let same : p ≡ q = cc in ap static_fault (sym same) ∙ is
without_fault p (Some f) q is h = absurd cc

faultless : (r : Result Query Fault) (q : Query) → checked_query r ≡ Ok q → static_fault q ≡ None
faultless (Err e) q h = absurd cc
faultless (Ok p) q h = without_fault p (static_fault p) q refl h

without_faults : (q : Query) → static_fault q ≡ None → static_faults q ≡ []
unfolding static_fault
without_faults q none = none_found (static_faults q) none

pub begins_well : (catalogue : Catalogue) (plan : Plan) (q : Query) → plan ≡ plan_of catalogue q → IsPlanOf plan q
begins_well catalogue plan q h = subst (λ p. IsPlanOf p q) (sym h) (plan_of_is_plan catalogue q)

-- the plan that is made of a query over some indexes names no others
pub whole_over : (catalogue : Catalogue) (plan : Plan) (q : Query) → plan ≡ plan_of catalogue q → plan_over catalogue plan ≡ plan
whole_over catalogue plan q h = subst (λ p. plan_over catalogue p ≡ p) (sym h) (plan_of_is_whole catalogue q)

pub plans_are_good : PlansAreGood
plans_are_good text catalogue plan h =
    let q = plan_query plan in
    record {
      faultless = without_faults q (faultless (read text) q h.is);
      begins = plan.anchoring;
      whole = whole_over catalogue (plan_anchors plan) q h.anchored;
    }

pub texts_mean : TextsMean
texts_mean text catalogue q parameters graph max_steps max_elements h given is =
    answers_are_meant catalogue q parameters graph max_steps max_elements (without_faults q (faultless (read text) q h)) given is
