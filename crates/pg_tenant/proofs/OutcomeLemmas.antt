-- A text that reads answers as its query means, and as its plan for the indexes does.
use Rattle.std.proofs.Common.{◌≡◌, ℕ, ◌≤◌, Bool, true, false, List, [], ◌∷◌, length, is_some, Result, Ok, Err, refl, sym, ap, ◌∙◌}
use Rattle.std.proofs.lemmas.Bool.{and_parts, le-leb}
use Rattle.pg_soundness.proofs.PlanningPlans.{plan_of_is_whole}
use Rattle.pg_meaning.specs.Agreement.{AreGiven}
use Rattle.pg_meaning.specs.Answer.{◌>>=◌, ◌>>◌, unless}
use Rattle.pg_meaning.specs.Entries.{at_key}
use Rattle.pg_meaning.specs.Grammar.{parameters_of}
use Rattle.pg_meaning.specs.Graph.{Graph}
use Rattle.pg_meaning.specs.Names.{Names}
use Rattle.pg_meaning.specs.Plans.{Catalogue, Plan, plan_of}
use Rattle.pg_meaning.specs.Queries.{answer_of, under_plan}
use Rattle.pg_meaning.specs.Texts.{text_checked}
use Rattle.pg_meaning.specs.Tree.{Query}
use Rattle.pg_meaning.specs.Value.{Entries}
use Rattle.pg_meaning.specs.declared.fault.Fault.{Fault}
use Rattle.pg_meaning.specs.declared.fault.Fault.TheVariants.{TextTooLong, MissingParameter}
use Rattle.pg_plan.proofs.MeaningLemmas.{texts_mean}
use Rattle.pg_plan.specs.Plans.{IsPlanOfText, plan_anchors, plan_query}
use Rattle.pg_plan.specs.Reading.{greatest_text, tested_length}
use Rattle.pg_plan.specs.Updates.{updates}
use Rattle.pg_plan.specs.declared.plan.Plan.{Plan as KeptPlan}
use Rattle.pg_tenant.specs.Changes.{is_update}
use Rattle.pg_tenant.specs.Outcomes.{all_given, are_given, permitted, query_outcome, text_query, PlansAnswer, TextMeans}

-- ---- the plan of the text

short : (text : List ℕ) → length text ≤ greatest_text → tested_length text ≡ Ok tt
short text h = ap (λ b. unless b TextTooLong) (le-leb (length text) greatest_text h)

-- the plan that is made for some indexes names no others
under_its_plan : (indexes : Catalogue) (q : Query) (plan : Plan) (parameters : Entries) (graph : Graph) (max_steps max_elements : ℕ) → plan ≡ plan_of indexes q
    → answer_of indexes q parameters graph max_steps max_elements ≡ under_plan plan q parameters graph max_steps max_elements
under_its_plan indexes q plan parameters graph max_steps max_elements is =
    ap (λ p. under_plan p q parameters graph max_steps max_elements) (plan_of_is_whole indexes q ∙ sym is)

pub plans_answer : PlansAnswer
plans_answer may_write max_steps max_elements parameters indexes graph text plan fits h =
    let q = plan_query plan in
    ap (λ r. (r >> text_checked text) >>= query_outcome may_write max_steps max_elements parameters indexes graph) (short text fits)
    ∙ ap (λ r. r >>= query_outcome may_write max_steps max_elements parameters indexes graph) h.is
    ∙ ap (λ r. permitted may_write max_steps max_elements parameters q >> (are_given parameters q >> r)) (under_its_plan indexes q (plan_anchors plan) parameters graph max_steps max_elements h.anchored)

-- a text has an updating clause where the query of its plan has one
pub is_update_of : (text : List ℕ) (indexes : Catalogue) (plan : KeptPlan) → length text ≤ greatest_text → IsPlanOfText text indexes plan → is_update (text_query text) ≡ updates (plan_query plan)
is_update_of text indexes plan fits h = ap is_update (ap (λ r. r >> text_checked text) (short text fits) ∙ h.is)

-- ---- its meaning

behind : (r : Result (Unit {0}) Fault) (s : Result Query Fault) (q : Query) → (r >> s) ≡ Ok q → s ≡ Ok q
behind (Ok t) s q h = h
behind (Err e) s q h = absurd cc

passed : (b : Bool) → unless b MissingParameter ≡ Ok tt → b ≡ true
passed true h = refl
passed false h = absurd cc

each_given : (names : Names) (parameters : Entries) → all_given names parameters ≡ true → AreGiven names parameters
each_given [] parameters h = tt
each_given (n ∷ names) parameters h = let parts = and_parts (is_some (at_key n parameters)) (all_given names parameters) h in (parts.0, each_given names parameters parts.1)

pub text_means : TextMeans
text_means max_steps max_elements parameters indexes graph text q is h given =
    texts_mean text indexes q parameters graph max_steps max_elements (behind (tested_length text) (text_checked text) q h)
    (each_given (parameters_of q) parameters (passed (all_given (parameters_of q) parameters) given)) is
