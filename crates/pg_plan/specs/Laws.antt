-- What a plan of a text is good for.
use Rattle.std.specs.Prelude.{◌≡◌, ℕ, List, [], Ok}
use Rattle.pg_meaning.specs.Agreement.{AreGiven, OutcomeAgrees}
use Rattle.pg_meaning.specs.Grammar.{parameters_of}
use Rattle.pg_meaning.specs.Graph.{Graph, IsGraph}
use Rattle.pg_meaning.specs.Plans.{Catalogue, plan_over, IsPlanOf}
use Rattle.pg_meaning.specs.Queries.{answer_of}
use Rattle.pg_meaning.specs.StaticFaults.{static_faults}
use Rattle.pg_meaning.specs.Tree.{Query}
use Rattle.pg_meaning.specs.Value.{Entries}
use Rattle.pg_plan.specs.Plans.{plan_query, plan_anchors, IsPlanOfText}
use Rattle.pg_meaning.specs.Texts.{text_checked}
use Rattle.pg_plan.specs.declared.plan.Plan.{Plan}

-- its query has no static fault, and its anchors are a plan of the query that names no index but these
pub record IsGoodPlan (catalogue : Catalogue) (plan : Plan) : Type 0 where
  pub faultless : static_faults (plan_query plan) ≡ []
  pub begins : IsPlanOf (plan_anchors plan) (plan_query plan)
  pub whole : plan_over catalogue (plan_anchors plan) ≡ plan_anchors plan

abbrev pub PlansAreGood : Type 0
PlansAreGood = (text : List ℕ) (catalogue : Catalogue) (plan : Plan) → IsPlanOfText text catalogue plan → IsGoodPlan catalogue plan

-- what the query of a text answers, whatever indexes there are and its parameters given, is what it means, or a fault in which it may end
abbrev pub TextsMean : Type 0
TextsMean =
    (text : List ℕ) (catalogue : Catalogue) (q : Query) (parameters : Entries) (graph : Graph) (max_steps max_elements : ℕ) → text_checked text ≡ Ok q → AreGiven (parameters_of q) parameters → IsGraph graph
    → OutcomeAgrees q parameters max_elements graph (answer_of catalogue q parameters graph max_steps max_elements)
