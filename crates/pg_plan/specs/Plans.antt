-- A plan as the program keeps it, the query that it is of, and where its walks begin.
use Rattle.std.specs.Prelude.{◌≡◌, ℕ, List, Ok}
use Rattle.pg_plan.specs.Anchors.{plan_view}
use Rattle.pg_meaning.specs.Plans as plans
use Rattle.pg_meaning.specs.Tree.{Query}
use Rattle.pg_meaning.specs.Texts.{text_checked}
use Rattle.pg_plan.specs.declared.plan.Plan.{Plan}
use Rattle.pg_syntax_tree.specs.View.{query_view}

abbrev pub plan_query : Plan → Query
plan_query p = query_view p.query

-- for each clause, the anchors of its paths
abbrev pub plan_anchors : Plan → plans.Plan
plan_anchors p = plan_view p.anchors.items

-- it is the plan of this text where there are these indexes
pub record IsPlanOfText (text : List ℕ) (catalogue : plans.Catalogue) (plan : Plan) : Type 0 where
  pub is : text_checked text ≡ Ok (plan_query plan)
  pub anchored : plan_anchors plan ≡ plans.plan_of catalogue (plan_query plan)
