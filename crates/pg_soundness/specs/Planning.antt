-- Each query has a plan, the one that is made of it.
use Rattle.std.specs.Prelude.{◌≡◌}
use Rattle.pg_meaning.specs.Plans.{Catalogue, plan_of, plan_over, IsPlanOf}
use Rattle.pg_meaning.specs.Tree.{Query}

abbrev pub PlanOfIsPlan : Type 0
PlanOfIsPlan = (catalogue : Catalogue) (q : Query) → IsPlanOf (plan_of catalogue q) q

-- it names no index but those it was made over, so where they are there nothing of it is left out
abbrev pub PlanOfIsWhole : Type 0
PlanOfIsWhole = (catalogue : Catalogue) (q : Query) → plan_over catalogue (plan_of catalogue q) ≡ plan_of catalogue q
