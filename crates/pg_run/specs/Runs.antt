-- The clauses of a query as they run, one after the other.
use Rattle.std.specs.Prelude.{ℕ, List, map}
use Rattle.pg_match_stages.specs.View.{anchor_view}
use Rattle.pg_match_stages.specs.declared.anchor.Anchor.{Anchor}
use Rattle.pg_meaning.specs.Meters.{Quota, Setting}
use Rattle.pg_meaning.specs.Plans.{Plan}
use Rattle.pg_meaning.specs.Plans as plans
use Rattle.pg_meaning.specs.Value.{Entries}
use Rattle.std.specs.declared.alloc.Global.{Global}
use Rattle.std.specs.Prelude.{Vec}

abbrev pub quota_of : (max_steps max_elements : ℕ) → Quota
quota_of max_steps max_elements = record { max_steps = max_steps; max_elements = max_elements }

abbrev pub setting_of : Entries → (max_steps max_elements : ℕ) → (names : List (List ℕ)) → List plans.Anchor → Setting
setting_of parameters max_steps max_elements names anchors =
    record { parameters = parameters; quota = quota_of max_steps max_elements; scope = names; anchors = anchors }

-- the anchors of a clause's paths
abbrev pub anchors_view : List Anchor → List plans.Anchor
anchors_view anchors = map anchor_view anchors

abbrev pub plan_view : List (Vec Anchor Global) → Plan
plan_view plan = map (λ anchors. anchors_view anchors.items) plan
