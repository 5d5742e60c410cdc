-- The plan of a query, clause by clause.
use Rattle.std.specs.Prelude.{◌≡◌, ℕ, List, map, Vec}
use Rattle.std.specs.BTreeSet.{BTreeSet}
use Rattle.std.specs.Borrow.{Bor}
use Rattle.std.specs.declared.alloc.Global.{Global}
use Rattle.pg_match_stages.specs.View.{anchor_view}
use Rattle.pg_match_stages.specs.declared.anchor.Anchor.{Anchor}
use Rattle.pg_meaning.specs.Names.{Names}
use Rattle.pg_meaning.specs.Plans as plans
use Rattle.pg_meaning.specs.Scopes.{scope_after}
use Rattle.pg_meaning.specs.Tree.{Clause}
use Rattle.pg_scope.specs.Names.{names_in, HasSame}

abbrev pub plan_view : List (Vec Anchor Global) → plans.Plan
plan_view plan = map (λ anchors. map anchor_view anchors.items) plan

-- the anchors of a clause, and the names behind it
pub record IsStep (catalogue : plans.Catalogue) (scope : Names) (c : Clause) (step : Vec Anchor Global × BTreeSet (Bor (List ℕ))) : Type 0 where
  pub anchors : map anchor_view step.0.items ≡ plans.clause_plan catalogue scope c
  pub names : HasSame (names_in step.1) (scope_after scope c)
