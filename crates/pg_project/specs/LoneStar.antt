-- Projections that are `*` alone.
use Rattle.std.specs.Prelude.{◌≡◌, true, false, [], is_some}
use Rattle.pg_meaning.specs.Tree.{Projection}

-- `*` with no item beside it, without DISTINCT and ORDER BY
pub record IsLoneStar (p : Projection) : Type 0 where
  pub each : p.distinct ≡ false
  pub star : is_some p.star ≡ true
  pub items : p.items ≡ []
  pub order : p.order ≡ []
