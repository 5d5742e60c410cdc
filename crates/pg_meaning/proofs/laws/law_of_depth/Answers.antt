use Rattle.pg_meaning.specs.DepthLaws.{depth_exact}
use Rattle.pg_meaning.proofs.laws.law_of_depth.Goals as goal

pub returns : goal.returns
returns c = depth_exact
