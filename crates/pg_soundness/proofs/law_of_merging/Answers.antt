use Rattle.pg_soundness.proofs.MergingClauses.{merge_agrees}
use Rattle.pg_soundness.proofs.law_of_merging.Goals as goal

pub returns : goal.returns
returns c = merge_agrees
