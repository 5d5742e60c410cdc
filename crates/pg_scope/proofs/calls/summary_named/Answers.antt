use Rattle.pg_scope.proofs.CallLemmas.{viewed}
use Rattle.pg_scope.specs.Calls.{summary_view}
use Rattle.pg_scope.proofs.calls.summary_named.Goals as goal

pub returns : goal.returns
returns c = viewed summary_view c.named.ensures
