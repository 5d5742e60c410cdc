use Rattle.pg_scope.proofs.CallLemmas.{viewed}
use Rattle.pg_scope.specs.Calls.{function_view}
use Rattle.pg_scope.proofs.calls.function_named.Goals as goal

pub returns : goal.returns
returns c = viewed function_view c.named.ensures
