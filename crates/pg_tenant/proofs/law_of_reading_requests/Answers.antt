use Rattle.pg_tenant.proofs.ChangeLemmas.{others_leave}
use Rattle.pg_tenant.proofs.law_of_reading_requests.Goals as goal

pub returns : goal.returns
returns c = others_leave
