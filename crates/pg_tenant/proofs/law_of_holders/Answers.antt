use Rattle.pg_tenant.proofs.HolderLemmas.{holders_ask}
use Rattle.pg_tenant.proofs.law_of_holders.Goals as goal

pub returns : goal.returns
returns c = holders_ask
