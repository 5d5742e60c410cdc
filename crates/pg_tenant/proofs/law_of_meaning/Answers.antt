use Rattle.pg_tenant.proofs.OutcomeLemmas.{text_means}
use Rattle.pg_tenant.proofs.law_of_meaning.Goals as goal

pub returns : goal.returns
returns c = text_means
