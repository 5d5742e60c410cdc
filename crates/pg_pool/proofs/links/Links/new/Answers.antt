use Rattle.pg_pool.proofs.ListPlaces.{empty_apart}
use Rattle.pg_pool.proofs.links.Links.new.Goals as goal

pub returns-clause-apart : goal.returns-clause-apart
returns-clause-apart c = empty_apart c.new.result c.new-2.result c.new.ensures
