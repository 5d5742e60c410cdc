use Rattle.pg_index.proofs.PropertyLemmas.{value_left, value_loses}
use Rattle.pg_index.proofs.properties.PropertyIndex.remove_id.Goals as goal

pub returns-clause-lost : goal.returns-clause-lost
returns-clause-lost c = value_loses c.args.self.now (record c.args.self.now { ids = c.remove_id.new.self }) c.args.value.now c.args.id c.remove_id.ensures

pub returns-clause-left : goal.returns-clause-left
returns-clause-left c = value_left c.args.self.now (record c.args.self.now { ids = c.remove_id.new.self }) c.args.value.now c.args.id c.remove_id.ensures
