use Rattle.std.proofs.Common.{refl}
use Rattle.pg_index.proofs.PropertyLemmas.{value_comes, value_grows, value_there}
use Rattle.pg_index.proofs.properties.PropertyIndex.put.Goals as goal
use Rattle.pg_value_core.specs.View.{view}

pub returns-clause-grown : goal.returns-clause-grown
returns-clause-grown c = value_grows c.args.self.now (record c.args.self.now { ids = c.insert_id.new.self }) c.args.value.now c.args.id c.insert_id.result c.insert_id.ensures.ok c.insert_id.ensures.err

pub returns-clause-ok : goal.returns-clause-ok
returns-clause-ok c = value_there c.args.self.now (record c.args.self.now { ids = c.insert_id.new.self }) c.args.value.now c.args.id c.insert_id.result (view c.args.value.now) refl c.insert_id.ensures.ok

pub returns-clause-come : goal.returns-clause-come
returns-clause-come c = value_comes c.args.self.now (record c.args.self.now { ids = c.insert_id.new.self }) c.args.value.now c.args.id c.insert_id.result c.insert_id.ensures.ok c.insert_id.ensures.err
