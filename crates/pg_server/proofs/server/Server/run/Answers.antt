use Rattle.pg_server.proofs.ServeLemmas.{no_memory}
use Rattle.pg_server.proofs.RunLemmas.{HandlesSeen, alone}
use Rattle.pg_server.proofs.server.Server.run.Goals as goal

pub returns-in_default-clause-serves : goal.returns-in_default-clause-serves
returns-in_default-clause-serves g c = alone _ _ c.args.self.now c.args.self.now _ _ (no_memory HandlesSeen _ _ c.args.self.now _)

pub returns-clause-serves : goal.returns-clause-serves
returns-clause-serves g c = alone _ _ c.args.self.now c.serve-end.new.service _ _ c.serve-end.ensures.serves
