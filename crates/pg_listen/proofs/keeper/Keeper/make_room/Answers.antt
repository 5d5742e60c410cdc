use Rattle.pg_listen.proofs.KeepingLemmas.{takes_none}
use Rattle.pg_listen.proofs.keeper.Keeper.make_room.Goals as goal

pub returns-clause-same : goal.returns-clause-same
returns-clause-same g c = takes_none g.D.Device.seen g.D.Device.may_leave c.args.self.now c.reserve.new.self c.reserve.ensures.same c.reserve.ensures.file
