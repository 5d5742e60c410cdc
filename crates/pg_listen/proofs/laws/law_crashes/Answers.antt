use Rattle.pg_listen.proofs.CrashLemmas.{crashes_keep}
use Rattle.pg_listen.proofs.laws.law_crashes.Goals as goal

pub returns : goal.returns
returns g c = crashes_keep g.D.Device.seen g.D.Device.may_leave g.D.Device.moment g.D.Device.left_since g.met.D.Device.only_now
