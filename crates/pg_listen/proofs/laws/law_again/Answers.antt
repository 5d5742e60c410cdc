use Rattle.pg_listen.proofs.AgainLemmas.{leads_again}
use Rattle.pg_listen.proofs.laws.law_again.Goals as goal

pub returns : goal.returns
returns g c = leads_again c.law_two_worlds.ensures g.D.Device.seen g.D.Device.may_leave g.D.Device.moment g.D.Device.left_since
