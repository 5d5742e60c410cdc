use Rattle.graphd_listen.proofs.ConnectionLemmas.{received_of}
use Rattle.graphd_listen.proofs.connections.ConnectionsNetwork.receive.Goals as goal

pub returns : goal.returns
returns g c = received_of c.args.client _ _ c.receive-received.ensures
