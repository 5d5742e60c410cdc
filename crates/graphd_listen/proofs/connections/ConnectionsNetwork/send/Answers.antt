use Rattle.graphd_listen.proofs.ConnectionLemmas.{sent_of}
use Rattle.graphd_listen.proofs.connections.ConnectionsNetwork.send.Goals as goal

pub returns : goal.returns
returns g c = sent_of c.args.client _ _ c.send-sent.ensures
