use Rattle.std.proofs.Common.{rules}
use Rattle.pg_listen.proofs.EventLemmas.{silent-nil}
use Rattle.pg_listen.proofs.ClientsLemmas.{opening_moments}
use Rattle.pg_listen.proofs.clients.Clients.new.Goals as goal

pub returns : goal.returns
returns c =
    record {
      moments = opening_moments;
      live = λ n client is. search rules;
      fresh = λ n above. (silent-nil n, search rules);
    }
