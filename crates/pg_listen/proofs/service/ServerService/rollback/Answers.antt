use Rattle.std.proofs.Common.{ℕ, Vec, Global}
use Rattle.pg_listen.proofs.ManyLemmas.{rolls_back}
use Rattle.pg_listen.proofs.service.ServerService.rollback.Goals as goal

pub returns : goal.returns
returns g c = rolls_back (λ (body : Vec ℕ Global). body.items) c.args.self.now.state c.args.place c.rollback_body.result c.rollback_body.ensures
