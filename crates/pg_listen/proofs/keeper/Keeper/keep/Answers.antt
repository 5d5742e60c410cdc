use Rattle.std.proofs.Common.{◌∷◌, [], false, subst}
use Rattle.pg_listen.specs.Keeping.{record_of, Takes}
use Rattle.pg_listen.proofs.KeepingLemmas.{takes_one}
use Rattle.pg_listen.proofs.keeper.Keeper.keep.Goals as goal

pub returns-in-Ok : goal.returns-in-Ok
returns-in-Ok g c =
    subst (λ name. Takes g.D.Device.seen g.D.Device.may_leave c.args.self.now (record c.args.self.now { journal = c.keep.new.self; is_settled = false }) (record_of name c.args.body.now c.args.reply.now ∷ [])) c.as_bytes.ensures.value
    (takes_one g.D.Device.seen g.D.Device.may_leave c.args.self.now c.keep.new.self c.as_bytes.result.now c.args.body.now c.args.reply.now c.of-noted.result c.of-noted.ensures.length c.of-noted.ensures.digest c.in-Ok.ensures.waits c.keep.ensures.file)
