use Rattle.std.proofs.Common.{◌≡◌, rules, string_bytes}
use Rattle.pg_tenant.proofs.RepliedLemmas.{shows_whole}
use Rattle.pg_tenant.proofs.query.shown.Goals as goal

pub returns-in-None : goal.returns-in-None
returns-in-None c = λ outcome left answer.
    shows_whole c.args.pages.now c.args.max_held (string_bytes c.args.asked.token) outcome left c.args.asked.page _ c.args.reply c.whole.result c.in-None.is c.in_ok-reply.was c.whole.ensures answer
