use Rattle.std.proofs.Common.{◌≡◌, ◌+◌, length, arith, rules}
use Rattle.pg_journal.specs.Views.{kept}
use Rattle.pg_journal.proofs.Unique.{length-written}
use Rattle.pg_journal.proofs.records.record_len.Goals as goal

pub returns : goal.returns
returns c = λ digest reply small.
    let sum : c.saturating_add-2.result ≡ length c.args.tenant.now + length c.args.body.now + 40 = search rules in
    omega (arith, sum, length-written (kept c.args.tenant.now c.args.body.now reply) digest)
