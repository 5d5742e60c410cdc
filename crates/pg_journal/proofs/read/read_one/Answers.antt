use Rattle.std.proofs.Common.{◌≡◌, ◌+◌, ◌≤◌, ◌++◌, rules, ℕ, List, length, sym, ◌∙◌, ap, subst, arith}
use Rattle.pg_journal.specs.Device.{part}
use Rattle.pg_journal.specs.Reading.{IsNext}
use Rattle.pg_journal.proofs.Parts.{part_more}
use Rattle.pg_journal.specs.Records.{written, lengths}
use Rattle.pg_journal.specs.Reading.{IsSized}
use Rattle.pg_journal.proofs.Unique.{length-written, front_of, front_tenant, front_body, number_same}
use Rattle.pg_journal.proofs.read.read_one.Goals as goal
use Rattle.pg_journal.proofs.read.read_one.Goals.{then-tenant-most-via-then-tenant-most, then-tenant-most-via-else-tenant-most+then-body-most}

pub returns-clause-next : goal.returns-clause-next
returns-clause-next g c = λ honest fits.
    let file = g.D.Device.seen c.args.device.now in
    let at = 41 + c.args.at in
    let tenant = c.number_at-tenant.result in
    let body = c.number_at-body.result in
    let n = (tenant + body) + 8 in
    let long : 40 ≤ c.args.room = c.if-room-lt-FIXED.false in
    let within : 40 + (tenant + body) ≤ c.args.room = omega (arith, long, c.if-tenant-most.false, c.if-body-most.false) in
    let same = c.read_at.ensures.seen honest in
    let front : c.deref-3.result.now ≡ part at 32 file = c.deref-3.ensures.value ∙ c.in_ok-front.ensures.bytes honest (omega (arith, fits, long)) in
    let rest : c.deref-4.result.now ≡ part (at + 32) n file = c.deref-4.ensures.value ∙ c.in_ok-rest.ensures.bytes honest (omega (arith, fits, within, ap length same)) ∙ ap (part (at + 32) n) same in
    let sizes : 32 + n ≡ (40 + tenant) + body = omega arith in
    let bytes : c.deref-3.result.now ++ c.deref-4.result.now ≡ part at ((40 + tenant) + body) file =
    (λ i. front i ++ rest i) ∙ sym (part_more at 32 n file) ∙ ap (λ (m : ℕ). part at m file) sizes in
    let next = c.in_ok-next.ensures.next in
    (next.0, subst (λ (l : List ℕ). IsNext g.R.Replay.replays c.args.digest l c.in_ok-next.next c.args.replay.now c.give.new.replay next.0) bytes next.1)

pub returns-then-room-lt-FIXED-clause-damaged : goal.returns-then-room-lt-FIXED-clause-damaged
returns-then-room-lt-FIXED-clause-damaged g c = λ honest fits is k small e. absurd (omega (arith, small, length-written k c.args.digest, c.if-room-lt-FIXED.true))

pub returns-then-tenant-most-clause-damaged : goal.returns-then-tenant-most-clause-damaged
returns-then-tenant-most-clause-damaged g c = λ honest fits is k small e.
    let file = g.D.Device.seen c.args.device.now in
    let at = 41 + c.args.at in
    let long : 40 ≤ c.args.room = c.if-room-lt-FIXED.false in
    let total : 40 + (length k.tenant + length k.body) ≤ c.args.room = omega (arith, small, length-written k c.args.digest) in
    let front : c.in_ok-front.front.items ≡ lengths k = c.in_ok-front.ensures.bytes honest (omega (arith, fits, long)) ∙ front_of at c.args.digest file k e in
    let tenant : c.number_at-tenant.result ≡ length k.tenant = number_same c.number_at-tenant.result (length k.tenant) c.number_at-tenant.ensures.fits (omega (arith, total, c.ranges.room.fits)) (c.number_at-tenant.ensures.number ∙ ap (part 0 8) (c.deref.ensures.value ∙ front) ∙ front_tenant k) in
    let body : c.number_at-body.result ≡ length k.body = number_same c.number_at-body.result (length k.body) c.number_at-body.ensures.fits (omega (arith, total, c.ranges.room.fits)) (c.number_at-body.ensures.number ∙ ap (part 8 8) (c.deref-2.ensures.value ∙ front) ∙ front_body k) in
    elim c.then-tenant-most.branch [
      | then-tenant-most-via-then-tenant-most w ↦ absurd (omega (arith, total, tenant, body, long, w.if-tenant-most))
      | then-tenant-most-via-else-tenant-most+then-body-most w ↦ absurd (omega (arith, total, tenant, body, long, w.if-tenant-most, w.if-body-most))
    ]

pub returns-in_err-next-clause-damaged : goal.returns-in_err-next-clause-damaged
returns-in_err-next-clause-damaged g c = λ honest fits is k small e.
    let file = g.D.Device.seen c.args.device.now in
    let at = 41 + c.args.at in
    let tenant = c.number_at-tenant.result in
    let body = c.number_at-body.result in
    let n = (tenant + body) + 8 in
    let long : 40 ≤ c.args.room = c.if-room-lt-FIXED.false in
    let within : 40 + (tenant + body) ≤ c.args.room = omega (arith, long, c.if-tenant-most.false, c.if-body-most.false) in
    let total : 40 + (length k.tenant + length k.body) ≤ c.args.room = omega (arith, small, length-written k c.args.digest) in
    let same = c.read_at.ensures.seen honest in
    let front_read = c.in_ok-front.ensures.bytes honest (omega (arith, fits, long)) in
    let front : c.deref-3.result.now ≡ part at 32 file = c.deref-3.ensures.value ∙ front_read in
    let rest : c.deref-4.result.now ≡ part (at + 32) n file = c.deref-4.ensures.value ∙ c.in_ok-rest.ensures.bytes honest (omega (arith, fits, within, ap length same)) ∙ ap (part (at + 32) n) same in
    let front_is : c.in_ok-front.front.items ≡ lengths k = front_read ∙ front_of at c.args.digest file k e in
    let sized : IsSized k = (omega (arith, total, c.ranges.room.fits), omega (arith, total, c.ranges.room.fits)) in
    let tenant_is : tenant ≡ length k.tenant = number_same tenant (length k.tenant) c.number_at-tenant.ensures.fits sized.0 (c.number_at-tenant.ensures.number ∙ ap (part 0 8) (c.deref.ensures.value ∙ front_is) ∙ front_tenant k) in
    let body_is : body ≡ length k.body = number_same body (length k.body) c.number_at-body.ensures.fits sized.1 (c.number_at-body.ensures.number ∙ ap (part 8 8) (c.deref-2.ensures.value ∙ front_is) ∙ front_body k) in
    let sizes : 32 + n ≡ length (written c.args.digest k) = omega (arith, length-written k c.args.digest, tenant_is, body_is) in
    let bytes : c.deref-3.result.now ++ c.deref-4.result.now ≡ written c.args.digest k = (λ i. front i ++ rest i) ∙ sym (part_more at 32 n file) ∙ ap (λ (m : ℕ). part at m file) sizes ∙ e in
    c.in_err-next.ensures.damaged (search rules) k sized bytes
