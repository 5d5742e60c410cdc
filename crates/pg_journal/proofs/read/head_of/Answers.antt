use Rattle.std.proofs.Common.{◌≡◌, List, ℕ, length, take, ◌∙◌, ap, subst, arith}
use Rattle.std.proofs.lemmas.List.{length-take}
use Rattle.pg_journal.specs.Device.{part}
use Rattle.pg_journal.specs.Reading.{Tells}
use Rattle.pg_journal.proofs.Found.{head_is}
use Rattle.pg_journal.proofs.read.head_of.Goals as goal

pub returns-clause-tells : goal.returns-clause-tells
returns-clause-tells g c = λ honest.
    let file = g.D.Device.seen c.args.device.now in
    let same = c.len.ensures.seen honest in
    let long = c.in_ok-length.ensures.length honest in
    let n = c.min.result in
    let head : c.deref.result.now ≡ take 41 file =
    c.deref.ensures.value ∙ c.in_ok-head.ensures.bytes honest (omega (arith, c.min.ensures, long, ap length same)) ∙ ap (part 0 n) same ∙ head_is n file (omega (arith, c.min.ensures)) (omega (arith, c.min.ensures, long, length-take 41 file)) in
    subst (λ (h : List ℕ). Tells h (length file) c.read_head.result) head (subst (λ (m : ℕ). Tells c.deref.result.now m c.read_head.result) long c.read_head.ensures)
