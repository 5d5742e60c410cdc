use Rattle.std.proofs.Common.{◌≡◌, ◌+◌, ◌-◌, ◌++◌, ◌∷◌, [], ℕ, take, drop, sym, ◌∙◌, ap, subst, arith, rules}
use Rattle.pg_journal.specs.Views.{kept}
use Rattle.pg_journal.specs.Digest.{digest_on}
use Rattle.pg_journal.specs.Records.{Kept, number}
use Rattle.pg_journal.proofs.Decoded.{row, sums_right, bytes_right}
use Rattle.pg_journal.proofs.Unique.{right_sum}
use Rattle.pg_journal.proofs.read.give.Goals as goal

pub returns : goal.returns
returns g c =
    let front = c.args.front.now in
    let rest = c.args.rest.now in
    let end = c.args.tenant + c.args.body in
    let sum = c.digest_on-next.ensures ∙ ap (λ (d : ℕ). digest_on d (take end rest)) c.digest_on.ensures in
    let same : c.number_at.result ≡ c.digest_on-next.result = search rules in
    let kept_sum = ap number (sym same) ∙ c.number_at.ensures.number in
    let tenant = c.requires.tenant in
    let body = c.requires.body in
    let record_read : Kept = row c.args.digest front rest c.args.tenant c.args.body c.digest_on-next.result c.number_at-2.result c.number_at-3.result c.requires.front c.requires.rest tenant body c.number_at-2.ensures.number c.number_at-3.ensures.number sum kept_sum in
    record {
      damaged = λ is k sized e. absurd cc;
      foreign = λ is. absurd cc;
      next = (
        record_read,
        record {
          bytes = bytes_right c.args.digest front rest c.args.tenant c.args.body c.digest_on-next.result c.number_at-2.result c.number_at-3.result c.requires.front c.requires.rest tenant body c.number_at-2.ensures.number c.number_at-3.ensures.number sum kept_sum;
          sums = sums_right c.args.digest front rest c.args.tenant c.args.body c.digest_on-next.result c.number_at-2.result c.number_at-3.result c.requires.front c.requires.rest tenant body c.number_at-2.ensures.number c.number_at-3.ensures.number sum kept_sum;
          replayed =
              subst (λ (m : ℕ). g.R.Replay.replays c.args.replay.now (kept (take c.args.tenant rest) (take m (drop c.args.tenant rest)) (record { length = c.number_at-2.result; digest = c.number_at-3.result })) c.replay.new.self)
              (let back : (c.args.tenant + c.args.body) - c.args.tenant ≡ c.args.body = omega arith in back)
              c.in_ok-replay.ensures.replayed;
        },
      );
    }

pub returns-then-number_at-next-clause-damaged : goal.returns-then-number_at-next-clause-damaged
returns-then-number_at-next-clause-damaged g c = λ is k sized e.
    let sum = c.digest_on-next.ensures ∙ ap (λ (d : ℕ). digest_on d (take (c.args.tenant + c.args.body) c.args.rest.now)) c.digest_on.ensures in
    let same : c.number_at.result ≡ c.digest_on-next.result =
    right_sum c.args.digest c.args.front.now c.args.rest.now c.args.tenant c.args.body c.number_at.result k c.ranges.digest.fits c.ranges.tenant.fits c.ranges.body.fits c.number_at.ensures.fits sized c.requires.front c.requires.tenant c.requires.body c.number_at.ensures.number e ∙ sym sum in
    c.if-number_at-next.true same
