use Rattle.std.proofs.Common.{◌++◌, ℕ, sym, ◌∙◌, ap}
use Rattle.pg_journal.specs.Device.{part}
use Rattle.pg_journal.proofs.Parts.{part_more}
use Rattle.pg_journal.proofs.head.counts.Goals as goal

pub returns : goal.returns
returns c = λ size.
    let at = ap (λ (p : ℕ). part p 16 c.args.head.now) (sym c.place_of-at.ensures) in
    (c.requires.named, at ∙ part_more c.place_of-at.result 8 8 c.args.head.now ∙ (λ i. sym c.number_at.ensures.number i ++ sym c.number_at-2.ensures.number i), c.requires.long, c.number_at.ensures.fits, c.number_at-2.ensures.fits)
