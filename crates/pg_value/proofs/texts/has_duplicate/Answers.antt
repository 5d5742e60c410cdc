use Rattle.std.proofs.Common.{◌+◌, ◌∷◌, not, drop, get_or, arith, ap, ◌∙◌}
use Rattle.std.proofs.lemmas.List.{drop_more}
use Rattle.pg_value.proofs.TextLemmas.{among_more, again_more, was_new}
use Rattle.pg_value.proofs.texts.has_duplicate.Goals as goal

pub loop-text-preserved : goal.loop-text-preserved
loop-text-preserved c =
    let (done, same, rest) = c.loop-text.invariant in
    let texts = c.args.texts.now in
    let i = c.loop-text.text-index in
    let x = get_or texts i _ in
    (x.now ∷ done, among_more _ _ x done same c.in_ok-insert.ensures.updates, rest ∙ again_more done x (drop i texts) (drop (i + 1) texts) (drop_more texts i _ (omega arith)) (was_new _ _ (c.in_ok-insert.ensures.added ∙ ap not (same x)) c.if-not-branch.false))
