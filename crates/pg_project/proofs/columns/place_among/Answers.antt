use Rattle.std.proofs.Common.{◌≡◌, length, sym, ap, ◌∙◌, arith}
use Rattle.std.specs.List.{insert}
use Rattle.pg_project.proofs.ByteOrder.{put_already, put_at_end, put_before, put_behind}
use Rattle.pg_project.specs.Columns.{texts_of}
use Rattle.pg_project.proofs.columns.place_among.Goals as goal

pub returns-in-Less-clause-some : goal.returns-in-Less-clause-some
returns-in-Less-clause-some c = c.loop-at.invariant ∙ put_before c.args.texts.now c.args.text.now c.loop-at.at _ c.loop-at-test.true (sym c.cmp.ensures ∙ c.in-Less.is)

pub returns-in-Equal-clause-none : goal.returns-in-Equal-clause-none
returns-in-Equal-clause-none c = c.loop-at.invariant ∙ put_already c.args.texts.now c.args.text.now c.loop-at.at _ c.loop-at-test.true (sym c.cmp.ensures ∙ c.in-Equal.is)

pub loop-at-preserved : goal.loop-at-preserved
loop-at-preserved c = c.loop-at.invariant ∙ put_behind c.args.texts.now c.args.text.now c.loop-at.at _ c.loop-at-test.true (sym c.cmp.ensures ∙ c.in-Greater.is)

pub returns-clause-some : goal.returns-clause-some
returns-clause-some c =
    let texts = c.args.texts.now in
    let text = c.args.text.now in
    let most = c.loop-at.auto.at-end in
    let end : c.loop-at.at ≡ length texts = omega (arith, most, c.loop-at-test.false) in
    c.loop-at.invariant ∙ put_at_end texts text c.loop-at.at c.loop-at-test.false ∙ ap (λ n. insert (texts_of texts) n text) end
