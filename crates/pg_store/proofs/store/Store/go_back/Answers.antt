use Rattle.std.proofs.Common.{◌≡◌, ◌+◌, ◌++◌, ◌∷◌, [], length, arith, sym, ap, ◌∙◌}
use Rattle.std.proofs.lemmas.List.{length-append}
use Rattle.std.specs.Global.{Vec}
use Rattle.std.specs.Option.{option_to_list}
use Rattle.pg_store.proofs.TakenBack.{at_first, can_go, goes_on, is_back}
use Rattle.pg_store.proofs.store.Store.go_back.Goals as goal
use Rattle.pg_store.specs.declared.journal.Entry.{Entry}

pub loop-mark-init : goal.loop-mark-init
loop-mark-init g c = at_first g.T.Tables.seen c.args.mark.journal c.args.self.now c.args.shared.now c.requires.fit c.requires.mark

pub take_back-requires-clause-fits : goal.take_back-requires-clause-fits
take_back-requires-clause-fits g c = c.loop-mark.invariant.fit.fits

pub take_back-requires-clause-can : goal.take_back-requires-clause-can
take_back-requires-clause-can g c =
    can_go g.T.Tables.seen c.args.mark.journal c.loop-mark.self c.loop-mark.shared c.pop.new.self.items c.unwrap-entry.result
    (c.pop.ensures.items ∙ ap (λ o. c.pop.new.self.items ++ option_to_list o) c.unwrap-entry.ensures)
    c.loop-mark.invariant.fit

pub loop-mark-smaller : goal.loop-mark-smaller
loop-mark-smaller g c =
    let fewer : length c.loop-mark.self.journal.items ≡ length c.pop.new.self.items + 1 =
    ap length (c.pop.ensures.items ∙ ap (λ o. c.pop.new.self.items ++ option_to_list o) c.unwrap-entry.ensures) ∙ length-append c.pop.new.self.items (c.unwrap-entry.result ∷ []) in
    let same : length c.take_back.new.self.journal.items ≡ length c.pop.new.self.items = ap (λ (v : Vec Entry). length v.items) c.take_back.ensures.journal in
    omega (arith, fewer, same)

pub loop-mark-preserved : goal.loop-mark-preserved
loop-mark-preserved g c =
    goes_on g.T.Tables.seen c.args.mark.journal c.args.self.now c.loop-mark.self c.take_back.new.self c.args.shared.now c.loop-mark.shared c.take_back.new.shared c.unwrap-entry.result
    c.loop-mark.invariant
    (omega (arith, c.loop-mark-test.true, c.len.ensures))
    (c.pop.ensures.items ∙ ap (λ o. c.pop.new.self.items ++ option_to_list o) c.unwrap-entry.ensures ∙ ap (λ es. es ++ c.unwrap-entry.result ∷ []) (ap (λ (v : Vec Entry). v.items) (sym c.take_back.ensures.journal)))
    c.take_back.ensures.state c.take_back.ensures.names c.take_back.ensures.sets c.take_back.ensures.keeps

pub returns-clause-back : goal.returns-clause-back
returns-clause-back g c =
    is_back g.T.Tables.seen c.args.mark c.args.self.now c.loop-mark.self c.args.shared.now c.loop-mark.shared c.loop-mark.invariant (omega (arith, c.loop-mark-test.false, c.len.ensures))

pub returns-clause-names : goal.returns-clause-names
returns-clause-names g c = c.loop-mark.invariant.names

pub returns-clause-fit : goal.returns-clause-fit
returns-clause-fit g c = c.loop-mark.invariant.fit

pub returns-clause-keeps : goal.returns-clause-keeps
returns-clause-keeps g c = c.loop-mark.invariant.keeps

pub returns-clause-sets : goal.returns-clause-sets
returns-clause-sets g c = c.loop-mark.invariant.sets
