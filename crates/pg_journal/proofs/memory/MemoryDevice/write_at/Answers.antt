use Rattle.std.proofs.Common.{◌≤◌, length, refl, sym, ◌∙◌, subst}
use Rattle.pg_journal.specs.Device.{Holds}
use Rattle.pg_journal.proofs.Contents.{elapses_to}
use Rattle.pg_journal.proofs.Parts.{held_torn}
use Rattle.pg_journal.proofs.memory.MemoryDevice.write_at.Goals as goal

pub returns-clause-time : goal.returns-clause-time
returns-clause-time c = λ honest.
    let past = c.in_ok-replace.ensures.past in
    elapses_to c.args.self.now.past.items c.replace.new.past.items past.0 c.args.self.now.bytes.items c.replace.new.bytes.items past.1 past.2

pub returns-clause-crash : goal.returns-clause-crash
returns-clause-crash c = λ honest fits f now.
    let holds : Holds c.args.self.now.bytes.items c.args.at c.args.bytes.now f =
    subst (λ old. Holds old c.args.at c.args.bytes.now f) c.deref.ensures.value (subst (Holds c.deref.result.now c.args.at c.args.bytes.now) (sym (now ∙ c.in_ok-replace.ensures.ok)) (c.in_ok-next.ensures (subst (λ old. c.args.at ≤ length old) (sym c.deref.ensures.value) fits))) in
    (c.args.self.now.bytes.items, refl, held_torn c.args.self.now.bytes.items f c.args.at c.args.bytes.now fits holds)
