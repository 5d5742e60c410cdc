use Rattle.std.proofs.Common.{◌+◌, ◌≤◌, ℕ, List, length, sym, subst, arith}
use Rattle.std.specs.Prelude.{not}
use Rattle.std.proofs.lemmas.Result.{on_ok_weaker}
use Rattle.pg_journal.specs.Device.{Torn, Holds}
use Rattle.pg_journal.specs.Steps.{Spares, IsStaged}
use Rattle.pg_journal.proofs.Moments.{started, goes_on}
use Rattle.pg_journal.proofs.Parts.{held_length}
use Rattle.pg_journal.proofs.Spared.{spares_self, spares_then, torn_behind, torn_slot, place_fits, staged}
use Rattle.pg_journal.proofs.steps.stage.Goals as goal

pub returns-in_err-write_at-clause-any_moment : goal.returns-in_err-write_at-clause-any_moment
returns-in_err-write_at-clause-any_moment g c = λ honest fits only.
    let P = Spares c.args.slot c.args.size (g.D.Device.seen c.args.device.now) in
    let at_start = started g.D.Device.moment g.D.Device.left_since c.args.device.now P (λ f left. subst P (sym (only f (g.met.D.Device.only_now c.args.device.now f left))) (spares_self c.args.slot c.args.size (g.D.Device.seen c.args.device.now))) in
    let behind : (f : List ℕ) → g.D.Device.may_leave c.write_at.new.self f → P f = λ f now.
    let from = c.write_at.ensures.crash honest fits f now in
    torn_behind c.args.slot c.args.size c.args.bytes.now (g.D.Device.seen c.args.device.now) f (subst (λ d. Torn (41 + c.args.size) c.args.bytes.now d f) (only from.0 from.1) from.2) in
    goes_on g.D.Device.moment g.D.Device.left_since c.args.device.now c.args.device.now c.write_at.new.self P _ at_start (c.write_at.ensures.time honest) behind

pub returns-in_err-write_at-2-clause-any_moment : goal.returns-in_err-write_at-2-clause-any_moment
returns-in_err-write_at-2-clause-any_moment g c = λ honest fits only.
    let old = g.D.Device.seen c.args.device.now in
    let P = Spares c.args.slot c.args.size old in
    let at_start = started g.D.Device.moment g.D.Device.left_since c.args.device.now P (λ f left. subst P (sym (only f (g.met.D.Device.only_now c.args.device.now f left))) (spares_self c.args.slot c.args.size old)) in
    let behind : (f : List ℕ) → g.D.Device.may_leave c.write_at.new.self f → P f = λ f now.
    let from = c.write_at.ensures.crash honest fits f now in
    torn_behind c.args.slot c.args.size c.args.bytes.now old f (subst (λ d. Torn (41 + c.args.size) c.args.bytes.now d f) (only from.0 from.1) from.2) in
    let first = goes_on g.D.Device.moment g.D.Device.left_since c.args.device.now c.args.device.now c.write_at.new.self P _ at_start (c.write_at.ensures.time honest) behind in
    let long = held_length old (g.D.Device.seen c.write_at.new.self) (41 + c.args.size) c.args.bytes.now fits (c.in_ok-write_at.ensures.written honest fits) in
    let at_fits : c.place_of.result ≤ length (g.D.Device.seen c.write_at.new.self) = omega (arith, long, c.place_of.ensures, place_fits (not c.args.slot)) in
    let other : (f : List ℕ) → g.D.Device.may_leave c.write_at-2.new.self f → P f = λ f now.
    let from = c.write_at-2.ensures.crash honest at_fits f now in
    spares_then c.args.slot c.args.size old from.0 f (behind from.0 from.1)
    (torn_slot c.args.slot c.args.size c.args.tally.now from.0 f c.told-tally (subst (λ (at : ℕ). Torn at c.args.tally.now from.0 f) c.place_of.ensures from.2)) in
    goes_on g.D.Device.moment g.D.Device.left_since c.args.device.now c.write_at.new.self c.write_at-2.new.self P _ first (c.write_at-2.ensures.time honest) other

pub returns-clause-staged : goal.returns-clause-staged
returns-clause-staged g c = λ honest fits.
    let old = g.D.Device.seen c.args.device.now in
    let first = c.in_ok-write_at.ensures.written honest fits in
    let long = held_length old (g.D.Device.seen c.write_at.new.self) (41 + c.args.size) c.args.bytes.now fits first in
    let at_fits : c.place_of.result ≤ length (g.D.Device.seen c.write_at.new.self) = omega (arith, long, c.place_of.ensures, place_fits (not c.args.slot)) in
    let second = c.in_ok-write_at-2.ensures.written honest at_fits in
    let done = staged c.args.slot c.args.size c.args.bytes.now c.args.tally.now old (g.D.Device.seen c.write_at.new.self) (g.D.Device.seen c.write_at-2.new.self) c.told-tally fits first
    (subst (λ (at : ℕ). Holds (g.D.Device.seen c.write_at.new.self) at c.args.tally.now (g.D.Device.seen c.write_at-2.new.self)) c.place_of.ensures second) in
    let here : IsStaged c.args.slot c.args.size c.args.bytes.now c.args.tally.now old (g.D.Device.seen c.sync.new.self) = subst (IsStaged c.args.slot c.args.size c.args.bytes.now c.args.tally.now old) (sym (c.sync.ensures.seen honest)) done in
    on_ok_weaker c.sync.result (λ _. here) (c.sync.ensures.durable honest)

pub returns-clause-any_moment : goal.returns-clause-any_moment
returns-clause-any_moment g c = λ honest fits only.
    let old = g.D.Device.seen c.args.device.now in
    let P = Spares c.args.slot c.args.size old in
    let at_start = started g.D.Device.moment g.D.Device.left_since c.args.device.now P (λ f left. subst P (sym (only f (g.met.D.Device.only_now c.args.device.now f left))) (spares_self c.args.slot c.args.size old)) in
    let behind : (f : List ℕ) → g.D.Device.may_leave c.write_at.new.self f → P f = λ f now.
    let from = c.write_at.ensures.crash honest fits f now in
    torn_behind c.args.slot c.args.size c.args.bytes.now old f (subst (λ d. Torn (41 + c.args.size) c.args.bytes.now d f) (only from.0 from.1) from.2) in
    let first = goes_on g.D.Device.moment g.D.Device.left_since c.args.device.now c.args.device.now c.write_at.new.self P _ at_start (c.write_at.ensures.time honest) behind in
    let long = held_length old (g.D.Device.seen c.write_at.new.self) (41 + c.args.size) c.args.bytes.now fits (c.in_ok-write_at.ensures.written honest fits) in
    let at_fits : c.place_of.result ≤ length (g.D.Device.seen c.write_at.new.self) = omega (arith, long, c.place_of.ensures, place_fits (not c.args.slot)) in
    let other : (f : List ℕ) → g.D.Device.may_leave c.write_at-2.new.self f → P f = λ f now.
    let from = c.write_at-2.ensures.crash honest at_fits f now in
    spares_then c.args.slot c.args.size old from.0 f (behind from.0 from.1)
    (torn_slot c.args.slot c.args.size c.args.tally.now from.0 f c.told-tally (subst (λ (at : ℕ). Torn at c.args.tally.now from.0 f) c.place_of.ensures from.2)) in
    let second = goes_on g.D.Device.moment g.D.Device.left_since c.args.device.now c.write_at.new.self c.write_at-2.new.self P _ first (c.write_at-2.ensures.time honest) other in
    goes_on g.D.Device.moment g.D.Device.left_since c.args.device.now c.write_at-2.new.self c.sync.new.self P _ second (c.sync.ensures.time honest) (λ f now. other f (c.sync.ensures.crash honest f now))
