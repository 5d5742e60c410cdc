use Rattle.std.proofs.Common.{◌≤◌, ◌^◌, sym, ap, subst, ◌∙◌}
use Rattle.std.proofs.lemmas.Result.{err_from_is_err_and}
use Rattle.pg_meaning.specs.Answer.{◌>>◌}
use Rattle.pg_meaning.specs.Meters.{test_counter}
use Rattle.pg_meter.specs.Quotas.{Elements}
use Rattle.pg_write_make.proofs.RoomLemmas.{making_up_to, room_left, when_ok}
use Rattle.pg_write_make.proofs.elements.test_new.Goals as goal

pub returns-in_err-take-clause-is : goal.returns-in_err-take-clause-is
returns-in_err-take-clause-is g c =
    let limit = sym c.most.ensures.is ∙ sym (ap (λ (r : Elements). r.limit) c.new.ensures) in
    let is = c.take.ensures.tests (making_up_to c.args.max_elements) c.args.graph.now limit
    (sym c.elements.ensures ∙ sym (ap (λ (r : Elements). r.elements) c.new.ensures)) in
    let p = err_from_is_err_and c.from_residual.result c.from_residual.ensures.1 in
    rw (p.1, p.2) (sym (ap (λ r. r >> test_counter c.args.next) (sym is ∙ c.in_err-take.was)))

pub returns-clause-is : goal.returns-clause-is
returns-clause-is g c =
    let limit = sym c.most.ensures.is ∙ sym (ap (λ (r : Elements). r.limit) c.new.ensures) in
    let is = c.take.ensures.tests (making_up_to c.args.max_elements) c.args.graph.now limit
    (sym c.elements.ensures ∙ sym (ap (λ (r : Elements). r.elements) c.new.ensures)) in
    c.test_counter.ensures.is ∙ sym (ap (λ r. r >> test_counter c.args.next) (sym is ∙ c.in_ok-take.was))

pub returns-clause-left : goal.returns-clause-left
returns-clause-left g c =
    let limit = sym c.most.ensures.is ∙ sym (ap (λ (r : Elements). r.limit) c.new.ensures) in
    let is = c.take.ensures.tests (making_up_to c.args.max_elements) c.args.graph.now limit
    (sym c.elements.ensures ∙ sym (ap (λ (r : Elements). r.elements) c.new.ensures)) in
    when_ok c.test_counter.result (λ ok. room_left c.args.graph.now c.args.max_elements (subst (λ n. n ≤ 2 ^ 63) c.most.ensures.is c.most.ensures.few) (sym is ∙ c.in_ok-take.was))
