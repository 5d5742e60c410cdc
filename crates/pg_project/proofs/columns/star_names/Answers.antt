use Rattle.std.proofs.Common.{rules, ◌≡◌, ◌++◌, false, sym, ap, ◌∙◌}
use Rattle.std.specs.Prelude.{is_none}
use Rattle.pg_project.proofs.InTurn.{joined}
use Rattle.pg_project.proofs.LoneStar.{star_in_order}
use Rattle.pg_project.specs.Columns.{texts_of}
use Rattle.std.proofs.lemmas.Result.{IfOk-from_err}
use Rattle.pg_project.proofs.columns.star_names.Goals as goal

pub returns-in_err-text-items : goal.returns-in_err-text-items
returns-in_err-text-items c = IfOk-from_err c.from_residual-in_err-text-items.result _ c.from_residual-in_err-text-items.ensures.0

pub returns-in_err-push : goal.returns-in_err-push
returns-in_err-push c = IfOk-from_err c.from_residual-in_err-push.result _ c.from_residual-in_err-push.ensures.0

pub loop-text-init : goal.loop-text-init
loop-text-init c = (λ i. c.new-names.ensures i ++ texts_of (c.into_iter-text-iterator.ensures.into_iter_gives.0 i)) ∙ c.in_ok-text-items.ensures

pub loop-text-preserved : goal.loop-text-preserved
loop-text-preserved c =
    let l = c.loop-text in
    let rest = texts_of c.next.new.self.rest.items in
    ap (λ ns. ns ++ rest) c.in_ok-push.ensures.pushed
    ∙ joined l.names c.in-Some.text.now rest
    ∙ sym (ap (λ ts. l.names ++ texts_of ts) c.in-Some.ensures.steps.0)
    ∙ l.invariant

pub returns-then-rises : goal.returns-then-rises
returns-then-rises c =
    let named : is_none c.args.star ≡ false = search rules in
    c.in_ok-push_all.ensures
    ∙ ap (λ ns. ns ++ c.args.scope.now) c.new-names.ensures
    ∙ star_in_order c.args.scope.now c.args.star named (c.rises.ensures.0 c.if-rises.true)
