use mir.Val.{SFits}
use Rattle.std.proofs.Common.{rules, ◌≡◌, [], ◌∷◌, ◌++◌, Ok, w64, refl, ap, ◌∙◌}
use Rattle.std.proofs.lemmas.Int.{to_z-of_z}
use Rattle.std.proofs.lemmas.Result.{IfOk-from_err}
use Rattle.pg_expr.proofs.ExitLemmas.{fault_passed}
use Rattle.pg_expr.proofs.Integers.{no_integers_yet, int_taken, no_integer, all_integers}
use Rattle.pg_expr.specs.Contexts.{founds_view}
use Rattle.pg_meaning.specs.Functions.{integers_of}
use Rattle.pg_meaning.specs.declared.fault.Fault.TheVariants.{OutOfMemory}
use Rattle.pg_expr.proofs.ranges.integers.Goals as goal

pub returns-in_err-integers-clause-ok : goal.returns-in_err-integers-clause-ok
returns-in_err-integers-clause-ok c = IfOk-from_err c.from_residual.result (λ is. integers_of (founds_view c.args.arguments.now.items) ≡ Ok is.items) c.from_residual.ensures.0

pub returns-in_err-integers-clause-err : goal.returns-in_err-integers-clause-err
returns-in_err-integers-clause-err c = fault_passed (integers_of (founds_view c.args.arguments.now.items)) OutOfMemory c.from_residual.result c.from_residual.ensures.1 (λ other. absurd (other refl))

pub loop-argument-init : goal.loop-argument-init
loop-argument-init c = no_integers_yet c.in_ok-integers.integers.items c.deref-argument-items.result.now c.in_ok-integers.ensures.items

pub returns-in_default : goal.returns-in_default
returns-in_default c =
    let l = c.loop-argument in
    record {
      ok = tt;
      err = λ other.
          no_integer c.deref-argument-items.result.now c.args.arguments.now.items c.deref-argument-items.ensures.value l.argument-index l.integers.items l.invariant
          c.argument-item.result c.loop-argument-test.true c.argument-item.is c.look.result.now c.look.ensures c.in_default.not-Int;
    }

pub returns-in_err-push-clause-ok : goal.returns-in_err-push-clause-ok
returns-in_err-push-clause-ok c = IfOk-from_err c.from_residual-in_err-push.result (λ is. integers_of (founds_view c.args.arguments.now.items) ≡ Ok is.items) c.from_residual-in_err-push.ensures.0

pub returns-in_err-push-clause-err : goal.returns-in_err-push-clause-err
returns-in_err-push-clause-err c =
    fault_passed (integers_of (founds_view c.args.arguments.now.items)) OutOfMemory c.from_residual-in_err-push.result c.from_residual-in_err-push.ensures.1 (λ other. absurd (other refl))

pub loop-argument-preserved : goal.loop-argument-preserved
loop-argument-preserved c =
    let l = c.loop-argument in
    let fits : SFits w64 c.in-Int.i = search rules in
    int_taken c.deref-argument-items.result.now c.args.arguments.now.items c.deref-argument-items.ensures.value l.argument-index l.integers.items l.invariant
    c.argument-item.result c.loop-argument-test.true c.argument-item.is c.look.result.now c.in-Int.i c.push.new.self.items c.look.ensures c.in-Int.is
    (c.in_ok-push.ensures.items ∙ ap (λ n. l.integers.items ++ n ∷ []) (to_z-of_z w64 c.in-Int.i fits))

pub returns-clause-ok : goal.returns-clause-ok
returns-clause-ok c =
    let l = c.loop-argument in
    all_integers c.deref-argument-items.result.now c.args.arguments.now.items c.deref-argument-items.ensures.value l.argument-index l.integers.items l.invariant c.loop-argument-test.false

pub returns-clause-err : goal.returns-clause-err
returns-clause-err c = tt
