use Rattle.std.proofs.Common.{◌∷◌, [], sym, ap, subst}
use Rattle.std.proofs.lemmas.Result.{IfOk-from_err, on_ok_weaker}
use Rattle.std.specs.Prelude.{IfSome}
use Rattle.pg_expr.specs.Contexts.{found_view}
use Rattle.pg_project.proofs.ExitLemmas.{memory_passed}
use Rattle.pg_project.specs.KeptGroups.{HasNumber}
use Rattle.pg_project.proofs.groups.Groups.take_found.Goals as goal

pub take_again-requires-clause-within : goal.take_again-requires-clause-within
take_again-requires-clause-within g c = c.is_number_of_one.ensures.within c.if-is_number_of_one.true

pub returns-then-is_number_of_one : goal.returns-then-is_number_of_one
returns-then-is_number_of_one g c =
    let n = c.noted-number.result in
    let key = found_view c.args.found ∷ [] in
    let has : HasNumber c.args.self.now.keys.keys key n = subst (λ vs. HasNumber c.args.self.now.keys.keys vs n) (ap (λ v. v ∷ []) c.look-2.ensures) (c.is_number_of_one.ensures.has c.if-is_number_of_one.true) in
    let after = c.take_again.new.self in
    record {
      ok = c.take_again.ensures.ok key has;
      paired = c.take_again.ensures.paired key has;
      latest = on_ok_weaker c.take_again.result
          (λ h. subst (λ o. IfSome o (λ m. HasNumber after.keys.keys key m)) (sym c.take_again.ensures.latest) (subst (λ ks. HasNumber ks.keys key n) (sym c.take_again.ensures.keys) has)) (c.take_again.ensures.ok key has);
      err = c.take_again.ensures.err key has;
    }

pub returns-in_err-key : goal.returns-in_err-key
returns-in_err-key g c = record {
  ok = IfOk-from_err c.from_residual.result _ c.from_residual.ensures.0;
  paired = IfOk-from_err c.from_residual.result _ c.from_residual.ensures.0;
  latest = IfOk-from_err c.from_residual.result _ c.from_residual.ensures.0;
  err = memory_passed _ c.from_residual.result c.from_residual.ensures.1;
}
