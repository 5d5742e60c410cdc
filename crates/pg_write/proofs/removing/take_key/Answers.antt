use Rattle.std.proofs.Common.{refl}
use Rattle.std.proofs.lemmas.Result.{IfOk-from_err, err_from_is_err_and}
use Rattle.pg_write.proofs.removing.take_key.Goals as goal

pub returns-in_err-pairs : goal.returns-in_err-pairs
returns-in_err-pairs g c =
    let p = err_from_is_err_and c.from_residual.result c.from_residual.ensures.1 in
    record {
      ok = IfOk-from_err c.from_residual.result _ c.from_residual.ensures.0;
      err = rw (p.1, p.2) refl;
      aside = refl;
    }

pub returns-in_err-push : goal.returns-in_err-push
returns-in_err-push g c =
    let result = c.from_residual-in_err-push in
    let p = err_from_is_err_and result.result result.ensures.1 in
    record {
      ok = IfOk-from_err result.result _ result.ensures.0;
      err = rw (p.1, p.2) refl;
      aside = refl;
    }

pub put_properties-requires : goal.put_properties-requires
put_properties-requires g c = record { there = c.requires.there }

pub returns-in_err-put_properties : goal.returns-in_err-put_properties
returns-in_err-put_properties g c =
    let result = c.from_residual-in_err-put_properties in
    let p = err_from_is_err_and result.result result.ensures.1 in
    record {
      ok = IfOk-from_err result.result _ result.ensures.0;
      err = rw (p.1, p.2) refl;
      aside = c.put_properties.ensures.aside;
    }

pub returns-clause-err : goal.returns-clause-err
returns-clause-err g c = tt

pub returns-clause-aside : goal.returns-clause-aside
returns-clause-aside g c = c.put_properties.ensures.aside
