use Rattle.std.proofs.Common.{◌∙◌}
use Rattle.std.proofs.lemmas.Result.{IfOk-from_err}
use Rattle.pg_json.proofs.value.begin_rel.Goals as goal

pub returns-in_err-begin_object-clause-ok : goal.returns-in_err-begin_object-clause-ok
returns-in_err-begin_object-clause-ok c = IfOk-from_err c.from_residual.result _ c.from_residual.ensures.0

pub returns-in_err-begin_object-clause-before : goal.returns-in_err-begin_object-clause-before
returns-in_err-begin_object-clause-before c = c.begin_object.ensures.room.0

pub returns-in_err-write_natural-clause-ok : goal.returns-in_err-write_natural-clause-ok
returns-in_err-write_natural-clause-ok c = IfOk-from_err c.from_residual-in_err-write_natural.result _ c.from_residual-in_err-write_natural.ensures.0

pub returns-in_err-write_natural-clause-before : goal.returns-in_err-write_natural-clause-before
returns-in_err-write_natural-clause-before c = c.write_natural.ensures.before ∙ c.begin_object.ensures.room.0

pub returns-in_err-write_natural-2-clause-ok : goal.returns-in_err-write_natural-2-clause-ok
returns-in_err-write_natural-2-clause-ok c = IfOk-from_err c.from_residual-in_err-write_natural-2.result _ c.from_residual-in_err-write_natural-2.ensures.0

pub returns-in_err-write_natural-2-clause-before : goal.returns-in_err-write_natural-2-clause-before
returns-in_err-write_natural-2-clause-before c = c.write_natural-2.ensures.before ∙ c.write_natural.ensures.before ∙ c.begin_object.ensures.room.0

pub returns-clause-before : goal.returns-clause-before
returns-clause-before c = c.key.ensures.room.0 ∙ c.write_natural-2.ensures.before ∙ c.write_natural.ensures.before ∙ c.begin_object.ensures.room.0
