use Rattle.pg_index.proofs.PropertyLemmas.{none_equal}
use Rattle.pg_index.proofs.properties.if_equal_to_itself.Goals as goal

pub returns-in_default-clause-is : goal.returns-in_default-clause-is
returns-in_default-clause-is c = λ v. none_equal c.args.value.now v c.eq3.result c.eq3.ensures c.in_default.not-True
