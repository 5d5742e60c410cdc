use Rattle.pg_write_make.proofs.ValueLemmas.{given_ok, given_err}
use Rattle.pg_write_make.proofs.values.element_pairs.Goals as goal

pub returns-in-Given-clause-ok : goal.returns-in-Given-clause-ok
returns-in-Given-clause-ok g c = given_ok c.args.scene.now c.args.graph.now c.args.row.now c.args.properties.now c.in-Given.pairs c.in-Given.is c.pair_values.result c.pair_values.ensures.ok

pub returns-in-Given-clause-err : goal.returns-in-Given-clause-err
returns-in-Given-clause-err g c = given_err c.args.scene.now c.args.graph.now c.args.row.now c.args.properties.now c.in-Given.pairs c.in-Given.is c.pair_values.result c.pair_values.ensures.err
