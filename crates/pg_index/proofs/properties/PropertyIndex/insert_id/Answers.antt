use Rattle.std.proofs.Common.{◌==◌, sym, ◌∙◌}
use Rattle.std.proofs.lemmas.Result.{on_ok_weaker}
use Rattle.pg_index.proofs.PropertyLemmas.{equal_of, or_and_more}
use Rattle.pg_index.proofs.properties.PropertyIndex.insert_id.Goals as goal
use Rattle.pg_index.specs.Properties.{finds, is_found_by, is_one_value}

pub returns-in-Some-clause-ok : goal.returns-in-Some-clause-ok
returns-in-Some-clause-ok c = on_ok_weaker c.put.result (λ found v h. found v (sym (c.in-Some.ensures.is v) ∙ h)) c.put.ensures.ok

pub returns-in-Some-clause-come : goal.returns-in-Some-clause-come
returns-in-Some-clause-come c = λ v i h.
    let index = c.args.self.now in
    let value = c.in-Some.value.now in
    or_and_more (finds index v i) (is_one_value value v) (is_found_by index.label index.key v c.args.node.now) (i == c.args.id)
    (λ is. c.in-Some.ensures.is v ∙ equal_of value v c.in-Some.ensures.equal is)
    (c.put.ensures.come v i h)
