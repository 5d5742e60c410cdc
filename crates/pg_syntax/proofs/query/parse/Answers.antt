use Rattle.pg_syntax.proofs.Contract.{is_found, is_only, is_none, is_deep, is_fault, is_answer, is_refusal}
use Rattle.pg_syntax.proofs.query.parse.Goals as goal

pub returns : goal.returns
returns c =
    let a = c.answer.ensures.answers in
    record {
      too_deep = is_deep _ _ _ a c.answer.ensures.deep;
      found = is_found _ _ _ a;
      only = is_only _ _ _ a;
      none = is_none _ _ _ a;
      faults = is_fault _ _ _ a;
      ok = is_answer _ _ _ a;
      err = is_refusal _ _ _ a;
    }
