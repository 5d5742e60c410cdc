use Rattle.pg_plan.proofs.MeaningLemmas.{texts_mean}
use Rattle.pg_plan.proofs.law_of_texts.Goals as goal

pub returns : goal.returns
returns c = texts_mean
