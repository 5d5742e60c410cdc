use Rattle.pg_grammar.proofs.law_of_labels.Goals as goal
use Rattle.pg_grammar.proofs.Labels.{labels_exact}

pub returns : goal.returns
returns c = labels_exact
