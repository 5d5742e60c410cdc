use Rattle.pg_grammar.proofs.Joined.{one_reading}
use Rattle.pg_syntax.proofs.query.law_one_reading.Goals as goal

pub returns : goal.returns
returns c = one_reading
