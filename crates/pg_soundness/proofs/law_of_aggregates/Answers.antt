use Rattle.pg_soundness.proofs.AggregatedValues.{takes_all_there, least_is_first, greatest_is_last}
use Rattle.pg_soundness.proofs.law_of_aggregates.Goals as goal

pub returns-clause-taken : goal.returns-clause-taken
returns-clause-taken c = takes_all_there

pub returns-clause-least : goal.returns-clause-least
returns-clause-least c = least_is_first

pub returns-clause-greatest : goal.returns-clause-greatest
returns-clause-greatest c = greatest_is_last
