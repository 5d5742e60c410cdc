use Rattle.pg_soundness.proofs.WholeQueriesAnswers.{graphs_stay_graphs, ids_are_given_once, room_is_kept}
use Rattle.pg_soundness.proofs.whole_queries.law_of_graphs.Goals as goal

pub returns-clause-graphs : goal.returns-clause-graphs
returns-clause-graphs c = graphs_stay_graphs

pub returns-clause-ids : goal.returns-clause-ids
returns-clause-ids c = ids_are_given_once

pub returns-clause-room : goal.returns-clause-room
returns-clause-room c = room_is_kept
