use Rattle.pg_meaning.specs.GraphLaws.{remove_keeps_graph, remove_removes}
use Rattle.pg_meaning.proofs.laws.law_of_removal.Goals as goal

pub returns-clause-keeps : goal.returns-clause-keeps
returns-clause-keeps c = remove_keeps_graph

pub returns-clause-removes : goal.returns-clause-removes
returns-clause-removes c = remove_removes
