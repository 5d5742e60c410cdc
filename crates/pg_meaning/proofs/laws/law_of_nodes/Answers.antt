use Rattle.pg_meaning.specs.GraphLaws.{empty_is_graph, add_node_keeps_graph, add_node_adds, change_node_keeps_graph, change_node_changes}
use Rattle.pg_meaning.proofs.laws.law_of_nodes.Goals as goal

pub returns-clause-empty : goal.returns-clause-empty
returns-clause-empty c = empty_is_graph

pub returns-clause-add_keeps : goal.returns-clause-add_keeps
returns-clause-add_keeps c = add_node_keeps_graph

pub returns-clause-add : goal.returns-clause-add
returns-clause-add c = add_node_adds

pub returns-clause-change_keeps : goal.returns-clause-change_keeps
returns-clause-change_keeps c = change_node_keeps_graph

pub returns-clause-change : goal.returns-clause-change
returns-clause-change c = change_node_changes
