use Rattle.pg_meaning.specs.GraphLaws.{add_relationship_keeps_graph, add_relationship_adds, change_relationship_keeps_graph, change_relationship_changes}
use Rattle.pg_meaning.proofs.laws.law_of_relationships.Goals as goal

pub returns-clause-add_keeps : goal.returns-clause-add_keeps
returns-clause-add_keeps c = add_relationship_keeps_graph

pub returns-clause-add : goal.returns-clause-add
returns-clause-add c = add_relationship_adds

pub returns-clause-change_keeps : goal.returns-clause-change_keeps
returns-clause-change_keeps c = change_relationship_keeps_graph

pub returns-clause-change : goal.returns-clause-change
returns-clause-change c = change_relationship_changes
