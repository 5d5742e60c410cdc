use Rattle.pg_scope.proofs.used.add_relationship_variable.Goals as goal

pub returns-in-Some : goal.returns-in-Some
returns-in-Some c = rw c.in-Some.is c.add_variable.ensures
