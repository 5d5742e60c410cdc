-- RETURN stands last in a query, if it has one.
use Rattle.std.specs.Prelude.{◌≡◌, cond, [], fold}
use Rattle.pg_meaning.specs.Names.{Names}
use Rattle.pg_meaning.specs.Queries.{returns}
use Rattle.pg_meaning.specs.Scopes.{scope_after, columns}
use Rattle.pg_meaning.specs.Tree.{Query}

-- the names in scope behind all clauses
abbrev pub names_behind : Query → Names
names_behind q = fold scope_after [] q.clauses

-- so its columns are the names behind all clauses
abbrev pub ReturnsLast : Query → Type 0
ReturnsLast q = columns q ≡ cond (returns q.clauses) (names_behind q) []
