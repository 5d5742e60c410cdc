-- The query that was checked.
use Rattle.pg_meaning.specs.Tree.{Query}
use Rattle.pg_scope.specs.declared.scoped.Scoped.{Scoped}
use Rattle.pg_syntax_tree.specs.View.{query_view}

abbrev pub scoped_query : Scoped → Query
scoped_query s = query_view s.query
