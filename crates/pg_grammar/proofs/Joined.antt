-- The laws of the grammar's parts, each joined to those that it rests on.
use Rattle.pg_meaning.specs.Parse.{ReadsExactly, OneReading}
use Rattle.pg_grammar.specs.Rules.{ExpressionsAreExact, PathsAreExact, ReadingClausesAreExact, UpdatingClausesAreExact}
use Rattle.pg_grammar.proofs.Clauses.{reading_exact, updating_exact}
use Rattle.pg_grammar.proofs.Expressions.{expressions_exact}
use Rattle.pg_grammar.proofs.Labels.{labels_exact}
use Rattle.pg_grammar.proofs.Maps.{pairs_exact}
use Rattle.pg_grammar.proofs.OneReadings as readings
use Rattle.pg_grammar.proofs.Openings.{opened}
use Rattle.pg_grammar.proofs.Paths.{paths_exact}
use Rattle.pg_grammar.proofs.Queries as queries

pub expressions : ExpressionsAreExact
expressions = expressions_exact pairs_exact

pub paths : PathsAreExact
paths = paths_exact expressions

pub reading : ReadingClausesAreExact
reading = reading_exact expressions paths

pub updating : UpdatingClausesAreExact
updating = updating_exact expressions paths labels_exact

pub reads_exactly : ReadsExactly
reads_exactly = queries.reads_exactly expressions opened reading updating

pub one_reading : OneReading
one_reading = readings.one_reading expressions opened reading updating
