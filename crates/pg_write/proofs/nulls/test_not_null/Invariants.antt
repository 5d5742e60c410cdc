use Rattle.std.proofs.Common.{◌≡◌, drop, map}
use Rattle.std.specs.List.{list_any}
use Rattle.pg_match_stages.specs.View.{wanted_path}
use Rattle.pg_meaning.specs.Updates.{wants_null}
use Rattle.pg_write.proofs.nulls.test_not_null.Given as goal

abbrev pub invariant-loop-path : goal.invariant-loop-path
invariant-loop-path l = list_any wants_null (map wanted_path l.paths) ≡ list_any wants_null (map wanted_path (drop l.path-index l.paths))
