-- MATCH agrees with its meaning, and its walks list what fits.
use Rattle.std.specs.Prelude.{◌≡◌, Bool, List, [], Option, Ok}
use Rattle.std.specs.List.{AllZip}
use Rattle.pg_meaning.specs.Agreement.{ClauseAgrees}
use Rattle.pg_meaning.specs.Graph.{Graph, IsGraph}
use Rattle.pg_meaning.specs.Lists.{IsListOf}
use Rattle.pg_meaning.specs.Patterns.{Fits}
use Rattle.pg_meaning.specs.Plans.{Anchor, IsAnchorOf}
use Rattle.pg_meaning.specs.Rows.{Row}
use Rattle.pg_meaning.specs.Tree.{Expression, PathPattern, match_paths}
use Rattle.pg_meaning.specs.Value.{Entries}
use Rattle.pg_meaning.specs.Walks.{PathWanted, paths_wanted, walks}

-- whatever anchors a plan has where no conjunct fixes a property: each assignment that fits is listed, once, and no other
abbrev pub WalksListFits : Type 0
WalksListFits =
    (parameters : Entries) (graph : Graph) (row : Row) (paths : List PathPattern) (wanted : List PathWanted) (anchors : List Anchor) → IsGraph graph → paths_wanted row parameters graph paths ≡ Ok wanted → AllZip (IsAnchorOf []) paths anchors
    → IsListOf (Fits paths parameters graph row) (walks graph parameters [] wanted anchors row).0

-- MATCH and OPTIONAL MATCH of any paths, over whatever anchors a plan of them has
abbrev pub MatchAgrees : Type 0
MatchAgrees = (is_optional : Bool) (paths : List PathPattern) (where_ : Option Expression) → ClauseAgrees (match_paths is_optional paths where_)
