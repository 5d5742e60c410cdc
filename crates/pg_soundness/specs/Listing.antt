-- What the walks of a row list, and in which order.
use Rattle.std.specs.Prelude.{◌≡◌, Bool, List, [], Option, Ok}
use Rattle.pg_meaning.specs.Graph.{Graph, IsGraph}
use Rattle.pg_meaning.specs.Listings.{IsListing}
use Rattle.pg_meaning.specs.Names.{Names}
use Rattle.pg_meaning.specs.Plans.{Anchor, ArePlanned, leading_of}
use Rattle.pg_meaning.specs.Rows.{Row}
use Rattle.pg_meaning.specs.StaticFaults.{clause_faults}
use Rattle.pg_meaning.specs.Tree.{Expression, PathPattern, match_paths}
use Rattle.pg_meaning.specs.Value.{Entries}
use Rattle.pg_meaning.specs.Walks.{PathWanted, paths_wanted, walks}

-- the walks of any paths over any anchors of a plan are the assignments that fit and that the anchors reach, each once, rising by their walks
abbrev pub WalksAreTheListing : Type 0
WalksAreTheListing =
    (scope : Names) (is_optional : Bool) (paths : List PathPattern) (where_ : Option Expression) (anchors : List Anchor) (parameters : Entries) (graph : Graph) (row : Row) (wanted : List PathWanted)
    → IsGraph graph → clause_faults scope (match_paths is_optional paths where_) ≡ [] → ArePlanned scope (match_paths is_optional paths where_) anchors → paths_wanted row parameters graph paths ≡ Ok wanted
    → IsListing anchors (leading_of scope paths where_) paths parameters graph row (walks graph parameters (leading_of scope paths where_) wanted anchors row).0
