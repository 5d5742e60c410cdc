-- Without a WHERE the walks list exactly what fits.
use Rattle.std.proofs.Common.{inl, inr, ◌⊎◌, List, [], sym, subst}
use Rattle.std.specs.List.{AllZip, zip}
use Rattle.pg_meaning.specs.Lists.{IsListOf}
use Rattle.pg_meaning.specs.ListsLaws.{all_weaker}
use Rattle.pg_meaning.specs.Patterns.{Fits, Assignment}
use Rattle.pg_meaning.specs.Walks.{walks}
use Rattle.pg_soundness.proofs.MatchAnchors.{walked_or_else}
use Rattle.pg_soundness.proofs.MatchAssignments.{Wanting, all_wanting, IsWalked, keyed_fits, walks_listed}
use Rattle.pg_soundness.proofs.MatchPaths.{Placed}
use Rattle.pg_soundness.proofs.MatchWanted.{are_paths}
use Rattle.pg_soundness.specs.Matching.{WalksListFits}

pub walks_list_fits : WalksListFits
walks_list_fits parameters graph row paths wanted anchors g evaluated planned = record {
  each = all_weaker IsReached (Fits paths parameters graph row) (λ a r. reached_fits a r) (walks graph parameters [] wanted anchors row).0 listed.each;
  every = λ a f. listed.every a (reached a f (walked_or_else parameters graph row [] paths a f ⊥ (λ x i n e present named. absurd i) placed wanting));
  once = listed.once;
}
  where
    placed : List Placed
    placed = zip wanted anchors

    wanting : AllZip (Wanting parameters graph row []) paths placed
    wanting = all_wanting parameters graph row [] paths wanted anchors (are_paths parameters graph row paths wanted evaluated) planned

    IsReached : Assignment → Type 0
    IsReached a = IsWalked parameters graph row [] paths placed wanting a

    listed : IsListOf IsReached (walks graph parameters [] wanted anchors row).0
    listed = walks_listed parameters graph row g [] paths wanted anchors wanting

    reached_fits : (a : Assignment) → IsReached a → Fits paths parameters graph row a
    reached_fits a r = subst (Fits paths parameters graph row) (sym r.1) (keyed_fits parameters graph row [] paths placed wanting r.0 (r.2.0, r.2.2, r.2.3))

    reached : (a : Assignment) → Fits paths parameters graph row a → IsReached a ⊎ ⊥ → IsReached a
    reached a f (inl r) = r
    reached a f (inr never) = absurd never
