-- The walks of a row are the listing of what fits and begins at the anchors.
use Rattle.std.proofs.Common.{◌≡◌, ℕ, suc, List, [], ◌∷◌, map, flat_map, length, Some, Ok, refl, sym, ap, subst}
use Rattle.std.specs.List.{AllZip, zip}
use Rattle.pg_meaning.specs.Graph.{Graph, IsGraph}
use Rattle.pg_meaning.specs.Listings.{AnchorsHold, IsListing}
use Rattle.pg_meaning.specs.Lists.{IsIn, IsListOf}
use Rattle.pg_meaning.specs.ListsLaws.{all_weaker}
use Rattle.pg_meaning.specs.Names.{Names}
use Rattle.pg_meaning.specs.Patterns.{Fits, Assignment, node_name, nodes_of}
use Rattle.pg_meaning.specs.Plans.{Anchor, Fixed, IsAnchorOf, leading_of}
use Rattle.pg_meaning.specs.Rows.{Row}
use Rattle.pg_meaning.specs.StaticFaults.{matching, path_parts, paths_faults}
use Rattle.pg_meaning.specs.Tree.{NodePattern, PathPattern}
use Rattle.pg_meaning.specs.Value.{Entries}
use Rattle.pg_meaning.specs.Walks.{PathWanted, paths_wanted, walks}
use Rattle.pg_soundness.proofs.ListingAnchors.{anchors_both}
use Rattle.pg_soundness.proofs.ListingNames.{row_naming}
use Rattle.pg_soundness.proofs.ListingRising.{walks_rise, zipped_anchors}
use Rattle.pg_soundness.proofs.MatchAssignments.{IsWanted, Wanting, all_wanting, IsWalked, keyed_fits, fits_keyed, walks_listed}
use Rattle.pg_soundness.proofs.MatchBindings.{NoOther}
use Rattle.pg_soundness.proofs.MatchPaths.{Placed, trail_by}
use Rattle.pg_soundness.proofs.MatchScopes.{first_none, no_other, node_among_parts}
use Rattle.pg_soundness.proofs.MatchWanted.{are_paths}
use Rattle.pg_soundness.specs.Listing.{WalksAreTheListing}

as_many : {A B C : Type 0} (R : A → B → Type 0) (S : A → C → Type 0) (xs : List A) (ys : List B) (zs : List C) → AllZip R xs ys → AllZip S xs zs → length ys ≡ length zs
as_many R S [] [] [] g h = refl
as_many R S [] [] (z ∷ zs) g h = absurd h
as_many R S [] (y ∷ ys) zs g h = absurd g
as_many R S (x ∷ xs) [] zs g h = absurd g
as_many R S (x ∷ xs) (y ∷ ys) [] g h = absurd h
as_many R S (x ∷ xs) (y ∷ ys) (z ∷ zs) g h = ap suc (as_many R S xs ys zs g.1 h.1)

module _ (scope : Names) (paths : List PathPattern) (leads : List Fixed) (anchors : List Anchor) (parameters : Entries) (graph : Graph) (row : Row) (g : IsGraph graph) (faultless : paths_faults matching scope paths ≡ []) (planned : AllZip (IsAnchorOf leads) paths anchors) (ps : List PathWanted) (wanted : paths_wanted row parameters graph paths ≡ Ok ps) where
  abbrev placed : List Placed
  placed = zip ps anchors

  are_wanted : AllZip (IsWanted parameters graph row) paths ps
  are_wanted = are_paths parameters graph row paths ps wanted

  wanting : AllZip (Wanting parameters graph row leads) paths placed
  wanting = all_wanting parameters graph row leads paths ps anchors are_wanted planned

  as_long : length ps ≡ length anchors
  as_long = as_many (IsWanted parameters graph row) (IsAnchorOf leads) paths ps anchors are_wanted planned

  abbrev IsReached : Assignment → Type 0
  IsReached a = IsWalked parameters graph row leads paths placed wanting a

  abbrev Holds : Assignment → Type 0
  Holds a = AnchorsHold leads parameters graph (map (λ b. b.0) row) anchors paths a

  abbrev IsListed : Assignment → Type 0
  IsListed a = Fits paths parameters graph row a × Holds a

  -- the name of a node, which no relationship and no path has
  abbrev IsNodes : List ℕ → Type 0
  IsNodes q = NoOther q (flat_map path_parts paths)

  are_nodes : (x : PathPattern) → IsIn x paths → (n : NodePattern) → IsIn n (nodes_of x) → (q : List ℕ) → node_name n ≡ Some q → IsNodes q
  are_nodes x i n j q e = let part = node_among_parts paths x n i j in no_other scope q (flat_map path_parts paths) (record { nodes = []; others = [] }) faultless part.0 n part.1 e

  listed_reached : (a : Assignment) → IsReached a → IsListed a
  listed_reached a r =
      let fits = keyed_fits parameters graph row leads paths placed wanting r.0 (r.2.0, r.2.2, r.2.3) in
      let both = anchors_both parameters graph row g leads IsNodes paths placed r.0 [] (map (λ b. b.0) row) wanting r.2.0 r.2.2 (row_naming parameters graph row IsNodes) (λ q i. i) are_nodes in
      subst IsListed (sym r.1) (fits, subst (λ as_. AnchorsHold leads parameters graph (map (λ b. b.0) row) as_ paths (map trail_by r.0)) (zipped_anchors ps anchors as_long) (both.0 r.2.1))

  reached_listed : (a : Assignment) → IsListed a → IsReached a
  reached_listed a l =
      let k = fits_keyed parameters graph row leads paths placed wanting a l.0 in
      let both = anchors_both parameters graph row g leads IsNodes paths placed k.0 [] (map (λ b. b.0) row) wanting k.2.0 k.2.1 (row_naming parameters graph row IsNodes) (λ q i. i) are_nodes in
      let holds = subst (λ as_. AnchorsHold leads parameters graph (map (λ b. b.0) row) as_ paths (map trail_by k.0)) (sym (zipped_anchors ps anchors as_long)) (subst Holds k.1 l.1) in
      (k.0, k.1, (k.2.0, both.1 holds, k.2.1, k.2.2))

  pub are_the_listing : IsListing anchors leads paths parameters graph row (walks graph parameters leads ps anchors row).0
  are_the_listing = record {
    all = record {
      each = all_weaker IsReached IsListed listed_reached listed are.each;
      every = λ a l. are.every a (reached_listed a l);
      once = are.once;
    };
    rising = walks_rise graph g parameters leads ps anchors row as_long;
  }
    where
      listed : List Assignment
      listed = (walks graph parameters leads ps anchors row).0

      are : IsListOf IsReached listed
      are = walks_listed parameters graph row g leads paths ps anchors wanting

pub walks_are_the_listing : WalksAreTheListing
walks_are_the_listing scope is_optional paths where_ anchors parameters graph row ps g faults planned wanted =
    are_the_listing scope paths (leading_of scope paths where_) anchors parameters graph row g (first_none (paths_faults matching scope paths) _ faults) planned ps wanted
