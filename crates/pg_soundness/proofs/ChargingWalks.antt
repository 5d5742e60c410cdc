-- What the walks charge is what their places charge, and so the cost.
use Rattle.std.proofs.Common.{◌≡◌, ℕ, zero, suc, ◌+◌, ◌-◌, ◌≤◌, ◌<◌, nat_le, Bool, true, false, ◌&&◌, List, [], ◌∷◌, ◌++◌, map, flat_map, length, Option, Some, None, reverse, slice_get, sum, refl, sym, ap, subst, ◌∙◌, arith}
use Rattle.std.proofs.lemmas.Bool.Decides.{nat_tests}
use Rattle.std.proofs.lemmas.List.{append_assoc}
use Rattle.std.specs.List.{AllByRecursion, AllZip, zip}
use Rattle.pg_meaning.specs.Cost.{Place, at_anchor, over_hop, over_range, place_of, hop_places, path_places, places_of, most_at, Reached, origin, WalksChargeTheCost, beginnings}
use Rattle.pg_meaning.specs.Graph.{Graph, incident, Way}
use Rattle.pg_meaning.specs.Patterns.{node_name, single, way_of, range_of}
use Rattle.pg_meaning.specs.Plans.{Anchor, Fixed}
use Rattle.pg_meaning.specs.Rows.{Row, bind_if_named}
use Rattle.pg_meaning.specs.Value.{node, Entries}
use Rattle.pg_meaning.specs.Walks.{Listing, each_listing, and_then, NodeWanted, HopWanted, PathWanted, node_fits, relationship_fits, end_of, Reach, arrive, try_hop, fixed_hop, Stretch, extend, extensions, stretches, stretch_bond, end_range, range_hop, way_walked, one_hop, all_hops, wanted_nodes, rightwards, leftwards, candidates, PathsWalked, trail_of, from_anchor, left_walks, path_walks, walks_from}
use Rattle.pg_soundness.proofs.ChargingPlaces.{room, room_is, after, end_charge, range_charge, charge, weighed, weight_is_charge}
use Rattle.pg_soundness.proofs.ChargingSums.{total, total_same, total_if, charged, charged_same, charged_each, charged_then, steps_then, only_one}
use Rattle.pg_soundness.proofs.MatchHops.{Arrival}

module _ (graph : Graph) (parameters : Entries) (leads : List Fixed) where
  abbrev charges : List Place → Reached → ℕ
  charges ps x = charge graph parameters leads ps x

  -- what is charged behind what a hop found
  abbrev behind : List Place → (anchor : ℕ) → Reach → ℕ
  behind ps anchor r = charges ps (record { row = r.row; used = r.used; anchor = anchor; at = r.at })

  -- one step, and what one that fits charges
  one_step : {X : Type 0} (k : X → ℕ) (b : Bool) (x : X) → charged (elim b as (λ c. List X) [ true ↦ x ∷ [] | false ↦ [] ], 1) k ≡ 1 + elim b as (λ c. ℕ) [ true ↦ k x | false ↦ 0 ]
  one_step k b x = ap (λ n. 1 + n) (total_if k b x)

  -- ---- ranges

  module _ (is_leftwards : Bool) (way : Way) (hop : HopWanted) (target : NodeWanted) (ps : List Place) (anchor floor : ℕ) (reach : Reach) where
    abbrev here : Reached → ℕ
    here x = charges ps x

    abbrev ended : Stretch → Listing Reach
    ended s = (end_range graph is_leftwards floor target reach s, 0)

    abbrev later : Stretch → ℕ
    later s = charged (ended s) (behind ps anchor)

    reached_least : (a b : ℕ) → 0 ≡ a - b → nat_le a b ≡ true
    reached_least a b e = grind (arith, nat_tests)

    under_least : (a b l : ℕ) → suc l ≡ a - b → nat_le a b ≡ false
    under_least a b l e = grind (arith, nat_tests)

    end_is : (least : ℕ) (s : Stretch) → least ≡ floor - length s.rs → end_charge graph parameters leads here target reach.row anchor least s.used s.at ≡ later s
    end_is zero s e =
        ap (λ b. elim (b && node_fits graph reach.row target s.at) as (λ c. ℕ) [ true ↦ here (after graph parameters leads target reach.row anchor s.used s.at) | false ↦ 0 ]) (sym (reached_least floor (length s.rs) e))
        ∙ sym (total_if (behind ps anchor) (nat_le floor (length s.rs) && node_fits graph reach.row target s.at) (arrive target s.used (stretch_bond is_leftwards s.rs) s.at reach))
        ∙ none_more (total (behind ps anchor) (end_range graph is_leftwards floor target reach s))
      where
        none_more : (n : ℕ) → n ≡ 0 + n
        none_more n = omega arith
    end_is (suc least) s e =
        ap (λ b. elim (b && node_fits graph reach.row target s.at) as (λ c. ℕ) [ true ↦ here (after graph parameters leads target reach.row anchor s.used s.at) | false ↦ 0 ]) (sym (under_least floor (length s.rs) least e))
        ∙ sym (total_if (behind ps anchor) (nat_le floor (length s.rs) && node_fits graph reach.row target s.at) (arrive target s.used (stretch_bond is_leftwards s.rs) s.at reach))
        ∙ none_more (total (behind ps anchor) (end_range graph is_leftwards floor target reach s))
      where
        none_more : (n : ℕ) → n ≡ 0 + n
        none_more n = omega arith

    abbrev longer : Stretch → ℕ → Stretch
    longer s r = record { used = r ∷ s.used; at = end_of graph s.at r; rs = r ∷ s.rs }

    stretches_charge : (more least : ℕ) (s : Stretch) → least ≡ floor - length s.rs → range_charge graph parameters leads here way hop target reach.row anchor more least s.used s.at ≡ charged (stretches graph way hop more s) later
    stretches_charge zero least s e = end_is least s e ∙ only_one (later s)
    stretches_charge (suc more) least s e =
        grown (λ r. stretches_charge more (least - 1) (longer s r) (shorter least floor (length s.rs) e))
      where
        shorter : (l f n : ℕ) → l ≡ f - n → l - 1 ≡ f - suc n
        shorter l f n e = omega (arith, e)

        rest : Listing Stretch
        rest = and_then (extensions graph way hop s) (λ t. stretches graph way hop more t)

        by_range : ℕ → ℕ
        by_range c = range_charge graph parameters leads here way hop target reach.row anchor more (least - 1) (c ∷ s.used) (end_of graph s.at c)

        by_relationship : ℕ → ℕ
        by_relationship c = 1 + elim (relationship_fits graph s.used hop c) as (λ b. ℕ) [ true ↦ by_range c | false ↦ 0 ]

        by_stretch : ℕ → ℕ
        by_stretch r = charged (stretches graph way hop more (longer s r)) later

        rearranged : (a b t m n : ℕ) → a ≡ b → m + n ≡ t → a + t ≡ (0 + m) + (b + n)
        rearranged a b t m n e h = omega (arith, e, h)

        by_fit : (r : ℕ) (b : Bool) → by_range r ≡ by_stretch r → 1 + elim b as (λ b. ℕ) [ true ↦ by_stretch r | false ↦ 0 ] ≡ 1 + elim b as (λ b. ℕ) [ true ↦ by_range r | false ↦ 0 ]
        by_fit r true again = ap (λ n. 1 + n) (sym again)
        by_fit r false again = refl

        extended : ((r : ℕ) → by_range r ≡ by_stretch r) → charged rest later ≡ total by_relationship (incident way s.at graph)
        extended again =
            charged_then (extensions graph way hop s) (λ t. stretches graph way hop more t) later
            ∙ charged_each (λ r. (extend graph hop s r, 1)) (λ t. charged (stretches graph way hop more t) later) (incident way s.at graph)
            ∙ total_same (λ r. charged (extend graph hop s r, 1) (λ t. charged (stretches graph way hop more t) later)) by_relationship
            (λ r. one_step (λ t. charged (stretches graph way hop more t) later) (relationship_fits graph s.used hop r) (longer s r) ∙ by_fit r (relationship_fits graph s.used hop r) (again r)) (incident way s.at graph)

        grown : ((r : ℕ) → by_range r ≡ by_stretch r) → range_charge graph parameters leads here way hop target reach.row anchor (suc more) least s.used s.at ≡ charged (stretches graph way hop (suc more) s) later
        grown again = rearranged (end_charge graph parameters leads here target reach.row anchor least s.used s.at) (later s) (total by_relationship (incident way s.at graph)) rest.1 (total later rest.0) (end_is least s e) (extended again)

  -- ---- hops

  abbrev reach_at : Reached → ℕ → List Arrival → Reach
  reach_at x at walked = record { row = x.row; used = x.used; at = at; walked = walked }

  hop_charge : (is_leftwards again : Bool) (h : HopWanted × NodeWanted) (ps : List Place) (x : Reached) (walked : List Arrival)
      → charges (place_of is_leftwards again h ∷ ps) x ≡ charged (one_hop graph is_leftwards h (reach_at x (origin again x) walked)) (behind ps x.anchor)
  hop_charge is_leftwards again h ps x walked =
      elim (range_of h.0.pattern) as (λ o. charges (elim o as (λ o. Place) [ None ↦ over_hop again way h.0 h.1 | Some bounds ↦ over_range again way bounds.0 bounds.1 h.0 h.1 ] ∷ ps) x
      ≡ charged (elim o as (λ o. Listing Reach) [ None ↦ fixed_hop graph way h.0 h.1 reach | Some bounds ↦ range_hop graph is_leftwards way bounds h.0 h.1 reach ]) (behind ps x.anchor)) [
        | None ↦ sym fixed
        | Some bounds ↦ ranged bounds
      ]
    where
      way : Way
      way = way_walked is_leftwards (way_of h.0.pattern)

      reach : Reach
      reach = reach_at x (origin again x) walked

      fixed : charged (fixed_hop graph way h.0 h.1 reach) (behind ps x.anchor) ≡ charges (over_hop again way h.0 h.1 ∷ ps) x
      fixed =
          charged_each (λ r. (try_hop graph h.0 h.1 reach r, 1)) (behind ps x.anchor) (incident way (origin again x) graph)
          ∙ total_same (λ r. charged (try_hop graph h.0 h.1 reach r, 1) (behind ps x.anchor)) _
          (λ r. one_step (behind ps x.anchor) (relationship_fits graph x.used h.0 r && node_fits graph x.row h.1 (end_of graph (origin again x) r)) (arrive h.1 (r ∷ x.used) (single r) (end_of graph (origin again x) r) reach))
          (incident way (origin again x) graph)

      ranged : (bounds : ℕ × ℕ) → charges (over_range again way bounds.0 bounds.1 h.0 h.1 ∷ ps) x ≡ charged (range_hop graph is_leftwards way bounds h.0 h.1 reach) (behind ps x.anchor)
      ranged bounds =
          stretches_charge is_leftwards way h.0 h.1 ps x.anchor bounds.0 reach bounds.1 bounds.0 empty (all_left bounds.0)
          ∙ sym (charged_then (stretches graph way h.0 bounds.1 empty) (λ s. (end_range graph is_leftwards bounds.0 h.1 reach s, 0)) (behind ps x.anchor))
        where
          empty : Stretch
          empty = record { used = reach.used; at = reach.at; rs = [] }

          all_left : (n : ℕ) → n ≡ n - 0
          all_left n = omega arith

  hops_charge : (is_leftwards : Bool) (hs : List (HopWanted × NodeWanted)) (ps : List Place) (x : Reached) (walked : List Arrival)
      → charges (hop_places is_leftwards false hs ++ ps) x ≡ charged (all_hops graph is_leftwards hs (reach_at x x.at walked)) (behind ps x.anchor)
  hops_charge is_leftwards [] ps x walked = only_one (charges ps x)
  hops_charge is_leftwards (h ∷ hs) ps x walked =
      hop_charge is_leftwards false h (hop_places is_leftwards false hs ++ ps) x walked
      ∙ charged_same (one_hop graph is_leftwards h (reach_at x x.at walked)) (behind (hop_places is_leftwards false hs ++ ps) x.anchor) (λ r. charged (all_hops graph is_leftwards hs r) (behind ps x.anchor))
      (λ r. hops_charge is_leftwards hs ps (record { row = r.row; used = r.used; anchor = x.anchor; at = r.at }) r.walked)
      ∙ sym (charged_then (one_hop graph is_leftwards h (reach_at x x.at walked)) (λ next. all_hops graph is_leftwards hs next) (behind ps x.anchor))

  -- ---- from the anchor again

  -- where the walk of a path begins it does not matter where the one before ended
  abbrev BeginsAnew : List Place → Type 0
  BeginsAnew ps = (row : Row) (used : List ℕ) (a b c d : ℕ) → charges ps (record { row = row; used = used; anchor = a; at = b }) ≡ charges ps (record { row = row; used = used; anchor = c; at = d })

  abbrev anew : List Place → Row → List ℕ → ℕ
  anew ps row used = charges ps (record { row = row; used = used; anchor = 0; at = 0 })

  again_charge : (is_leftwards : Bool) (hs : List (HopWanted × NodeWanted)) (ps : List Place) → BeginsAnew ps → (x : Reached) (walked : List Arrival)
      → charges (hop_places is_leftwards true hs ++ ps) x ≡ charged (all_hops graph is_leftwards hs (reach_at x x.anchor walked)) (λ r. anew ps r.row r.used)
  again_charge is_leftwards [] ps b x walked = b x.row x.used x.anchor x.at 0 0 ∙ only_one (anew ps x.row x.used)
  again_charge is_leftwards (h ∷ hs) ps b x walked =
      hop_charge is_leftwards true h (hop_places is_leftwards false hs ++ ps) x walked
      ∙ charged_same (one_hop graph is_leftwards h (reach_at x x.anchor walked)) (behind (hop_places is_leftwards false hs ++ ps) x.anchor) (λ r. charged (all_hops graph is_leftwards hs r) (λ l. anew ps l.row l.used))
      (λ r. hops_charge is_leftwards hs ps (record { row = r.row; used = r.used; anchor = x.anchor; at = r.at }) r.walked
      ∙ charged_same (all_hops graph is_leftwards hs r) (behind ps x.anchor) (λ l. anew ps l.row l.used) (λ l. b l.row l.used x.anchor l.at 0 0))
      ∙ sym (charged_then (one_hop graph is_leftwards h (reach_at x x.anchor walked)) (λ next. all_hops graph is_leftwards hs next) (λ r. anew ps r.row r.used))

  -- ---- one path

  module _ (p : PathWanted × Anchor) (w : NodeWanted) (placed : slice_get (wanted_nodes p.0) p.1.place ≡ Some w) (ps : List Place) (b : BeginsAnew ps) (found : PathsWalked) where
    abbrev lefts : List Place
    lefts = hop_places true true (leftwards p.0 p.1.place)

    abbrev rights : List Place
    rights = hop_places false false (rightwards p.0 p.1.place)

    abbrev next_charge : PathsWalked → ℕ
    next_charge next = anew ps next.row next.used

    abbrev back : Reach → Reach → Reach
    back f right = record { row = right.row; used = right.used; at = f.at; walked = [] }

    abbrev whole : Reach → Reach → Reach → Listing PathsWalked
    whole f right left = (record { row = left.row; used = left.used; trails = found.trails ++ (trail_of f.at left.walked (reverse right.walked) ∷ []) } ∷ [], 0)

    left_charge : (f right : Reach) → charges (lefts ++ ps) (record { row = right.row; used = right.used; anchor = f.at; at = right.at }) ≡ charged (left_walks graph p.0 p.1 found.trails f right) next_charge
    left_charge f right =
        again_charge true (leftwards p.0 p.1.place) ps b (record { row = right.row; used = right.used; anchor = f.at; at = right.at }) []
        ∙ charged_same (all_hops graph true (leftwards p.0 p.1.place) (back f right)) (λ r. anew ps r.row r.used) (λ l. charged (whole f right l) next_charge) (λ l. only_one (anew ps l.row l.used))
        ∙ sym (charged_then (all_hops graph true (leftwards p.0 p.1.place) (back f right)) (whole f right) next_charge)

    abbrev sides : Reach → Listing PathsWalked
    sides f = and_then (all_hops graph false (rightwards p.0 p.1.place) f) (left_walks graph p.0 p.1 found.trails f)

    abbrev first_reach : ℕ → Reach
    first_reach c = record { row = bind_if_named (node_name w.pattern) (node c) found.row; used = found.used; at = c; walked = [] }

    sides_charge : (c : ℕ) → charges ((rights ++ lefts) ++ ps) (after graph parameters leads w found.row c found.used c) ≡ charged (sides (first_reach c)) next_charge
    sides_charge c =
        ap (λ qs. charges qs (after graph parameters leads w found.row c found.used c)) (append_assoc rights lefts ps)
        ∙ hops_charge false (rightwards p.0 p.1.place) (lefts ++ ps) (after graph parameters leads w found.row c found.used c) []
        ∙ charged_same (all_hops graph false (rightwards p.0 p.1.place) (first_reach c)) (behind (lefts ++ ps) c) (λ right. charged (left_walks graph p.0 p.1 found.trails (first_reach c) right) next_charge) (λ right. left_charge (first_reach c) right)
        ∙ sym (charged_then (all_hops graph false (rightwards p.0 p.1.place) (first_reach c)) (left_walks graph p.0 p.1 found.trails (first_reach c)) next_charge)

    abbrev firsts : Listing Reach
    firsts = each_listing (λ c. (from_anchor graph found.row found.used w c, 1)) (candidates graph parameters leads found.row p.1 w)

    by_fit : (c : ℕ) (t : Bool) → 1 + elim t as (λ t. ℕ) [ true ↦ charged (sides (first_reach c)) next_charge | false ↦ 0 ] ≡ 1 + elim t as (λ t. ℕ) [ true ↦ charges ((rights ++ lefts) ++ ps) (after graph parameters leads w found.row c found.used c) | false ↦ 0 ]
    by_fit c true = ap (λ n. 1 + n) (sym (sides_charge c))
    by_fit c false = refl

    firsts_charge : charged (and_then firsts sides) next_charge ≡ charges (at_anchor p.1 w ∷ ((rights ++ lefts) ++ ps)) (record { row = found.row; used = found.used; anchor = 0; at = 0 })
    firsts_charge =
        charged_then firsts sides next_charge
        ∙ charged_each (λ c. (from_anchor graph found.row found.used w c, 1)) (λ f. charged (sides f) next_charge) (candidates graph parameters leads found.row p.1 w)
        ∙ total_same (λ c. charged (from_anchor graph found.row found.used w c, 1) (λ f. charged (sides f) next_charge)) _
        (λ c. one_step (λ f. charged (sides f) next_charge) (node_fits graph found.row w c) (first_reach c) ∙ by_fit c (node_fits graph found.row w c))
        (candidates graph parameters leads found.row p.1 w)

    abbrev walks_by : Option NodeWanted → Listing PathsWalked
    walks_by o = elim o as (λ o. Listing PathsWalked) [
      | None ↦ ([], 0)
      | Some v ↦ and_then (each_listing (λ c. (from_anchor graph found.row found.used v c, 1)) (candidates graph parameters leads found.row p.1 v)) sides
    ]

    abbrev places_by : Option NodeWanted → List Place
    places_by o = elim o as (λ o. List Place) [ None ↦ [] | Some v ↦ at_anchor p.1 v ∷ (rights ++ lefts) ]

    path_charge : charged (path_walks graph parameters leads p.0 p.1 found) next_charge ≡ charges (path_places p ++ ps) (record { row = found.row; used = found.used; anchor = 0; at = 0 })
    path_charge = subst (λ o. charged (walks_by o) next_charge ≡ charges (places_by o ++ ps) (record { row = found.row; used = found.used; anchor = 0; at = 0 })) (sym placed) firsts_charge

    path_anew : BeginsAnew (path_places p ++ ps)
    path_anew = subst (λ o. BeginsAnew (places_by o ++ ps)) (sym placed) (λ row used i j k l. refl)

  -- ---- all paths

  abbrev IsWithin : PathWanted × Anchor → Type 0
  IsWithin p = (w : NodeWanted) × (slice_get (wanted_nodes p.0) p.1.place ≡ Some w)

  places_anew : (ps : List (PathWanted × Anchor)) → AllByRecursion IsWithin ps → BeginsAnew (flat_map path_places ps)
  places_anew [] h = λ row used i j k l. refl
  places_anew (p ∷ ps) h = path_anew p h.0.0 h.0.1 (flat_map path_places ps) (places_anew ps h.1) (record { row = []; used = []; trails = [] })

  from_charge : (ps : List (PathWanted × Anchor)) → AllByRecursion IsWithin ps → (found : PathsWalked) → (walks_from graph parameters leads ps found).1 ≡ anew (flat_map path_places ps) found.row found.used
  from_charge [] h found = refl
  from_charge (p ∷ ps) h found =
      steps_then (path_walks graph parameters leads p.0 p.1 found) (λ next. walks_from graph parameters leads ps next)
      ∙ charged_same (path_walks graph parameters leads p.0 p.1 found) (λ next. (walks_from graph parameters leads ps next).1) (λ next. anew (flat_map path_places ps) next.row next.used) (λ next. from_charge ps h.1 next)
      ∙ path_charge p h.0.0 h.0.1 (flat_map path_places ps) (places_anew ps h.1) found

pub got_below : {X : Type 0} (xs : List X) (i : ℕ) → i < length xs → (x : X) × (slice_get xs i ≡ Some x)
got_below [] i h = absurd (none_below i h)
  where
    none_below : (i : ℕ) → i < 0 → ⊥
    none_below i h = omega (arith, h)
got_below (x ∷ xs) zero h = (x, refl)
got_below (x ∷ xs) (suc i) h = got_below xs i (less_one i (length xs) h)
  where
    less_one : (a b : ℕ) → suc a < suc b → a < b
    less_one a b h = omega (arith, h)

pub walks_charge_the_cost : WalksChargeTheCost
walks_charge_the_cost graph parameters leads paths anchors row h =
    from_charge graph parameters leads (zip paths anchors) (all_within paths anchors h) (record { row = row; used = []; trails = [] })
    ∙ sym (weight_is_charge graph parameters leads (places_of paths anchors) (sum (map most_at (places_of paths anchors))) start (enough (sum (map most_at (places_of paths anchors))) (room (places_of paths anchors)) (room_is (places_of paths anchors))))
    ∙ sym (weighed graph parameters leads (beginnings graph parameters leads paths anchors row))
  where
    start : Reached
    start = record { row = row; used = []; anchor = 0; at = 0 }

    enough : (a b : ℕ) → a ≡ b → b ≤ a
    enough a b e = omega (arith, e)

    all_within : (ps : List PathWanted) (as_ : List Anchor) → AllZip (λ p a. a.place < length (wanted_nodes p)) ps as_ → AllByRecursion (IsWithin graph parameters leads) (zip ps as_)
    all_within [] as_ h = tt
    all_within (p ∷ ps) [] h = tt
    all_within (p ∷ ps) (a ∷ as_) h = (got_below (wanted_nodes p) a.place h.0, all_within ps as_ h.1)
