-- What the walks of all paths list rises by its walks.
use Rattle.std.proofs.Common.{◌≡◌, ℕ, zero, suc, ◌+◌, Bool, true, false, ◌&&◌, List, [], ◌∷◌, ◌++◌, map, filter, length, take, drop, slice_get, slice_index_or, Option, Some, None, reverse, refl, sym, ap, subst, ◌∙◌, arith}
use Rattle.std.proofs.lemmas.Cmp.{nat_cmp_total, nat_list_cmp_total}
use Rattle.std.proofs.lemmas.Grind.{reverse_onto}
use Rattle.std.proofs.lemmas.List.{append_assoc, append-nil, length-reverse}
use Rattle.std.specs.Bool.{⊤}
use Rattle.std.specs.Cmp.{tied_itself}
use Rattle.std.specs.Cmp.Lexicographic.{slice_cmp}
use Rattle.std.specs.List.{AllByRecursion, zip}
use Rattle.std.specs.Ordering.{nat_cmp}
use Rattle.std.specs.declared.cmp.Ordering.TheVariants.{Less}
use Rattle.pg_meaning.specs.Entries.{value_at}
use Rattle.pg_meaning.specs.Equality.{eq3}
use Rattle.pg_meaning.specs.Graph.{Graph, Node, IsGraph, ids_of}
use Rattle.pg_meaning.specs.Listings.{walk_of, walks_of, walk_order}
use Rattle.pg_meaning.specs.Lists.{AllPairsByRecursion}
use Rattle.pg_meaning.specs.ListsLaws.{all_trivial, all_weaker, pairs_mapped}
use Rattle.pg_meaning.specs.Logic.{is_true}
use Rattle.pg_meaning.specs.Names.{is_among}
use Rattle.pg_meaning.specs.Patterns.{Trail, Assignment, node_name, texts_of}
use Rattle.pg_meaning.specs.Plans.{Anchor, Fixed}
use Rattle.pg_meaning.specs.Rows.{Row, bind_if_named}
use Rattle.pg_meaning.specs.Value.{Value, null, boolean, integer, text, list, mapping, node, relationship, path, Entries}
use Rattle.pg_meaning.specs.Walks.{Listing, each_listing, and_then, NodeWanted, HopWanted, PathWanted, node_fits, Reach, all_hops, wanted_nodes, rightwards, leftwards, fixed_value, with_value, labelled_or_all, free_candidates, bound_candidates, bound_value, candidates, PathsWalked, trail_of, from_anchor, left_walks, path_walks, walks_from, walks}
use Rattle.pg_soundness.proofs.ListingHops.{Before, entries_rise, ids_rise, Code, Lower, Apart, bond_code, code_on, ids_apart_by, hops_rise, hops_long}
use Rattle.pg_soundness.proofs.ListingOrders.{pairs_weaker, all_each, all_if, parts_on, comes_less, parts_less, begins_itself, begins_same, Rising, rising_one, rising_if, rising_each}
use Rattle.pg_soundness.proofs.MatchHops.{Arrival}
use Rattle.pg_soundness.proofs.MatchLists.{map_joined}

-- ---- candidates

module _ (graph : Graph) (g : IsGraph graph) where
  nodes_rise : (test : ℕ × Node → Bool) → AllPairsByRecursion Before (ids_of (filter test graph.nodes))
  nodes_rise test = ids_rise test graph.nodes (entries_rise graph.nodes g.node_ids_rise)

  labelled_rise : (ls : List (List ℕ)) → AllPairsByRecursion Before (labelled_or_all graph ls)
  labelled_rise [] = pairs_mapped (λ e. e.0) (λ e f. Before e.0 f.0) Before (λ e f r. r) graph.nodes (entries_rise graph.nodes g.node_ids_rise)
  labelled_rise (l ∷ ls) = nodes_rise (λ x. is_among x.1.labels l)

  free_rise : (parameters : Entries) (leads : List Fixed) (index : Option (List ℕ × List ℕ)) (w : NodeWanted) → AllPairsByRecursion Before (free_candidates graph parameters leads index w)
  free_rise parameters leads None w = labelled_rise (texts_of w.pattern.labels)
  free_rise parameters leads (Some i) w =
      elim (fixed_value parameters leads w i.1) as (λ o. AllPairsByRecursion Before (elim o as (λ o. List ℕ) [ None ↦ labelled_or_all graph (texts_of w.pattern.labels) | Some u ↦ with_value graph i.0 i.1 u ])) [
        | None ↦ labelled_rise (texts_of w.pattern.labels)
        | Some u ↦ nodes_rise (λ x. is_among x.1.labels i.0 && is_true (eq3 (value_at i.1 x.1.properties) u))
      ]

  bound_rise : (v : Value) → AllPairsByRecursion Before (bound_candidates v)
  bound_rise (node k) = (tt, tt)
  bound_rise null = tt
  bound_rise (boolean b) = tt
  bound_rise (integer i) = tt
  bound_rise (text t) = tt
  bound_rise (list us) = tt
  bound_rise (mapping es) = tt
  bound_rise (relationship r) = tt
  bound_rise (path ids) = tt

  candidates_rise : (parameters : Entries) (leads : List Fixed) (row : Row) (anchor : Anchor) (w : NodeWanted) → AllPairsByRecursion Before (candidates graph parameters leads row anchor w)
  candidates_rise parameters leads row anchor w =
      elim (bound_value (node_name w.pattern) row) as (λ o. AllPairsByRecursion Before (elim o as (λ o. List ℕ) [ Some v ↦ bound_candidates v | None ↦ free_candidates graph parameters leads anchor.index w ])) [
        | Some v ↦ bound_rise v
        | None ↦ free_rise parameters leads anchor.index w
      ]

-- ---- the walk of a trail

turned_map : {X Y : Type 0} (f : X → Y) (xs : List X) → map f (reverse xs) ≡ reverse (map f xs)
turned_map f [] = refl
turned_map f (x ∷ xs) =
    ap (map f) (reverse_onto xs x [])
    ∙ map_joined f (reverse xs) (x ∷ [])
    ∙ ap (λ zs. zs ++ (f x ∷ [])) (turned_map f xs)
    ∙ sym (reverse_onto (map f xs) (f x) [])

bonds_code : (is_leftwards : Bool) (c : Code) (ws : List Arrival) → code_on is_leftwards c ws ≡ c ++ map (bond_code is_leftwards) (reverse (map (λ w. w.0) ws))
bonds_code is_leftwards c [] = sym (append-nil c)
bonds_code is_leftwards c (w ∷ ws) =
    ap (λ zs. zs ++ (bond_code is_leftwards w.0 ∷ [])) (bonds_code is_leftwards c ws)
    ∙ append_assoc c (map (bond_code is_leftwards) (reverse (map (λ w. w.0) ws))) (bond_code is_leftwards w.0 ∷ [])
    ∙ ap (λ zs. c ++ zs) (sym (map_joined (bond_code is_leftwards) (reverse (map (λ w. w.0) ws)) (w.0 ∷ [])))
    ∙ ap (λ zs. c ++ map (bond_code is_leftwards) zs) (sym (reverse_onto (map (λ w. w.0) ws) w.0 []))

pub first_node : (left : List Arrival) (place n : ℕ) (ns : List ℕ) → length left ≡ place → slice_index_or (map (λ w. w.1) left ++ n ∷ ns) place 0 ≡ n
first_node [] zero n ns e = refl
first_node [] (suc place) n ns e = cc
first_node (w ∷ left) zero n ns e = cc
first_node (w ∷ left) (suc place) n ns e = first_node left place n ns (one_less (length left) place e)
  where
    one_less : (a b : ℕ) → suc a ≡ suc b → a ≡ b
    one_less a b e = omega (arith, e)

dropped : {X Y : Type 0} (f : X → Y) (xs : List X) (place : ℕ) (ys : List Y) → length xs ≡ place → drop place (map f xs ++ ys) ≡ ys
dropped f [] zero ys e = refl
dropped f [] (suc place) ys e = cc
dropped f (x ∷ xs) zero ys e = cc
dropped f (x ∷ xs) (suc place) ys e = dropped f xs place ys (one_less (length xs) place e)
  where
    one_less : (a b : ℕ) → suc a ≡ suc b → a ≡ b
    one_less a b e = omega (arith, e)

taken : {X Y : Type 0} (f : X → Y) (xs : List X) (place : ℕ) (ys : List Y) → length xs ≡ place → take place (map f xs ++ ys) ≡ map f xs
taken f [] zero ys e = refl
taken f [] (suc place) ys e = cc
taken f (x ∷ xs) zero ys e = cc
taken f (x ∷ xs) (suc place) ys e = ap (λ zs. f x ∷ zs) (taken f xs place ys (one_less (length xs) place e))
  where
    one_less : (a b : ℕ) → suc a ≡ suc b → a ≡ b
    one_less a b e = omega (arith, e)

-- the anchor, what was walked rightwards, then leftwards
trail_code : (a : Anchor) (n : ℕ) (left right : List Arrival) → length left ≡ a.place → (c : Code) → c ++ walk_of a (trail_of n left (reverse right)) ≡ code_on true (code_on false (c ++ ((n ∷ []) ∷ [])) right) left
trail_code a n left right e c =
    parts ∙ sym (append_assoc c ((n ∷ []) ∷ []) (rs ++ ls)) ∙ sym (append_assoc (c ++ ((n ∷ []) ∷ [])) rs ls) ∙ sym (bonds_code true (code_on false (c ++ ((n ∷ []) ∷ [])) right) left ∙ ap (λ zs. zs ++ ls) (bonds_code false (c ++ ((n ∷ []) ∷ [])) right))
  where
    rs : Code
    rs = map (bond_code false) (reverse (map (λ w. w.0) right))

    ls : Code
    ls = map (bond_code true) (reverse (map (λ w. w.0) left))

    rights : drop a.place (map (λ w. w.0) left ++ map (λ w. w.0) (reverse right)) ≡ reverse (map (λ w. w.0) right)
    rights = dropped (λ w. w.0) left a.place (map (λ w. w.0) (reverse right)) e ∙ turned_map (λ w. w.0) right

    parts : c ++ walk_of a (trail_of n left (reverse right)) ≡ c ++ ((n ∷ []) ∷ (rs ++ ls))
    parts =
        λ i. c ++ ((first_node left a.place n (map (λ w. w.1) (reverse right)) e i ∷ []) ∷ (map (bond_code false) (rights i) ++ map (bond_code true) (reverse (taken (λ w. w.0) left a.place (map (λ w. w.0) (reverse right)) e i))))

-- the walks of one path more
walks_snoc : (done : List Anchor) (a : Anchor) (trails : Assignment) (t : Trail) → length done ≡ length trails → walks_of (done ++ (a ∷ [])) (trails ++ (t ∷ [])) ≡ walks_of done trails ++ walk_of a t
walks_snoc [] a [] t e = append-nil (walk_of a t)
walks_snoc [] a (u ∷ trails) t e = cc
walks_snoc (b ∷ done) a [] t e = cc
walks_snoc (b ∷ done) a (u ∷ trails) t e =
    ap (λ zs. walk_of b u ++ zs) (walks_snoc done a trails t (one_less (length done) (length trails) e)) ∙ sym (append_assoc (walk_of b u) (walks_of done trails) (walk_of a t))
  where
    one_less : (m n : ℕ) → suc m ≡ suc n → m ≡ n
    one_less m n e = omega (arith, e)

one_longer : {X : Type 0} (xs : List X) (x : X) → length (xs ++ (x ∷ [])) ≡ suc (length xs)
one_longer [] x = refl
one_longer (y ∷ xs) x = ap suc (one_longer xs x)

-- ---- one path

-- as many hops left of a place as it says
pub lefts_long : {A B : Type 0} (place : ℕ) (first : B) (hops : List (A × B)) (w : B) → slice_get (first ∷ map (λ h. h.1) hops) place ≡ Some w → length (take place (zip (map (λ h. h.0) hops) (first ∷ map (λ h. h.1) hops))) ≡ place
lefts_long zero first hops w e = refl
lefts_long (suc place) first [] w e = cc
lefts_long (suc place) first (h ∷ hops) w e = ap suc (lefts_long place h.1 hops w e)

module _ (graph : Graph) (g : IsGraph graph) (parameters : Entries) (leads : List Fixed) (done : List Anchor) (p : PathWanted) (a : Anchor) (found : PathsWalked) (long : length done ≡ length found.trails) where
  abbrev before : Code
  before = walks_of done found.trails

  abbrev found_code : PathsWalked → Code
  found_code y = walks_of (done ++ (a ∷ [])) y.trails

  module _ (w : NodeWanted) (placed : slice_get (wanted_nodes p) a.place ≡ Some w) where
    abbrev first_code : Reach → Code
    first_code f = before ++ ((f.at ∷ []) ∷ [])

    abbrev right_code : Reach → Reach → Code
    right_code f right = code_on false (first_code f) right.walked

    abbrev left_code : Reach → Reach → Reach → Code
    left_code f right left = code_on true (right_code f right) left.walked

    abbrev back : Reach → Reach → Reach
    back f right = record { row = right.row; used = right.used; at = f.at; walked = [] }

    abbrev whole : Reach → Reach → Reach → PathsWalked
    whole f right left = record { row = left.row; used = left.used; trails = found.trails ++ (trail_of f.at left.walked (reverse right.walked) ∷ []) }

    abbrev lefts : List (HopWanted × NodeWanted)
    lefts = leftwards p a.place

    lefts_are : length lefts ≡ a.place
    lefts_are = length-reverse (take a.place (zip (map (λ h. h.0) p.hops) (wanted_nodes p))) ∙ lefts_long a.place p.first p.hops w placed

    left_long : (f right : Reach) → AllByRecursion (λ x. length x.walked ≡ a.place) (all_hops graph true lefts (back f right)).0
    left_long f right =
        all_weaker (λ x. length x.walked ≡ length lefts + 0) (λ x. length x.walked ≡ a.place) (λ x e. e ∙ no_more (length lefts) ∙ lefts_are) (all_hops graph true lefts (back f right)).0 (hops_long graph true lefts (back f right))
      where
        no_more : (n : ℕ) → n + 0 ≡ n
        no_more n = omega arith

    whole_code : (f right left : Reach) → length left.walked ≡ a.place → found_code (whole f right left) ≡ left_code f right left
    whole_code f right left e =
        walks_snoc done a found.trails (trail_of f.at left.walked (reverse right.walked)) long ∙ trail_code a f.at left.walked right.walked e before

    left_rises : (f right : Reach) → Rising Apart found_code (right_code f right) (left_walks graph p a found.trails f right).0
    left_rises f right =
        rising_each Lower Apart (parts_on Lower) (left_code f right) (λ left. length left.walked ≡ a.place) (λ left. (whole f right left ∷ [], 0)) found_code
        (λ left e. rising_one Apart found_code (left_code f right left) (whole f right left) (begins_same (left_code f right left) (found_code (whole f right left)) (whole_code f right left e)))
        (right_code f right) (all_hops graph true lefts (back f right)).0 (left_long f right) (hops_rise graph g true (right_code f right) lefts (back f right))

    abbrev sides : Reach → Listing PathsWalked
    sides f = and_then (all_hops graph false (rightwards p a.place) f) (left_walks graph p a found.trails f)

    sides_rise : (f : Reach) → f.walked ≡ [] → Rising Apart found_code (first_code f) (sides f).0
    sides_rise f none =
        rising_each Lower Apart (parts_on Lower) (right_code f) (λ right. ⊤) (left_walks graph p a found.trails f) found_code (λ right t. left_rises f right)
        (first_code f) rights (all_trivial rights)
        (subst (λ ws. Rising Apart (right_code f) (code_on false (first_code f) ws) rights) none (hops_rise graph g false (first_code f) (rightwards p a.place) f))
      where
        rights : List Reach
        rights = (all_hops graph false (rightwards p a.place) f).0

    abbrev candidates_here : List ℕ
    candidates_here = candidates graph parameters leads found.row a w

    abbrev first_reach : ℕ → Reach
    first_reach n = record { row = bind_if_named (node_name w.pattern) (node n) found.row; used = found.used; at = n; walked = [] }

    abbrev firsts : Listing Reach
    firsts = each_listing (λ n. (from_anchor graph found.row found.used w n, 1)) candidates_here

    firsts_rise : Rising Apart first_code before firsts.0
    firsts_rise =
        rising_each Lower Apart (parts_on Lower) (λ n. before ++ ((n ∷ []) ∷ [])) (λ n. ⊤) (λ n. (from_anchor graph found.row found.used w n, 1)) first_code
        (λ n t. rising_if Apart first_code (before ++ ((n ∷ []) ∷ [])) (node_fits graph found.row w n) (first_reach n) (begins_itself (before ++ ((n ∷ []) ∷ []))))
        before candidates_here (all_trivial candidates_here) (ids_apart_by before candidates_here (candidates_rise graph g parameters leads found.row a w))

    firsts_begin : AllByRecursion (λ f. f.walked ≡ []) firsts.0
    firsts_begin =
        all_each (λ n. ⊤) (λ f. f.walked ≡ []) (λ n. (from_anchor graph found.row found.used w n, 1)) (λ n t. all_if (λ f. f.walked ≡ []) (node_fits graph found.row w n) (first_reach n) refl) candidates_here (all_trivial candidates_here)

    placed_rises : Rising Apart found_code before (and_then firsts sides).0
    placed_rises = rising_each Lower Apart (parts_on Lower) first_code (λ f. f.walked ≡ []) sides found_code sides_rise before firsts.0 firsts_begin firsts_rise

    abbrev IsOneMore : PathsWalked → Type 0
    IsOneMore y = length (done ++ (a ∷ [])) ≡ length y.trails

    placed_long : AllByRecursion IsOneMore (and_then firsts sides).0
    placed_long =
        all_each (λ f. ⊤) IsOneMore sides
        (λ f t. all_each (λ right. ⊤) IsOneMore (left_walks graph p a found.trails f)
        (λ right u. all_each (λ left. ⊤) IsOneMore (λ left. (whole f right left ∷ [], 0)) (λ left v. (one_more (trail_of f.at left.walked (reverse right.walked)), tt)) (all_hops graph true lefts (back f right)).0 (all_trivial (all_hops graph true lefts (back f right)).0))
        (all_hops graph false (rightwards p a.place) f).0 (all_trivial (all_hops graph false (rightwards p a.place) f).0))
        firsts.0 (all_trivial firsts.0)
      where
        one_more : (t : Trail) → length (done ++ (a ∷ [])) ≡ length (found.trails ++ (t ∷ []))
        one_more t = one_longer done a ∙ ap suc long ∙ sym (one_longer found.trails t)

  abbrev found_from : Option NodeWanted → Listing PathsWalked
  found_from o = elim o as (λ o. Listing PathsWalked) [
    | None ↦ ([], 0)
    | Some w ↦ and_then (each_listing (λ n. (from_anchor graph found.row found.used w n, 1)) (candidates graph parameters leads found.row a w)) (λ f. and_then (all_hops graph false (rightwards p a.place) f) (left_walks graph p a found.trails f))
  ]

  pub path_rises : Rising Apart (λ (y : PathsWalked). walks_of (done ++ (a ∷ [])) y.trails) (walks_of done found.trails) (path_walks graph parameters leads p a found).0
  path_rises =
      elim (slice_get (wanted_nodes p) a.place) as (λ o. slice_get (wanted_nodes p) a.place ≡ o → Rising Apart found_code before (found_from o).0) [
        | None ↦ λ e. record { begins = tt; pairs = tt }
        | Some w ↦ λ e. placed_rises w e
      ] refl

  pub path_long : AllByRecursion (λ (y : PathsWalked). length (done ++ (a ∷ [])) ≡ length y.trails) (path_walks graph parameters leads p a found).0
  path_long =
      elim (slice_get (wanted_nodes p) a.place) as (λ o. slice_get (wanted_nodes p) a.place ≡ o → AllByRecursion (λ (y : PathsWalked). length (done ++ (a ∷ [])) ≡ length y.trails) (found_from o).0) [
        | None ↦ λ e. tt
        | Some w ↦ λ e. placed_long w e
      ] refl

-- ---- all paths

pub zipped_anchors : (ps : List PathWanted) (as_ : List Anchor) → length ps ≡ length as_ → map (λ p. p.1) (zip ps as_) ≡ as_
zipped_anchors [] [] e = refl
zipped_anchors [] (a ∷ as_) e = cc
zipped_anchors (p ∷ ps) [] e = cc
zipped_anchors (p ∷ ps) (a ∷ as_) e = ap (λ zs. a ∷ zs) (zipped_anchors ps as_ (one_less (length ps) (length as_) e))
  where
    one_less : (m n : ℕ) → suc m ≡ suc n → m ≡ n
    one_less m n e = omega (arith, e)

module _ (graph : Graph) (g : IsGraph graph) (parameters : Entries) (leads : List Fixed) where
  from_rises : (ps : List (PathWanted × Anchor)) (done : List Anchor) (found : PathsWalked) → length done ≡ length found.trails
      → Rising Apart (λ (y : PathsWalked). walks_of (done ++ map (λ p. p.1) ps) y.trails) (walks_of done found.trails) (walks_from graph parameters leads ps found).0
  from_rises [] done found long =
      rising_one Apart (λ (y : PathsWalked). walks_of (done ++ []) y.trails) (walks_of done found.trails) found (begins_same (walks_of done found.trails) (walks_of (done ++ []) found.trails) (ap (λ as_. walks_of as_ found.trails) (append-nil done)))
  from_rises (p ∷ ps) done found long =
      rising_each Lower Apart (parts_on Lower) (λ (y : PathsWalked). walks_of (done ++ (p.1 ∷ [])) y.trails) (λ (y : PathsWalked). length (done ++ (p.1 ∷ [])) ≡ length y.trails) (λ next. walks_from graph parameters leads ps next) (λ (y : PathsWalked). walks_of (done ++ map (λ q. q.1) (p ∷ ps)) y.trails)
      (λ next e. subst (λ as_. Rising Apart (λ (y : PathsWalked). walks_of as_ y.trails) (walks_of (done ++ (p.1 ∷ [])) next.trails) (walks_from graph parameters leads ps next).0) (append_assoc done (p.1 ∷ []) (map (λ q. q.1) ps)) (from_rises ps (done ++ (p.1 ∷ [])) next e))
      (walks_of done found.trails) (path_walks graph parameters leads p.0 p.1 found).0
      (path_long graph g parameters leads done p.0 p.1 found long)
      (path_rises graph g parameters leads done p.0 p.1 found long)

  ids_less : (xs ys : List ℕ) → Lower xs ys → slice_cmp nat_cmp xs ys ≡ Less
  ids_less = comes_less Before nat_cmp (λ m n l. l) (λ n. tied_itself nat_cmp_total n)

  codes_less : (xs ys : Code) → Apart xs ys → slice_cmp (slice_cmp nat_cmp) xs ys ≡ Less
  codes_less = parts_less Lower (slice_cmp nat_cmp) ids_less (λ xs. tied_itself nat_list_cmp_total xs)

  -- what is listed of a row rises
  pub walks_rise : (ps : List PathWanted) (as_ : List Anchor) (row : Row) → length ps ≡ length as_ → AllPairsByRecursion (λ x y. walk_order as_ x y ≡ Less) (walks graph parameters leads ps as_ row).0
  walks_rise ps as_ row e =
      pairs_mapped (λ (y : PathsWalked). y.trails) (λ x y. walk_order as_ x.trails y.trails ≡ Less) (λ x y. walk_order as_ x y ≡ Less) (λ x y l. l) items
      (pairs_weaker (λ (x : PathsWalked) y. Apart (walks_of as_ x.trails) (walks_of as_ y.trails)) (λ x y. walk_order as_ x.trails y.trails ≡ Less) (λ x y l. codes_less (walks_of as_ x.trails) (walks_of as_ y.trails) l) items
      (subst (λ bs. AllPairsByRecursion (λ (x : PathsWalked) y. Apart (walks_of bs x.trails) (walks_of bs y.trails)) items) (zipped_anchors ps as_ e) (from_rises (zip ps as_) [] none refl).pairs))
    where
      none : PathsWalked
      none = record { row = row; used = []; trails = [] }

      items : List PathsWalked
      items = (walks_from graph parameters leads (zip ps as_) none).0
