-- MATCH goes well or ends in a fault of a run.
use Rattle.std.proofs.Common.{◌≡◌, ℕ, zero, suc, ◌+◌, Bool, true, false, List, [], ◌∷◌, ◌++◌, map, length, take, drop, slice_get, Option, Some, None, reverse, Result, Ok, Err, refl, sym, ap, subst, ◌∙◌, arith}
use Rattle.std.proofs.lemmas.List.{append_assoc, append-nil, length-append, length-map, length-reverse}
use Rattle.std.specs.Bool.{⊤}
use Rattle.std.specs.List.{AllByRecursion, AllZip, zip}
use Rattle.pg_meaning.specs.Agreement.{AreGiven, AreRowsOf}
use Rattle.pg_meaning.specs.AgreementLaws.{named_in, given_split}
use Rattle.pg_meaning.specs.Answer.{◌>>=◌, each_answer}
use Rattle.pg_meaning.specs.Conditions.{condition}
use Rattle.pg_soundness.proofs.RowNames.{BindsOnly, binds_if_named}
use Rattle.pg_meaning.specs.Grammar.{key, flag, commas, path_marks, optional_marks, keyed}
use Rattle.pg_meaning.specs.Graph.{Graph}
use Rattle.pg_meaning.specs.ListsLaws.{all_joined, all_mapped, all_trivial, all_weaker}
use Rattle.pg_meaning.specs.Meters.{spend}
use Rattle.pg_meaning.specs.Names.{Names}
use Rattle.pg_meaning.specs.Patterns.{Bond, Trail, Assignment, node_name, relationship_name, text_of, bond_value, path_value, bind_hops, bind_path, bind_match, add_if_named, add_hop_names, add_path_names}
use Rattle.pg_meaning.specs.Plans.{Anchor, Fixed, IsAnchorOf, leading_of}
use Rattle.pg_meaning.specs.Reading.{test_paths, prepared, passing, or_nulls, matched, joined_rows}
use Rattle.pg_meaning.specs.Rows.{Row, bind_if_named}
use Rattle.pg_meaning.specs.StaticFaults.{matching, paths_faults, faults_if_any}
use Rattle.pg_meaning.specs.Tree.{Expression, RelationshipPattern, NodePattern, PathPattern, match_paths}
use Rattle.pg_meaning.specs.Value.{node, Entries}
use Rattle.pg_meaning.specs.Walks.{Listing, each_listing, and_then, NodeWanted, HopWanted, PathWanted, paths_wanted, node_fits, Reach, all_hops, wanted_nodes, rightwards, leftwards, candidates, PathsWalked, trail_of, from_anchor, left_walks, path_walks, walks_from, walks}
use Rattle.pg_meaning.specs.declared.fault.Fault.{Fault}
use Rattle.pg_meaning.specs.declared.lexemes.Keyword.TheVariants as k
use Rattle.pg_soundness.proofs.FaultsPatterns.{PathReady, paths_ready, fine_wanted, fine_bound_nodes}
use Rattle.pg_soundness.proofs.FaultsReads.{state_ends, commas_given}
use Rattle.pg_soundness.proofs.FaultsSteps.{Ends, ends_all, ends_then, ends_after, ends_each, fine_spend, ReadyIfAny, ready_if_any, fine_condition_at}
use Rattle.pg_soundness.proofs.FaultsValues.{Fine}
use Rattle.pg_soundness.proofs.ListingHops.{hops_long}
use Rattle.pg_soundness.proofs.ListingOrders.{all_each, all_if}
use Rattle.pg_soundness.proofs.ListingRising.{lefts_long}
use Rattle.pg_soundness.proofs.MatchAssignments.{IsWanted}
use Rattle.pg_soundness.proofs.MatchBindings.{nulls_bind}
use Rattle.pg_soundness.proofs.MatchHops.{Arrival}
use Rattle.pg_soundness.proofs.MatchScopes.{first_none, second_none}
use Rattle.pg_soundness.proofs.MatchWanted.{are_paths}
use Rattle.pg_soundness.specs.Faults.{ClauseEndsWell}

pub ends_known : {X Y : Type 0} (Q : Y → Type 0) (r : Result X Fault) (next : X → Result Y Fault) → Fine r → ((x : X) → r ≡ Ok x → Ends Q (next x)) → Ends Q (r >>= next)
ends_known Q (Ok x) next h g = g x refl
ends_known Q (Err f) next h g = h

-- ---- trails of a path's shape

-- a trail over so many hops
abbrev pub IsLong : ℕ → Trail → Type 0
IsLong n t = (length t.nodes ≡ suc n) × (length t.bonds ≡ n)

abbrev pub AreLong : List PathPattern → Assignment → Type 0
AreLong ps ts = AllZip (λ p t. IsLong (length p.hops) t) ps ts

one_less : (m n : ℕ) → suc m ≡ suc n → m ≡ n
one_less m n e = omega (arith, e)

hops_bind : (hs : List (RelationshipPattern × NodePattern)) (bs : List Bond) (ns : List ℕ) (names : Names) (here : Row) → length bs ≡ length hs → length ns ≡ length hs → BindsOnly names here → BindsOnly (add_hop_names hs names) (bind_hops hs bs ns here)
hops_bind [] bs ns names here e f h = h
hops_bind (x ∷ hs) [] ns names here e f h = cc
hops_bind (x ∷ hs) (b ∷ bs) [] names here e f h = cc
hops_bind (x ∷ hs) (b ∷ bs) (n ∷ ns) names here e f h =
    hops_bind hs bs ns (add_if_named (node_name x.1) (add_if_named (relationship_name x.0) names)) (bind_if_named (node_name x.1) (node n) (bind_if_named (relationship_name x.0) (bond_value b) here)) (one_less (length bs) (length hs) e) (one_less (length ns) (length hs) f)
    (binds_if_named (add_if_named (relationship_name x.0) names) (bind_if_named (relationship_name x.0) (bond_value b) here) (node_name x.1) (node n)
    (binds_if_named names here (relationship_name x.0) (bond_value b) h))

path_binds : (graph : Graph) (p : PathPattern) (t : Trail) (names : Names) (here : Row) → IsLong (length p.hops) t → BindsOnly names here → BindsOnly (add_path_names (p ∷ []) names) (bind_path graph p t here)
path_binds graph p t names here l h = by_nodes t.nodes l.0
  where
    first_row : Row
    first_row = bind_if_named (text_of p.variable) (path_value graph t) here

    by_nodes : (ns : List ℕ) → length ns ≡ suc (length p.hops) → BindsOnly (add_path_names (p ∷ []) names) (elim ns as (λ ns. Row) [ [] ↦ first_row | n ∷ ns ↦ bind_hops p.hops t.bonds ns (bind_if_named (node_name p.first) (node n) first_row) ])
    by_nodes [] e = cc
    by_nodes (n ∷ ns) e =
        hops_bind p.hops t.bonds ns (add_if_named (node_name p.first) (add_if_named (text_of p.variable) names)) (bind_if_named (node_name p.first) (node n) first_row) l.1 (one_less (length ns) (length p.hops) e)
        (binds_if_named (add_if_named (text_of p.variable) names) first_row (node_name p.first) (node n) (binds_if_named names here (text_of p.variable) (path_value graph t) h))

pub long_binds : (graph : Graph) (ps : List PathPattern) (ts : Assignment) (names : Names) (here : Row) → AreLong ps ts → BindsOnly names here → BindsOnly (add_path_names ps names) (bind_match graph ps ts here)
long_binds graph [] ts names here l h = h
long_binds graph (p ∷ ps) [] names here l h = absurd l
long_binds graph (p ∷ ps) (t ∷ ts) names here l h = long_binds graph ps ts (add_path_names (p ∷ []) names) (bind_path graph p t here) l.1 (path_binds graph p t names here l.0 h)

-- ---- those that walks make

rights_long : {A B : Type 0} (place : ℕ) (first : B) (hops : List (A × B)) (w : B) → slice_get (first ∷ map (λ h. h.1) hops) place ≡ Some w → place + length (drop place hops) ≡ length hops
rights_long zero first hops w e = none_more (length hops)
  where
    none_more : (n : ℕ) → 0 + n ≡ n
    none_more n = omega arith
rights_long (suc place) first [] w e = cc
rights_long (suc place) first (h ∷ hops) w e = one_more place (length (drop place hops)) (length hops) (rights_long place h.1 hops w e)
  where
    one_more : (a b n : ℕ) → a + b ≡ n → suc a + b ≡ suc n
    one_more a b n e = omega (arith, e)

trail_long : (n : ℕ) (left right : List Arrival) (m : ℕ) → length left + length right ≡ m → IsLong m (trail_of n left (reverse right))
trail_long n left right m e = (
  nodes_long (length (map (λ w. w.1) left ++ n ∷ map (λ w. w.1) (reverse right))) (length (map (λ w. w.1) left)) (length (map (λ w. w.1) (reverse right))) (length left) (length right) m (length-append (map (λ w. w.1) left) (n ∷ map (λ w. w.1) (reverse right))) (length-map left (λ w. w.1)) (length-map (reverse right) (λ w. w.1) ∙ length-reverse right) e,
  bonds_long (length (map (λ w. w.0) left ++ map (λ w. w.0) (reverse right))) (length (map (λ w. w.0) left)) (length (map (λ w. w.0) (reverse right))) (length left) (length right) m (length-append (map (λ w. w.0) left) (map (λ w. w.0) (reverse right))) (length-map left (λ w. w.0)) (length-map (reverse right) (λ w. w.0) ∙ length-reverse right) e,
)
  where
    nodes_long : (x a b l r m : ℕ) → x ≡ a + suc b → a ≡ l → b ≡ r → l + r ≡ m → x ≡ suc m
    nodes_long x a b l r m e f g h = omega (arith, e, f, g, h)

    bonds_long : (x a b l r m : ℕ) → x ≡ a + b → a ≡ l → b ≡ r → l + r ≡ m → x ≡ m
    bonds_long x a b l r m e f g h = omega (arith, e, f, g, h)

module _ (graph : Graph) (parameters : Entries) (leads : List Fixed) where
  module _ (p : PathWanted) (a : Anchor) (found : PathsWalked) where
    abbrev OneMore : PathsWalked → Type 0
    OneMore y = (t : Trail) × (y.trails ≡ found.trails ++ (t ∷ [])) × IsLong (length p.hops) t

    module _ (w : NodeWanted) (placed : slice_get (wanted_nodes p) a.place ≡ Some w) where
      abbrev lefts : List (HopWanted × NodeWanted)
      lefts = leftwards p a.place

      abbrev rights : List (HopWanted × NodeWanted)
      rights = rightwards p a.place

      abbrev back : Reach → Reach → Reach
      back f right = record { row = right.row; used = right.used; at = f.at; walked = [] }

      sums : (l r x y h c : ℕ) → l ≡ x + 0 → x ≡ c → r ≡ y + 0 → c + y ≡ h → l + r ≡ h
      sums l r x y h c e f g i = omega (arith, e, f, g, i)

      left_long : (f right : Reach) → length right.walked ≡ length rights + 0 → AllByRecursion OneMore (left_walks graph p a found.trails f right).0
      left_long f right r =
          all_each (λ left. length left.walked ≡ length lefts + 0) OneMore (λ left. (record { row = left.row; used = left.used; trails = found.trails ++ (trail_of f.at left.walked (reverse right.walked) ∷ []) } ∷ [], 0))
          (λ left l. (
            (
              trail_of f.at left.walked (reverse right.walked),
              refl,
              trail_long f.at left.walked right.walked (length p.hops)
                  (sums (length left.walked) (length right.walked) (length lefts) (length rights) (length p.hops) a.place l (length-reverse (take a.place (zip (map (λ h. h.0) p.hops) (wanted_nodes p))) ∙ lefts_long a.place p.first p.hops w placed) r (rights_long a.place p.first p.hops w placed)),
            ),
            tt,
          ))
          (all_hops graph true lefts (back f right)).0 (hops_long graph true lefts (back f right))

      abbrev sides : Reach → Listing PathsWalked
      sides f = and_then (all_hops graph false rights f) (left_walks graph p a found.trails f)

      sides_long : (f : Reach) → f.walked ≡ [] → AllByRecursion OneMore (sides f).0
      sides_long f none =
          all_each (λ right. length right.walked ≡ length rights + 0) OneMore (left_walks graph p a found.trails f) (λ right r. left_long f right r) (all_hops graph false rights f).0
          (subst (λ ws. AllByRecursion (λ right. length right.walked ≡ length rights + length ws) (all_hops graph false rights f).0) none (hops_long graph false rights f))

      abbrev candidates_here : List ℕ
      candidates_here = candidates graph parameters leads found.row a w

      abbrev first_reach : ℕ → Reach
      first_reach n = record { row = bind_if_named (node_name w.pattern) (node n) found.row; used = found.used; at = n; walked = [] }

      abbrev firsts : Listing Reach
      firsts = each_listing (λ n. (from_anchor graph found.row found.used w n, 1)) candidates_here

      placed_long : AllByRecursion OneMore (and_then firsts sides).0
      placed_long =
          all_each (λ f. f.walked ≡ []) OneMore sides sides_long firsts.0
          (all_each (λ n. ⊤) (λ f. f.walked ≡ []) (λ n. (from_anchor graph found.row found.used w n, 1)) (λ n t. all_if (λ f. f.walked ≡ []) (node_fits graph found.row w n) (first_reach n) refl) candidates_here (all_trivial candidates_here))

    abbrev found_from : Option NodeWanted → Listing PathsWalked
    found_from o = elim o as (λ o. Listing PathsWalked) [
      | None ↦ ([], 0)
      | Some w ↦ and_then (each_listing (λ n. (from_anchor graph found.row found.used w n, 1)) (candidates graph parameters leads found.row a w)) (λ f. and_then (all_hops graph false (rightwards p a.place) f) (left_walks graph p a found.trails f))
    ]

    path_long : AllByRecursion OneMore (path_walks graph parameters leads p a found).0
    path_long =
        elim (slice_get (wanted_nodes p) a.place) as (λ o. slice_get (wanted_nodes p) a.place ≡ o → AllByRecursion OneMore (found_from o).0) [
          | None ↦ λ e. tt
          | Some w ↦ λ e. placed_long w e
        ] refl

  abbrev Further : List (PathWanted × Anchor) → PathsWalked → PathsWalked → Type 0
  Further ps found y = (ts : Assignment) × (y.trails ≡ found.trails ++ ts) × AllZip (λ p t. IsLong (length p.0.hops) t) ps ts

  from_long : (ps : List (PathWanted × Anchor)) (found : PathsWalked) → AllByRecursion (Further ps found) (walks_from graph parameters leads ps found).0
  from_long [] found = (([], sym (append-nil found.trails), tt), tt)
  from_long (p ∷ ps) found =
      all_each (OneMore p.0 p.1 found) (Further (p ∷ ps) found) (λ next. walks_from graph parameters leads ps next)
      (λ next o. all_weaker (Further ps next) (Further (p ∷ ps) found) (λ y m. (o.0 ∷ m.0, m.1 ∙ ap (λ zs. zs ++ m.0) o.1 ∙ append_assoc found.trails (o.0 ∷ []) m.0, (o.2, m.2))) (walks_from graph parameters leads ps next).0 (from_long ps next))
      (path_walks graph parameters leads p.0 p.1 found).0 (path_long p.0 p.1 found)

  wanted_long : (row : Row) (qs : List PathPattern) (ps : List PathWanted) (as_ : List Anchor) (ts : Assignment) → AllZip (IsWanted parameters graph row) qs ps → AllZip (IsAnchorOf leads) qs as_ → AllZip (λ p t. IsLong (length p.0.hops) t) (zip ps as_) ts → AreLong qs ts
  wanted_long row [] [] [] [] w h l = tt
  wanted_long row [] [] [] (t ∷ ts) w h l = absurd l
  wanted_long row [] [] (a ∷ as_) ts w h l = absurd h
  wanted_long row [] (p ∷ ps) as_ ts w h l = absurd w
  wanted_long row (q ∷ qs) [] as_ ts w h l = absurd w
  wanted_long row (q ∷ qs) (p ∷ ps) [] ts w h l = absurd h
  wanted_long row (q ∷ qs) (p ∷ ps) (a ∷ as_) [] w h l = absurd l
  wanted_long row (q ∷ qs) (p ∷ ps) (a ∷ as_) (t ∷ ts) w h l = (
    subst (λ n. IsLong n t) (sym (length-map p.hops (λ h. (h.0.pattern, h.1.pattern))) ∙ ap (λ (x : PathPattern). length x.hops) (sym w.0.0)) l.0,
    wanted_long row qs ps as_ ts w.1 h.1 l.1,
  )

  pub walks_long : (row : Row) (qs : List PathPattern) (ps : List PathWanted) (as_ : List Anchor) → paths_wanted row parameters graph qs ≡ Ok ps → AllZip (IsAnchorOf leads) qs as_ → AllByRecursion (AreLong qs) (walks graph parameters leads ps as_ row).0
  walks_long row qs ps as_ e planned =
      all_mapped (λ (y : PathsWalked). y.trails) (Further (zip ps as_) none) (AreLong qs)
      (λ y m. wanted_long row qs ps as_ y.trails (are_paths parameters graph row qs ps e) planned (subst (λ ts. AllZip (λ p t. IsLong (length p.0.hops) t) (zip ps as_) ts) (sym m.1) m.2))
      (walks_from graph parameters leads (zip ps as_) none).0 (from_long (zip ps as_) none)
    where
      none : PathsWalked
      none = record { row = row; used = []; trails = [] }

-- ---- MATCH

pub match_ends : (is_optional : Bool) (paths : List PathPattern) (where_ : Option Expression) → ClauseEndsWell (match_paths is_optional paths where_)
match_ends is_optional paths where_ s state are faults given planned rows =
    state_ends behind _
    (ends_then (AllByRecursion IsPrepared) (λ next. AreRowsOf behind next.rows) (each_answer (prepared s state.graph paths) state.rows) _
    (ends_each (BindsOnly s.scope) IsPrepared (prepared s state.graph paths) at_row state.rows rows)
    (λ ready h. ends_all (λ next. AreRowsOf behind next.rows) (spend s state.steps _) _ (fine_spend s state.steps _)
    (λ steps. ends_then (AllByRecursion (AreRowsOf behind)) (λ next. AreRowsOf behind next.rows) (each_answer (matched s state.graph is_optional paths where_) (map listed ready)) _
    (ends_each IsListed (AreRowsOf behind) (matched s state.graph is_optional paths where_) at_listed (map listed ready) (all_mapped listed IsPrepared IsListed is_listed ready h))
    (λ found f. all_rows found f))))
  where
    behind : Names
    behind = add_path_names paths s.scope

    leads : List Fixed
    leads = leading_of s.scope paths where_

    listed : Row × List PathWanted → Row × Listing Assignment
    listed p = (p.0, walks state.graph s.parameters leads p.1 s.anchors p.0)

    marks_behind : AreGiven (named_in (commas (map path_marks paths))) s.parameters × AreGiven (named_in (optional_marks (keyed k.Where) where_)) s.parameters
    marks_behind =
        given_split s.parameters (commas (map path_marks paths)) (optional_marks (keyed k.Where) where_)
        (given_split s.parameters (flag is_optional (key k.Optional)) (key k.Match ∷ (commas (map path_marks paths) ++ optional_marks (keyed k.Where) where_)) given).1

    paths_here : AllByRecursion (PathReady s.scope s.parameters) paths
    paths_here = paths_ready s.scope s.parameters matching (record { nodes = []; others = [] }) paths are.0.1 (first_none (paths_faults matching s.scope paths) (faults_if_any behind where_) faults) (commas_given s.parameters (map path_marks paths) marks_behind.0)

    where_here : ReadyIfAny behind s.parameters where_
    where_here = ready_if_any behind s.parameters k.Where where_ are.1 (second_none (paths_faults matching s.scope paths) (faults_if_any behind where_) faults) marks_behind.1

    IsPrepared : Row × List PathWanted → Type 0
    IsPrepared r = BindsOnly s.scope r.0 × (paths_wanted r.0 s.parameters state.graph paths ≡ Ok r.1)

    at_row : (row : Row) → BindsOnly s.scope row → Ends IsPrepared (prepared s state.graph paths row)
    at_row row b =
        ends_after IsPrepared (test_paths true state.graph row paths) (paths_wanted row s.parameters state.graph paths >>= λ wanted. Ok (row, wanted)) (fine_bound_nodes true state.graph row paths)
        (ends_known IsPrepared (paths_wanted row s.parameters state.graph paths) (λ wanted. Ok (row, wanted)) (fine_wanted s.scope s.parameters state.graph row b paths paths_here) (λ wanted is. (b, is)))

    IsListed : Row × Listing Assignment → Type 0
    IsListed l = BindsOnly s.scope l.0 × AllByRecursion (AreLong paths) l.1.0

    is_listed : (r : Row × List PathWanted) → IsPrepared r → IsListed (listed r)
    is_listed r h = (h.0, walks_long state.graph s.parameters leads r.0 paths r.1 s.anchors h.1 planned)

    passing_ends : (rs : List Row) → AreRowsOf behind rs → Ends (AreRowsOf behind) (passing s state.graph where_ rs)
    passing_ends [] h = tt
    passing_ends (row ∷ rs) h =
        ends_all (AreRowsOf behind) (condition where_ row s.parameters state.graph) _ (fine_condition_at behind s.parameters state.graph row h.0 where_ where_here)
        (λ b. ends_then (AreRowsOf behind) (AreRowsOf behind) (passing s state.graph where_ rs) _ (passing_ends rs h.1) (λ others g. kept b others g))
      where
        kept : (b : Bool) (others : List Row) → AreRowsOf behind others → AreRowsOf behind (elim b as (λ b. List Row) [ true ↦ row ∷ others | false ↦ others ])
        kept true others g = (h.0, g)
        kept false others g = g

    or_nulls_bind : (b : Bool) (row : Row) (rs : List Row) → BindsOnly s.scope row → AreRowsOf behind rs → AreRowsOf behind (or_nulls b paths row rs)
    or_nulls_bind true row [] h g = (nulls_bind paths s.scope row h, tt)
    or_nulls_bind true row (r ∷ rs) h g = g
    or_nulls_bind false row [] h g = g
    or_nulls_bind false row (r ∷ rs) h g = g

    at_listed : (l : Row × Listing Assignment) → IsListed l → Ends (AreRowsOf behind) (matched s state.graph is_optional paths where_ l)
    at_listed l h =
        ends_then (AreRowsOf behind) (AreRowsOf behind) (passing s state.graph where_ (map (λ a. bind_match state.graph paths a l.0) l.1.0)) _
        (passing_ends (map (λ a. bind_match state.graph paths a l.0) l.1.0) (all_mapped (λ a. bind_match state.graph paths a l.0) (AreLong paths) (BindsOnly behind) (λ a long. long_binds state.graph paths a s.scope l.0 long h.0) l.1.0 h.1))
        (λ found g. or_nulls_bind is_optional l.0 found h.0 g)

    all_rows : (found : List (List Row)) → AllByRecursion (AreRowsOf behind) found → AreRowsOf behind (joined_rows found)
    all_rows [] h = tt
    all_rows (rs ∷ found) h = all_joined (BindsOnly behind) rs (joined_rows found) h.0 (all_rows found h.1)
