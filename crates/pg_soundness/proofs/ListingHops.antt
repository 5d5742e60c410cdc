-- The hops of a walk rise: by relationships as walked, and of a range a list before its extensions.
use Rattle.std.proofs.Common.{◌≡◌, ℕ, zero, suc, ◌+◌, nat_le, Bool, true, false, ◌&&◌, inl, List, [], ◌∷◌, ◌++◌, filter, length, Some, None, is_lt, IsTrue, reverse, refl, sym, ap, subst, ◌∙◌, true≢false, arith}
use Rattle.std.proofs.lemmas.Grind.{reverse_onto}
use Rattle.std.proofs.lemmas.List.{append_assoc}
use Rattle.std.specs.Bool.{⊤}
use Rattle.std.specs.FinMap.Entries as by_id
use Rattle.std.specs.List.{AllByRecursion}
use Rattle.std.specs.Ordering.{nat_cmp}
use Rattle.std.specs.declared.cmp.Ordering.{Ordering}
use Rattle.std.specs.declared.cmp.Ordering.TheVariants.{Less, Equal, Greater}
use Rattle.pg_meaning.specs.EntriesLaws.{both}
use Rattle.pg_meaning.specs.Graph.{Graph, IsGraph, goes_from, ids_of, incident, Way}
use Rattle.pg_meaning.specs.Lists.{AllPairsByRecursion}
use Rattle.pg_meaning.specs.ListsLaws.{all_trivial, all_weaker, pairs_filtered, pairs_mapped}
use Rattle.pg_meaning.specs.Patterns.{Bond, single, bond_ids, way_of, range_of}
use Rattle.pg_meaning.specs.Walks.{Listing, NodeWanted, HopWanted, node_fits, relationship_fits, end_of, Reach, arrive, try_hop, fixed_hop, Stretch, extend, extensions, stretches, stretch_bond, end_range, range_hop, way_walked, one_hop, all_hops}
use Rattle.pg_soundness.proofs.ListingOrders.{pairs_weaker, all_each, all_if, Parts, Comes, parts_on, parts_comes, parts_behind, ends_comes, Begins, begins_itself, begins_same, Rising, rising_one, rising_if, rising_each}
use Rattle.pg_soundness.proofs.MatchHops.{Arrival}

-- ---- ids

abbrev pub Before : ℕ → ℕ → Type 0
Before m n = nat_cmp m n ≡ Less

is_less : (o : Ordering) → is_lt o ≡ true → o ≡ Less
is_less Less e = refl
is_less Equal e = absurd (true≢false (sym e))
is_less Greater e = absurd (true≢false (sym e))

module _ {X : Type 0} where
  below_rise : (k : ℕ) (es : List (ℕ × X)) → by_id.below_all nat_cmp k es ≡ true → AllByRecursion (λ e. Before k e.0) es
  below_rise k [] h = tt
  below_rise k (e ∷ es) h = let b = both (is_lt (nat_cmp k e.0)) (by_id.below_all nat_cmp k es) h in (is_less (nat_cmp k e.0) b.0, below_rise k es b.1)

  pub entries_rise : (es : List (ℕ × X)) → IsTrue (by_id.is_sorted nat_cmp es) → AllPairsByRecursion (λ e f. Before e.0 f.0) es
  entries_rise [] h = tt
  entries_rise (e ∷ es) h = let b = both (by_id.below_all nat_cmp e.0 es) (by_id.is_sorted nat_cmp es) h in (below_rise e.0 es b.0, entries_rise es b.1)

  pub ids_rise : (test : ℕ × X → Bool) (es : List (ℕ × X)) → AllPairsByRecursion (λ e f. Before e.0 f.0) es → AllPairsByRecursion Before (ids_of (filter test es))
  ids_rise test es h = pairs_mapped (λ e. e.0) (λ e f. Before e.0 f.0) Before (λ e f r. r) (filter test es) (pairs_filtered (λ e f. Before e.0 f.0) test es h)

pub incident_rise : (graph : Graph) → IsGraph graph → (way : Way) (at : ℕ) → AllPairsByRecursion Before (incident way at graph)
incident_rise graph g way at = ids_rise (λ e. goes_from way at e.1) graph.relationships (entries_rise graph.relationships g.relationship_ids_rise)

-- ---- codes

abbrev pub Code : Type 0
Code = List (List ℕ)

-- of two lists of ids the first is before the second
abbrev pub Lower : List ℕ → List ℕ → Type 0
Lower = Comes Before

abbrev pub Apart : Code → Code → Type 0
Apart = Parts Lower

-- the relationships of a bond in the order of the walk
abbrev pub bond_code : (is_leftwards : Bool) → Bond → List ℕ
bond_code true b = reverse (bond_ids b)
bond_code false b = bond_ids b

-- behind a code, that of what was walked, the newest first
abbrev pub code_on : (is_leftwards : Bool) → Code → List Arrival → Code
code_on is_leftwards c [] = c
code_on is_leftwards c (w ∷ ws) = code_on is_leftwards c ws ++ (bond_code is_leftwards w.0 ∷ [])

abbrev stretch_code : List ℕ → List ℕ
stretch_code [] = []
stretch_code (r ∷ rs) = stretch_code rs ++ (r ∷ [])

stretch_is : (rs : List ℕ) → reverse rs ≡ stretch_code rs
stretch_is [] = refl
stretch_is (r ∷ rs) = reverse_onto rs r [] ∙ ap (λ zs. zs ++ (r ∷ [])) (stretch_is rs)

single_code : (is_leftwards : Bool) (r : ℕ) → bond_code is_leftwards (single r) ≡ r ∷ []
single_code true r = refl
single_code false r = refl

several_code : (is_leftwards : Bool) (rs : List ℕ) → bond_code is_leftwards (stretch_bond is_leftwards rs) ≡ stretch_code rs
several_code true rs = stretch_is rs
several_code false rs = stretch_is rs

-- each id of a list that rises, behind a code
pub ids_apart_by : (c : Code) (ids : List ℕ) → AllPairsByRecursion Before ids → Rising Apart (λ n. c ++ ((n ∷ []) ∷ [])) c ids
ids_apart_by c ids h = record {
  begins = all_weaker (λ n. ⊤) (λ n. Begins c (c ++ ((n ∷ []) ∷ []))) (λ n t. ((n ∷ []) ∷ [], refl)) ids (all_trivial ids);
  pairs = pairs_weaker Before (λ m n. Apart (c ++ ((m ∷ []) ∷ [])) (c ++ ((n ∷ []) ∷ []))) (λ m n l. parts_behind Lower c ((m ∷ []) ∷ []) ((n ∷ []) ∷ []) (inl (inl l))) ids h;
}

module _ (graph : Graph) (g : IsGraph graph) where
  -- ---- ranges

  module _ (way : Way) (hop : HopWanted) where
    abbrev coded : Stretch → List ℕ
    coded s = stretch_code s.rs

    abbrev extended_by : Stretch → ℕ → Stretch
    extended_by s r = record { used = r ∷ s.used; at = end_of graph s.at r; rs = r ∷ s.rs }

    relationships_apart : (c : List ℕ) (ids : List ℕ) → AllPairsByRecursion Before ids → Rising (Parts Before) (λ r. c ++ (r ∷ [])) c ids
    relationships_apart c ids h = record {
      begins = all_weaker (λ r. ⊤) (λ r. Begins c (c ++ (r ∷ []))) (λ r t. (r ∷ [], refl)) ids (all_trivial ids);
      pairs = pairs_weaker Before (λ q r. Parts Before (c ++ (q ∷ [])) (c ++ (r ∷ []))) (λ q r l. parts_behind Before c (q ∷ []) (r ∷ []) (inl l)) ids h;
    }

    extensions_rise : (s : Stretch) → Rising (Parts Before) coded (coded s) (extensions graph way hop s).0
    extensions_rise s =
        rising_each Before (Parts Before) (parts_on Before) (λ r. coded s ++ (r ∷ [])) (λ r. ⊤) (λ r. (extend graph hop s r, 1)) coded
        (λ r t. rising_if (Parts Before) coded (coded s ++ (r ∷ [])) (relationship_fits graph s.used hop r) (extended_by s r) (begins_itself (coded s ++ (r ∷ []))))
        (coded s) (incident way s.at graph) (all_trivial (incident way s.at graph)) (relationships_apart (coded s) (incident way s.at graph) (incident_rise graph g way s.at))

    abbrev IsLonger : Stretch → Stretch → Type 0
    IsLonger s t = (r : ℕ) × (coded t ≡ coded s ++ (r ∷ []))

    extensions_longer : (s : Stretch) → AllByRecursion (IsLonger s) (extensions graph way hop s).0
    extensions_longer s =
        all_each (λ r. ⊤) (IsLonger s) (λ r. (extend graph hop s r, 1)) (λ r t. all_if (IsLonger s) (relationship_fits graph s.used hop r) (extended_by s r) (r, refl)) (incident way s.at graph) (all_trivial (incident way s.at graph))

    longer_comes : (s t u : Stretch) → IsLonger s t → Begins (coded t) (coded u) → Lower (coded s) (coded u)
    longer_comes s t u l b =
        subst (λ z. Lower (coded s) z) (sym (b.1 ∙ ap (λ z. z ++ b.0) l.1 ∙ append_assoc (coded s) (l.0 ∷ []) b.0)) (ends_comes Before (coded s) l.0 b.0)

    pub stretches_rise : (more : ℕ) (s : Stretch) → Rising Lower coded (coded s) (stretches graph way hop more s).0
    stretches_rise zero s = rising_one Lower coded (coded s) s (begins_itself (coded s))
    stretches_rise (suc more) s =
        let rest = rising_each Before Lower (parts_comes Before) coded (λ t. ⊤) (λ t. stretches graph way hop more t) coded (λ t u. stretches_rise more t) (coded s) (extensions graph way hop s).0 (all_trivial (extensions graph way hop s).0) (extensions_rise s) in
        record {
          begins = (begins_itself (coded s), rest.begins);
          pairs = (
            all_each (IsLonger s) (λ u. Lower (coded s) (coded u)) (λ t. stretches graph way hop more t)
                (λ t l. all_weaker (λ u. Begins (coded t) (coded u)) (λ u. Lower (coded s) (coded u)) (λ u b. longer_comes s t u l b) (stretches graph way hop more t).0 (stretches_rise more t).begins)
                (extensions graph way hop s).0 (extensions_longer s),
            rest.pairs,
          );
        }

  -- ---- hops

  module _ (is_leftwards : Bool) (c : Code) where
    abbrev pub reach_code : Reach → Code
    reach_code x = code_on is_leftwards c x.walked

    abbrev Rises : Reach → Listing Reach → Type 0
    Rises reach found = Rising Apart reach_code (reach_code reach) found.0

    fixed_rises : (way : Way) (hop : HopWanted) (target : NodeWanted) (reach : Reach) → Rises reach (fixed_hop graph way hop target reach)
    fixed_rises way hop target reach =
        rising_each Lower Apart (parts_on Lower) (λ r. reach_code reach ++ ((r ∷ []) ∷ [])) (λ r. ⊤) (λ r. (try_hop graph hop target reach r, 1)) reach_code
        (λ r t. rising_if Apart reach_code (reach_code reach ++ ((r ∷ []) ∷ [])) (relationship_fits graph reach.used hop r && node_fits graph reach.row target (end_of graph reach.at r)) (arrive target (r ∷ reach.used) (single r) (end_of graph reach.at r) reach)
        (begins_same (reach_code reach ++ ((r ∷ []) ∷ [])) (reach_code (arrive target (r ∷ reach.used) (single r) (end_of graph reach.at r) reach)) (ap (λ z. reach_code reach ++ (z ∷ [])) (single_code is_leftwards r))))
        (reach_code reach) (incident way reach.at graph) (all_trivial (incident way reach.at graph)) (ids_apart_by (reach_code reach) (incident way reach.at graph) (incident_rise graph g way reach.at))

    range_rises : (way : Way) (bounds : ℕ × ℕ) (hop : HopWanted) (target : NodeWanted) (reach : Reach) → Rises reach (range_hop graph is_leftwards way bounds hop target reach)
    range_rises way bounds hop target reach =
        rising_each Lower Apart (parts_on Lower) stretch_on (λ s. ⊤) (λ s. (end_range graph is_leftwards bounds.0 target reach s, 0)) reach_code
        (λ s t. rising_if Apart reach_code (stretch_on s) (nat_le bounds.0 (length s.rs) && node_fits graph reach.row target s.at) (arrive target s.used (stretch_bond is_leftwards s.rs) s.at reach)
        (begins_same (stretch_on s) (reach_code (arrive target s.used (stretch_bond is_leftwards s.rs) s.at reach)) (ap (λ z. reach_code reach ++ (z ∷ [])) (several_code is_leftwards s.rs))))
        (reach_code reach) all (all_trivial all)
        (record {
          begins = all_weaker (λ s. ⊤) (λ s. Begins (reach_code reach) (stretch_on s)) (λ s t. (stretch_code s.rs ∷ [], refl)) all (all_trivial all);
          pairs = pairs_weaker (λ s t. Lower (stretch_code s.rs) (stretch_code t.rs)) (λ s t. Apart (stretch_on s) (stretch_on t)) (λ s t l. parts_behind Lower (reach_code reach) (stretch_code s.rs ∷ []) (stretch_code t.rs ∷ []) (inl l)) all (stretches_rise way hop bounds.1 empty).pairs;
        })
      where
        empty : Stretch
        empty = record { used = reach.used; at = reach.at; rs = [] }

        all : List Stretch
        all = (stretches graph way hop bounds.1 empty).0

        stretch_on : Stretch → Code
        stretch_on s = reach_code reach ++ (stretch_code s.rs ∷ [])

    hop_rises : (h : HopWanted × NodeWanted) (reach : Reach) → Rises reach (one_hop graph is_leftwards h reach)
    hop_rises h reach =
        elim (range_of h.0.pattern) as (λ o. Rises reach (elim o as (λ o. Listing Reach) [
          | None ↦ fixed_hop graph (way_walked is_leftwards (way_of h.0.pattern)) h.0 h.1 reach
          | Some bounds ↦ range_hop graph is_leftwards (way_walked is_leftwards (way_of h.0.pattern)) bounds h.0 h.1 reach
        ])) [
          | None ↦ fixed_rises (way_walked is_leftwards (way_of h.0.pattern)) h.0 h.1 reach
          | Some bounds ↦ range_rises (way_walked is_leftwards (way_of h.0.pattern)) bounds h.0 h.1 reach
        ]

    pub hops_rise : (hs : List (HopWanted × NodeWanted)) (reach : Reach) → Rises reach (all_hops graph is_leftwards hs reach)
    hops_rise [] reach = rising_one Apart reach_code (reach_code reach) reach (begins_itself (reach_code reach))
    hops_rise (h ∷ hs) reach =
        rising_each Lower Apart (parts_on Lower) reach_code (λ x. ⊤) (λ next. all_hops graph is_leftwards hs next) reach_code (λ x t. hops_rise hs x)
        (reach_code reach) (one_hop graph is_leftwards h reach).0 (all_trivial (one_hop graph is_leftwards h reach).0) (hop_rises h reach)

-- ---- one bond for each hop

module _ (graph : Graph) (is_leftwards : Bool) where
  abbrev IsNext : Reach → Reach → Type 0
  IsNext reach x = length x.walked ≡ suc (length reach.walked)

  fixed_next : (way : Way) (hop : HopWanted) (target : NodeWanted) (reach : Reach) → AllByRecursion (IsNext reach) (fixed_hop graph way hop target reach).0
  fixed_next way hop target reach =
      all_each (λ r. ⊤) (IsNext reach) (λ r. (try_hop graph hop target reach r, 1))
      (λ r t. all_if (IsNext reach) (relationship_fits graph reach.used hop r && node_fits graph reach.row target (end_of graph reach.at r)) (arrive target (r ∷ reach.used) (single r) (end_of graph reach.at r) reach) refl)
      (incident way reach.at graph) (all_trivial (incident way reach.at graph))

  range_next : (way : Way) (bounds : ℕ × ℕ) (hop : HopWanted) (target : NodeWanted) (reach : Reach) → AllByRecursion (IsNext reach) (range_hop graph is_leftwards way bounds hop target reach).0
  range_next way bounds hop target reach =
      all_each (λ s. ⊤) (IsNext reach) (λ s. (end_range graph is_leftwards bounds.0 target reach s, 0))
      (λ s t. all_if (IsNext reach) (nat_le bounds.0 (length s.rs) && node_fits graph reach.row target s.at) (arrive target s.used (stretch_bond is_leftwards s.rs) s.at reach) refl)
      (stretches graph way hop bounds.1 (record { used = reach.used; at = reach.at; rs = [] })).0 (all_trivial (stretches graph way hop bounds.1 (record { used = reach.used; at = reach.at; rs = [] })).0)

  hop_next : (h : HopWanted × NodeWanted) (reach : Reach) → AllByRecursion (IsNext reach) (one_hop graph is_leftwards h reach).0
  hop_next h reach =
      elim (range_of h.0.pattern) as (λ o. AllByRecursion (IsNext reach) (elim o as (λ o. Listing Reach) [
        | None ↦ fixed_hop graph (way_walked is_leftwards (way_of h.0.pattern)) h.0 h.1 reach
        | Some bounds ↦ range_hop graph is_leftwards (way_walked is_leftwards (way_of h.0.pattern)) bounds h.0 h.1 reach
      ]).0) [
        | None ↦ fixed_next (way_walked is_leftwards (way_of h.0.pattern)) h.0 h.1 reach
        | Some bounds ↦ range_next (way_walked is_leftwards (way_of h.0.pattern)) bounds h.0 h.1 reach
      ]

  pub hops_long : (hs : List (HopWanted × NodeWanted)) (reach : Reach) → AllByRecursion (λ x. length x.walked ≡ length hs + length reach.walked) (all_hops graph is_leftwards hs reach).0
  hops_long [] reach = (none_more (length reach.walked), tt)
    where
      none_more : (n : ℕ) → n ≡ 0 + n
      none_more n = omega arith
  hops_long (h ∷ hs) reach =
      all_each (IsNext reach) (λ x. length x.walked ≡ length (h ∷ hs) + length reach.walked) (λ next. all_hops graph is_leftwards hs next)
      (λ next e. all_weaker (λ x. length x.walked ≡ length hs + length next.walked) (λ x. length x.walked ≡ length (h ∷ hs) + length reach.walked) (λ x l. l ∙ one_more (length hs) (length next.walked) (length reach.walked) e) (all_hops graph is_leftwards hs next).0 (hops_long hs next))
      (one_hop graph is_leftwards h reach).0 (hop_next h reach)
    where
      one_more : (a b n : ℕ) → b ≡ suc n → a + b ≡ suc a + n
      one_more a b n e = omega (arith, e)
