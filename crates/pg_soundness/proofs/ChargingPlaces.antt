-- What the places of a walk charge, one after the other; and that it is the cost.
use Rattle.std.proofs.Common.{◌≡◌, ℕ, zero, suc, ◌+◌, ◌-◌, ◌≤◌, Bool, true, false, cond, ◌&&◌, List, [], ◌∷◌, ◌++◌, map, flat_map, filter, fold, length, sum, refl, ap, ◌∙◌, arith}
use Rattle.std.proofs.lemmas.List.{length-append, length-map}
use Rattle.pg_meaning.specs.Cost.{Place, at_anchor, over_hop, over_range, most_at, Reached, Beginning, origin, is_whole, over, with_ends, candidates_of, with_candidate, grown, all_grown, tried}
use Rattle.pg_meaning.specs.Graph.{Graph, incident, Way}
use Rattle.pg_meaning.specs.Patterns.{node_name}
use Rattle.pg_meaning.specs.Plans.{Fixed}
use Rattle.pg_meaning.specs.Rows.{Row, bind_if_named}
use Rattle.pg_meaning.specs.Value.{node, Entries}
use Rattle.pg_meaning.specs.Walks.{NodeWanted, HopWanted, node_fits, relationship_fits, end_of, candidates}
use Rattle.pg_soundness.proofs.ChargingSums.{total, total_joined, total_same, total_ones, flat_joined}

-- ---- room

abbrev pub room : List Place → ℕ
room [] = 0
room (p ∷ ps) = most_at p + room ps

pub room_is : (ps : List Place) → sum (map most_at ps) ≡ room ps
room_is ps = summed ps 0 ∙ none_more (room ps)
  where
    none_more : (n : ℕ) → 0 + n ≡ n
    none_more n = omega arith

    summed : (ps : List Place) (k : ℕ) → fold (λ a x. a + x) k (map most_at ps) ≡ k + room ps
    summed [] k = no_more k
      where
        no_more : (n : ℕ) → n ≡ n + 0
        no_more n = omega arith
    summed (p ∷ ps) k = summed ps (k + most_at p) ∙ moved k (most_at p) (room ps)
      where
        moved : (a b c : ℕ) → (a + b) + c ≡ a + (b + c)
        moved a b c = omega arith

module _ (graph : Graph) (parameters : Entries) (leads : List Fixed) where
  -- ---- what is charged from a place on

  abbrev pub after : NodeWanted → Row → (anchor : ℕ) → (used : List ℕ) → ℕ → Reached
  after target row anchor used n = record { row = bind_if_named (node_name target.pattern) (node n) row; used = used; anchor = anchor; at = n }

  -- a range ended here
  abbrev pub end_charge : (Reached → ℕ) → NodeWanted → Row → (anchor least : ℕ) → (used : List ℕ) → ℕ → ℕ
  end_charge k target row anchor zero used at = elim (node_fits graph row target at) [ true ↦ k (after target row anchor used at) | false ↦ 0 ]
  end_charge k target row anchor (suc least) used at = 0

  abbrev pub range_charge : (Reached → ℕ) → Way → HopWanted → NodeWanted → Row → (anchor most least : ℕ) → (used : List ℕ) → ℕ → ℕ
  range_charge k way hop target row anchor zero least used at = end_charge k target row anchor least used at
  range_charge k way hop target row anchor (suc more) least used at =
      end_charge k target row anchor least used at
      + total (λ c. 1 + elim (relationship_fits graph used hop c) as (λ b. ℕ) [ true ↦ range_charge k way hop target row anchor more (least - 1) (c ∷ used) (end_of graph at c) | false ↦ 0 ]) (incident way at graph)

  abbrev pub charge : List Place → Reached → ℕ
  charge [] x = 1
  charge (at_anchor a w ∷ ps) x =
      total (λ c. 1 + elim (node_fits graph x.row w c) as (λ b. ℕ) [ true ↦ charge ps (after w x.row c x.used c) | false ↦ 0 ]) (candidates graph parameters leads x.row a w)
  charge (over_hop again way hop target ∷ ps) x =
      total (λ c. 1 + elim (relationship_fits graph x.used hop c && node_fits graph x.row target (end_of graph (origin again x) c)) as (λ b. ℕ) [ true ↦ charge ps (after target x.row x.anchor (c ∷ x.used) (end_of graph (origin again x) c)) | false ↦ 0 ]) (incident way (origin again x) graph)
  charge (over_range again way least most hop target ∷ ps) x = range_charge (charge ps) way hop target x.row x.anchor most least x.used (origin again x)

  -- ---- the weight of beginnings

  abbrev pub weight : Beginning → ℕ
  weight b = length (candidates_of graph parameters leads b) + cond (is_whole b) 1 0

  pub weighed : (bs : List Beginning) → length (tried graph parameters leads bs) + length (filter is_whole bs) ≡ total weight bs
  weighed [] = refl
  weighed (b ∷ bs) =
      let here : List (Beginning × ℕ) = map (λ c. (b, c)) (candidates_of graph parameters leads b) in
      let split : length (here ++ tried graph parameters leads bs) ≡ length (candidates_of graph parameters leads b) + length (tried graph parameters leads bs) = length-append here (tried graph parameters leads bs) ∙ ap (λ n. n + length (tried graph parameters leads bs)) (length-map (candidates_of graph parameters leads b) (λ c. (b, c))) in
      rearranged (length (here ++ tried graph parameters leads bs)) (length (candidates_of graph parameters leads b)) (length (tried graph parameters leads bs)) (length (filter is_whole bs)) (length (filter is_whole (b ∷ bs))) (cond (is_whole b) 1 0) (total weight bs) split (kept (is_whole b)) (weighed bs)
    where
      kept : (c : Bool) → length (cond c (b ∷ filter is_whole bs) (filter is_whole bs)) ≡ cond c 1 0 + length (filter is_whole bs)
      kept true = one_more (length (filter is_whole bs))
        where
          one_more : (n : ℕ) → suc n ≡ 1 + n
          one_more n = omega arith
      kept false = none_more (length (filter is_whole bs))
        where
          none_more : (n : ℕ) → n ≡ 0 + n
          none_more n = omega arith

      rearranged : (s l t f g c w : ℕ) → s ≡ l + t → g ≡ c + f → t + f ≡ w → s + g ≡ (l + c) + w
      rearranged s l t f g c w e h k = omega (arith, e, h, k)

  -- of beginnings, and of what they grow into by so many candidates
  abbrev pub all_weight : ℕ → List Beginning → ℕ
  all_weight n bs = total weight (all_grown graph parameters leads n bs)

  abbrev grown_of : Beginning → List Beginning
  grown_of b = grown graph parameters leads b

  next_weight : (n : ℕ) (bs : List Beginning) → all_weight (suc n) bs ≡ total weight bs + all_weight n (flat_map grown_of bs)
  next_weight n bs = total_joined weight bs (all_grown graph parameters leads n (flat_map grown_of bs))

  no_weight : (n : ℕ) → all_weight n [] ≡ 0
  no_weight zero = refl
  no_weight (suc n) = no_weight n

  joined_weight : (n : ℕ) (as_ bs : List Beginning) → all_weight n (as_ ++ bs) ≡ all_weight n as_ + all_weight n bs
  joined_weight zero as_ bs = total_joined weight as_ bs
  joined_weight (suc n) as_ bs =
      rearranged (all_weight (suc n) (as_ ++ bs)) (total weight (as_ ++ bs)) (all_weight n (flat_map grown_of (as_ ++ bs))) (total weight as_) (total weight bs) (all_weight n (flat_map grown_of as_)) (all_weight n (flat_map grown_of bs)) (all_weight (suc n) as_) (all_weight (suc n) bs)
      (next_weight n (as_ ++ bs)) (total_joined weight as_ bs) (ap (all_weight n) (flat_joined grown_of as_ bs) ∙ joined_weight n (flat_map grown_of as_) (flat_map grown_of bs)) (next_weight n as_) (next_weight n bs)
    where
      rearranged : (w t g a b c d u v : ℕ) → w ≡ t + g → t ≡ a + b → g ≡ c + d → u ≡ a + c → v ≡ b + d → w ≡ u + v
      rearranged w t g a b c d u v e f h i j = omega (arith, e, f, h, i, j)

  flat_weight : {X : Type 0} (n : ℕ) (g : X → List Beginning) (xs : List X) → all_weight n (flat_map g xs) ≡ total (λ x. all_weight n (g x)) xs
  flat_weight n g [] = no_weight n
  flat_weight n g (x ∷ xs) = joined_weight n (g x) (flat_map g xs) ∙ ap (λ m. all_weight n (g x) + m) (flat_weight n g xs)

  abbrev tries : Beginning → ℕ → List Beginning
  tries b c = with_candidate graph parameters leads b c

  one_weight : (n : ℕ) (b : Beginning) → all_weight (suc n) (b ∷ []) ≡ weight b + total (λ c. all_weight n (tries b c)) (candidates_of graph parameters leads b)
  one_weight n b =
      rearranged (all_weight (suc n) (b ∷ [])) (weight b) (all_weight n (grown_of b ++ [])) (all_weight n (grown_of b)) (total (λ c. all_weight n (tries b c)) (candidates_of graph parameters leads b))
      (next_weight n (b ∷ [])) (joined_weight n (grown_of b) []) (no_weight n) (flat_weight n (tries b) (candidates_of graph parameters leads b))
    where
      rearranged : (w a g h t : ℕ) → w ≡ (a + 0) + g → g ≡ h + all_weight n [] → all_weight n [] ≡ 0 → h ≡ t → w ≡ a + t
      rearranged w a g h t e f z i = omega (arith, e, f, z, i)

  -- a beginning that isn't whole, by what each candidate leads to
  place_weight : (n : ℕ) (b : Beginning) (f : ℕ → ℕ) → is_whole b ≡ false → ((c : ℕ) → all_weight n (tries b c) ≡ f c) → all_weight (suc n) (b ∷ []) ≡ total (λ c. 1 + f c) (candidates_of graph parameters leads b)
  place_weight n b f e h =
      one_weight n b
      ∙ rearranged (length (candidates_of graph parameters leads b)) (cond (is_whole b) 1 0) (total (λ c. all_weight n (tries b c)) (candidates_of graph parameters leads b)) (total f (candidates_of graph parameters leads b)) (ap (λ c. cond c 1 0) e) (total_same (λ c. all_weight n (tries b c)) f h (candidates_of graph parameters leads b))
      ∙ total_ones f (candidates_of graph parameters leads b)
    where
      rearranged : (l z s t : ℕ) → z ≡ 0 → s ≡ t → (l + z) + s ≡ l + t
      rearranged l z s t e f = omega (arith, e, f)

  -- ---- the weight is the charge

  abbrev ends : Reached → List Place → List Beginning
  ends x ps = with_ends graph parameters leads x ps

  if_weight : (n : ℕ) (b : Bool) (bs : List Beginning) (m : ℕ) → all_weight n bs ≡ m → all_weight n (elim b as (λ c. List Beginning) [ true ↦ bs | false ↦ [] ]) ≡ elim b as (λ c. ℕ) [ true ↦ m | false ↦ 0 ]
  if_weight n true bs m e = e
  if_weight n false bs m e = no_weight n

  abbrev IsCharged : List Place → Type 0
  IsCharged ps = (n : ℕ) (x : Reached) → room ps ≤ n → all_weight n (ends x ps) ≡ charge ps x

  module _ (way : Way) (hop : HopWanted) (target : NodeWanted) (ps : List Place) (is : IsCharged ps) where
    abbrev open_at : (again : Bool) → (least most : ℕ) → Reached → Beginning
    open_at again least most x = (x, over_range again way least most hop target ∷ ps)

    abbrev from : (again : Bool) → (least most : ℕ) → Reached → ℕ
    from again least most x = range_charge (charge ps) way hop target x.row x.anchor most least x.used (origin again x)

    abbrev grows : (again : Bool) → (least : ℕ) → (most : ℕ) → Reached → ℕ
    grows again least zero x = 0
    grows again least (suc more) x =
        total (λ c. 1 + elim (relationship_fits graph x.used hop c) as (λ b. ℕ) [ true ↦ range_charge (charge ps) way hop target x.row x.anchor more (least - 1) (c ∷ x.used) (end_of graph (origin again x) c) | false ↦ 0 ]) (incident way (origin again x) graph)

    from_is : (again : Bool) (least most : ℕ) (x : Reached) → end_charge (charge ps) target x.row x.anchor least x.used (origin again x) + grows again least most x ≡ from again least most x
    from_is again least zero x = no_more (end_charge (charge ps) target x.row x.anchor least x.used (origin again x))
      where
        no_more : (n : ℕ) → n + 0 ≡ n
        no_more n = omega arith
    from_is again least (suc more) x = refl

    range_ends : (again : Bool) (least most : ℕ) (n : ℕ) (x : Reached) → room ps ≤ n → all_weight n (open_at again least most x ∷ []) ≡ grows again least most x → all_weight n (ends x (over_range again way least most hop target ∷ ps)) ≡ from again least most x
    range_ends again zero most n x h e =
        joined_weight n (open_at again zero most x ∷ []) (elim (node_fits graph x.row target (origin again x)) as (λ b. List Beginning) [ true ↦ ends (over x target x.used (origin again x)) ps | false ↦ [] ])
        ∙ swapped (all_weight n (open_at again zero most x ∷ [])) (grows again zero most x) _ (end_charge (charge ps) target x.row x.anchor zero x.used (origin again x)) e
        (if_weight n (node_fits graph x.row target (origin again x)) (ends (over x target x.used (origin again x)) ps) (charge ps (over x target x.used (origin again x))) (is n (over x target x.used (origin again x)) h))
        ∙ from_is again zero most x
      where
        swapped : (a b c d : ℕ) → a ≡ b → c ≡ d → a + c ≡ d + b
        swapped a b c d e f = omega (arith, e, f)
    range_ends again (suc least) most n x h e = e ∙ none_more (grows again (suc least) most x) ∙ from_is again (suc least) most x
      where
        none_more : (n : ℕ) → n ≡ 0 + n
        none_more n = omega arith

    range_weight : (most : ℕ) (again : Bool) (least : ℕ) (n : ℕ) (x : Reached) → most + room ps ≤ n → all_weight n (ends x (over_range again way least most hop target ∷ ps)) ≡ from again least most x
    range_weight zero again least n x h = range_ends again least zero n x (less (room ps) n h) (closed n)
      where
        less : (a b : ℕ) → 0 + a ≤ b → a ≤ b
        less a b h = omega (arith, h)

        closed : (n : ℕ) → all_weight n (open_at again least zero x ∷ []) ≡ 0
        closed zero = refl
        closed (suc n) = one_weight n (open_at again least zero x)
    range_weight (suc more) again least zero x h = absurd (too_many more (room ps) h)
      where
        too_many : (a b : ℕ) → suc a + b ≤ 0 → ⊥
        too_many a b h = omega (arith, h)
    range_weight (suc more) again least (suc n) x h =
        range_ends again least (suc more) (suc n) x (less more (room ps) n h)
        (place_weight n (open_at again least (suc more) x) _ refl
        (λ c. if_weight n (relationship_fits graph x.used hop c) (ends (record { row = x.row; used = c ∷ x.used; anchor = x.anchor; at = end_of graph (origin again x) c }) (over_range false way (least - 1) more hop target ∷ ps))
        (range_charge (charge ps) way hop target x.row x.anchor more (least - 1) (c ∷ x.used) (end_of graph (origin again x) c))
        (range_weight more false (least - 1) n (record { row = x.row; used = c ∷ x.used; anchor = x.anchor; at = end_of graph (origin again x) c }) (one_less more (room ps) n h))))
      where
        less : (a b n : ℕ) → suc a + b ≤ suc n → b ≤ suc n
        less a b n h = omega (arith, h)

        one_less : (a b n : ℕ) → suc a + b ≤ suc n → a + b ≤ n
        one_less a b n h = omega (arith, h)

  too_few : {C : Type 0} (a : ℕ) → 1 + a ≤ 0 → C
  too_few a h = absurd (no a h)
    where
      no : (a : ℕ) → 1 + a ≤ 0 → ⊥
      no a h = omega (arith, h)

  one_fewer : (a n : ℕ) → 1 + a ≤ suc n → a ≤ n
  one_fewer a n h = omega (arith, h)

  pub weight_is_charge : (ps : List Place) → IsCharged ps
  weight_is_charge [] zero x h = refl
  weight_is_charge [] (suc n) x h = one_weight n (x, []) ∙ refl
  weight_is_charge (at_anchor a w ∷ ps) zero x h = too_few (room ps) h
  weight_is_charge (at_anchor a w ∷ ps) (suc n) x h =
      place_weight n (x, at_anchor a w ∷ ps) _ refl
      (λ c. if_weight n (node_fits graph x.row w c) (ends (after w x.row c x.used c) ps) (charge ps (after w x.row c x.used c)) (weight_is_charge ps n (after w x.row c x.used c) (one_fewer (room ps) n h)))
  weight_is_charge (over_hop again way hop target ∷ ps) zero x h = too_few (room ps) h
  weight_is_charge (over_hop again way hop target ∷ ps) (suc n) x h =
      place_weight n (x, over_hop again way hop target ∷ ps) _ refl
      (λ c. if_weight n (relationship_fits graph x.used hop c && node_fits graph x.row target (end_of graph (origin again x) c)) (ends (over x target (c ∷ x.used) (end_of graph (origin again x) c)) ps) (charge ps (over x target (c ∷ x.used) (end_of graph (origin again x) c)))
      (weight_is_charge ps n (over x target (c ∷ x.used) (end_of graph (origin again x) c)) (one_fewer (room ps) n h)))
  weight_is_charge (over_range again way least most hop target ∷ ps) n x h = range_weight way hop target ps (weight_is_charge ps) most again least n x h
