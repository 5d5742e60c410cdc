-- The ids of what is new tell all of an assignment, where the row binds the variables of earlier clauses.
use Rattle.std.proofs.Common.{◌≡◌, ◌≢◌, ℕ, suc, pred, Bool, true, false, ◌||◌, ◌⊎◌, inl, inr, List, [], ◌∷◌, ◌++◌, map, length, Option, Some, None, bytes_eq, refl, sym, ap, subst, ◌∙◌}
use Rattle.std.proofs.lemmas.List.{length-map}
use Rattle.std.specs.List.{AllByRecursion, AllZip}
use Rattle.pg_soundness.proofs.MakingRows.{as_many_nodes}
use Rattle.pg_soundness.proofs.MatchLists.{map_joined}
use Rattle.pg_soundness.proofs.ChangesOptions.{none_or_some, some_is}
use Rattle.pg_meaning.specs.EntriesLaws.{same_text}
use Rattle.pg_meaning.specs.Lists.{AllPairsByRecursion}
use Rattle.pg_meaning.specs.ListsLaws.{all_weaker}
use Rattle.pg_meaning.specs.Meaning.{placed, all_placed, new_places, Made, made_hops, all_made, IsTrailOf, StandsFor}
use Rattle.pg_meaning.specs.Names.{Names, is_among}
use Rattle.pg_meaning.specs.Patterns.{nodes_of, node_name, Bond, single, Assignment}
use Rattle.pg_meaning.specs.Rows.{Row, value_in}
use Rattle.pg_meaning.specs.Tree.{NodePattern, RelationshipPattern, PathPattern}
use Rattle.pg_meaning.specs.Value.{Value, node}
use Rattle.pg_meaning.specs.Walks.{bound_value}
use Rattle.pg_relations.proofs.CreatesPlaces.{pattern}
use Rattle.pg_relations.proofs.ProjectedItems.{first_of, rest_of}

abbrev pub Places : Type 0
Places = List (NodePattern × ℕ)

abbrev pub place_id : NodePattern × ℕ → ℕ
place_id p = p.1

abbrev pub made_id : Made → ℕ
made_id m = m.id

-- ---- places

-- all places of a variable have one id, in both
abbrev Known : List ℕ → Places → Places → Type 0
Known name ps qs = (k : ℕ) × AllByRecursion (λ (p : NodePattern × ℕ). node_name p.0 ≡ Some name → p.1 ≡ k) ps × AllByRecursion (λ (q : NodePattern × ℕ). node_name q.0 ≡ Some name → q.1 ≡ k) qs

abbrev pub Repeats : Places → Type 0
Repeats ps = AllPairsByRecursion (λ p q. node_name p.0 ≢ None → node_name p.0 ≡ node_name q.0 → p.1 ≡ q.1) ps

abbrev new_by : Names → Option (List ℕ) → NodePattern × ℕ → Places → Places
new_by names o p ps = elim o as (λ o. Places) [
  | None ↦ p ∷ new_places names ps
  | Some name ↦ elim (is_among names name) as (λ b. Places) [ true ↦ new_places names ps | false ↦ p ∷ new_places (name ∷ names) ps ]
]

either_is : (a b : Bool) → (a || b) ≡ true → (a ≡ true) ⊎ (b ≡ true)
either_is true b e = inl refl
either_is false b e = inr e

-- the later places of a variable have the id of the one before them
later_known : (name : List ℕ) (p : NodePattern × ℕ) (ps : Places) → node_name p.0 ≡ Some name → AllByRecursion (λ (q : NodePattern × ℕ). node_name p.0 ≢ None → node_name p.0 ≡ node_name q.0 → p.1 ≡ q.1) ps → AllByRecursion (λ (q : NodePattern × ℕ). node_name q.0 ≡ Some name → q.1 ≡ p.1) ps
later_known name p ps is h =
    all_weaker (λ (q : NodePattern × ℕ). node_name p.0 ≢ None → node_name p.0 ≡ node_name q.0 → p.1 ≡ q.1) (λ (q : NodePattern × ℕ). node_name q.0 ≡ Some name → q.1 ≡ p.1)
    (λ q r e. sym (r (λ none. none_or_some (node_name p.0) name is none) (is ∙ sym e))) ps h

beside : (p q : NodePattern × ℕ) (ps qs : Places) → p.0 ≡ q.0 → p.1 ≡ q.1 → ps ≡ qs → p ∷ ps ≡ q ∷ qs
beside p q ps qs e f rest = λ i. (e i, f i) ∷ rest i

known_after : (names : Names) (name : List ℕ) (ps qs : Places) → Known name ps qs → ((n : List ℕ) → is_among names n ≡ true → Known n ps qs) → (n : List ℕ) → is_among (name ∷ names) n ≡ true → Known n ps qs
known_after names name ps qs here known n h = by_name (either_is (bytes_eq n name) (is_among names n) h)
  where
    by_name : (bytes_eq n name ≡ true) ⊎ (is_among names n ≡ true) → Known n ps qs
    by_name (inl e) = subst (λ m. Known m ps qs) (sym (same_text n name e)) here
    by_name (inr e) = known n e

-- so it is of the places after one
abbrev Rest : Places → Places → Type 0
Rest ps qs = (more : Names) → ((name : List ℕ) → is_among more name ≡ true → Known name ps qs) → map place_id (new_places more ps) ≡ map place_id (new_places more qs) → ps ≡ qs

pub same_places : (names : Names) (ps qs : Places) → map pattern ps ≡ map pattern qs → ((name : List ℕ) → is_among names name ≡ true → Known name ps qs) → Repeats ps → Repeats qs → map place_id (new_places names ps) ≡ map place_id (new_places names qs) → ps ≡ qs
same_places names [] [] e known r s ids = refl
same_places names [] (q ∷ qs) e known r s ids = cc
same_places names (p ∷ ps) [] e known r s ids = cc
same_places names (p ∷ ps) (q ∷ qs) e known r s ids =
    by_name (node_name p.0) refl (subst (λ o. map place_id (new_by names (node_name p.0) p ps) ≡ map place_id (new_by names o q qs)) (ap node_name (sym one)) ids)
    (λ more known ids. same_places more ps qs (ap rest_of e) known r.1 s.1 ids)
  where
    one : p.0 ≡ q.0
    one = ap (first_of p.0) e

    tail : (name : List ℕ) → is_among names name ≡ true → Known name ps qs
    tail name h = let k = known name h in (k.0, k.1.1, k.2.1)

    by_among : (name : List ℕ) → node_name p.0 ≡ Some name → (b : Bool) → is_among names name ≡ b
        → map place_id (elim b as (λ b. Places) [ true ↦ new_places names ps | false ↦ p ∷ new_places (name ∷ names) ps ]) ≡ map place_id (elim b as (λ b. Places) [ true ↦ new_places names qs | false ↦ q ∷ new_places (name ∷ names) qs ]) → Rest ps qs → p ∷ ps ≡ q ∷ qs
    by_among name is true h ids rest = let k = known name h in beside p q ps qs one (k.1.0 is ∙ sym (k.2.0 (ap node_name (sym one) ∙ is))) (rest names tail ids)
    by_among name is false h ids rest =
        let id = ap (first_of p.1) ids in
        let here : Known name ps qs = (p.1, later_known name p ps is r.0, subst (λ k. AllByRecursion (λ (x : NodePattern × ℕ). node_name x.0 ≡ Some name → x.1 ≡ k) qs) (sym id) (later_known name q qs (ap node_name (sym one) ∙ is) s.0)) in
        beside p q ps qs one id (rest (name ∷ names) (known_after names name ps qs here tail) (ap rest_of ids))

    by_name : (o : Option (List ℕ)) → node_name p.0 ≡ o → map place_id (new_by names o p ps) ≡ map place_id (new_by names o q qs) → Rest ps qs → p ∷ ps ≡ q ∷ qs
    by_name None is ids rest = beside p q ps qs one (ap (first_of p.1) ids) (rest names tail (ap rest_of ids))
    by_name (Some name) is ids rest = by_among name is (is_among names name) refl ids rest

-- ---- variables of earlier clauses

node_id : Value → ℕ
node_id (node n) = n
node_id v = 0

module _ (row : Row) (name : List ℕ) (v : Value) (bound : value_in name row ≡ Some v) where
  one_id : (p : NodePattern × ℕ) → StandsFor row p → node_name p.0 ≡ Some name → p.1 ≡ node_id v
  unfolding node_id
  one_id p (inl none) is = absurd (none_or_some (value_in name row) v bound (subst (λ o. bound_value o row ≡ None) is none))
  one_id p (inr there) is = ap node_id (some_is (node p.1) v (sym (subst (λ o. bound_value o row ≡ Some (node p.1)) is there) ∙ bound))

  pub known_bound : (ps qs : Places) → AllByRecursion (StandsFor row) ps → AllByRecursion (StandsFor row) qs → Known name ps qs
  known_bound ps qs h k = (
    node_id v,
    all_weaker (StandsFor row) (λ (p : NodePattern × ℕ). node_name p.0 ≡ Some name → p.1 ≡ node_id v) one_id ps h,
    all_weaker (StandsFor row) (λ (p : NodePattern × ℕ). node_name p.0 ≡ Some name → p.1 ≡ node_id v) one_id qs k,
  )

-- ---- trails

parts_of : {X : Type 0} (xs us ys vs : List X) → length xs ≡ length us → xs ++ ys ≡ us ++ vs → (xs ≡ us) × (ys ≡ vs)
parts_of [] [] ys vs e h = (refl, h)
parts_of [] (u ∷ us) ys vs e h = cc
parts_of (x ∷ xs) [] ys vs e h = cc
parts_of (x ∷ xs) (u ∷ us) ys vs e h =
    let first = ap (first_of x) h in
    let rest = parts_of xs us ys vs (ap pred e) (ap rest_of h) in
    ((λ i. first i ∷ rest.0 i), rest.1)

placed_ids : (ns : List NodePattern) (ids : List ℕ) → length ids ≡ length ns → map place_id (placed ns ids) ≡ ids
placed_ids [] [] e = refl
placed_ids [] (id ∷ ids) e = cc
placed_ids (n ∷ ns) [] e = cc
placed_ids (n ∷ ns) (id ∷ ids) e = ap (λ ms. id ∷ ms) (placed_ids ns ids (ap pred e))

hop_ids : (hs : List (RelationshipPattern × NodePattern)) (ns : List ℕ) (bs : List Bond) → length ns ≡ suc (length hs) → length bs ≡ length hs → AllByRecursion (λ b. (r : ℕ) × (b ≡ single r)) bs → map single (map made_id (made_hops hs ns bs)) ≡ bs
hop_ids [] ns [] e f h = refl
hop_ids [] ns (b ∷ bs) e f h = cc
hop_ids (x ∷ hs) [] bs e f h = cc
hop_ids (x ∷ hs) (m ∷ []) bs e f h = let impossible : 0 ≡ suc (length hs) = ap pred e in cc
hop_ids (x ∷ hs) (m ∷ n ∷ ns) [] e f h = cc
hop_ids (x ∷ hs) (m ∷ n ∷ ns) (b ∷ bs) e f h =
    subst (λ c. map single (map made_id (made_hops (x ∷ hs) (m ∷ n ∷ ns) (c ∷ bs))) ≡ c ∷ bs) (sym h.0.1)
    (ap (λ rs. single h.0.0 ∷ rs) (hop_ids hs (n ∷ ns) bs (ap pred e) (ap pred f) h.1))

pub same_trails : (paths : List PathPattern) (a b : Assignment) → AllZip IsTrailOf paths a → AllZip IsTrailOf paths b → map place_id (all_placed paths a) ≡ map place_id (all_placed paths b) → map made_id (all_made paths a) ≡ map made_id (all_made paths b) → a ≡ b
same_trails [] [] [] h k ids made = refl
same_trails [] [] (u ∷ us) h k ids made = absurd k
same_trails [] (t ∷ ts) b h k ids made = absurd h
same_trails (p ∷ ps) [] b h k ids made = absurd h
same_trails (p ∷ ps) (t ∷ ts) [] h k ids made = absurd k
same_trails (p ∷ ps) (t ∷ ts) (u ∷ us) h k ids made =
    let nodes =
    parts_of (map place_id (placed (nodes_of p) t.nodes)) (map place_id (placed (nodes_of p) u.nodes)) (map place_id (all_placed ps ts)) (map place_id (all_placed ps us))
    (ap (λ (ns : List ℕ). length ns) (placed_ids (nodes_of p) t.nodes h.0.0) ∙ h.0.0 ∙ sym k.0.0 ∙ sym (ap (λ (ns : List ℕ). length ns) (placed_ids (nodes_of p) u.nodes k.0.0)))
    (sym (map_joined place_id (placed (nodes_of p) t.nodes) (all_placed ps ts)) ∙ ids ∙ map_joined place_id (placed (nodes_of p) u.nodes) (all_placed ps us))
    in
    let mine = hop_ids p.hops t.nodes t.bonds (h.0.0 ∙ ap suc (as_many_nodes p.hops)) h.0.1 h.0.2 in
    let yours = hop_ids p.hops u.nodes u.bonds (k.0.0 ∙ ap suc (as_many_nodes p.hops)) k.0.1 k.0.2 in
    let bonds =
    parts_of (map made_id (made_hops p.hops t.nodes t.bonds)) (map made_id (made_hops p.hops u.nodes u.bonds)) (map made_id (all_made ps ts)) (map made_id (all_made ps us))
    (sym (length-map (map made_id (made_hops p.hops t.nodes t.bonds)) single) ∙ ap (λ (bs : List Bond). length bs) mine ∙ h.0.1 ∙ sym k.0.1 ∙ sym (ap (λ (bs : List Bond). length bs) yours) ∙ length-map (map made_id (made_hops p.hops u.nodes u.bonds)) single)
    (sym (map_joined made_id (made_hops p.hops t.nodes t.bonds) (all_made ps ts)) ∙ made ∙ map_joined made_id (made_hops p.hops u.nodes u.bonds) (all_made ps us))
    in
    let ns = sym (placed_ids (nodes_of p) t.nodes h.0.0) ∙ nodes.0 ∙ placed_ids (nodes_of p) u.nodes k.0.0 in
    let bs = sym mine ∙ ap (map single) bonds.0 ∙ yours in
    let rest = same_trails ps ts us h.1 k.1 nodes.1 bonds.1 in
    λ i. record { nodes = ns i; bonds = bs i } ∷ rest i
