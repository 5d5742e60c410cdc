-- Names that are seen, in whatever order.
use Rattle.std.proofs.Common.{◌≡◌, ◌+◌, ◌||◌, ℕ, Bool, true, false, List, [], ◌∷◌, ◌++◌, flat_map, length, Option, Some, None, refl, sym, ap, ◌∙◌, arith}
use Rattle.std.proofs.lemmas.List.{length-append, length-map}
use Rattle.std.specs.Borrow.{Bor}
use Rattle.std.specs.Prelude.{bytes_eq}
use Rattle.pg_meaning.specs.Names.{Names, is_among}
use Rattle.pg_meaning.specs.Patterns.{nodes_of, node_name}
use Rattle.pg_meaning.specs.Tree.{NodePattern, PathPattern}
use Rattle.pg_meaning.specs.Updates.{count_nodes}
use Rattle.pg_syntax_tree.specs.View.{node_view, path_view}
use Rattle.pg_syntax_tree.specs.declared.patterns.NodePattern.{NodePattern as NodeCode}
use Rattle.pg_syntax_tree.specs.declared.patterns.PathPattern.{PathPattern as PathCode}
use Rattle.pg_write_make.specs.Creations.{count_one}
use Rattle.pg_write_make.specs.Lent.{paths_view}
use Rattle.pg_write_make.specs.Makings.{patterns_view}

abbrev by_name : Names → List NodePattern → Option (List ℕ) → ℕ
by_name names ns o = elim o [
  | None ↦ 1 + count_nodes names ns
  | Some name ↦ elim (is_among names name) [ true ↦ count_nodes names ns | false ↦ 1 + count_nodes (name ∷ names) ns ]
]

-- the count looks at no order of the names
pub count_alike : (xs ys : Names) (ns : List NodePattern) → ((n : List ℕ) → is_among xs n ≡ is_among ys n) → count_nodes xs ns ≡ count_nodes ys ns
count_alike xs ys [] e = refl
count_alike xs ys (p ∷ ns) e = by_case (λ vs ws same. count_alike vs ws ns same) (node_name p)
  where
    by_test : ((vs ws : Names) → ((n : List ℕ) → is_among vs n ≡ is_among ws n) → count_nodes vs ns ≡ count_nodes ws ns) → (name : List ℕ) (b : Bool) → ◌≡◌ {A = ℕ} (elim b [ true ↦ count_nodes xs ns | false ↦ 1 + count_nodes (name ∷ xs) ns ]) (elim b [ true ↦ count_nodes ys ns | false ↦ 1 + count_nodes (name ∷ ys) ns ])
    by_test rest name true = rest xs ys e
    by_test rest name false = ap (λ k. 1 + k) (rest (name ∷ xs) (name ∷ ys) (λ n. ap (λ b. bytes_eq n name || b) (e n)))

    by_case : ((vs ws : Names) → ((n : List ℕ) → is_among vs n ≡ is_among ws n) → count_nodes vs ns ≡ count_nodes ws ns) → (o : Option (List ℕ)) → by_name xs ns o ≡ by_name ys ns o
    by_case rest None = ap (λ k. 1 + k) (rest xs ys e)
    by_case rest (Some name) =
        ap (λ b. elim b [ true ↦ count_nodes xs ns | false ↦ 1 + count_nodes (name ∷ xs) ns ]) (e name)
        ∙ by_test rest name (is_among ys name)

or_both : (a b c : Bool) → (a || (b || c)) ≡ ((b || (a || c)))
or_both true true c = refl
or_both true false c = refl
or_both false b c = refl

pushed_among : (xs names : Names) (t n : List ℕ) → is_among ((xs ++ t ∷ []) ++ names) n ≡ is_among (t ∷ (xs ++ names)) n
pushed_among [] names t n = refl
pushed_among (x ∷ xs) names t n = ap (λ b. bytes_eq n x || b) (pushed_among xs names t n) ∙ or_both (bytes_eq n x) (bytes_eq n t) (is_among (xs ++ names) n)

-- a name that isn't seen yet makes a node, and is seen from then on
pub new_counts : (xs names : Names) (t : List ℕ) (p : NodePattern) (ns : List NodePattern) → node_name p ≡ Some t → is_among (xs ++ names) t ≡ false
    → count_nodes (xs ++ names) (p ∷ ns) ≡ count_one true (count_nodes ((xs ++ t ∷ []) ++ names) ns)
new_counts xs names t p ns is new =
    ap (by_name (xs ++ names) ns) is
    ∙ ap (λ b. elim b [ true ↦ count_nodes (xs ++ names) ns | false ↦ 1 + count_nodes (t ∷ (xs ++ names)) ns ]) new
    ∙ ap (λ k. 1 + k) (sym (count_alike ((xs ++ t ∷ []) ++ names) (t ∷ (xs ++ names)) ns (pushed_among xs names t)))

pub seen_counts : (xs names : Names) (t : List ℕ) (p : NodePattern) (ns : List NodePattern) → node_name p ≡ Some t → is_among (xs ++ names) t ≡ true
    → count_nodes (xs ++ names) (p ∷ ns) ≡ count_one false (count_nodes (xs ++ names) ns)
seen_counts xs names t p ns is seen =
    ap (by_name (xs ++ names) ns) is
    ∙ ap (λ b. elim b [ true ↦ count_nodes (xs ++ names) ns | false ↦ 1 + count_nodes (t ∷ (xs ++ names)) ns ]) seen

pub nameless_counts : (xs : Names) (p : NodePattern) (ns : List NodePattern) → node_name p ≡ None → count_nodes xs (p ∷ ns) ≡ count_one true (count_nodes xs ns)
nameless_counts xs p ns is = ap (by_name xs ns) is

-- a path has a relationship less than it has nodes
pub hops_left : (ps : List PathPattern) → length (flat_map nodes_of ps) ≡ length (flat_map (λ p. p.hops) ps) + length ps
hops_left [] = refl
hops_left (p ∷ ps) =
    let rest = hops_left ps in
    let both = length-append (nodes_of p) (flat_map nodes_of ps) in
    let hops = length-append p.hops (flat_map (λ p. p.hops) ps) in
    let one = length-map p.hops (λ h. h.1) in
    omega (arith, rest, both, hops, one)

pub enough_nodes : (nodes : List (Bor NodeCode)) (paths : List PathCode) → patterns_view nodes ≡ flat_map nodes_of (paths_view paths) → length nodes ≡ length (flat_map (λ p. p.hops) (paths_view paths)) + length paths
enough_nodes nodes paths e =
    let all = ap length e in
    let seen = length-map nodes (λ n. node_view n.now) in
    let hops = hops_left (paths_view paths) in
    let many = length-map paths path_view in
    omega (arith, all, seen, hops, many)

pub among_both : (xs ys : Names) (n : List ℕ) → is_among (xs ++ ys) n ≡ (is_among xs n || is_among ys n)
among_both [] ys n = refl
among_both (x ∷ xs) ys n = ap (λ b. bytes_eq n x || b) (among_both xs ys n) ∙ or_grouped (bytes_eq n x) (is_among xs n) (is_among ys n)
  where
    or_grouped : (a b c : Bool) → (a || (b || c)) ≡ ((a || b) || c)
    or_grouped true b c = refl
    or_grouped false b c = refl
