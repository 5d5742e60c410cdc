-- The names that whole trails bind are those of the paths.
use Rattle.std.proofs.Common.{◌≡◌, ◌≤◌, ℕ, List, [], ◌∷◌, ◌++◌, map, flat_map, length, take, Option, Some, None, Ok, refl, sym, ap, subst, ◌∙◌, arith}
use Rattle.std.proofs.lemmas.List.{length-map}
use Rattle.std.proofs.Math.Seq.{take-append_seam}
use Rattle.pg_meaning.specs.Graph.{Graph}
use Rattle.pg_meaning.specs.Meters.{Setting}
use Rattle.pg_meaning.specs.Patterns.{Assignment, Bond, Trail, add_if_named, add_hop_names, add_path_names, relationship_name, node_name, text_of}
use Rattle.pg_meaning.specs.Tree.{NodePattern, RelationshipPattern, PathPattern}
use Rattle.pg_meaning.specs.Value.{Value, node}
use Rattle.pg_rows.specs.Named.{row_of}
use Rattle.pg_value_core.specs.View.{view}
use Rattle.pg_value_core.specs.declared.value.Value.{Value as Code}
use Rattle.pg_write_make.proofs.NameLemmas.{extends}
use Rattle.pg_write_make.proofs.WholeLemmas.{AreWhole, IsWhole, made_whole}
use Rattle.pg_write_make.specs.Bindings.{Binding, add_each, named, hop_bindings, path_bindings, match_bindings, hop_names, path_names, names_in, EndsWith}
use Rattle.pg_write_make.specs.Outcomes.{Outcomes, path_outcomes, paths_made}

abbrev names_bound : List Binding → List (Option (List ℕ))
names_bound bs = map (λ b. b.0) bs

hops_named : (hs : List (RelationshipPattern × NodePattern)) (bs : List Bond) (ns : List ℕ) → length bs ≡ length hs → length ns ≡ length hs → names_bound (hop_bindings hs bs ns) ≡ hop_names hs
hops_named [] bs ns p q = refl
hops_named (h ∷ hs) [] ns p q = absurd (omega (arith, p))
hops_named (h ∷ hs) (b ∷ bs) [] p q = absurd (omega (arith, q))
hops_named (h ∷ hs) (b ∷ bs) (n ∷ ns) p q = ap (λ os. relationship_name h.0 ∷ node_name h.1 ∷ os) (hops_named hs bs ns (omega (arith, p)) (omega (arith, q)))

path_named : (graph : Graph) (p : PathPattern) (t : Trail) (ns : List ℕ) → t.nodes ≡ ns → IsWhole p t → names_bound (path_bindings graph p t) ≡ path_names p
path_named graph p t [] none w =
    let few = ap length none in
    let all = w.nodes in
    absurd (omega (arith, few, all))
path_named graph p t (n ∷ ns) are w =
    let ends = ap length are in
    let all = w.nodes in
    ap (λ ms. text_of p.variable ∷ names_bound (elim ms [ [] ↦ [] | m ∷ others ↦ (node_name p.first, node m) ∷ hop_bindings p.hops t.bonds others ])) are
    ∙ ap (λ os. text_of p.variable ∷ node_name p.first ∷ os) (hops_named p.hops t.bonds ns w.bonds (omega (arith, ends, all)))

names_both : (as_ bs : List Binding) → names_bound (as_ ++ bs) ≡ names_bound as_ ++ names_bound bs
names_both [] bs = refl
names_both (a ∷ as_) bs = ap (λ os. a.0 ∷ os) (names_both as_ bs)

all_named : (graph : Graph) (ps : List PathPattern) (ts : Assignment) → AreWhole ps ts → names_bound (match_bindings graph ps ts) ≡ flat_map path_names ps
all_named graph [] [] w = refl
all_named graph [] (t ∷ ts) w = absurd w
all_named graph (p ∷ ps) [] w = absurd w
all_named graph (p ∷ ps) (t ∷ ts) w =
    names_both (path_bindings graph p t) (match_bindings graph ps ts)
    ∙ (λ i. path_named graph p t t.nodes refl w.0 i ++ all_named graph ps ts w.1 i)

pub named_alike : (bs : List Binding) (names : List (List ℕ)) → add_each (names_bound (named bs)) names ≡ add_each (names_bound bs) names
named_alike [] names = refl
named_alike (b ∷ bs) names = by_name (λ ns. named_alike bs ns) b.0
  where
    by_name : ((ns : List (List ℕ)) → add_each (names_bound (named bs)) ns ≡ add_each (names_bound bs) ns) → (o : Option (List ℕ)) → add_each (names_bound (named ((o, b.1) ∷ bs))) names ≡ add_each (names_bound bs) (add_if_named o names)
    by_name rest None = rest names
    by_name rest (Some name) = rest (add_if_named (Some name) names)

add_both : (ms ns : List (Option (List ℕ))) (names : List (List ℕ)) → add_each (ms ++ ns) names ≡ add_each ns (add_each ms names)
add_both [] ns names = refl
add_both (m ∷ ms) ns names = add_both ms ns (add_if_named m names)

hops_added : (hs : List (RelationshipPattern × NodePattern)) (names : List (List ℕ)) → add_hop_names hs names ≡ add_each (hop_names hs) names
hops_added [] names = refl
hops_added (h ∷ hs) names = hops_added hs (add_if_named (node_name h.1) (add_if_named (relationship_name h.0) names))

pub paths_added : (ps : List PathPattern) (names : List (List ℕ)) → add_path_names ps names ≡ add_each (flat_map path_names ps) names
paths_added [] names = refl
paths_added (p ∷ ps) names =
    ap (add_path_names ps) (hops_added p.hops (add_if_named (node_name p.first) (add_if_named (text_of p.variable) names)))
    ∙ paths_added ps (add_each (path_names p) names)
    ∙ sym (add_both (path_names p) (flat_map path_names ps) names)

names_taken : (names : List (List ℕ)) (vs : List Value) → length vs ≤ length names → names_in (row_of names vs) ≡ take (length vs) names
names_taken [] [] h = refl
names_taken [] (v ∷ vs) h = absurd (omega (arith, h))
names_taken (n ∷ names) [] h = refl
names_taken (n ∷ names) (v ∷ vs) h = ap (λ ms. n ∷ ms) (names_taken names vs (omega (arith, h)))

-- a row is ready to be bound to what was made at it
pub ready_to_bind : (max : ℕ) (s : Setting) (graph after : Graph) (names : List (List ℕ)) (values : List Value) (os : List Outcomes) (ps : List PathPattern) (ts : Assignment) → length values ≤ length names → add_path_names ps (take (length values) names) ≡ names
    → os ≡ map (path_outcomes s graph (row_of names values)) ps → paths_made max os ps (graph, row_of names values) ≡ Ok (after, ts)
    → EndsWith names values (named (match_bindings after ps ts))
ready_to_bind max s graph after names values os ps ts within ends are made = record {
  within = within;
  ends =
      named_alike (match_bindings after ps ts) (names_in (row_of names values))
      ∙ ap (λ ms. add_each ms (names_in (row_of names values))) (all_named after ps ts (made_whole max s graph (row_of names values) os ps (after, ts) are made))
      ∙ sym (paths_added ps (names_in (row_of names values)))
      ∙ ap (add_path_names ps) (names_taken names values within)
      ∙ ends;
}

pub ready_row : (max : ℕ) (s : Setting) (read graph after found : Graph) (names : List (List ℕ)) (row : List Code) (os : List Outcomes) (ps : List PathPattern) (ts : Assignment) → length row ≤ length names → add_path_names ps (take (length row) names) ≡ names
    → read ≡ graph → found ≡ after → os ≡ map (path_outcomes s read (row_of names (map view row))) ps → paths_made max os ps (graph, row_of names (map view row)) ≡ Ok (after, ts)
    → EndsWith names (map view row) (named (match_bindings found ps ts))
ready_row max s read graph after found names row os ps ts within ends same same' are made =
    let long = length-map row view in
    let ready = ready_to_bind max s graph after names (map view row) os ps ts (omega (arith, long, within)) (ap (λ k. add_path_names ps (take k names)) long ∙ ends) (are ∙ ap (λ g. map (path_outcomes s g (row_of names (map view row))) ps) same) made in
    subst (λ (g : Graph). EndsWith names (map view row) (named (match_bindings g ps ts))) (sym same') ready

-- the names of the paths stand behind those that there were
pub more_names : (ps : List PathPattern) (names : List (List ℕ)) → (more : List (List ℕ)) × (add_path_names ps names ≡ names ++ more)
more_names ps names =
    let e = extends (flat_map path_names ps) names in
    (e.0, paths_added ps names ∙ e.1)

pub first_kept : (ps : List PathPattern) (names after : List (List ℕ)) → after ≡ add_path_names ps names → take (length names) after ≡ names
first_kept ps names after is =
    let e = more_names ps names in
    ap (take (length names)) (is ∙ e.1) ∙ take-append_seam names e.0
