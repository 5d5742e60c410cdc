-- In paths without static faults a place with properties makes a node.
use Rattle.std.proofs.Common.{◌≡◌, ℕ, Bool, true, false, not, ◌||◌, ◌&&◌, ◌⊎◌, inl, inr, List, [], ◌∷◌, ◌++◌, map, flat_map, Option, Some, None, bytes_eq, refl, ap, subst, ◌∙◌}
use Rattle.std.specs.List.{AllByRecursion}
use Rattle.pg_soundness.proofs.MatchScopes.{first_none, second_none, none_found}
use Rattle.pg_meaning.specs.Lists.{IsIn}
use Rattle.pg_meaning.specs.ListsLaws.{all_weaker}
use Rattle.pg_meaning.specs.Meaning.{all_nodes, new_places}
use Rattle.pg_meaning.specs.Names.{Names, is_among}
use Rattle.pg_meaning.specs.Patterns.{nodes_of, text_of}
use Rattle.pg_meaning.specs.StaticFaults.{Mode, creating, merging, is_matching, Part, path_part, node_part, relationship_part, path_parts, hop_parts, path_variable_part, Used, with_variable, relationship_variable, is_used, has_properties, is_described, is_misused, node_variable_faults, part_faults, parts_faults, properties_faults}
use Rattle.pg_meaning.specs.declared.fault.Fault.TheVariants.{VariableAlreadyBound}
use Rattle.pg_meaning.specs.Tree.{Name, Properties, no_properties, given, from_parameter, NodePattern, RelationshipPattern, PathPattern}
use Rattle.pg_relations.proofs.CreatesPlaces.{new_of, made_at_all}
use Rattle.pg_relations.specs.Decided.{CreateDescribesNew, MergeDescribesNew}

-- ---- the node places among the parts

abbrev nodes_in : List Part → List NodePattern
nodes_in [] = []
nodes_in (path_part n ∷ xs) = nodes_in xs
nodes_in (node_part is_whole x ∷ xs) = x ∷ nodes_in xs
nodes_in (relationship_part r ∷ xs) = nodes_in xs

nodes_joined : (xs ys : List Part) → nodes_in (xs ++ ys) ≡ nodes_in xs ++ nodes_in ys
nodes_joined [] ys = refl
nodes_joined (path_part n ∷ xs) ys = nodes_joined xs ys
nodes_joined (node_part is_whole x ∷ xs) ys = ap (λ ns. x ∷ ns) (nodes_joined xs ys)
nodes_joined (relationship_part r ∷ xs) ys = nodes_joined xs ys

nodes_of_hops : (hs : List (RelationshipPattern × NodePattern)) → nodes_in (flat_map hop_parts hs) ≡ map (λ (h : RelationshipPattern × NodePattern). h.1) hs
nodes_of_hops [] = refl
nodes_of_hops (h ∷ hs) = ap (λ ns. h.1 ∷ ns) (nodes_of_hops hs)

no_nodes : (v : Option Name) → nodes_in (path_variable_part v) ≡ []
no_nodes None = refl
no_nodes (Some n) = refl

nodes_of_paths : (ps : List PathPattern) → nodes_in (flat_map path_parts ps) ≡ all_nodes ps
nodes_of_paths [] = refl
nodes_of_paths (p ∷ ps) =
    nodes_joined (path_parts p) (flat_map path_parts ps)
    ∙ ap (λ ns. ns ++ nodes_in (flat_map path_parts ps)) (nodes_joined (path_variable_part p.variable) _ ∙ (λ i. no_nodes p.variable i ++ (p.first ∷ nodes_of_hops p.hops i)))
    ∙ ap (λ ns. nodes_of p ++ ns) (nodes_of_paths ps)

-- ---- tests

or_right : (a b : Bool) → b ≡ true → (a || b) ≡ true
or_right true b e = refl
or_right false b e = e

or_same : (a b c : Bool) → (b ≡ true → c ≡ true) → (a || b) ≡ true → (a || c) ≡ true
or_same true b c f e = refl
or_same false b c f e = f e

or_first : (b c d : Bool) → (b || c) ≡ true → (b || (d || c)) ≡ true
or_first true c d e = refl
or_first false c d e = or_right d c e

or_second : (b c d : Bool) → (b || c) ≡ true → ((d || b) || c) ≡ true
or_second b c true e = refl
or_second b c false e = e

middle_false : (a b c : Bool) → (a || b || c) ≡ false → b ≡ false
middle_false true b c e = cc
middle_false false true c e = cc
middle_false false false c e = refl

undescribed : (is_whole : Bool) (x : NodePattern) → is_described is_whole x ≡ false → x.properties ≡ no_properties
undescribed is_whole x e = none x.properties (middle_false _ (has_properties x.properties) is_whole e)
  where
    none : (ps : Properties) → has_properties ps ≡ false → ps ≡ no_properties
    none no_properties e = refl
    none (given ps) e = cc
    none (from_parameter n) e = cc

not_misused : (a m o d : Bool) → (a || (not m && o && d)) ≡ false → m ≡ false → o ≡ true → d ≡ false
not_misused true m o d e f g = cc
not_misused false true o d e f g = cc
not_misused false false false d e f g = cc
not_misused false false true d e f g = e

with_new : (d a o n r : Bool) → (d || a) ≡ true → (a ≡ true → (o || (n || r)) ≡ true) → (o || ((d || n) || r)) ≡ true
with_new true a o n r h f = or_right o true refl
with_new false a o n r h f = f h

-- ---- part by part

-- the names so far stood before the clause or in it
abbrev Covers : Names → Names → Used → Type 0
Covers names outer used = (name : List ℕ) → is_among names name ≡ true → (is_among outer name || is_used used name) ≡ true

abbrev AreDescribed : List NodePattern → List NodePattern → Type 0
AreDescribed new ns = AllByRecursion (λ (n : NodePattern). (n.properties ≡ no_properties) ⊎ IsIn n new) ns

one_more : (x : NodePattern) (new ns : List NodePattern) → AreDescribed new ns → AreDescribed (x ∷ new) ns
one_more x new ns h = all_weaker (λ (n : NodePattern). (n.properties ≡ no_properties) ⊎ IsIn n new) (λ (n : NodePattern). (n.properties ≡ no_properties) ⊎ IsIn n (x ∷ new)) (λ n i. elim i [ inl e ↦ inl e | inr j ↦ inr (inr j) ]) ns h

covers_other : (names outer : Names) (used : Used) (v : Option Name) → Covers names outer used → Covers names outer (record used { others = with_variable v used.others })
covers_other names outer used None c = c
covers_other names outer used (Some v) c =
    λ name h. or_same (is_among outer name) (is_used used name) (is_used (record used { others = v.text ∷ used.others }) name) (or_first (is_among used.nodes name) (is_among used.others name) (bytes_eq name v.text)) (c name h)

covers_node : (names outer : Names) (used : Used) (v : Name) → Covers names outer used → Covers names outer (record used { nodes = v.text ∷ used.nodes })
covers_node names outer used v c =
    λ name h. or_same (is_among outer name) (is_used used name) (is_used (record used { nodes = v.text ∷ used.nodes }) name) (or_second (is_among used.nodes name) (is_among used.others name) (bytes_eq name v.text)) (c name h)

covers_new : (names outer : Names) (used : Used) (v : Name) → Covers names outer used → Covers (v.text ∷ names) outer (record used { nodes = v.text ∷ used.nodes })
covers_new names outer used v c = λ name h. with_new (bytes_eq name v.text) (is_among names name) (is_among outer name) (is_among used.nodes name) (is_among used.others name) h (c name)

module _ (mode : Mode) (writes : is_matching mode ≡ false) (outer : Names) where
  abbrev Told : List Part → Type 0
  Told xs = (used : Used) (names : Names) → Covers names outer used → parts_faults mode outer used xs ≡ [] → AreDescribed (new_of names (nodes_in xs)) (nodes_in xs)

  abbrev new_by : Names → NodePattern → List NodePattern → Option (List ℕ) → List NodePattern
  new_by names x ns o = elim o [
    | None ↦ x ∷ new_of names ns
    | Some name ↦ elim (is_among names name) [ true ↦ new_of names ns | false ↦ x ∷ new_of (name ∷ names) ns ]
  ]

  at_node : (is_whole : Bool) (x : NodePattern) (xs : List Part) (used : Used) (names : Names) (o : Option Name) → Told xs → Covers names outer used → node_variable_faults mode outer used is_whole x o ≡ []
      → parts_faults mode outer (record used { nodes = with_variable o used.nodes }) xs ≡ [] → AreDescribed (new_by names x (nodes_in xs) (text_of o)) (x ∷ nodes_in xs)
  at_node is_whole x xs used names None rest c f e = (inr (inl refl), one_more x (new_of names (nodes_in xs)) (nodes_in xs) (rest used names c e))
  at_node is_whole x xs used names (Some v) rest c f e = by_known (is_among names v.text) refl
    where
      by_known : (b : Bool) → is_among names v.text ≡ b → AreDescribed (elim b as (λ b. List NodePattern) [ true ↦ new_of names (nodes_in xs) | false ↦ x ∷ new_of (v.text ∷ names) (nodes_in xs) ]) (x ∷ nodes_in xs)
      by_known true t = (
        inl (undescribed is_whole x (not_misused (is_among used.others v.text) (is_matching mode) (is_among outer v.text || is_used used v.text) (is_described is_whole x) (none_found (is_misused mode outer used is_whole x v.text) v.place VariableAlreadyBound f) writes (c v.text t))),
        rest (record used { nodes = v.text ∷ used.nodes }) names (covers_node names outer used v c) e,
      )
      by_known false t = (
        inr (inl refl),
        one_more x (new_of (v.text ∷ names) (nodes_in xs)) (nodes_in xs) (rest (record used { nodes = v.text ∷ used.nodes }) (v.text ∷ names) (covers_new names outer used v c) e),
      )

  described : (xs : List Part) → Told xs
  described [] used names c e = tt
  described (path_part n ∷ xs) used names c e =
      described xs (record used { others = n.text ∷ used.others }) names (covers_other names outer used (Some n) c) (second_none (part_faults mode outer used (path_part n)) _ e)
  described (node_part is_whole x ∷ xs) used names c e =
      at_node is_whole x xs used names x.variable (described xs) c (first_none (node_variable_faults mode outer used is_whole x x.variable) (properties_faults mode outer x.place x.properties) (first_none (part_faults mode outer used (node_part is_whole x)) _ e))
      (second_none (part_faults mode outer used (node_part is_whole x)) _ e)
  described (relationship_part r ∷ xs) used names c e =
      described xs (record used { others = with_variable (relationship_variable r) used.others }) names (covers_other names outer used (relationship_variable r) c) (second_none (part_faults mode outer used (relationship_part r)) _ e)

  pub paths_described : (paths : List PathPattern) → parts_faults mode outer (record { nodes = []; others = [] }) (flat_map path_parts paths) ≡ []
      → AreDescribed (map (λ (p : NodePattern × ℕ). p.0) (new_places outer (map (λ n. (n, 0)) (all_nodes paths)))) (all_nodes paths)
  paths_described paths e =
      let told = described (flat_map path_parts paths) (record { nodes = []; others = [] }) outer (λ name h. or_left (is_among outer name) _ h) e in
      subst (λ new. AreDescribed new (all_nodes paths)) (made_at_all outer (all_nodes paths)) (subst (λ ns. AreDescribed (new_of outer ns) ns) (nodes_of_paths paths) told)
    where
      or_left : (a b : Bool) → a ≡ true → (a || b) ≡ true
      or_left true b e = refl
      or_left false b e = cc

pub create_describes_new : CreateDescribesNew
create_describes_new g paths e = paths_described creating refl g.scope paths e

pub merge_describes_new : MergeDescribesNew
merge_describes_new g p parts e = paths_described merging refl g.scope (p ∷ []) (first_none (parts_faults merging g.scope (record { nodes = []; others = [] }) (flat_map path_parts (p ∷ []))) _ e)
