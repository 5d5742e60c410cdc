-- A clause without static faults has no relationship and no path with a node's name.
use Rattle.std.proofs.Common.{◌≡◌, ℕ, Bool, true, false, ◌||◌, inl, inr, List, [], ◌∷◌, ◌++◌, map, flat_map, Option, Some, None, bytes_eq, refl, sym, ap, subst, ◌∙◌, true≢false}
use Rattle.pg_meaning.specs.EntriesLaws.{same_text}
use Rattle.pg_meaning.specs.Lists.{IsIn}
use Rattle.pg_soundness.proofs.MatchParts.{same_some}
use Rattle.pg_meaning.specs.Names.{Names, is_among}
use Rattle.pg_meaning.specs.Patterns.{node_name, nodes_of, text_of}
use Rattle.pg_meaning.specs.StaticFaults.{found_if, matching, Part, path_part, node_part, relationship_part, hop_parts, path_variable_part, path_parts, Used, with_variable, relationship_variable, used_with, is_used, new_faults, node_variable_faults, properties_faults, relationship_faults, part_faults, parts_faults}
use Rattle.pg_meaning.specs.Tokens.{is_empty}
use Rattle.pg_meaning.specs.Tree.{Name, NodePattern, RelationshipPattern, PathPattern}
use Rattle.pg_meaning.specs.declared.fault.Fault.{Fault}
use Rattle.pg_soundness.proofs.MatchBindings.{has_name, is_other_named, NoOther, or_both}
use Rattle.pg_soundness.proofs.MatchLists.{in_left, in_right}
use Rattle.pg_soundness.proofs.MatchStates.{by_bool, none_some, text_itself}

pub first_none : {X : Type 0} (xs ys : List X) → xs ++ ys ≡ [] → xs ≡ []
first_none [] ys e = refl
first_none (x ∷ xs) ys e = cc

pub second_none : {X : Type 0} (xs ys : List X) → xs ++ ys ≡ [] → ys ≡ []
second_none [] ys e = e
second_none (x ∷ xs) ys e = cc

pub none_found : (b : Bool) (at : ℕ) (f : Fault) → found_if b at f ≡ [] → b ≡ false
none_found true at f e = cc
none_found false at f e = refl

left_false : (a b : Bool) → (a || b) ≡ false → a ≡ false
left_false true b e = e
left_false false b e = refl

right_false : (a b : Bool) → (a || b) ≡ false → b ≡ false
right_false true b e = absurd (true≢false e)
right_false false b e = e

among_front : (q u : List ℕ) (names : Names) → u ≡ q → is_among (u ∷ names) q ≡ true
among_front q u names e = ap (λ b. b || is_among names q) (subst (λ k. bytes_eq q k ≡ true) (sym e) (text_itself q))

module _ (outer : Names) (q : List ℕ) where
  -- ---- a name that a relationship or path has

  with_grows : (v : Option Name) (names : Names) → is_among names q ≡ true → is_among (with_variable v names) q ≡ true
  with_grows None names e = e
  with_grows (Some n) names e = or_both (bytes_eq q n.text) (is_among names q) e

  others_grow : (x : Part) (used : Used) → is_among used.others q ≡ true → is_among (used_with x used).others q ≡ true
  others_grow (path_part n) used e = or_both (bytes_eq q n.text) (is_among used.others q) e
  others_grow (node_part is_whole x) used e = e
  others_grow (relationship_part r) used e = with_grows (relationship_variable r) used.others e

  nodes_grow : (x : Part) (used : Used) → is_among used.nodes q ≡ true → is_among (used_with x used).nodes q ≡ true
  nodes_grow (path_part n) used e = e
  nodes_grow (node_part is_whole x) used e = with_grows x.variable used.nodes e
  nodes_grow (relationship_part r) used e = e

  named_here : (v : Option Name) (names : Names) → text_of v ≡ Some q → is_among (with_variable v names) q ≡ true
  named_here None names e = none_some None q refl e
  named_here (Some n) names e = among_front q n.text names (same_some n.text q e)

  not_used : (used : Used) (is_whole : Bool) (x : NodePattern) (v : Option Name) → node_variable_faults matching outer used is_whole x v ≡ [] → text_of v ≡ Some q → is_among used.others q ≡ true → ⊥
  not_used used is_whole x None e is among = none_some None q refl is
  not_used used is_whole x (Some n) e is among =
      let free : is_among used.others n.text ≡ false = left_false (is_among used.others n.text) false (none_found (is_among used.others n.text || false) n.place _ e) in
      true≢false (sym (subst (λ k. is_among used.others k ≡ true) (sym (same_some n.text q is)) among) ∙ free)

  -- then no node has it later
  no_node : (parts : List Part) (used : Used) → is_among used.others q ≡ true → parts_faults matching outer used parts ≡ [] → (is_whole : Bool) (x : NodePattern) → IsIn (node_part is_whole x) parts → node_name x ≡ Some q → ⊥
  no_node [] used among e is_whole x i is = absurd i
  no_node (y ∷ parts) used among e is_whole x (inr later) is =
      no_node parts (used_with y used) (others_grow y used among) (second_none (part_faults matching outer used y) (parts_faults matching outer (used_with y used) parts) e) is_whole x later is
  no_node (y ∷ parts) used among e is_whole x (inl same) is =
      let here : part_faults matching outer used (node_part is_whole x) ≡ [] = subst (λ z. part_faults matching outer used z ≡ []) (sym same) (first_none (part_faults matching outer used y) (parts_faults matching outer (used_with y used) parts) e) in
      not_used used is_whole x x.variable (first_none (node_variable_faults matching outer used is_whole x x.variable) (properties_faults matching outer x.place x.properties) here) is among

  -- ---- a name that a node has

  new_other : (used : Used) (v : Option Name) → new_faults outer used v ≡ [] → is_among used.nodes q ≡ true → has_name (text_of v) q ≡ false
  new_other used None e among = refl
  new_other used (Some n) e among =
      by_bool (bytes_eq q n.text)
      (λ same.
      let free : is_among used.nodes n.text ≡ false = left_false (is_among used.nodes n.text) (is_among used.others n.text) (right_false (is_among outer n.text) (is_used used n.text) (none_found (is_among outer n.text || is_used used n.text) n.place _ e)) in
      absurd (true≢false (sym (subst (λ k. is_among used.nodes k ≡ true) (same_text q n.text same) among) ∙ free)))
      (λ other. other)

  other_part : (used : Used) (y : Part) → part_faults matching outer used y ≡ [] → is_among used.nodes q ≡ true → is_other_named q y ≡ false
  other_part used (path_part n) e among = new_other used (Some n) e among
  other_part used (node_part is_whole x) e among = refl
  other_part used (relationship_part r) e among = new_other used (relationship_variable r) (first_none (new_faults outer used (relationship_variable r)) (relationship_faults matching outer r) e) among

  -- then no relationship or path has it later
  no_later : (parts : List Part) (used : Used) → is_among used.nodes q ≡ true → parts_faults matching outer used parts ≡ [] → NoOther q parts
  no_later [] used among e = tt
  no_later (y ∷ parts) used among e = (
    other_part used y (first_none (part_faults matching outer used y) (parts_faults matching outer (used_with y used) parts) e) among,
    no_later parts (used_with y used) (nodes_grow y used among) (second_none (part_faults matching outer used y) (parts_faults matching outer (used_with y used) parts) e),
  )

  other_used : (y : Part) (used : Used) → is_other_named q y ≡ true → is_among (used_with y used).others q ≡ true
  other_used (path_part n) used e = ap (λ b. b || is_among used.others q) e
  other_used (node_part is_whole x) used e = absurd (true≢false (sym e))
  other_used (relationship_part r) used e = by_variable (relationship_variable r) e
    where
      by_variable : (v : Option Name) → has_name (text_of v) q ≡ true → is_among (with_variable v used.others) q ≡ true
      by_variable None f = absurd (true≢false (sym f))
      by_variable (Some n) f = ap (λ b. b || is_among used.others q) f

  pub no_other : (parts : List Part) (used : Used) → parts_faults matching outer used parts ≡ [] → (is_whole : Bool) (x : NodePattern) → IsIn (node_part is_whole x) parts → node_name x ≡ Some q → NoOther q parts
  no_other [] used e is_whole x i is = absurd i
  no_other (y ∷ parts) used e is_whole x (inl same) is = (
    subst (λ z. is_other_named q z ≡ false) same refl,
    no_later parts (used_with y used) (subst (λ z. is_among (used_with z used).nodes q ≡ true) same (named_here x.variable used.nodes is)) (second_none (part_faults matching outer used y) (parts_faults matching outer (used_with y used) parts) e),
  )
  no_other (y ∷ parts) used e is_whole x (inr later) is = (
    by_bool (is_other_named q y)
        (λ other. absurd (no_node parts (used_with y used) (other_used y used other) (second_none (part_faults matching outer used y) (parts_faults matching outer (used_with y used) parts) e) is_whole x later is))
        (λ free. free),
    no_other parts (used_with y used) (second_none (part_faults matching outer used y) (parts_faults matching outer (used_with y used) parts) e) is_whole x later is,
  )

-- ---- nodes among the parts

hop_node_part : (hs : List (RelationshipPattern × NodePattern)) (n : NodePattern) → IsIn n (map (λ h. h.1) hs) → IsIn (node_part false n) (flat_map hop_parts hs)
hop_node_part [] n i = absurd i
hop_node_part (h ∷ hs) n (inl same) = inr (inl (ap (node_part false) same))
hop_node_part (h ∷ hs) n (inr later) = inr (inr (hop_node_part hs n later))

node_in_path : (p : PathPattern) (n : NodePattern) → IsIn n (nodes_of p) → (is_whole : Bool) × IsIn (node_part is_whole n) (path_parts p)
node_in_path p n (inl same) = (is_empty p.hops, in_right (node_part (is_empty p.hops) n) (path_variable_part p.variable) (node_part (is_empty p.hops) p.first ∷ flat_map hop_parts p.hops) (inl (ap (node_part (is_empty p.hops)) same)))
node_in_path p n (inr later) = (false, in_right (node_part false n) (path_variable_part p.variable) (node_part (is_empty p.hops) p.first ∷ flat_map hop_parts p.hops) (inr (hop_node_part p.hops n later)))

pub node_among_parts : (ps : List PathPattern) (p : PathPattern) (n : NodePattern) → IsIn p ps → IsIn n (nodes_of p) → (is_whole : Bool) × IsIn (node_part is_whole n) (flat_map path_parts ps)
node_among_parts [] p n i j = absurd i
node_among_parts (x ∷ ps) p n (inl same) j =
    let k = node_in_path x n (subst (λ z. IsIn n (nodes_of z)) same j) in
    (k.0, in_left (node_part k.0 n) (path_parts x) (flat_map path_parts ps) k.1)
node_among_parts (x ∷ ps) p n (inr later) j =
    let k = node_among_parts ps p n later j in
    (k.0, in_right (node_part k.0 n) (path_parts x) (flat_map path_parts ps) k.1)
