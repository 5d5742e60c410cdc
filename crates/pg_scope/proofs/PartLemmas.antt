-- The walk over the parts of the paths of a clause.
use Rattle.std.proofs.Common.{◌≡◌, ℕ, ◌+◌, ◌<◌, ◌≤◌, length, get_or, drop, Bool, not, List, [], ◌∷◌, ◌++◌, Option, Some, None, option_map, Result, Ok, Err, IfOk, refl, sym, ap, subst, ◌∙◌, append_assoc, append-nil}
use Rattle.std.specs.Prelude.{◌||◌, ◌&&◌, bytes_eq}
use Rattle.std.specs.declared.alloc.AllocError.{AllocError}
use Rattle.pg_meaning.specs.Names.{Names, is_among}
use Rattle.pg_meaning.specs.StaticFaults.{PlacedFault, Mode, Part, path_part, path_variable_part, node_part, relationship_part, Used, used_with, with_variable, relationship_variable, is_used, is_matching, is_described, new_faults, node_variable_faults, properties_faults, relationship_faults, found_if, least, part_faults, parts_faults}
use Rattle.pg_meaning.specs.Tree.{Name, NodePattern, RelationshipPattern}
use Rattle.pg_meaning.specs.declared.fault.Fault.TheVariants.{VariableAlreadyBound}
use Rattle.pg_scope.proofs.FirstLemmas.{item_here, items_end, least_joined, least_of_none}
use Rattle.pg_scope.specs.First.{IsFirst}
use Rattle.pg_scope.specs.Names.{HasSame}
use Rattle.pg_scope.specs.Used.{Passes, nothing_used}
use Rattle.pg_syntax_tree.specs.View.{name_view}
use Rattle.pg_syntax_tree.specs.declared.expression.Name.{Name as ProgramName}

record SameUsed (u v : Used) : Type 0 where
  nodes : HasSame u.nodes v.nodes
  others : HasSame u.others v.others

-- ---- the same variables bring the same faults

used_same : (u v : Used) (n : List ℕ) → SameUsed u v → is_used u n ≡ is_used v n
used_same u v n s = ap (λ b. b || is_among u.others n) (s.nodes.is n) ∙ ap (λ b. is_among v.nodes n || b) (s.others.is n)

new_same : (outer : Names) (u v : Used) (n : Option Name) → SameUsed u v → new_faults outer u n ≡ new_faults outer v n
new_same outer u v None s = refl
new_same outer u v (Some n) s = ap (λ b. found_if (is_among outer n.text || b) n.place VariableAlreadyBound) (used_same u v n.text s)

node_same : (mode : Mode) (outer : Names) (u v : Used) (is_whole : Bool) (x : NodePattern) (n : Option Name) → SameUsed u v → node_variable_faults mode outer u is_whole x n ≡ node_variable_faults mode outer v is_whole x n
node_same mode outer u v is_whole x None s = refl
node_same mode outer u v is_whole x (Some n) s =
    let rest : Bool → Bool → List PlacedFault = λ a b. found_if (a || (not (is_matching mode) && (is_among outer n.text || b) && is_described is_whole x)) n.place VariableAlreadyBound in
    ap (λ a. rest a (is_used u n.text)) (s.others.is n.text) ∙ ap (rest (is_among v.others n.text)) (used_same u v n.text s)

part_same : (mode : Mode) (outer : Names) (u v : Used) (x : Part) → SameUsed u v → part_faults mode outer u x ≡ part_faults mode outer v x
part_same mode outer u v (path_part n) s = new_same outer u v (Some n) s
part_same mode outer u v (node_part is_whole x) s = ap (λ fs. fs ++ properties_faults mode outer x.place x.properties) (node_same mode outer u v is_whole x x.variable s)
part_same mode outer u v (relationship_part r) s = ap (λ fs. fs ++ relationship_faults mode outer r) (new_same outer u v (relationship_variable r) s)

with_same : (n : Option Name) (ns ms : Names) → HasSame ns ms → HasSame (with_variable n ns) (with_variable n ms)
with_same None ns ms s = s
with_same (Some n) ns ms s = record { is = λ name. ap (λ b. bytes_eq name n.text || b) (s.is name) }

next_same : (u v : Used) (x : Part) → SameUsed u v → SameUsed (used_with x u) (used_with x v)
next_same u v (path_part n) s = record { nodes = s.nodes; others = with_same (Some n) u.others v.others s.others }
next_same u v (node_part is_whole x) s = record { nodes = with_same x.variable u.nodes v.nodes s.nodes; others = s.others }
next_same u v (relationship_part r) s = record { nodes = s.nodes; others = with_same (relationship_variable r) u.others v.others s.others }

parts_same : (mode : Mode) (outer : Names) (u v : Used) (xs : List Part) → SameUsed u v → parts_faults mode outer u xs ≡ parts_faults mode outer v xs
parts_same mode outer u v [] s = refl
parts_same mode outer u v (x ∷ xs) s =
    ap (λ fs. fs ++ parts_faults mode outer (used_with x u) xs) (part_same mode outer u v x s)
    ∙ ap (λ fs. part_faults mode outer v x ++ fs) (parts_same mode outer (used_with x u) (used_with x v) xs (next_same u v x s))

-- ---- walks

pub passes_in_turn : {mode : Mode} {outer : Names} {u v w : Used} {first next last : Option PlacedFault} {xs ys : List Part} → Passes mode outer xs u first v next → Passes mode outer ys v next w last
    → Passes mode outer (xs ++ ys) u first w last
passes_in_turn {mode} {outer} {u} {v} {w} {first} {next} {last} {xs} {ys} g h = record {
  is = λ rest. ap (λ zs. least first (parts_faults mode outer u zs)) (append_assoc xs ys rest) ∙ g.is (ys ++ rest) ∙ h.is rest;
}

pub then_passes : {mode : Mode} {outer : Names} {u v : Used} {first next : Option PlacedFault} {xs : List Part} (ys : List Part) (w : Used) (r : Result (Option PlacedFault) AllocError) → Passes mode outer xs u first v next
    → IfOk r (λ last. Passes mode outer ys v next w last) → IfOk r (λ last. Passes mode outer (xs ++ ys) u first w last)
then_passes ys w (Ok last) g h = passes_in_turn g h
then_passes ys w (Err e) g h = tt

passes_part : (mode : Mode) (outer : Names) (u v : Used) (first next : Option PlacedFault) (x : Part) → IsFirst first (part_faults mode outer u x) next → SameUsed v (used_with x u)
    → Passes mode outer (x ∷ []) u first v next
passes_part mode outer u v first next x e s = record {
  is = λ rest. least_joined first (part_faults mode outer u x) (parts_faults mode outer (used_with x u) rest)
      ∙ ap (λ b. least b (parts_faults mode outer (used_with x u) rest)) (sym e.is)
      ∙ ap (least next) (sym (parts_same mode outer v (used_with x u) rest s));
}

same : (ns : Names) → HasSame ns ns
same ns = record { is = λ name. refl }

pub passes_variable : (mode : Mode) {outer : Names} {u : Used} {n : Name} {others : Names} {first next : Option PlacedFault} → IsFirst first (new_faults outer u (Some n)) next
    → HasSame others (n.text ∷ u.others) → Passes mode outer (path_part n ∷ []) u first (record u { others = others }) next
passes_variable mode {outer} {u} {n} {others} {first} {next} e s = passes_part mode outer u (record u { others = others }) first next (path_part n) e (record { nodes = same u.nodes; others = s })

pub no_variable : (mode : Mode) (outer : Names) {u : Used} {first : Option PlacedFault} (v : Option ProgramName) → ((n : ProgramName) → v ≡ Some n → ⊥) → Passes mode outer (path_variable_part (option_map name_view v)) u first u first
no_variable mode outer None other = record { is = λ rest. refl }
no_variable mode outer (Some n) other = absurd (other n refl)

pub passes_node : {mode : Mode} {outer : Names} {u : Used} {is_whole : Bool} {x : NodePattern} {nodes : Names} {first next : Option PlacedFault}
    → IsFirst first (part_faults mode outer u (node_part is_whole x)) next → HasSame nodes (with_variable x.variable u.nodes) → Passes mode outer (node_part is_whole x ∷ []) u first (record u { nodes = nodes }) next
passes_node {mode} {outer} {u} {is_whole} {x} {nodes} {first} {next} e s = passes_part mode outer u (record u { nodes = nodes }) first next (node_part is_whole x) e (record { nodes = s; others = same u.others })

pub passes_relationship : {mode : Mode} {outer : Names} {u : Used} {r : RelationshipPattern} {others : Names} {first next : Option PlacedFault}
    → IsFirst first (part_faults mode outer u (relationship_part r)) next → HasSame others (with_variable (relationship_variable r) u.others) → Passes mode outer (relationship_part r ∷ []) u first (record u { others = others }) next
passes_relationship {mode} {outer} {u} {r} {others} {first} {next} e s =
    passes_part mode outer u (record u { others = others }) first next (relationship_part r) e (record { nodes = same u.nodes; others = s })

-- a walk over a list comes past one element
pub passes_item : {X : Type 0} (F : List X → List Part) {here : List Part} {xs items : List X} {i : ℕ} {x : X} → ((ys : List X) → F (x ∷ ys) ≡ here ++ F ys)
    → i < length xs → x ≡ get_or xs i x → xs ≡ items → {mode : Mode} {outer : Names} {u v : Used} {first next : Option PlacedFault} → Passes mode outer here u first v next
    → (rest : List Part) → least first (parts_faults mode outer u (F (drop i items) ++ rest)) ≡ least next (parts_faults mode outer v (F (drop (i + 1) items) ++ rest))
passes_item F {here} {xs} {items} {i} {x} step within is same {mode} {outer} {u} {v} {first} {next} p rest =
    let all : List Part → Option PlacedFault = λ zs. least first (parts_faults mode outer u (zs ++ rest)) in
    let after = F (drop (i + 1) items) in
    ap (λ ys. all (F ys)) (item_here within is same) ∙ ap all (step (drop (i + 1) items))
    ∙ ap (λ zs. least first (parts_faults mode outer u zs)) (append_assoc here after rest) ∙ p.is (after ++ rest)

-- a walk over a list is at its end
pub passes_all : {X : Type 0} (F : List X → List Part) → F [] ≡ [] → {xs items : List X} {i : ℕ} → length xs ≤ i → xs ≡ items → (mode : Mode) (outer : Names) (u v : Used) (first last : Option PlacedFault)
    → ((rest : List Part) → least first (parts_faults mode outer u (F items ++ rest)) ≡ least last (parts_faults mode outer v (F (drop i items) ++ rest))) → Passes mode outer (F items) u first v last
passes_all F none past is mode outer u v first last so_far = record { is = λ rest. so_far rest ∙ ap (λ zs. least last (parts_faults mode outer v (zs ++ rest))) (ap F (items_end past is) ∙ none) }

-- the walk over all the parts
passed : {mode : Mode} {outer : Names} {u v : Used} {first last : Option PlacedFault} {xs : List Part} → u ≡ nothing_used → Passes mode outer xs u first v last → IsFirst first (parts_faults mode outer nothing_used xs) last
passed {mode} {outer} {u} {v} {first} {last} {xs} nothing p =
    record { is = sym (ap (λ w. least first (parts_faults mode outer w xs)) (sym nothing) ∙ ap (λ ys. least first (parts_faults mode outer u ys)) (sym (append-nil xs)) ∙ p.is [] ∙ least_of_none last) }

module _ (mode : Mode) (outer : Names) (u v : Used) (first : Option PlacedFault) (xs : List Part) (nothing : u ≡ nothing_used) where
  pub then_passed : (r : Result (Option PlacedFault) AllocError) → IfOk r (λ last. Passes mode outer xs u first v last) → IfOk r (λ last. IsFirst first (parts_faults mode outer nothing_used xs) last)
  then_passed (Ok last) p = passed nothing p
  then_passed (Err e) p = tt

  pub then_passed_alone : (r : Result (Option PlacedFault) AllocError) → IfOk r (λ last. Passes mode outer xs u first v last) → IfOk r (λ last. IsFirst first (parts_faults mode outer nothing_used (xs ++ [])) last)
  then_passed_alone (Ok last) p = subst (λ ys. IsFirst first (parts_faults mode outer nothing_used ys) last) (sym (append-nil xs)) (passed nothing p)
  then_passed_alone (Err e) p = tt
