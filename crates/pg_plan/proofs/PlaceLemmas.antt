-- The nodes of paths by their places.
use Rattle.std.proofs.Common.{◌≡◌, ℕ, ◌+◌, Bool, true, false, cond, List, [], ◌∷◌, ◌++◌, map, Option, Some, None, suc, refl, sym, ap, subst, ◌∙◌, bytes_eq, arith}
use Rattle.std.specs.Prelude.{◌&&◌, ◌||◌, flat_map, find, position, is_some, slice_get}
use Rattle.std.proofs.lemmas.List.Folds.{find-append}
use Rattle.std.specs.Option.{option_or}
use Rattle.std.specs.List.{position_from}
use Rattle.std.proofs.Math.Nat.{add-zero, zero-add}
use Rattle.pg_meaning.specs.Names.{Names, is_among}
use Rattle.pg_meaning.specs.Patterns.{nodes_of, node_name, text_of, add_if_named, property_pairs}
use Rattle.pg_meaning.specs.Plans as plans
use Rattle.pg_meaning.specs.StaticFaults.{with_variable}
use Rattle.pg_meaning.specs.Tree.{Name, NodePattern, PathPattern}
use Rattle.pg_scope.proofs.ScopeLemmas.{among_added}
use Rattle.pg_scope.specs.Names.{HasSame}
use Rattle.pg_plan.proofs.SameLemmas.{position_is, anchor_is}
use Rattle.pg_plan.specs.Places.{HasMore, HasNames, lead_keys, AreLeft, served_from, at_bound, at_index, at_label, serves, make}

-- ---- names of nodes

abbrev stands : Option Name → List ℕ → Bool
stands None name = false
stands (Some v) name = bytes_eq name v.text

with_one : (v : Option Name) (names : Names) (name : List ℕ) → is_among (with_variable v names) name ≡ (stands v name || is_among names name)
with_one None names name = refl
with_one (Some v) names name = refl

added_one : (v : Option Name) (rest : Names) (name : List ℕ) → is_among (add_if_named (text_of v) rest) name ≡ (stands v name || is_among rest name)
added_one None rest name = refl
added_one (Some v) rest name = among_added rest v.text name

or_turned : (a b c : Bool) → (a || (b || c)) ≡ ((b || a) || c)
or_turned true true c = refl
or_turned true false c = refl
or_turned false true c = refl
or_turned false false c = refl

or_left : (a b c : Bool) → (a || (b || c)) ≡ ((a || b) || c)
or_left true b c = refl
or_left false b c = refl

names_joined : (xs bs : List NodePattern) (name : List ℕ) → is_among (plans.node_names (xs ++ bs)) name ≡ (is_among (plans.node_names xs) name || is_among (plans.node_names bs) name)
names_joined [] bs name = refl
names_joined (a ∷ xs) bs name =
    added_one a.variable (plans.node_names (xs ++ bs)) name ∙ ap (λ b. stands a.variable name || b) (names_joined xs bs name)
    ∙ or_left (stands a.variable name) (is_among (plans.node_names xs) name) (is_among (plans.node_names bs) name)
    ∙ ap (λ b. b || is_among (plans.node_names bs) name) (sym (added_one a.variable (plans.node_names xs) name))

pub one_node : {names new old : Names} {n : NodePattern} {rest all : List NodePattern} → AreLeft names (n ∷ rest) old all → HasSame new (with_variable n.variable names) → AreLeft new rest old all
one_node {names} {new} {old} {n} {rest} {all} left s = record {
  is = λ name. ap (λ b. is_among (plans.node_names rest) name || b) (s.is name ∙ with_one n.variable names name)
      ∙ or_turned (is_among (plans.node_names rest) name) (stands n.variable name) (is_among names name)
      ∙ ap (λ b. b || is_among names name) (sym (added_one n.variable (plans.node_names rest) name)) ∙ left.is name;
}

pub some_nodes : {names new old : Names} {ns rest all : List NodePattern} → AreLeft names (ns ++ rest) old all → HasMore names ns new → AreLeft new rest old all
some_nodes {names} {new} {old} {ns} {rest} {all} left more = record {
  is = λ name. ap (λ b. is_among (plans.node_names rest) name || b) (more.is name)
      ∙ or_turned (is_among (plans.node_names rest) name) (is_among (plans.node_names ns) name) (is_among names name)
      ∙ ap (λ b. b || is_among names name) (sym (names_joined ns rest name)) ∙ left.is name;
}

pub all_left : (old : Names) (all : List NodePattern) → AreLeft old all old all
all_left old all = record { is = λ name. refl }

pub none_left : {names old : Names} {all : List NodePattern} → AreLeft names [] old all → HasMore old all names
none_left left = record { is = left.is }

pub named_all : {names : Names} {all : List NodePattern} → AreLeft names [] [] all → HasNames all names
named_all {names} {all} left = record { is = λ name. left.is name ∙ or_false (is_among (plans.node_names all) name) }
  where
    or_false : (a : Bool) → (a || false) ≡ a
    or_false true = refl
    or_false false = refl

-- ---- the index that serves

pub found_here : {X : Type 0} (p : X → Bool) (b : Bool) (k : X) (rest : List X) → b ≡ true → p k ≡ true → find p (cond b (k ∷ []) [] ++ rest) ≡ Some k
found_here p b k rest h e = ap (λ c. find p (cond c (k ∷ []) [] ++ rest)) h ∙ ap (λ c. cond c (Some k) (find p rest)) e

pub found_later : {X : Type 0} (p : X → Bool) (b : Bool) (k : X) (rest : List X) → (b && p k) ≡ false → find p (cond b (k ∷ []) [] ++ rest) ≡ find p rest
found_later p true k rest h = ap (λ c. cond c (Some k) (find p rest)) h
found_later p false k rest h = refl

module _ (p : List ℕ → Bool) (leads : List plans.Fixed) (n : NodePattern) where
  abbrev inline : List (List ℕ)
  inline = map (λ q. q.0) (property_pairs n.properties)

  keys_are : find p (plans.fixed_keys leads n) ≡ option_or (find p inline) (find p (lead_keys leads (node_name n)))
  keys_are = by_name (node_name n)
    where
      by_name : (v : Option (List ℕ)) → find p (inline ++ elim v [ None ↦ [] | Some name ↦ flat_map (λ f. cond (bytes_eq f.name name) (f.key ∷ []) []) leads ]) ≡ option_or (find p inline) (find p (lead_keys leads v))
      by_name None = find-append p inline []
      by_name (Some name) = find-append p inline (lead_keys leads (Some name))

  pub key_inline : {k : List ℕ} → Some k ≡ find p inline → Some k ≡ find p (plans.fixed_keys leads n)
  key_inline h = ap (λ f. option_or f (find p (lead_keys leads (node_name n)))) h ∙ sym keys_are

  pub key_leading : None ≡ find p inline → find p (lead_keys leads (node_name n)) ≡ find p (plans.fixed_keys leads n)
  key_leading h = ap (λ f. option_or f (find p (lead_keys leads (node_name n)))) h ∙ sym keys_are

abbrev label_or : {X Y : Type 0} → X → Option Y → Option (X × Y) → Option (X × Y)
label_or l None rest = rest
label_or l (Some k) rest = Some (l, k)

pub under_label : {X Y : Type 0} (p : X × Y → Bool) (l : X) (ks : List Y) (rest : List (X × Y)) → find p (map (λ k. (l, k)) ks ++ rest) ≡ label_or l (find (λ k. p (l, k)) ks) (find p rest)
under_label p l [] rest = refl
under_label {X} {Y} p l (k ∷ ks) rest = by_test (p (l, k)) (under_label p l ks rest)
  where
    by_test : (b : Bool) → find p (map (λ j. (l, j)) ks ++ rest) ≡ label_or l (find (λ j. p (l, j)) ks) (find p rest)
        → cond b (Some (l, k)) (find p (map (λ j. (l, j)) ks ++ rest)) ≡ label_or l (cond b (Some k) (find (λ j. p (l, j)) ks)) (find p rest)
    by_test true more = refl
    by_test false more = more

-- the first label with an indexed key, and a label without one
pub label_here : {X Y : Type 0} (p : X × Y → Bool) (l : X) (ks : List Y) (rest : List (X × Y)) {k : Y} → Some k ≡ find (λ k. p (l, k)) ks → Some (l, k) ≡ find p (map (λ k. (l, k)) ks ++ rest)
label_here p l ks rest h = ap (λ f. label_or l f (find p rest)) h ∙ sym (under_label p l ks rest)

pub label_later : {X Y : Type 0} (p : X × Y → Bool) (l : X) (ks : List Y) (rest : List (X × Y)) → None ≡ find (λ k. p (l, k)) ks → find p (map (λ k. (l, k)) ks ++ rest) ≡ find p rest
label_later p l ks rest h = under_label p l ks rest ∙ sym (ap (λ f. label_or l f (find p rest)) h)

-- ---- the anchor

place_past : (n m : ℕ) → n + suc m ≡ n + 1 + m
place_past n m = omega arith

pub served_here : {I : Type 0} (serves : NodePattern → Option I) (place : ℕ) (n : NodePattern) (ns : List NodePattern) {x : I} → Some x ≡ serves n → served_from serves place (n ∷ ns) ≡ Some (place, x)
served_here {I} serves place n ns h = ap (λ (f : Option I). elim f [ None ↦ served_from serves (place + 1) ns | Some i ↦ Some (place, i) ]) (sym h)

pub served_later : {I : Type 0} (serves : NodePattern → Option I) (place : ℕ) (n : NodePattern) (ns : List NodePattern) → None ≡ serves n → served_from serves place (n ∷ ns) ≡ served_from serves (place + 1) ns
served_later {I} serves place n ns h = ap (λ (f : Option I). elim f [ None ↦ served_from serves (place + 1) ns | Some i ↦ Some (place, i) ]) (sym h)

-- the first node that is served, by its place and by what serves it
first_served : {I : Type 0} (served : NodePattern → Option I) (F : Option ℕ → plans.Anchor) (G : Option (ℕ × I) → plans.Anchor) (place : ℕ) (ns : List NodePattern)
    → F None ≡ G None → ((i : ℕ) (n : NodePattern) (x : I) → slice_get ns i ≡ Some n → served n ≡ Some x → F (Some (place + i)) ≡ G (Some (place + i, x)))
    → F (position_from (λ n. is_some (served n)) place ns) ≡ G (served_from served place ns)
first_served served F G place [] none at = none
first_served {I} served F G place (n ∷ ns) none at =
    by_node (served n) refl (first_served served F G (place + 1) ns none (λ i m x is found. subst (λ k. F (Some k) ≡ G (Some (k, x))) (place_past place i) (at (suc i) m x is found)))
  where
    by_node : (found : Option I) → served n ≡ found → F (position_from (λ m. is_some (served m)) (place + 1) ns) ≡ G (served_from served (place + 1) ns)
        → F (cond (is_some found) (Some place) (position_from (λ m. is_some (served m)) (place + 1) ns)) ≡ G (elim found [ None ↦ served_from served (place + 1) ns | Some i ↦ Some (place, i) ])
    by_node None e more = more
    by_node (Some x) e more = subst (λ k. F (Some k) ≡ G (Some (k, x))) (add-zero place) (at 0 n x refl e)

module _ (leads : List plans.Fixed) (catalogue : plans.Catalogue) (ns : List NodePattern) where
  abbrev at_served : Option (ℕ × (List ℕ × List ℕ)) → plans.Anchor
  at_served None = at_label ns
  at_served (Some s) = make s.0 (Some s.1)

  at_some : (i : ℕ) (n : NodePattern) (x : List ℕ × List ℕ) → slice_get ns i ≡ Some n → plans.serving catalogue leads n ≡ Some x → at_index catalogue leads ns (Some i) ≡ make i (Some x)
  at_some i n x is served = ap (λ (g : Option NodePattern). make i (elim g [ None ↦ None | Some m ↦ plans.serving catalogue leads m ])) is ∙ ap (make i) served

  all_served : at_index catalogue leads ns (position (serves catalogue leads) ns) ≡ at_served (served_from (plans.serving catalogue leads) 0 ns)
  all_served =
      ap (at_index catalogue leads ns) (position_is (serves catalogue leads) ns)
      ∙ first_served (plans.serving catalogue leads) (at_index catalogue leads ns) at_served 0 ns refl
      (λ i n x is found. subst (λ k. at_index catalogue leads ns (Some k) ≡ at_served (Some (k, x))) (sym (zero-add i)) (at_some i n x is found))

  pub anchor_served : {s : ℕ × (List ℕ × List ℕ)} → Some s ≡ served_from (plans.serving catalogue leads) 0 ns → make s.0 (Some s.1) ≡ at_index catalogue leads ns (position (serves catalogue leads) ns)
  anchor_served found = ap at_served found ∙ sym all_served

  pub anchor_labelled : None ≡ served_from (plans.serving catalogue leads) 0 ns → at_label ns ≡ at_index catalogue leads ns (position (serves catalogue leads) ns)
  anchor_labelled none = ap at_served none ∙ sym all_served

module _ (p : PathPattern) (leads : List plans.Fixed) (bound : Names) (catalogue : plans.Catalogue) {ns : List NodePattern} (same : ns ≡ nodes_of p) where
  abbrev whole : List NodePattern → plans.Anchor
  whole ms = at_bound (at_index catalogue leads ms (position (serves catalogue leads) ms)) (position (plans.is_bound_by bound) ms)

  whole_is : whole ns ≡ plans.anchor_of p leads bound catalogue
  whole_is = ap whole same ∙ sym (anchor_is p leads bound catalogue)

  pub anchor_bound : {i : ℕ} → Some i ≡ position_from (plans.is_bound_by bound) 0 ns → make i None ≡ plans.anchor_of p leads bound catalogue
  anchor_bound {i} found = ap (at_bound (at_index catalogue leads ns (position (serves catalogue leads) ns))) (found ∙ sym (position_is (plans.is_bound_by bound) ns)) ∙ whole_is

  pub anchor_free : None ≡ position_from (plans.is_bound_by bound) 0 ns → at_index catalogue leads ns (position (serves catalogue leads) ns) ≡ plans.anchor_of p leads bound catalogue
  anchor_free none = ap (at_bound (at_index catalogue leads ns (position (serves catalogue leads) ns))) (none ∙ sym (position_is (plans.is_bound_by bound) ns)) ∙ whole_is
