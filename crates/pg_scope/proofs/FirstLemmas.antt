-- The first fault of two lists.
use Rattle.std.proofs.Common.{◌≡◌, ℕ, ◌+◌, ◌<◌, ◌≤◌, length, get_or, drop, subst, Bool, true, false, List, [], ◌∷◌, ◌++◌, Option, Some, None, Result, Ok, Err, refl, sym, ap, ◌∙◌}
use Rattle.std.proofs.lemmas.List.{drop_all, drop_more}
use Rattle.std.specs.Prelude.{IfOk}
use Rattle.std.specs.declared.alloc.AllocError.{AllocError}
use Rattle.pg_meaning.specs.StaticFaults.{PlacedFault, goes_before, least}
use Rattle.pg_scope.specs.First.{IsFirst}

pub least_joined : (first : Option PlacedFault) (fs gs : List PlacedFault) → least first (fs ++ gs) ≡ least (least first fs) gs
least_joined None [] gs = refl
least_joined (Some b) [] gs = refl
least_joined None (f ∷ fs) gs = least_joined (Some f) fs gs
least_joined (Some b) (f ∷ fs) gs = either (goes_before f b) (least_joined (Some f) fs gs) (least_joined (Some b) fs gs)
  where
    either : (t : Bool) → least (Some f) (fs ++ gs) ≡ least (least (Some f) fs) gs → least (Some b) (fs ++ gs) ≡ least (least (Some b) fs) gs
        → elim t [ true ↦ least (Some f) (fs ++ gs) | false ↦ least (Some b) (fs ++ gs) ] ≡ least (elim t [ true ↦ least (Some f) fs | false ↦ least (Some b) fs ]) gs
    either true g h = g
    either false g h = h

pub least_of_none : (first : Option PlacedFault) → least first [] ≡ first
least_of_none None = refl
least_of_none (Some b) = refl

pub no_more : (first : Option PlacedFault) → IsFirst first [] first
no_more first = record { is = sym (least_of_none first) }

-- one list behind another, each from the first fault so far
pub in_turn : {first next last : Option PlacedFault} {fs gs : List PlacedFault} → IsFirst first fs next → IsFirst next gs last → IsFirst first (fs ++ gs) last
in_turn {first} {next} {last} {fs} {gs} e h = record { is = h.is ∙ ap (λ b. least b gs) e.is ∙ sym (least_joined first fs gs) }

pub then_in_turn : {first next : Option PlacedFault} {fs : List PlacedFault} (gs : List PlacedFault) (r : Result (Option PlacedFault) AllocError) → IsFirst first fs next → IfOk r (λ found. IsFirst next gs found)
    → IfOk r (λ found. IsFirst first (fs ++ gs) found)
then_in_turn gs (Ok found) e h = in_turn e h
then_in_turn gs (Err f) e h = tt

pub item_here : {X : Type 0} {xs items : List X} {i : ℕ} {x : X} → i < length xs → x ≡ get_or xs i x → xs ≡ items → drop i items ≡ x ∷ drop (i + 1) items
item_here {X} {xs} {items} {i} {x} within is same = subst (λ ys. drop i ys ≡ x ∷ drop (i + 1) ys) same (drop_more xs i x within ∙ ap (λ y. y ∷ drop (i + 1) xs) (sym is))

pub items_end : {X : Type 0} {xs items : List X} {i : ℕ} → length xs ≤ i → xs ≡ items → drop i items ≡ []
items_end {X} {xs} {items} {i} past is = subst (λ ys. drop i ys ≡ []) is (drop_all i xs past)

-- a walk over a list comes past one element, behind which other faults may count
pub walk_past : {X : Type 0} (F G : List X → List PlacedFault) {here : List PlacedFault} {xs items : List X} {i : ℕ} {x : X} → ((ys : List X) → F (x ∷ ys) ≡ here ++ G ys)
    → i < length xs → x ≡ get_or xs i x → xs ≡ items → {first next : Option PlacedFault} → IsFirst first here next
    → least first (F (drop i items)) ≡ least next (G (drop (i + 1) items))
walk_past F G {here} {xs} {items} {i} {x} step within is same {first} {next} e =
    let rest = drop (i + 1) items in
    ap (λ ys. least first (F ys)) (item_here within is same) ∙ ap (least first) (step rest) ∙ least_joined first here (G rest) ∙ ap (λ b. least b (G rest)) (sym e.is)

pub walk_item : {X : Type 0} (F : List X → List PlacedFault) (f : X → List PlacedFault) → ((x : X) (xs : List X) → F (x ∷ xs) ≡ f x ++ F xs)
    → {xs items : List X} {i : ℕ} {x : X} → i < length xs → x ≡ get_or xs i x → xs ≡ items → {first next : Option PlacedFault} → IsFirst first (f x) next
    → least first (F (drop i items)) ≡ least next (F (drop (i + 1) items))
walk_item F f step {xs} {items} {i} {x} = walk_past F F (step x)

-- the walk is at its end
pub walked : (first last : Option PlacedFault) (fs : List PlacedFault) → least first fs ≡ least last [] → IsFirst first fs last
walked first last fs e = record { is = sym (e ∙ least_of_none last) }

-- the walk over a list is at its end
pub walk_ended : {X : Type 0} (F : List X → List PlacedFault) → F [] ≡ [] → {xs items : List X} {i : ℕ} → length xs ≤ i → xs ≡ items → (first last : Option PlacedFault) → least first (F items) ≡ least last (F (drop i items)) → IsFirst first (F items) last
walk_ended F none {xs} {items} {i} past is first last so_far = walked first last (F items) (so_far ∙ ap (λ ys. least last (F ys)) (items_end past is) ∙ ap (least last) none)
