-- Lexicographic order of lists, and lists of what was found that rise in it.
use Rattle.std.proofs.Common.{◌≡◌, Bool, true, false, inl, inr, ◌⊎◌, List, [], ◌∷◌, ◌++◌, refl, sym, ap, subst, ◌∙◌}
use Rattle.std.proofs.lemmas.List.{append_assoc, append-nil}
use Rattle.std.specs.Bool.{⊤}
use Rattle.std.specs.Cmp.Lexicographic.{slice_cmp}
use Rattle.std.specs.List.{AllByRecursion}
use Rattle.std.specs.Ordering.{ordering_then}
use Rattle.std.specs.declared.cmp.Ordering.{Ordering}
use Rattle.std.specs.declared.cmp.Ordering.TheVariants.{Less, Equal}
use Rattle.pg_meaning.specs.Lists.{AllPairsByRecursion}
use Rattle.pg_meaning.specs.ListsLaws.{all_at, all_joined, all_weaker}
use Rattle.pg_meaning.specs.Walks.{Listing, each_listing}
use Rattle.pg_soundness.proofs.MatchLists.{pairs_joined}

pub pairs_weaker : {X : Type 0} (R S : X → X → Type 0) → ((x y : X) → R x y → S x y) → (xs : List X) → AllPairsByRecursion R xs → AllPairsByRecursion S xs
pairs_weaker R S f [] h = tt
pairs_weaker R S f (x ∷ xs) h = (all_weaker (R x) (S x) (f x) xs h.0, pairs_weaker R S f xs h.1)

-- what each of what was found gives
pub all_each : {X Y : Type 0} (P : X → Type 0) (Q : Y → Type 0) (f : X → Listing Y) → ((x : X) → P x → AllByRecursion Q (f x).0) → (xs : List X) → AllByRecursion P xs → AllByRecursion Q (each_listing f xs).0
all_each P Q f g [] h = tt
all_each P Q f g (x ∷ xs) h = all_joined Q (f x).0 (each_listing f xs).0 (g x h.0) (all_each P Q f g xs h.1)

pub all_if : {X : Type 0} (Q : X → Type 0) (b : Bool) (x : X) → Q x → AllByRecursion Q (elim b as (λ c. List X) [ true ↦ x ∷ [] | false ↦ [] ])
all_if Q true x q = (q, tt)
all_if Q false x q = tt

module _ {E : Type 0} (L : E → E → Type 0) where
  -- they part at an element, and the first is before the second there
  abbrev pub Parts : List E → List E → Type 0
  Parts [] ys = ⊥
  Parts (x ∷ xs) [] = ⊥
  Parts (x ∷ xs) (y ∷ ys) = L x y ⊎ ((x ≡ y) × Parts xs ys)

  -- or the first ends there
  abbrev pub Comes : List E → List E → Type 0
  Comes [] [] = ⊥
  Comes [] (y ∷ ys) = ⊤
  Comes (x ∷ xs) [] = ⊥
  Comes (x ∷ xs) (y ∷ ys) = L x y ⊎ ((x ≡ y) × Comes xs ys)

  pub parts_on : (as_ bs ss ts : List E) → Parts as_ bs → Parts (as_ ++ ss) (bs ++ ts)
  parts_on [] bs ss ts p = absurd p
  parts_on (x ∷ xs) [] ss ts p = absurd p
  parts_on (x ∷ xs) (y ∷ ys) ss ts (inl l) = inl l
  parts_on (x ∷ xs) (y ∷ ys) ss ts (inr k) = inr (k.0, parts_on xs ys ss ts k.1)

  pub parts_comes : (as_ bs ss ts : List E) → Parts as_ bs → Comes (as_ ++ ss) (bs ++ ts)
  parts_comes [] bs ss ts p = absurd p
  parts_comes (x ∷ xs) [] ss ts p = absurd p
  parts_comes (x ∷ xs) (y ∷ ys) ss ts (inl l) = inl l
  parts_comes (x ∷ xs) (y ∷ ys) ss ts (inr k) = inr (k.0, parts_comes xs ys ss ts k.1)

  pub parts_behind : (cs as_ bs : List E) → Parts as_ bs → Parts (cs ++ as_) (cs ++ bs)
  parts_behind [] as_ bs p = p
  parts_behind (c ∷ cs) as_ bs p = inr (refl, parts_behind cs as_ bs p)

  pub ends_comes : (cs : List E) (e : E) (ss : List E) → Comes cs (cs ++ (e ∷ ss))
  ends_comes [] e ss = tt
  ends_comes (c ∷ cs) e ss = inr (refl, ends_comes cs e ss)

  module _ (cmp : E → E → Ordering) (less : (x y : E) → L x y → cmp x y ≡ Less) (level : (x : E) → cmp x x ≡ Equal) where
    pub comes_less : (xs ys : List E) → Comes xs ys → slice_cmp cmp xs ys ≡ Less
    comes_less [] [] p = absurd p
    comes_less [] (y ∷ ys) p = refl
    comes_less (x ∷ xs) [] p = absurd p
    comes_less (x ∷ xs) (y ∷ ys) (inl l) = ap (λ o. ordering_then o (slice_cmp cmp xs ys)) (less x y l)
    comes_less (x ∷ xs) (y ∷ ys) (inr k) = ap (λ o. ordering_then o (slice_cmp cmp xs ys)) (ap (cmp x) (sym k.0) ∙ level x) ∙ comes_less xs ys k.1

    pub parts_less : (xs ys : List E) → Parts xs ys → slice_cmp cmp xs ys ≡ Less
    parts_less [] ys p = absurd p
    parts_less (x ∷ xs) [] p = absurd p
    parts_less (x ∷ xs) (y ∷ ys) (inl l) = ap (λ o. ordering_then o (slice_cmp cmp xs ys)) (less x y l)
    parts_less (x ∷ xs) (y ∷ ys) (inr k) = ap (λ o. ordering_then o (slice_cmp cmp xs ys)) (ap (cmp x) (sym k.0) ∙ level x) ∙ parts_less xs ys k.1

-- ---- lists that rise by their codes, which all begin alike

abbrev pub Begins : {E : Type 0} → List E → List E → Type 0
Begins {E} cs ds = (ss : List E) × (ds ≡ cs ++ ss)

pub begins_itself : {E : Type 0} (cs : List E) → Begins cs cs
begins_itself cs = ([], sym (append-nil cs))

pub begins_same : {E : Type 0} (cs ds : List E) → ds ≡ cs → Begins cs ds
begins_same cs ds e = ([], e ∙ sym (append-nil cs))

begins_after : {E : Type 0} (cs ds es : List E) → Begins cs ds → Begins ds es → Begins cs es
begins_after cs ds es b d = (b.0 ++ d.0, d.1 ∙ ap (λ zs. zs ++ d.0) b.1 ∙ append_assoc cs b.0 d.0)

pub record Rising {E X : Type 0} (R : List E → List E → Type 0) (code : X → List E) (cs : List E) (xs : List X) : Type 0 where
  pub begins : AllByRecursion (λ x. Begins cs (code x)) xs
  pub pairs : AllPairsByRecursion (λ x y. R (code x) (code y)) xs

pub rising_one : {E X : Type 0} (R : List E → List E → Type 0) (code : X → List E) (cs : List E) (x : X) → Begins cs (code x) → Rising R code cs (x ∷ [])
rising_one R code cs x b = record { begins = (b, tt); pairs = (tt, tt) }

pub rising_if : {E X : Type 0} (R : List E → List E → Type 0) (code : X → List E) (cs : List E) (b : Bool) (x : X) → Begins cs (code x) → Rising R code cs (elim b as (λ c. List X) [ true ↦ x ∷ [] | false ↦ [] ])
rising_if R code cs true x b = rising_one R code cs x b
rising_if R code cs false x b = record { begins = tt; pairs = tt }

module _ {E X Y : Type 0} (L : E → E → Type 0) (R : List E → List E → Type 0) (weak : (as_ bs ss ts : List E) → Parts L as_ bs → R (as_ ++ ss) (bs ++ ts)) (code : X → List E) (P : X → Type 0) (f : X → Listing Y) (then_code : Y → List E) (each : (x : X) → P x → Rising R then_code (code x) (f x).0) where
  begins_each : (cs : List E) (xs : List X) → AllByRecursion P xs → AllByRecursion (λ x. Begins cs (code x)) xs → AllByRecursion (λ y. Begins cs (then_code y)) (each_listing f xs).0
  begins_each cs [] p h = tt
  begins_each cs (x ∷ xs) p h =
      all_joined (λ y. Begins cs (then_code y)) (f x).0 (each_listing f xs).0
      (all_weaker (λ y. Begins (code x) (then_code y)) (λ y. Begins cs (then_code y)) (λ y b. begins_after cs (code x) (then_code y) h.0 b) (f x).0 (each x p.0).begins)
      (begins_each cs xs p.1 h.1)

  across : (x : X) (y : Y) → Begins (code x) (then_code y) → (xs : List X) → AllByRecursion P xs → AllByRecursion (λ z. Parts L (code x) (code z)) xs → AllByRecursion (λ z. R (then_code y) (then_code z)) (each_listing f xs).0
  across x y b [] p h = tt
  across x y b (v ∷ xs) p h =
      all_joined (λ z. R (then_code y) (then_code z)) (f v).0 (each_listing f xs).0
      (all_weaker (λ z. Begins (code v) (then_code z)) (λ z. R (then_code y) (then_code z)) (λ z d. subst (λ q. R q (then_code z)) (sym b.1) (subst (λ q. R (code x ++ b.0) q) (sym d.1) (weak (code x) (code v) b.0 d.0 h.0))) (f v).0 (each v p.0).begins)
      (across x y b xs p.1 h.1)

  pairs_each : (xs : List X) → AllByRecursion P xs → AllPairsByRecursion (λ x y. Parts L (code x) (code y)) xs → AllPairsByRecursion (λ x y. R (then_code x) (then_code y)) (each_listing f xs).0
  pairs_each [] p h = tt
  pairs_each (x ∷ xs) p h =
      pairs_joined (λ y z. R (then_code y) (then_code z)) (f x).0 (each_listing f xs).0 (each x p.0).pairs (pairs_each xs p.1 h.1)
      (λ y z i j. all_at (λ z. R (then_code y) (then_code z)) z (each_listing f xs).0 (across x y (all_at (λ y. Begins (code x) (then_code y)) y (f x).0 (each x p.0).begins i) xs p.1 h.0) j)

  pub rising_each : (cs : List E) (xs : List X) → AllByRecursion P xs → Rising (Parts L) code cs xs → Rising R then_code cs (each_listing f xs).0
  rising_each cs xs p r = record { begins = begins_each cs xs p r.begins; pairs = pairs_each xs p r.pairs }
