-- Ids among others, and what is found by id in a list whose ids rise.
use Rattle.std.proofs.Common.{◌≡◌, ℕ, Bool, true, false, cond, ◌&&◌, ◌||◌, ◌==◌, ◌⊎◌, inl, inr, List, [], ◌∷◌, filter, Option, Some, None, is_some, is_eq, is_lt, Less, Equal, Greater, IsTrue, refl, sym, ap, ◌∙◌, true≢false, arith}
use Rattle.std.proofs.lemmas.Bool.Decides.{nat_tests}
use Rattle.std.proofs.lemmas.Cmp.{nat_cmp_total}
use Rattle.std.specs.Cmp.{tied_itself}
use Rattle.std.specs.FinMap.{nat_cmp-IsAntisymmetric}
use Rattle.std.specs.FinMap.Entries as by_id
use Rattle.std.specs.Ordering.{nat_cmp}
use Rattle.pg_meaning.specs.EntriesLaws.{both}
use Rattle.pg_meaning.specs.EqualityLaws.{nat_same}
use Rattle.pg_meaning.specs.Graph.{contains_id, ids_of}
use Rattle.pg_meaning.specs.Lists.{IsIn}

pub same_id : (n : ℕ) → (n == n) ≡ true
same_id n = grind (arith, nat_tests)

-- ---- ids among others

pub or_parts : (a b : Bool) → (a || b) ≡ false → (a ≡ false) × (b ≡ false)
or_parts true b h = cc
or_parts false b h = (refl, h)

pub id_is_in : (ids : List ℕ) (n : ℕ) → contains_id ids n ≡ true → IsIn n ids
id_is_in [] n h = cc
id_is_in (m ∷ ids) n h = by_first (m == n) refl h (id_is_in ids n)
  where
    by_first : (b : Bool) → (m == n) ≡ b → (b || contains_id ids n) ≡ true → (contains_id ids n ≡ true → IsIn n ids) → (n ≡ m) ⊎ IsIn n ids
    by_first true e h rest = inl (sym (nat_same m n e))
    by_first false e h rest = inr (rest h)

or_true : (b : Bool) → (b || true) ≡ true
or_true true = refl
or_true false = refl

pub is_in_id : (ids : List ℕ) (n : ℕ) → IsIn n ids → contains_id ids n ≡ true
is_in_id [] n i = absurd i
is_in_id (m ∷ ids) n (inl e) = ap (λ k. (m == k) || contains_id ids k) e ∙ ap (λ b. b || contains_id ids m) (same_id m)
is_in_id (m ∷ ids) n (inr i) = ap (λ b. (m == n) || b) (is_in_id ids n i) ∙ or_true (m == n)

kept_id : (b a t r : Bool) → r ≡ (a && t) → (b ≡ true → t ≡ true) → (b || r) ≡ ((b || a) && t)
kept_id true a t r e h = sym (h refl)
kept_id false a t r e h = e

dropped_id : (b a t r : Bool) → r ≡ (a && t) → (b ≡ true → t ≡ false) → r ≡ ((b || a) && t)
dropped_id true a t r e h = e ∙ none a t (h refl) ∙ sym (h refl)
  where
    none : (a t : Bool) → t ≡ false → (a && t) ≡ false
    none true t h = h
    none false t h = refl
dropped_id false a t r e h = e

-- among those that pass: among all, and passing
pub filtered_id : (test : ℕ → Bool) (n : ℕ) (ids : List ℕ) → contains_id (filter test ids) n ≡ (contains_id ids n && test n)
filtered_id test n [] = refl
filtered_id test n (m ∷ ids) =
    elim (test m) as (λ c. test m ≡ c → contains_id (cond c (m ∷ filter test ids) (filter test ids)) n ≡ (((m == n) || contains_id ids n) && test n)) [
      | true ↦ λ e. kept_id (m == n) (contains_id ids n) (test n) (contains_id (filter test ids) n) (filtered_id test n ids) (λ s. ap test (sym (nat_same m n s)) ∙ e)
      | false ↦ λ e. dropped_id (m == n) (contains_id ids n) (test n) (contains_id (filter test ids) n) (filtered_id test n ids) (λ s. ap test (sym (nat_same m n s)) ∙ e)
    ] refl

-- ---- found by id

module _ {X : Type 0} where
  -- what passes of what may be found
  abbrev pub passes : (test : ℕ × X → Bool) → (q : ℕ) → Option X → Bool
  passes test q None = false
  passes test q (Some x) = test (q, x)

  below_absent : (k : ℕ) (es : List (ℕ × X)) → by_id.below_all nat_cmp k es ≡ true → (test : ℕ × X → Bool) → contains_id (ids_of (filter test es)) k ≡ false
  below_absent k [] h test = refl
  below_absent k (e ∷ es) h test =
      let b = both (is_lt (nat_cmp k e.0)) (by_id.below_all nat_cmp k es) h in
      elim (test e) as (λ c. contains_id (ids_of (cond c (e ∷ filter test es) (filter test es))) k ≡ false) [
        | true ↦ ap (λ c. c || contains_id (ids_of (filter test es)) k) (other (e.0 == k) refl b.0) ∙ below_absent k es b.1 test
        | false ↦ below_absent k es b.1 test
      ]
    where
      other : (c : Bool) → (e.0 == k) ≡ c → is_lt (nat_cmp k e.0) ≡ true → c ≡ false
      other true s l = absurd (true≢false (sym l ∙ ap (λ m. is_lt (nat_cmp k m)) (nat_same e.0 k s) ∙ ap is_lt (tied_itself nat_cmp_total k)))
      other false s l = refl

  -- an id is among those of the entries that pass exactly where what is found passes
  pub found_passes : (test : ℕ × X → Bool) (q : ℕ) (es : List (ℕ × X)) → IsTrue (by_id.is_sorted nat_cmp es) → contains_id (ids_of (filter test es)) q ≡ passes test q (by_id.find nat_cmp q es)
  found_passes test q [] h = refl
  found_passes test q (e ∷ es) h =
      let b = both (by_id.below_all nat_cmp e.0 es) (by_id.is_sorted nat_cmp es) h in
      by_order (nat_cmp q e.0) refl (found_passes test q es b.1) (below_absent e.0 es b.0 test)
    where
      apart : (r : Bool) → (e.0 == q) ≡ r → (nat_cmp q e.0 ≡ Equal → ⊥) → r ≡ false
      apart true s h = absurd (h (ap (nat_cmp q) (nat_same e.0 q s) ∙ tied_itself nat_cmp_total q))
      apart false s h = refl

      not_here : (nat_cmp q e.0 ≡ Equal → ⊥) → (rest : Bool) → contains_id (ids_of (filter test es)) q ≡ rest → (c : Bool) → contains_id (ids_of (cond c (e ∷ filter test es) (filter test es))) q ≡ rest
      not_here h rest s true = ap (λ r. r || contains_id (ids_of (filter test es)) q) (apart (e.0 == q) refl h) ∙ s
      not_here h rest s false = s

      here : q ≡ e.0 → contains_id (ids_of (filter test es)) e.0 ≡ false → (c : Bool) → test e ≡ c → contains_id (ids_of (cond c (e ∷ filter test es) (filter test es))) q ≡ c
      here s gone true t = ap (λ k. (e.0 == k) || contains_id (ids_of (filter test es)) k) s ∙ ap (λ r. r || contains_id (ids_of (filter test es)) e.0) (same_id e.0)
      here s gone false t = ap (contains_id (ids_of (filter test es))) s ∙ gone

      by_order : (r : _) → nat_cmp q e.0 ≡ r → contains_id (ids_of (filter test es)) q ≡ passes test q (by_id.find nat_cmp q es) → contains_id (ids_of (filter test es)) e.0 ≡ false
          → contains_id (ids_of (cond (test e) (e ∷ filter test es) (filter test es))) q ≡ passes test q (cond (is_eq r) (Some e.1) (by_id.find nat_cmp q es))
      by_order Less s rest gone = not_here (λ t. let impossible = sym s ∙ t in cc) _ rest (test e)
      by_order Equal s rest gone = let same = nat_cmp-IsAntisymmetric q e.0 s in here same gone (test e) refl ∙ ap (λ k. test (k, e.1)) (sym same)
      by_order Greater s rest gone = not_here (λ t. let impossible = sym s ∙ t in cc) _ rest (test e)

  pub ids_found : (q : ℕ) (es : List (ℕ × X)) → contains_id (ids_of es) q ≡ is_some (by_id.find nat_cmp q es)
  ids_found q [] = refl
  ids_found q (e ∷ es) = by_order (nat_cmp q e.0) refl (ids_found q es)
    where
      apart : (r : Bool) → (e.0 == q) ≡ r → (nat_cmp q e.0 ≡ Equal → ⊥) → r ≡ false
      apart true s h = absurd (h (ap (nat_cmp q) (nat_same e.0 q s) ∙ tied_itself nat_cmp_total q))
      apart false s h = refl

      by_order : (r : _) → nat_cmp q e.0 ≡ r → contains_id (ids_of es) q ≡ is_some (by_id.find nat_cmp q es) → ((e.0 == q) || contains_id (ids_of es) q) ≡ is_some (cond (is_eq r) (Some e.1) (by_id.find nat_cmp q es))
      by_order Less s rest = ap (λ c. c || contains_id (ids_of es) q) (apart (e.0 == q) refl (λ t. let impossible = sym s ∙ t in cc)) ∙ rest
      by_order Equal s rest = ap (λ k. (e.0 == k) || contains_id (ids_of es) k) (nat_cmp-IsAntisymmetric q e.0 s) ∙ ap (λ c. c || contains_id (ids_of es) e.0) (same_id e.0)
      by_order Greater s rest = ap (λ c. c || contains_id (ids_of es) q) (apart (e.0 == q) refl (λ t. let impossible = sym s ∙ t in cc)) ∙ rest
