-- One answer after the other, from what is there and what is left.
use Rattle.std.proofs.Common.{◌≡◌, ◌⊎◌, inl, inr, ℕ, zero, suc, ◌+◌, ◌<◌, ◌≤◌, min, Bool, true, false, List, [], ◌∷◌, ◌++◌, map, length, take, drop, get_or, set, Result, Ok, Err, Some, refl, sym, ap, ◌∙◌, arith, add-one, append-nil}
use Rattle.std.proofs.Math.Seq.{drop-cons}
use Rattle.std.proofs.lemmas.List.{append_assoc, take_more_set, drop-set-lt}
use Rattle.std.proofs.lemmas.Bool.{leb-true, leb-false}
use Rattle.std.specs.Prelude.{slice_get, nat_le}
use Rattle.pg_project.specs.Kept.{Answers, taken_in, all_taken_in}
use Rattle.pg_project.specs.Summaries.{Taken}
use Rattle.pg_meaning.specs.Aggregates.{Aggregate}
use Rattle.pg_meaning.specs.Answer.{◌>>=◌, each_answer, each_step}
use Rattle.pg_meaning.specs.declared.fault.Fault.{Fault}

abbrev pub after : {Y : Type 0} → List Y → Result (List Y) Fault → Result (List Y) Fault
after found rest = rest >>= λ ys. Ok (found ++ ys)

pub nothing_before : {Y : Type 0} (rest : Result (List Y) Fault) → rest ≡ after [] rest
nothing_before (Ok ys) = refl
nothing_before (Err f) = refl

put_behind : {Y : Type 0} (found : List Y) (y : Y) (rest : Result (List Y) Fault) → after found (rest >>= λ ys. Ok (y ∷ ys)) ≡ after (found ++ y ∷ []) rest
put_behind found y (Ok ys) = ap Ok (sym (append_assoc found (y ∷ []) ys))
put_behind found y (Err f) = refl

pub here : {X : Type 0} (xs : List X) (i : ℕ) (x : X) → i < length xs → x ≡ get_or xs i x → drop i xs ≡ x ∷ drop (i + 1) xs
here xs i x within is = drop-cons xs i x within ∙ ap (λ z. z ∷ drop (suc i) xs) (sym is) ∙ ap (λ k. x ∷ drop k xs) (sym (add-one i))

pub map_behind : {X Y : Type 0} (f : X → Y) (xs : List X) (x : X) → map f (xs ++ x ∷ []) ≡ map f xs ++ f x ∷ []
map_behind f [] x = refl
map_behind f (y ∷ ys) x = ap (λ zs. f y ∷ zs) (map_behind f ys x)

pub none_left : {X : Type 0} (xs : List X) (i : ℕ) → length xs ≤ i → drop i xs ≡ []
none_left [] zero h = refl
none_left [] (suc i) h = refl
none_left (x ∷ xs) zero h = absurd (omega (arith, h))
none_left (x ∷ xs) (suc i) h = none_left xs i (omega arith)

parts : {X : Type 0} (xs : List X) (i : ℕ) → take i xs ++ drop i xs ≡ xs
parts xs zero = refl
parts [] (suc i) = refl
parts (x ∷ xs) (suc i) = ap (λ ys. x ∷ ys) (parts xs i)

-- ---- answers left to right, each behind those there are

module _ {X Y P Z : Type 0} (at : X → Result Y Fault) (see : P → X) (view : Z → Y) (ps : List P) (i : ℕ) where
  module _ (found : List Z) (all : Result (List Y) Fault) (so_far : all ≡ after (map view found) (each_answer at (map see (drop i ps)))) where
    pub next_answered : (p : P) → i < length ps → p ≡ get_or ps i p → (more : List Z) (z : Z) → at (see p) ≡ Ok (view z) → more ≡ found ++ z ∷ [] → all ≡ after (map view more) (each_answer at (map see (drop (i + 1) ps)))
    next_answered p within is more z e front =
        so_far
        ∙ ap (λ qs. after (map view found) (each_answer at (map see qs))) (here ps i p within is)
        ∙ ap (λ r. after (map view found) (r >>= λ y. each_answer at (map see (drop (i + 1) ps)) >>= λ ys. Ok (y ∷ ys))) e
        ∙ put_behind (map view found) (view z) (each_answer at (map see (drop (i + 1) ps)))
        ∙ ap (λ ys. after ys (each_answer at (map see (drop (i + 1) ps)))) (sym (ap (map view) front ∙ map_behind view found z))

    pub fault_answered : (p : P) → i < length ps → p ≡ get_or ps i p → (f : Fault) → at (see p) ≡ Err f → all ≡ Err f
    fault_answered p within is f e =
        so_far
        ∙ ap (λ qs. after (map view found) (each_answer at (map see qs))) (here ps i p within is)
        ∙ ap (λ r. after (map view found) (r >>= λ y. each_answer at (map see (drop (i + 1) ps)) >>= λ ys. Ok (y ∷ ys))) e

    pub all_answered : length ps ≤ i → all ≡ Ok (map view found)
    all_answered none = so_far ∙ ap (λ qs. after (map view found) (each_answer at (map see qs))) (none_left ps i none) ∙ ap Ok (append-nil (map view found))

-- ---- aggregates left to right, each in the place of what was kept before

module _ {A Z : Type 0} (at : Answers) (see : A → Aggregate) (view : Z → Taken) where
  pub next_taken : (bs : List A) (ts : List Z) (i : ℕ) (a : A) (t u : Z) → i < length bs → i < length ts → a ≡ get_or bs i a → t ≡ get_or ts i t → taken_in at (see a) (view t) ≡ Ok (view u)
      → after (map view (take i ts)) (all_taken_in at (map see (drop i bs)) (map view (drop i ts)))
      ≡ after (map view (take (i + 1) (set ts i u))) (all_taken_in at (map see (drop (i + 1) bs)) (map view (drop (i + 1) (set ts i u))))
  next_taken bs ts i a t u in_bs in_ts a-is t-is e =
      (λ j. after (map view (take i ts)) (all_taken_in at (map see (here bs i a in_bs a-is j)) (map view (here ts i t in_ts t-is j))))
      ∙ ap (λ r. after (map view (take i ts)) (r >>= λ v. all_taken_in at (map see (drop (i + 1) bs)) (map view (drop (i + 1) ts)) >>= λ vs. Ok (v ∷ vs))) e
      ∙ put_behind (map view (take i ts)) (view u) (all_taken_in at (map see (drop (i + 1) bs)) (map view (drop (i + 1) ts)))
      ∙ (λ j. after (sym front j) (all_taken_in at (map see (drop (i + 1) bs)) (map view (sym back j))))
    where
      front : map view (take (i + 1) (set ts i u)) ≡ map view (take i ts) ++ view u ∷ []
      front = ap (map view) (take_more_set ts i u in_ts) ∙ map_behind view (take i ts) u

      back : drop (i + 1) (set ts i u) ≡ drop (i + 1) ts
      back = drop-set-lt (i + 1) ts i u (omega arith)

  pub fault_taken : (bs : List A) (ts : List Z) (i : ℕ) (a : A) (t : Z) (f : Fault) → i < length bs → i < length ts → a ≡ get_or bs i a → t ≡ get_or ts i t → taken_in at (see a) (view t) ≡ Err f
      → after (map view (take i ts)) (all_taken_in at (map see (drop i bs)) (map view (drop i ts))) ≡ Err f
  fault_taken bs ts i a t f in_bs in_ts a-is t-is e =
      (λ j. after (map view (take i ts)) (all_taken_in at (map see (here bs i a in_bs a-is j)) (map view (here ts i t in_ts t-is j))))
      ∙ ap (λ r. after (map view (take i ts)) (r >>= λ v. all_taken_in at (map see (drop (i + 1) bs)) (map view (drop (i + 1) ts)) >>= λ vs. Ok (v ∷ vs))) e

  nothing_left : (bs : List Aggregate) (ts : List Taken) → (bs ≡ []) ⊎ (ts ≡ []) → all_taken_in at bs ts ≡ Ok ts
  nothing_left [] ts h = refl
  nothing_left (a ∷ bs) [] h = refl
  nothing_left (a ∷ bs) (t ∷ ts) (inl h) = absurd cc
  nothing_left (a ∷ bs) (t ∷ ts) (inr h) = absurd cc

  pub all_taken : (bs : List A) (ts : List Z) (i : ℕ) → (length bs ≤ i) ⊎ (length ts ≤ i) → after (map view (take i ts)) (all_taken_in at (map see (drop i bs)) (map view (drop i ts))) ≡ Ok (map view ts)
  all_taken bs ts i h = ap (after (map view (take i ts))) (nothing_left (map see (drop i bs)) (map view (drop i ts)) (by h)) ∙ ap Ok (joined (take i ts) (drop i ts) ∙ ap (map view) (parts ts i))
    where
      by : (length bs ≤ i) ⊎ (length ts ≤ i) → (map see (drop i bs) ≡ []) ⊎ (map view (drop i ts) ≡ [])
      by (inl k) = inl (ap (map see) (none_left bs i k))
      by (inr k) = inr (ap (map view) (none_left ts i k))

      joined : (xs ys : List Z) → map view xs ++ map view ys ≡ map view (xs ++ ys)
      joined [] ys = refl
      joined (x ∷ xs) ys = ap (λ zs. view x ∷ zs) (joined xs ys)

pub at_either : (m n i : ℕ) → min m n ≤ i → (m ≤ i) ⊎ (n ≤ i)
at_either m n i h = by (nat_le m i) refl
  where
    by : (b : Bool) → nat_le m i ≡ b → (m ≤ i) ⊎ (n ≤ i)
    by true e = inl (leb-true m i e)
    by false e = inr (let above = leb-false m i e in omega arith)

-- ---- row after row

drop_at : {X : Type 0} (xs : List X) (i : ℕ) (x : X) → slice_get xs i ≡ Some x → drop i xs ≡ x ∷ drop (i + 1) xs
drop_at [] i x h = absurd cc
drop_at (y ∷ ys) zero x h = let e : y ≡ x = cc in ap (λ z. z ∷ ys) e
drop_at (y ∷ ys) (suc i) x h = drop_at ys i x h ∙ ap (λ k. x ∷ drop k (y ∷ ys)) (let e : suc (i + 1) ≡ suc i + 1 = omega arith in e)

module _ {S X : Type 0} (step : S → X → Result S Fault) (xs : List X) (i : ℕ) (x : X) (is : slice_get xs i ≡ Some x) where
  pub step_on : (s t : S) → step s x ≡ Ok t → each_step step s (drop i xs) ≡ each_step step t (drop (i + 1) xs)
  step_on s t e = ap (each_step step s) (drop_at xs i x is) ∙ ap (λ r. r >>= λ u. each_step step u (drop (i + 1) xs)) e

  pub step_fault : (s : S) (f : Fault) → step s x ≡ Err f → each_step step s (drop i xs) ≡ Err f
  step_fault s f e = ap (each_step step s) (drop_at xs i x is) ∙ ap (λ r. r >>= λ u. each_step step u (drop (i + 1) xs)) e
