-- What is kept of values and one more is what is kept of the values with that one more.
use Rattle.std.proofs.Common.{◌≡◌, ℤ, pos, Bool, true, false, cond, List, [], ◌∷◌, ◌++◌, Result, Ok, Err, Option, Some, None, refl, sym, ap, ◌∙◌, arith, ◌&&◌, length-append}
use Rattle.std.proofs.lemmas.Int.{ints}
use Rattle.std.proofs.lemmas.List.Sums.{fold-append}
use Rattle.std.specs.List.{list_any}
use Rattle.std.specs.Prelude.{◌+ℤ◌}
use Rattle.pg_project.proofs.Best.{lowest_stays, highest_stays}
use Rattle.pg_project.specs.Summaries.{Accumulated, count, sum, lowest, highest, values, best_of, held_of, held_with, better, told, value_or_null, Taken, different_of, needs_different, taken_of, taken_with, other_with}
use Rattle.pg_meaning.specs.Aggregates.{Summary, counting, summing, least, greatest, collecting, Aggregate, total, extended, take_in, lesser, greater, best, summarized}
use Rattle.pg_meaning.specs.Answer.{◌>>=◌}
use Rattle.pg_meaning.specs.Arithmetic.{is_in_range}
use Rattle.pg_meaning.specs.Measure.{is_within_limits}
use Rattle.pg_meaning.specs.Order.{is_equivalent}
use Rattle.pg_meaning.specs.Value.{Value, null, boolean, integer, text, list, mapping, node, relationship, path, values_of}
use Rattle.pg_meaning.specs.declared.fault.Fault.{Fault}
use Rattle.pg_meaning.specs.declared.fault.Fault.TheVariants.{Overflow, ValueTooLarge}

rotated : (i j k : ℤ) → (i +ℤ (j +ℤ k)) ≡ ((i +ℤ j) +ℤ k)
rotated i j k = omega (arith, ints)

total_with : (vs : List Value) (i : ℤ) → total (vs ++ integer i ∷ []) ≡ total vs +ℤ i
total_with [] i = omega (arith, ints)
total_with (null ∷ vs) i = total_with vs i
total_with (boolean b ∷ vs) i = total_with vs i
total_with (integer j ∷ vs) i = ap (λ n. j +ℤ n) (total_with vs i) ∙ rotated j (total vs) i
total_with (text t ∷ vs) i = total_with vs i
total_with (list us ∷ vs) i = total_with vs i
total_with (mapping es ∷ vs) i = total_with vs i
total_with (node n ∷ vs) i = total_with vs i
total_with (relationship n ∷ vs) i = total_with vs i
total_with (path ns ∷ vs) i = total_with vs i

best_with : (f : Value → Value → Value) (vs : List Value) (v : Value) → best_of f (vs ++ v ∷ []) ≡ Some (better f (best_of f vs) v)
best_with f [] v = refl
best_with f (u ∷ us) v = ap Some (fold-append f u us (v ∷ []))

-- the values beside what is kept of them
abbrev Both : Type 0
Both = Result (List Value × Accumulated) Fault

abbrev with_held : Summary → List Value → Both
with_held s vs = Ok (vs, held_of s vs)

abbrev behind : List Value → Value → Accumulated → Both
behind vs v h = Ok (vs ++ v ∷ [], h)

summed : (vs : List Value) (i : ℤ) (b : Bool)
    → (cond b (Ok (vs ++ integer i ∷ [])) (Err Overflow) >>= with_held summing) ≡ (cond b (Ok (sum (total vs +ℤ i))) (Err Overflow) >>= behind vs (integer i))
summed vs i true = ap (λ n. let r : Both = Ok (vs ++ integer i ∷ [], sum n) in r) (total_with vs i)
summed vs i false = refl

listed : (vs : List Value) (v : Value) (b : Bool)
    → (cond b (Ok (vs ++ v ∷ [])) (Err ValueTooLarge) >>= with_held collecting) ≡ ((cond b (Ok (vs ++ v ∷ [])) (Err ValueTooLarge) >>= λ ws. let r : Result Accumulated Fault = Ok (values ws) in r) >>= behind vs v)
listed vs v true = refl
listed vs v false = refl

pub one_more : (s : Summary) (vs : List Value) (v : Value) → (extended s vs v >>= with_held s) ≡ (held_with (held_of s vs) v >>= behind vs v)
one_more counting vs v = ap (λ n. let r : Both = Ok (vs ++ v ∷ [], count (pos n)) in r) (length-append vs (v ∷ []))
one_more summing vs null = refl
one_more summing vs (boolean b) = refl
one_more summing vs (integer i) =
    summed vs i (is_in_range (total (vs ++ integer i ∷ []))) ∙ ap (λ n. cond (is_in_range n) (Ok (sum (total vs +ℤ i))) (Err Overflow) >>= behind vs (integer i)) (total_with vs i)
one_more summing vs (text t) = refl
one_more summing vs (list us) = refl
one_more summing vs (mapping es) = refl
one_more summing vs (node n) = refl
one_more summing vs (relationship n) = refl
one_more summing vs (path ns) = refl
one_more least vs v = ap (λ o. let r : Both = Ok (vs ++ v ∷ [], lowest o) in r) (best_with lesser vs v)
one_more greatest vs v = ap (λ o. let r : Both = Ok (vs ++ v ∷ [], highest o) in r) (best_with greater vs v)
one_more collecting vs v = listed vs v (is_within_limits (list (values_of (vs ++ v ∷ []))))

bound_twice : {X Y Z : Type 0} (a : Result X Fault) (f : X → Result Y Fault) (g : Y → Result Z Fault) → (a >>= f >>= g) ≡ (a >>= λ x. f x >>= g)
bound_twice (Ok x) f g = refl
bound_twice (Err e) f g = refl

mapped : (s : Summary) (vs : List Value) (v : Value) (g : List Value × Accumulated → Result Taken Fault)
    → (extended s vs v >>= λ ws. g (ws, held_of s ws)) ≡ (held_with (held_of s vs) v >>= λ h. g (vs ++ v ∷ [], h))
mapped s vs v g =
    sym (bound_twice (extended s vs v) (with_held s) g)
    ∙ ap (λ a. a >>= g) (one_more s vs v)
    ∙ bound_twice (held_with (held_of s vs) v) (behind vs v) g

-- ---- where a value isn't null

abbrev with_taken : Summary → Bool → List Value → Result Taken Fault
with_taken s distinct vs = Ok (record { different = different_of (distinct && needs_different s) vs; held = held_of s vs })

abbrev new_different : Option (List Value) → Accumulated → Result Taken Fault
new_different o h = Ok (record { different = o; held = h })

unless_taken : (s : Summary) (vs : List Value) (v : Value) (b : Bool)
    → (elim b as (λ c. Result (List Value) Fault) [ true ↦ Ok vs | false ↦ extended s vs v ] >>= λ ws. new_different (Some ws) (held_of s ws))
    ≡ cond b (new_different (Some vs) (held_of s vs)) (held_with (held_of s vs) v >>= new_different (Some (vs ++ v ∷ [])))
unless_taken s vs v true = refl
unless_taken s vs v false = mapped s vs v (λ p. new_different (Some p.0) p.1)

anyway : (s : Summary) (vs : List Value) (v : Value) (b : Bool) → (b ≡ true → new_different None (held_of s vs) ≡ (held_with (held_of s vs) v >>= new_different None))
    → (elim b as (λ c. Result (List Value) Fault) [ true ↦ Ok vs | false ↦ extended s vs v ] >>= λ ws. new_different None (held_of s ws)) ≡ (held_with (held_of s vs) v >>= new_different None)
anyway s vs v true stays = stays refl
anyway s vs v false stays = mapped s vs v (λ p. new_different None p.1)

by_distinct : (s : Summary) (distinct : Bool) (vs : List Value) (v : Value)
    → (elim (distinct && list_any (is_equivalent v) vs) as (λ c. Result (List Value) Fault) [ true ↦ Ok vs | false ↦ extended s vs v ] >>= with_taken s distinct)
    ≡ other_with (different_of (distinct && needs_different s) vs) (held_of s vs) v
by_distinct s false vs v = mapped s vs v (λ p. new_different None p.1)
by_distinct counting true vs v = unless_taken counting vs v (list_any (is_equivalent v) vs)
by_distinct summing true vs v = unless_taken summing vs v (list_any (is_equivalent v) vs)
by_distinct collecting true vs v = unless_taken collecting vs v (list_any (is_equivalent v) vs)
by_distinct least true vs v = anyway least vs v (list_any (is_equivalent v) vs) (λ h. ap (λ o. new_different None (lowest o)) (lowest_stays vs v h))
by_distinct greatest true vs v = anyway greatest vs v (list_any (is_equivalent v) vs) (λ h. ap (λ o. new_different None (highest o)) (highest_stays vs v h))

pub taken_more : (a : Aggregate) (vs : List Value) (v : Value) → (take_in a vs v >>= λ ws. Ok (taken_of a ws)) ≡ taken_with (taken_of a vs) v
taken_more a vs null = refl
taken_more a vs (boolean b) = by_distinct a.summary a.distinct vs (boolean b)
taken_more a vs (integer i) = by_distinct a.summary a.distinct vs (integer i)
taken_more a vs (text t) = by_distinct a.summary a.distinct vs (text t)
taken_more a vs (list us) = by_distinct a.summary a.distinct vs (list us)
taken_more a vs (mapping es) = by_distinct a.summary a.distinct vs (mapping es)
taken_more a vs (node n) = by_distinct a.summary a.distinct vs (node n)
taken_more a vs (relationship n) = by_distinct a.summary a.distinct vs (relationship n)
taken_more a vs (path ns) = by_distinct a.summary a.distinct vs (path ns)

-- ---- what it tells

best_told : (f : Value → Value → Value) (vs : List Value) → best f vs ≡ value_or_null (best_of f vs)
best_told f [] = refl
best_told f (v ∷ vs) = refl

pub told_of : (s : Summary) (vs : List Value) → summarized s vs ≡ told (held_of s vs)
told_of counting vs = refl
told_of summing vs = refl
told_of least vs = best_told lesser vs
told_of greatest vs = best_told greater vs
told_of collecting vs = refl
