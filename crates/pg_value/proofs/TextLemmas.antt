-- Texts among those before them.
use Rattle.std.proofs.Common.{◌≡◌, ℕ, List, ◌∷◌, map, Bool, true, false, not, cond, BTreeSet, Bor, nat_cmp, bytes_eq, refl, sym, ap, ◌∙◌}
use Rattle.std.proofs.lemmas.Map.Text.{is_eq-slice_cmp}
use Rattle.std.proofs.lemmas.Slice.Eq.{bytes_eq-Decides}
use Rattle.std.specs.BTreeSet.{contains, Updates}
use Rattle.std.specs.Cmp.Lexicographic.{slice_cmp}
use Rattle.std.specs.Prelude.{◌||◌}
use Rattle.pg_meaning.specs.Names.{is_among}
use Rattle.pg_value.specs.Texts.{has_duplicate}

or_is_cond : (a b : Bool) → cond a true b ≡ a || b
or_is_cond true b = refl
or_is_cond false b = refl

both_ways : (a b : Bool) → (a ≡ true → b ≡ true) → (b ≡ true → a ≡ true) → a ≡ b
both_ways true true f g = refl
both_ways true false f g = sym (f refl)
both_ways false true f g = g refl
both_ways false false f g = refl

bytes_eq_comm : (x y : List ℕ) → bytes_eq x y ≡ bytes_eq y x
bytes_eq_comm x y =
    both_ways (bytes_eq x y) (bytes_eq y x) (λ h. (bytes_eq-Decides y x).1 (sym ((bytes_eq-Decides x y).0 h))) (λ h. (bytes_eq-Decides x y).1 (sym ((bytes_eq-Decides y x).0 h)))

-- a set with one text more
pub among_more : (old new : BTreeSet (Bor (List ℕ))) (x : Bor (List ℕ)) (done : List (List ℕ)) → ((q : Bor (List ℕ)) → contains (λ x y. slice_cmp nat_cmp x.now y.now) old q ≡ is_among done q.now)
    → Updates (λ x y. slice_cmp nat_cmp x.now y.now) old new x true
    → (q : Bor (List ℕ)) → contains (λ x y. slice_cmp nat_cmp x.now y.now) new q ≡ is_among (x.now ∷ done) q.now
among_more old new x done same updates q =
    updates.0 q ∙ ap (λ b. cond b true (contains (λ x y. slice_cmp nat_cmp x.now y.now) old q)) (is_eq-slice_cmp x.now q.now ∙ bytes_eq_comm x.now q.now)
    ∙ ap (cond (bytes_eq q.now x.now) true) (same q) ∙ or_is_cond (bytes_eq q.now x.now) (is_among done q.now)

-- a text that is new leaves the question to the others
pub again_more : (done : List (List ℕ)) (x : Bor (List ℕ)) (texts rest : List (Bor (List ℕ))) → texts ≡ x ∷ rest → is_among done x.now ≡ false
    → has_duplicate done (map (λ t. t.now) texts) ≡ has_duplicate (x.now ∷ done) (map (λ t. t.now) rest)
again_more done x texts rest e new = ap (λ ts. has_duplicate done (map (λ t. t.now) ts)) e ∙ ap (λ b. b || has_duplicate (x.now ∷ done) (map (λ t. t.now) rest)) new

pub was_new : (added within : Bool) → added ≡ not within → added ≡ true → within ≡ false
was_new added true e h = cc
was_new added false e h = refl
