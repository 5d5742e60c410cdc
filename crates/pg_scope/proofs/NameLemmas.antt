-- Sets of names.
use Rattle.std.proofs.Common.{◌≡◌, ℕ, List, [], ◌∷◌, map, Bool, true, false, not, cond, BTreeSet, Bor, nat_cmp, bytes_eq, refl, sym, ap, ◌∙◌}
use Rattle.std.proofs.lemmas.Map.Text.{is_eq-slice_cmp}
use Rattle.std.proofs.lemmas.Slice.Eq.{bytes_eq-Decides}
use Rattle.std.specs.BTreeMap.{is_at}
use Rattle.std.specs.BTreeSet.{contains, Updates}
use Rattle.std.specs.Cmp.Lexicographic.{slice_cmp}
use Rattle.std.specs.List.{list_any}
use Rattle.std.specs.Prelude.{◌||◌}
use Rattle.pg_meaning.specs.Names.{Names, is_among}
use Rattle.pg_scope.specs.Names.{names_in, HasSame}

or_is_cond : (a b : Bool) → cond a true b ≡ a || b
or_is_cond true b = refl
or_is_cond false b = refl

both_ways : (a b : Bool) → (a ≡ true → b ≡ true) → (b ≡ true → a ≡ true) → a ≡ b
both_ways true true f g = refl
both_ways true false f g = sym (f refl)
both_ways false true f g = g refl
both_ways false false f g = refl

bytes_eq_comm : (x y : List ℕ) → bytes_eq x y ≡ bytes_eq y x
bytes_eq_comm x y =
    both_ways (bytes_eq x y) (bytes_eq y x) (λ h. (bytes_eq-Decides y x).1 (sym ((bytes_eq-Decides x y).0 h))) (λ h. (bytes_eq-Decides x y).1 (sym ((bytes_eq-Decides y x).0 h)))

pub among_keys : (name : List ℕ) (ks : List (Bor (List ℕ))) → list_any (is_at (λ k. slice_cmp nat_cmp name k.now)) ks ≡ is_among (map (λ k. k.now) ks) name
among_keys name [] = refl
among_keys name (k ∷ ks) =
    ap (λ b. b || list_any (is_at (λ k. slice_cmp nat_cmp name k.now)) ks) (is_eq-slice_cmp name k.now)
    ∙ ap (λ b. bytes_eq name k.now || b) (among_keys name ks)

-- a name more
pub one_more : (old new : BTreeSet (Bor (List ℕ))) (x : Bor (List ℕ)) → Updates (λ x y. slice_cmp nat_cmp x.now y.now) old new x true → HasSame (names_in new) (x.now ∷ names_in old)
one_more old new x updates = record { is = one_name }
  where
    one_name : (name : List ℕ) → is_among (names_in new) name ≡ is_among (x.now ∷ names_in old) name
    one_name name =
        let q : Bor (List ℕ) = record { ref_ptr = (0, 0); now = name } in
        sym (among_keys name new.keys) ∙ updates.0 q ∙ ap (λ b. cond b true (contains (λ x y. slice_cmp nat_cmp x.now y.now) old q)) (is_eq-slice_cmp x.now name ∙ bytes_eq_comm x.now name)
        ∙ ap (cond (bytes_eq name x.now) true) (among_keys name old.keys) ∙ or_is_cond (bytes_eq name x.now) (is_among (names_in old) name)

pub more_names : {old new done : Names} {key text : List ℕ} → HasSame new (key ∷ old) → key ≡ text → HasSame old done → HasSame new (text ∷ done)
more_names {old} {new} {done} {key} {text} more is same =
    record { is = λ name. more.is name ∙ ap (λ k. bytes_eq name k || is_among old name) is ∙ ap (λ b. bytes_eq name text || b) (same.is name) }

-- a name that was not added stood there
pub stood_before : {old done : Names} {key text : List ℕ} (added : Bool) → added ≡ not (is_among old key) → key ≡ text → HasSame old done → not added ≡ is_among done text
stood_before {old} {done} {key} {text} added e is same = ap not e ∙ twice (is_among old key) ∙ ap (is_among old) is ∙ same.is text
  where
    twice : (b : Bool) → not (not b) ≡ b
    twice true = refl
    twice false = refl
