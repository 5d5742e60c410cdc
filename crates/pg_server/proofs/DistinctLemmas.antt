-- Where no text comes again, a token is one tenant's alone.
use Rattle.std.proofs.Common.{◌≡◌, ◌≢◌, ℕ, zero, suc, ◌<◌, List, [], ◌∷◌, ◌++◌, Bool, true, false, get_or, arith, bytes_eq, refl, sym, ap, ◌∙◌, inl, inr}
use Rattle.std.specs.Prelude.{◌||◌}
use Rattle.std.proofs.lemmas.Bool.{cases_lt}
use Rattle.std.proofs.lemmas.Slice.Eq.{bytes_eq-Decides}
use Rattle.pg_meaning.specs.Names.{is_among}
use Rattle.pg_value.specs.Texts.{has_duplicate}
use Rattle.pg_server.specs.Settings.{all_tokens}
use Rattle.pg_tenant.specs.Settings.{TenantSettings, token_texts}

pub or_false : (a b : Bool) → a || b ≡ false → (a ≡ false) × (b ≡ false)
or_false true b h = cc
or_false false b h = (refl, h)

pub or_here : (a b : Bool) → a ≡ true → a || b ≡ true
or_here true b h = refl
or_here false b h = cc

or_there : (a b : Bool) → b ≡ true → a || b ≡ true
or_there true b h = refl
or_there false b h = h

or_rest : (a b : Bool) → a ≡ false → b ≡ false → a || b ≡ false
or_rest true b h g = cc
or_rest false b h g = g

-- a text among those before the first, or the first itself
absent_step : (before texts : List (List ℕ)) (y x : List ℕ) (b : Bool) → bytes_eq x y ≡ b → is_among before y ≡ false → is_among before x ≡ true
    → (is_among (y ∷ before) x ≡ true → is_among texts x ≡ false) → is_among (y ∷ texts) x ≡ false
absent_step before texts y x true is new h rest =
    let same : y ≡ x = sym ((bytes_eq-Decides x y).0 is) in
    let found : is_among before y ≡ true = ap (λ z. is_among before z) same ∙ h in
    cc
absent_step before texts y x false is new h rest = or_rest (bytes_eq x y) _ is (rest (or_there (bytes_eq x y) _ h))

-- what came before does not come again
pub absent : (before texts : List (List ℕ)) (x : List ℕ) → has_duplicate before texts ≡ false → is_among before x ≡ true → is_among texts x ≡ false
absent before [] x once h = refl
absent before (y ∷ texts) x once h =
    let parts = or_false (is_among before y) (has_duplicate (y ∷ before) texts) once in
    absent_step before texts y x (bytes_eq x y) refl parts.0 h (λ more. absent (y ∷ before) texts x parts.1 more)

among_right : (xs ys : List (List ℕ)) (x : List ℕ) → is_among (xs ++ ys) x ≡ false → is_among ys x ≡ false
among_right [] ys x h = h
among_right (y ∷ xs) ys x h = among_right xs ys x (or_false (bytes_eq x y) _ h).1

apart_step : (before xs ys : List (List ℕ)) (y x : List ℕ) (b : Bool) → bytes_eq x y ≡ b → has_duplicate (y ∷ before) (xs ++ ys) ≡ false → is_among (y ∷ xs) x ≡ true
    → (is_among xs x ≡ true → is_among ys x ≡ false) → is_among ys x ≡ false
apart_step before xs ys y x true is once h rest = among_right xs ys x (absent (y ∷ before) (xs ++ ys) x once (or_here (bytes_eq x y) _ is))
apart_step before xs ys y x false is once h rest = rest (sym (ap (λ b. b || is_among xs x) is) ∙ h)

-- a text of the first part is not in the second
apart : (before xs ys : List (List ℕ)) (x : List ℕ) → has_duplicate before (xs ++ ys) ≡ false → is_among xs x ≡ true → is_among ys x ≡ false
apart before [] ys x once h = cc
apart before (y ∷ xs) ys x once h =
    let parts = or_false (is_among before y) (has_duplicate (y ∷ before) (xs ++ ys)) once in
    apart_step before xs ys y x (bytes_eq x y) refl parts.1 h (λ more. apart (y ∷ before) xs ys x parts.1 more)

second : (before xs ys : List (List ℕ)) → has_duplicate before (xs ++ ys) ≡ false → (more : List (List ℕ)) × (has_duplicate more ys ≡ false)
second before [] ys once = (before, once)
second before (y ∷ xs) ys once = second (y ∷ before) xs ys (or_false (is_among before y) _ once).1

among_one : (tenants : List TenantSettings) (t : ℕ) (d : TenantSettings) (x : List ℕ) → token_texts d ≡ [] → is_among (all_tokens tenants) x ≡ false → is_among (token_texts (get_or tenants t d)) x ≡ false
among_one [] t d x none h = ap (λ names. is_among names x) none
among_one (s ∷ tenants) zero d x none h = among_left (token_texts s) (all_tokens tenants) h
  where
    among_left : (xs ys : List (List ℕ)) → is_among (xs ++ ys) x ≡ false → is_among xs x ≡ false
    among_left [] ys h = refl
    among_left (y ∷ xs) ys h = let parts = or_false (bytes_eq x y) (is_among (xs ++ ys) x) h in or_rest (bytes_eq x y) _ parts.0 (among_left xs ys parts.1)
among_one (s ∷ tenants) (suc t) d x none h = among_one tenants t d x none (among_right (token_texts s) (all_tokens tenants) x h)

later_apart : (before : List (List ℕ)) (tenants : List TenantSettings) (u t : ℕ) (d : TenantSettings) (x : List ℕ) → token_texts d ≡ [] → has_duplicate before (all_tokens tenants) ≡ false → u < t
    → is_among (token_texts (get_or tenants u d)) x ≡ true → is_among (token_texts (get_or tenants t d)) x ≡ false
later_apart before [] u t d x none once lt h = ap (λ names. is_among names x) none
later_apart before (s ∷ tenants) u zero d x none once lt h = absurd (omega arith)
later_apart before (s ∷ tenants) zero (suc t) d x none once lt h = among_one tenants t d x none (apart before (token_texts s) (all_tokens tenants) x once h)
later_apart before (s ∷ tenants) (suc u) (suc t) d x none once lt h =
    let more = second before (token_texts s) (all_tokens tenants) once in
    later_apart more.0 tenants u t d x none more.1 (omega arith) h

-- a token of one tenant is no token of another
pub others_lack : (tenants : List TenantSettings) (u t : ℕ) (d : TenantSettings) (x : List ℕ) → token_texts d ≡ [] → has_duplicate [] (all_tokens tenants) ≡ false → u ≢ t
    → is_among (token_texts (get_or tenants u d)) x ≡ true → is_among (token_texts (get_or tenants t d)) x ≡ false
others_lack tenants u t d x none once ne h = by_order (is_among (token_texts (get_or tenants t d)) x) refl
  where
    by_order : (b : Bool) → is_among (token_texts (get_or tenants t d)) x ≡ b → is_among (token_texts (get_or tenants t d)) x ≡ false
    by_order false is = is
    by_order true is =
        elim (cases_lt u t) as (λ _. is_among (token_texts (get_or tenants t d)) x ≡ false) [
          | inl lt ↦ later_apart [] tenants u t d x none once lt h
          | inr ge ↦ let not_here : is_among (token_texts (get_or tenants u d)) x ≡ false = later_apart [] tenants t u d x none once (omega (arith, ne)) is in cc
        ]
