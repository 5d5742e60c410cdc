-- What stands beside a name in a table.
use Rattle.std.proofs.Common.{◌≡◌, ℕ, Bool, true, false, List, [], ◌∷◌, map, Option, Some, cond, bytes_eq, refl, ap, ◌∙◌}
use Rattle.std.proofs.lemmas.Slice.Eq.{bytes_eq-Decides}
use Rattle.std.specs.Map.{lookup}
use Rattle.std.specs.Prelude.{option_map}
use Rattle.std.specs.Str.{str_to_ascii_lowercase}
use Rattle.pg_scope.specs.Calls.{IsNamed}

pub found : {X : Type 0} {name key : List ℕ} (x : X) (es : List (List ℕ × X)) → name ≡ key → lookup (bytes_eq name) ((key, x) ∷ es) ≡ Some x
found {X} {name} {key} x es same = ap (λ b. cond b (Some x) (lookup (bytes_eq name) es)) ((bytes_eq-Decides name key).1 same)

pub passed : {X : Type 0} {name key : List ℕ} (x : X) (es : List (List ℕ × X)) → (name ≡ key → ⊥) → lookup (bytes_eq name) ((key, x) ∷ es) ≡ lookup (bytes_eq name) es
passed {X} {name} {key} x es other = by_test (bytes_eq name key) refl
  where
    by_test : (b : Bool) → bytes_eq name key ≡ b → cond b (Some x) (lookup (bytes_eq name) es) ≡ lookup (bytes_eq name) es
    by_test true e = absurd (other ((bytes_eq-Decides name key).0 e))
    by_test false e = refl

seen_beside : {X Y : Type 0} (view : X → Y) (test : List ℕ → Bool) (es : List (List ℕ × X)) → option_map view (lookup test es) ≡ lookup test (map (λ e. (e.0, view e.1)) es)
seen_beside view test [] = refl
seen_beside {X} {Y} view test (e ∷ es) = by_test (test e.0) (seen_beside view test es)
  where
    by_test : (b : Bool) → option_map view (lookup test es) ≡ lookup test (map (λ (e : List ℕ × X). (e.0, view e.1)) es)
        → option_map view (cond b (Some e.1) (lookup test es)) ≡ cond b (Some (view e.1)) (lookup test (map (λ (e : List ℕ × X). (e.0, view e.1)) es))
    by_test true h = refl
    by_test false h = h

-- what stands for it in a table of data
pub viewed : {X Y : Type 0} (view : X → Y) {name : List ℕ} {known : List (List ℕ × X)} {o : Option X} → IsNamed name known o → option_map view o ≡ lookup (bytes_eq (str_to_ascii_lowercase name)) (map (λ e. (e.0, view e.1)) known)
viewed view {name} {known} named = ap (option_map view) named.is ∙ seen_beside view (bytes_eq (str_to_ascii_lowercase name)) known
