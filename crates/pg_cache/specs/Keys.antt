-- Two keys are the same just where their texts and their indexes are, and then they are hashed alike.
use Rattle.std.proofs.Common.{◌≡◌, ℕ, Bool, true, false, ◌&&◌, List, [], ◌∷◌, ◌++◌, refl, sym, ap, ◌∙◌, String, Global, true≢false}
use Rattle.std.proofs.lemmas.Slice.Eq.{bytes_eq-Decides}
use Rattle.std.specs.Cmp.Lexicographic.{pointwise, pointwise_decides}
use Rattle.std.specs.Str.{bytes_eq}
use Rattle.std.specs.String.{string_eq}
use Rattle.pg_plan.specs.Catalogue.{catalogue_view}
use Rattle.pg_meaning.specs.Plans.{Catalogue}
use Rattle.std.specs.Hash.{HashWrites}
use Rattle.pg_cache.specs.Cache.{Key, key_view, same_index, same_key}
use Rattle.pg_cache.specs.Digests.{digest_writes, index_eq}
use Rattle.pg_cache.specs.declared.key.Key as kept_key

left : (a b : Bool) → (a && b) ≡ true → a ≡ true
left true b h = refl
left false b h = h

right : (a b : Bool) → (a && b) ≡ true → b ≡ true
right true b h = h
right false b h = absurd (true≢false (sym h))

both : (a b : Bool) → a ≡ true → b ≡ true → (a && b) ≡ true
both a b h k = rw (h, k) refl

index_is : (i j : List ℕ × List ℕ) → same_index i j ≡ true → i ≡ j
index_is i j h =
    let label = (bytes_eq-Decides i.0 j.0).0 (left (bytes_eq i.0 j.0) (bytes_eq i.1 j.1) h) in
    let key = (bytes_eq-Decides i.1 j.1).0 (right (bytes_eq i.0 j.0) (bytes_eq i.1 j.1) h) in
    λ t. (label t, key t)

is_index : (i j : List ℕ × List ℕ) → i ≡ j → same_index i j ≡ true
is_index i j h = both (bytes_eq i.0 j.0) (bytes_eq i.1 j.1) ((bytes_eq-Decides i.0 j.0).1 (ap (λ k. k.0) h)) ((bytes_eq-Decides i.1 j.1).1 (ap (λ k. k.1) h))

indexes_are : (c d : Catalogue) → pointwise same_index c d ≡ true → c ≡ d
indexes_are c d h = (pointwise_decides {E = same_index} (λ i j. (index_is i j, is_index i j)) c d).0 h

pub same_key_is : (k l : Key) → same_key k l ≡ true → k ≡ l
same_key_is k l h =
    let text = (bytes_eq-Decides k.0 l.0).0 (left (bytes_eq k.0 l.0) (pointwise same_index k.1 l.1) h) in
    let catalogue = indexes_are k.1 l.1 (right (bytes_eq k.0 l.0) (pointwise same_index k.1 l.1) h) in
    λ t. (text t, catalogue t)

-- ---- as the program compares them

abbrev pub key_eq : kept_key.Key → kept_key.Key → Bool
key_eq k l = string_eq k.text l.text && pointwise index_eq k.catalogue.value.items l.catalogue.value.items

indexes_alike : (is js : List (String Global × String Global)) → pointwise index_eq is js ≡ pointwise same_index (catalogue_view is) (catalogue_view js)
indexes_alike [] [] = refl
indexes_alike [] (j ∷ js) = refl
indexes_alike (i ∷ is) [] = refl
indexes_alike (i ∷ is) (j ∷ js) = ap (λ b. index_eq i j && b) (indexes_alike is js)

pub keys_alike : key_eq ≡ (λ k l. same_key (key_view k) (key_view l))
keys_alike = λ t k l. string_eq k.text l.text && indexes_alike k.catalogue.value.items l.catalogue.value.items t

-- ---- what is fed to the hash

abbrev pub key_writes : Key → HashWrites
key_writes key = digest_writes key.1 ++ key.0 ∷ []

pub fed_alike : (k l : kept_key.Key) → key_eq k l ≡ true → key_writes (key_view k) ≡ key_writes (key_view l)
fed_alike k l h = ap key_writes (same_key_is (key_view k) (key_view l) (sym (ap (λ eq. eq k l) keys_alike) ∙ h))
