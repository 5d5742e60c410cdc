-- Keys that get a blank place, and lose it again: nothing else changes, and nothing shows.
use Rattle.std.proofs.Common.{◌≡◌, ◌≢◌, ◌==◌, ◌||◌, ℕ, Bool, true, false, not, cond, List, [], ◌∷◌, Some, None, arith, refl, sym, ap, ◌∙◌}
use Rattle.std.proofs.lemmas.Bool.Decides.{nat_tests}
use Rattle.std.specs.FinMap as map
use Rattle.std.specs.List.{AllByRecursion, list_any}
use Rattle.pg_graph.proofs.Maps.{get_inserted, get_inserted_other, same_numbered}
use Rattle.pg_graph.proofs.NamedChanges.{named_inserted, shown_alike}
use Rattle.pg_graph.specs.Records.{Properties, shown, with_blanks, without_keys}
use Rattle.pg_graph.specs.Refinement.{property_entries, AreNamed}
use Rattle.pg_meaning.specs.Value.{Value, null}
use Rattle.pg_names.specs.Names.{AreDistinct}

abbrev pub has : List ℕ → ℕ → Bool
has keys q = list_any (λ k. k == q) keys

same_key : (k q : ℕ) → (k == q) ≡ true → q ≡ k
same_key k q h = grind (arith, nat_tests)

other_key : (k q : ℕ) → (k == q) ≡ false → q ≢ k
other_key k q h = λ same. absurd (cc (h, itself k q same))
  where
    itself : (k q : ℕ) → q ≡ k → (k == q) ≡ true
    itself k q h = grind (arith, nat_tests)

-- what stands under a key that is none of these
pub blank_elsewhere : (keys : List ℕ) (ps : Properties) (q : ℕ) → has keys q ≡ false → map.get (with_blanks ps keys) q ≡ map.get ps q
blank_elsewhere [] ps q h = refl
blank_elsewhere (k ∷ ks) ps q h = by_test (k == q) refl h (blank_elsewhere ks (map.insert ps k null) q)
  where
    by_test : (b : Bool) → (k == q) ≡ b → (b || has ks q) ≡ false → (has ks q ≡ false → map.get (with_blanks ps (k ∷ ks)) q ≡ map.get (map.insert ps k null) q) → map.get (with_blanks ps (k ∷ ks)) q ≡ map.get ps q
    by_test true is h rest = absurd (cc)
    by_test false is h rest = rest h ∙ get_inserted_other ps k null q (other_key k q is)

-- and under one of these
pub blank_there : (keys : List ℕ) (ps : Properties) (q : ℕ) → has keys q ≡ true → map.get (with_blanks ps keys) q ≡ Some null
blank_there [] ps q h = absurd (cc)
blank_there (k ∷ ks) ps q h = by_tests (k == q) (has ks q) refl refl h (blank_there ks (map.insert ps k null) q)
  where
    by_tests : (b d : Bool) → (k == q) ≡ b → has ks q ≡ d → (b || d) ≡ true → (has ks q ≡ true → map.get (with_blanks ps (k ∷ ks)) q ≡ Some null) → map.get (with_blanks ps (k ∷ ks)) q ≡ Some null
    by_tests b true is later h rest = rest later
    by_tests true false is later h rest = blank_elsewhere ks (map.insert ps k null) q later ∙ ap (map.get (map.insert ps k null)) (same_key k q is) ∙ get_inserted ps k null
    by_tests false false is later h rest = absurd (cc)

pub none_there : (keys : List ℕ) (ps : Properties) (q : ℕ) → AllByRecursion (λ key. map.get ps key ≡ None) keys → has keys q ≡ true → map.get ps q ≡ None
none_there [] ps q absent h = absurd (cc)
none_there (k ∷ ks) ps q absent h = by_test (k == q) refl h (none_there ks ps q absent.1)
  where
    by_test : (b : Bool) → (k == q) ≡ b → (b || has ks q) ≡ true → (has ks q ≡ true → map.get ps q ≡ None) → map.get ps q ≡ None
    by_test true is h rest = ap (map.get ps) (same_key k q is) ∙ absent.0
    by_test false is h rest = rest h

pub get_without : (keys : List ℕ) (ps : Properties) (q : ℕ) → map.get (without_keys ps keys) q ≡ cond (not (has keys q)) (map.get ps q) None
get_without keys ps q = map.get-retain_keys ps (λ key. not (has keys key)) q (λ x t. ap (λ n. not (has keys n)) (sym (map.nat_cmp-IsAntisymmetric q x t)))

-- what stands where keys were taken away stood there before
pub there_without : (keys : List ℕ) (ps : Properties) (q : ℕ) (w : Value) → map.get (without_keys ps keys) q ≡ Some w → map.get ps q ≡ Some w
there_without keys ps q w h = by_test (has keys q) (sym (get_without keys ps q) ∙ h)
  where
    by_test : (b : Bool) → cond (not b) (map.get ps q) None ≡ Some w → map.get ps q ≡ Some w
    by_test true h = absurd (cc)
    by_test false h = h

-- places that are made and taken away
pub blanks_taken : (keys : List ℕ) (ps : Properties) → AllByRecursion (λ key. map.get ps key ≡ None) keys → without_keys (with_blanks ps keys) keys ≡ ps
blanks_taken keys ps absent = same_numbered _ _ (λ q. get_without keys (with_blanks ps keys) q ∙ by_test q (has keys q) refl)
  where
    by_test : (q : ℕ) (b : Bool) → has keys q ≡ b → cond (not b) (map.get (with_blanks ps keys) q) None ≡ map.get ps q
    by_test q true is = sym (none_there keys ps q absent is)
    by_test q false is = blank_elsewhere keys ps q is

pub blanks_named : (names : List (List ℕ)) → AreDistinct names → (keys : List ℕ) (ps : Properties) → AreNamed names keys → AreNamed names (map.keys ps) → AreNamed names (map.keys (with_blanks ps keys))
blanks_named names distinct [] ps all named = named
blanks_named names distinct (k ∷ ks) ps all named = blanks_named names distinct ks (map.insert ps k null) all.1 (named_inserted names distinct ps named k null all.0)

pub blanks_show_nothing : (names : List (List ℕ)) → AreDistinct names → (keys : List ℕ) (ps : Properties) → AreNamed names keys → AreNamed names (map.keys ps) → AllByRecursion (λ key. map.get ps key ≡ None) keys → property_entries names (with_blanks ps keys) ≡ property_entries names ps
blanks_show_nothing names distinct keys ps all named absent = shown_alike names distinct ps named (with_blanks ps keys) (blanks_named names distinct keys ps all named) (λ q. by_test q (has keys q) refl)
  where
    by_test : (q : ℕ) (b : Bool) → has keys q ≡ b → shown (map.get (with_blanks ps keys) q) ≡ shown (map.get ps q)
    by_test q true is = ap shown (blank_there keys ps q is) ∙ sym (ap shown (none_there keys ps q absent is))
    by_test q false is = ap shown (blank_elsewhere keys ps q is)
