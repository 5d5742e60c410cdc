-- A label taken out by its text.
use Rattle.std.proofs.Common.{◌≡◌, ◌==◌, ◌<◌, ◌||◌, ◌&&◌, ℕ, Bool, true, false, not, cond, List, [], ◌∷◌, map as map_list, filter, length, slice_get, Some, None, arith, refl, sym, ap, subst, ◌∙◌}
use Rattle.std.proofs.lemmas.Bool.Decides.{nat_tests}
use Rattle.std.proofs.lemmas.List.Kept.{IsStrictlySortedBy-filter}
use Rattle.std.specs.List.{AllByRecursion, list_any, position}
use Rattle.std.specs.Str.{bytes_eq}
use Rattle.pg_names.proofs.Interned.{same_bytes, equal_bytes, place_of_text}
use Rattle.pg_graph.proofs.Named.{by_number, by_no_number}
use Rattle.pg_graph.proofs.NamedChanges.{same_texts, among}
use Rattle.pg_graph.proofs.SortedLists.{all_without}
use Rattle.pg_names.specs.Names.{AreDistinct}
use Rattle.pg_graph.specs.Records.{AreLabels, without_label}
use Rattle.pg_graph.specs.Refinement.{text_of, label_texts, AreNamed}
use Rattle.pg_meaning.specs.Names.{is_among}
use Rattle.pg_meaning.specs.NamesLaws.{in_byte_order_rises}
use Rattle.pg_meaning.specs.Order.{text_order}

-- the texts but one
abbrev pub texts_without : List ℕ → List (List ℕ) → List (List ℕ)
texts_without t us = filter (λ u. not (bytes_eq u t)) us

turned : (t u : List ℕ) → bytes_eq t u ≡ bytes_eq u t
turned t u = by_test (bytes_eq t u) (bytes_eq u t) refl refl
  where
    by_test : (a b : Bool) → bytes_eq t u ≡ a → bytes_eq u t ≡ b → a ≡ b
    by_test true b p q = sym (equal_bytes u t (sym (same_bytes t u p))) ∙ q
    by_test false true p q = sym p ∙ equal_bytes t u (sym (same_bytes u t q))
    by_test false false p q = refl

none_else : (b : Bool) → b ≡ (b && true)
none_else true = refl
none_else false = refl

any_filtered : (u t : List ℕ) (us : List (List ℕ)) → list_any (bytes_eq u) (texts_without t us) ≡ (list_any (bytes_eq u) us && not (bytes_eq u t))
any_filtered u t [] = refl
any_filtered u t (v ∷ us) = by_tests (bytes_eq v t) (bytes_eq u v) refl refl (any_filtered u t us)
  where
    by_tests : (a b : Bool) → bytes_eq v t ≡ a → bytes_eq u v ≡ b → list_any (bytes_eq u) (texts_without t us) ≡ (list_any (bytes_eq u) us && not (bytes_eq u t))
        → list_any (bytes_eq u) (cond (not a) (v ∷ texts_without t us) (texts_without t us)) ≡ ((b || list_any (bytes_eq u) us) && not (bytes_eq u t))
    by_tests true true p q later =
        let gone : bytes_eq u t ≡ true = ap (λ (w : List ℕ). bytes_eq w t) (same_bytes u v q) ∙ p in
        later ∙ ap (λ c. list_any (bytes_eq u) us && not c) gone ∙ never (list_any (bytes_eq u) us) ∙ sym (ap not gone)
      where
        never : (b : Bool) → (b && false) ≡ false
        never true = refl
        never false = refl
    by_tests true false p q later = later
    by_tests false true p q later =
        let kept : bytes_eq u t ≡ false = ap (λ (w : List ℕ). bytes_eq w t) (same_bytes u v q) ∙ p in
        ap (λ c. c || list_any (bytes_eq u) (texts_without t us)) q ∙ sym (ap not kept)
    by_tests false false p q later = ap (λ c. c || list_any (bytes_eq u) (texts_without t us)) q ∙ later

module _ (names : List (List ℕ)) (distinct : AreDistinct names) (n : ℕ) (t : List ℕ) (is : slice_get names n ≡ Some t) where
  tested : (l : ℕ) → l < length names → bytes_eq (text_of names l) t ≡ (l == n)
  tested l h = turned (text_of names l) t ∙ by_number names distinct t n l (place_of_text names n t distinct is) h

  not_it : (l : ℕ) → n < l → (l == n) ≡ false
  not_it l h = grind (arith, nat_tests)

  same_number : (l : ℕ) → (l == n) ≡ true → l ≡ n
  same_number l h = grind (arith, nat_tests)

  all_kept : (ls : List ℕ) → AreNamed names ls → AllByRecursion (λ m. n < m) ls → texts_without t (map_list (text_of names) ls) ≡ map_list (text_of names) ls
  all_kept [] named above = refl
  all_kept (l ∷ ls) named above =
      ap (λ b. cond (not b) (text_of names l ∷ texts_without t (map_list (text_of names) ls)) (texts_without t (map_list (text_of names) ls))) (tested l named.0 ∙ not_it l above.0)
      ∙ ap (λ us. text_of names l ∷ us) (all_kept ls named.1 above.1)

  texts_removed : (ls : List ℕ) → AreNamed names ls → AreLabels ls → map_list (text_of names) (without_label ls n) ≡ texts_without t (map_list (text_of names) ls)
  texts_removed [] named rises = refl
  texts_removed (l ∷ ls) named rises = by_test (l == n) refl (texts_removed ls named.1 rises.1)
    where
      by_test : (b : Bool) → (l == n) ≡ b → map_list (text_of names) (without_label ls n) ≡ texts_without t (map_list (text_of names) ls)
          → map_list (text_of names) (cond b ls (l ∷ without_label ls n)) ≡ texts_without t (text_of names l ∷ map_list (text_of names) ls)
      by_test true e later =
          sym (all_kept ls named.1 (subst (λ m. AllByRecursion (λ y. m < y) ls) (same_number l e) rises.0))
          ∙ sym (ap (λ b. cond (not b) (text_of names l ∷ texts_without t (map_list (text_of names) ls)) (texts_without t (map_list (text_of names) ls))) (tested l named.0 ∙ e))
      by_test false e later =
          ap (λ us. text_of names l ∷ us) later
          ∙ sym (ap (λ b. cond (not b) (text_of names l ∷ texts_without t (map_list (text_of names) ls)) (texts_without t (map_list (text_of names) ls))) (tested l named.0 ∙ e))

  pub label_removed : (ls : List ℕ) → AreNamed names ls → AreLabels ls → label_texts names (without_label ls n) ≡ texts_without t (label_texts names ls)
  label_removed ls named rises =
      same_texts _ _ (in_byte_order_rises (map_list (text_of names) (without_label ls n))) (IsStrictlySortedBy-filter text_order (λ u. not (bytes_eq u t)) _ (in_byte_order_rises (map_list (text_of names) ls))) (λ u.
      among names n u (without_label ls n)
      ∙ ap (list_any (bytes_eq u)) (texts_removed ls named rises)
      ∙ any_filtered u t (map_list (text_of names) ls)
      ∙ sym (any_filtered u t (label_texts names ls) ∙ ap (λ b. b && not (bytes_eq u t)) (among names n u ls)))

  pub label_removed_named : (ls : List ℕ) → AreNamed names ls → AreNamed names (without_label ls n)
  label_removed_named ls named = all_without (λ m. m) (λ m. m < length names) n ls named

-- a text that is no name is no label's
module _ (names : List (List ℕ)) (distinct : AreDistinct names) (t : List ℕ) (missing : position (bytes_eq t) names ≡ None) where
  none_named : (ls : List ℕ) → AreNamed names ls → list_any (bytes_eq t) (map_list (text_of names) ls) ≡ false
  none_named [] named = refl
  none_named (l ∷ ls) named = ap (λ b. b || list_any (bytes_eq t) (map_list (text_of names) ls)) (by_no_number names distinct t l missing named.0) ∙ none_named ls named.1

  pub no_label_removed : (ls : List ℕ) → AreNamed names ls → label_texts names ls ≡ texts_without t (label_texts names ls)
  no_label_removed ls named =
      same_texts _ _ (in_byte_order_rises (map_list (text_of names) ls)) (IsStrictlySortedBy-filter text_order (λ u. not (bytes_eq u t)) _ (in_byte_order_rises (map_list (text_of names) ls))) (λ u.
      by_test u (bytes_eq u t) refl ∙ sym (any_filtered u t (label_texts names ls)))
    where
      by_test : (u : List ℕ) (b : Bool) → bytes_eq u t ≡ b → is_among (label_texts names ls) u ≡ (is_among (label_texts names ls) u && not (bytes_eq u t))
      by_test u true e =
          let none : is_among (label_texts names ls) u ≡ false = ap (is_among (label_texts names ls)) (same_bytes u t e) ∙ among names 0 t ls ∙ none_named ls named in
          none ∙ sym (ap (λ b. b && not (bytes_eq u t)) none)
      by_test u false e = none_else (is_among (label_texts names ls) u) ∙ sym (ap (λ b. is_among (label_texts names ls) u && not b) e)
