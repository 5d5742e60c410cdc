-- Blank keys put into entries and taken out: each key shows what it showed.
use Rattle.std.proofs.Common.{◌≡◌, ◌<◌, ℕ, Bool, true, false, not, cond, List, [], ◌∷◌, filter, Option, Some, None, Equal, rules, refl, sym, ap, ◌∙◌}
use Rattle.std.specs.FinMap as fin
use Rattle.std.specs.FinMap.{find}
use Rattle.std.specs.FinMap.Entries.{find-where_key}
use Rattle.std.specs.List.{AllByRecursion}
use Rattle.std.specs.Ordering.{nat_cmp, eq_by_cmp}
use Rattle.pg_graph.proofs.Entries.{map_of, map_put, none_below, sorted_seen}
use Rattle.pg_graph.proofs.Maps.{same_numbered}
use Rattle.pg_graph.proofs.SortedLists.{put_rises}
use Rattle.pg_graph.specs.Blank.{is_null}
use Rattle.pg_graph.specs.Records.{AreEntries, Properties, seen_entries, shown, shown_value, with_blank_entries, with_blanks}
use Rattle.pg_graph.specs.Sorted.{Rises, with_element}
use Rattle.pg_meaning.specs.Value.{Value, null, boolean, integer, text, list, mapping, node, relationship, path}
use Rattle.pg_value_core.specs.View.{view}
use Rattle.pg_value_core.specs.declared.value.Value as code
use Rattle.pg_value_core.specs.declared.value.Value.{the_lemmas}
use Rattle.pg_value_core.specs.declared.value.Value.TheVariants.{Null}

module _ {A : Type 0} (test : A → Bool) where
  pub all_filtered : (P : A → Type 0) (xs : List A) → AllByRecursion P xs → AllByRecursion P (filter test xs)
  all_filtered P [] all = tt
  all_filtered P (x ∷ xs) all = by_test (test x) (all_filtered P xs all.1)
    where
      by_test : (b : Bool) → AllByRecursion P (filter test xs) → AllByRecursion P (cond b (x ∷ filter test xs) (filter test xs))
      by_test true rest = (all.0, rest)
      by_test false rest = rest

  pub filter_rises : (number : A → ℕ) (xs : List A) → Rises number xs → Rises number (filter test xs)
  filter_rises number [] rises = tt
  filter_rises number (x ∷ xs) rises = by_test (test x) (filter_rises number xs rises.1)
    where
      by_test : (b : Bool) → Rises number (filter test xs) → Rises number (cond b (x ∷ filter test xs) (filter test xs))
      by_test true rest = (all_filtered (λ y. number x < number y) xs rises.0, rest)
      by_test false rest = rest

shown_is : (v : Value) → shown_value v ≡ cond (is_null v) None (Some v)
shown_is null = refl
shown_is (boolean b) = refl
shown_is (integer i) = refl
shown_is (text s) = refl
shown_is (list vs) = refl
shown_is (mapping fs) = refl
shown_is (node n) = refl
shown_is (relationship r) = refl
shown_is (path ids) = refl

-- what is shown is there
pub shown_some : (o : Option Value) (v : Value) → shown o ≡ Some v → o ≡ Some v
shown_some None v h = h
shown_some (Some null) v h = absurd (cc)
shown_some (Some (boolean b)) v h = h
shown_some (Some (integer i)) v h = h
shown_some (Some (text s)) v h = h
shown_some (Some (list vs)) v h = h
shown_some (Some (mapping fs)) v h = h
shown_some (Some (node n)) v h = h
shown_some (Some (relationship r)) v h = h
shown_some (Some (path ids)) v h = h

pub shown_twice : (o : Option Value) → shown (shown o) ≡ shown o
shown_twice None = refl
shown_twice (Some null) = refl
shown_twice (Some (boolean b)) = refl
shown_twice (Some (integer i)) = refl
shown_twice (Some (text s)) = refl
shown_twice (Some (list vs)) = refl
shown_twice (Some (mapping fs)) = refl
shown_twice (Some (node n)) = refl
shown_twice (Some (relationship r)) = refl
shown_twice (Some (path ids)) = refl

abbrev pub without_nulls : List (ℕ × code.Value) → List (ℕ × code.Value)
without_nulls es = filter (λ e. not (is_null (view e.1))) es

found_shown : (k : ℕ) (es : List (ℕ × code.Value)) → AreEntries es → find nat_cmp k (seen_entries (without_nulls es)) ≡ shown (find nat_cmp k (seen_entries es))
found_shown k [] rises = refl
found_shown k (e ∷ es) rises = by_tests (is_null (view e.1)) (eq_by_cmp nat_cmp k e.0) (shown_is (view e.1)) refl (found_shown k es rises.1) (λ same. none_below view k e.0 es same rises.0)
  where
    by_tests : (n b : Bool) → shown_value (view e.1) ≡ cond n None (Some (view e.1)) → eq_by_cmp nat_cmp k e.0 ≡ b
        → find nat_cmp k (seen_entries (without_nulls es)) ≡ shown (find nat_cmp k (seen_entries es)) → (b ≡ true → find nat_cmp k (seen_entries es) ≡ None)
        → find nat_cmp k (seen_entries (cond (not n) (e ∷ without_nulls es) (without_nulls es))) ≡ shown (cond b (Some (view e.1)) (find nat_cmp k (seen_entries es)))
    by_tests true true shows is rest none = rest ∙ ap shown (none refl) ∙ sym shows
    by_tests true false shows is rest none = rest
    by_tests false true shows is rest none = ap (λ b. cond b (Some (view e.1)) (find nat_cmp k (seen_entries (without_nulls es)))) is ∙ sym shows
    by_tests false false shows is rest none = ap (λ b. cond b (Some (view e.1)) (find nat_cmp k (seen_entries (without_nulls es)))) is ∙ rest

pub blanks_removed : (k : ℕ) (es fs : List (ℕ × code.Value)) → AreEntries es → fs ≡ without_nulls es → fin.get (map_of view fs) k ≡ shown (fin.get (map_of view es) k)
blanks_removed k es fs rises is =
    ap (λ xs. fin.get (map_of view xs) k) is
    ∙ fin.get-from_sorted nat_cmp (seen_entries (without_nulls es)) k (sorted_seen view (without_nulls es) (filter_rises (λ e. not (is_null (view e.1))) (λ e. e.0) es rises))
    ∙ found_shown k es rises
    ∙ ap shown (sym (fin.get-from_sorted nat_cmp (seen_entries es) k (sorted_seen view es rises)))

-- ---- blank places of keys

pub blanks_rise : (es : List (ℕ × code.Value)) (keys : List ℕ) → AreEntries es → AreEntries (with_blank_entries es keys)
blanks_rise es [] rises = rises
blanks_rise es (k ∷ ks) rises = blanks_rise (with_element (λ e. e.0) (k, Null) es) ks (put_rises (λ e. e.0) (k, Null) es rises)

null_seen : view Null ≡ null
null_seen = search (rules, the_lemmas)

pub map_blanks : (es : List (ℕ × code.Value)) (keys : List ℕ) → AreEntries es → map_of view (with_blank_entries es keys) ≡ with_blanks (map_of view es) keys
map_blanks es [] rises = refl
map_blanks es (k ∷ ks) rises =
    map_blanks (with_element (λ e. e.0) (k, Null) es) ks (put_rises (λ e. e.0) (k, Null) es rises)
    ∙ ap (λ (ps : Properties). with_blanks ps ks) (map_put view k Null es rises ∙ ap (fin.insert (map_of view es) k) null_seen)

module _ (test : ℕ → Bool) where
  kept_seen : (es : List (ℕ × code.Value)) → seen_entries (filter (λ e. test e.0) es) ≡ filter (λ e. test e.0) (seen_entries es)
  kept_seen [] = refl
  kept_seen (e ∷ es) = by_test (test e.0) (kept_seen es)
    where
      by_test : (b : Bool) → seen_entries (filter (λ e. test e.0) es) ≡ filter (λ e. test e.0) (seen_entries es)
          → seen_entries (cond b (e ∷ filter (λ e. test e.0) es) (filter (λ e. test e.0) es)) ≡ cond b ((e.0, view e.1) ∷ filter (λ e. test e.0) (seen_entries es)) (filter (λ e. test e.0) (seen_entries es))
      by_test true rest = ap (λ xs. (e.0, view e.1) ∷ xs) rest
      by_test false rest = rest

  pub map_kept : (es : List (ℕ × code.Value)) → AreEntries es → map_of view (filter (λ e. test e.0) es) ≡ fin.retain_keys (map_of view es) test
  map_kept es rises = same_numbered _ _ (λ q.
      let alike = λ (x : ℕ) (t : nat_cmp q x ≡ Equal). ap test (sym (fin.nat_cmp-IsAntisymmetric q x t)) in
      fin.get-from_sorted nat_cmp (seen_entries (filter (λ e. test e.0) es)) q (sorted_seen view (filter (λ e. test e.0) es) (filter_rises (λ e. test e.0) (λ e. e.0) es rises))
      ∙ ap (find nat_cmp q) (kept_seen es)
      ∙ find-where_key nat_cmp test q alike (seen_entries es)
      ∙ ap (λ o. cond (test q) o None) (sym (fin.get-from_sorted nat_cmp (seen_entries es) q (sorted_seen view es rises)))
      ∙ sym (fin.get-retain_keys (map_of view es) test q alike))
