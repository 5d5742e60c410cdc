-- Labels and properties of the graph are looked for by the numbers of their names.
use Rattle.std.proofs.Common.{◌≡◌, ◌==◌, ◌<◌, ◌||◌, ◌&&◌, not, ℕ, Bool, true, false, cond, T, List, [], ◌∷◌, map as map_list, length, slice_get, Option, Some, None, unwrap_or, Less, Equal, Greater, Ordering, arith, refl, sym, ap, ◌∙◌}
use Rattle.std.proofs.lemmas.Bool.Decides.{nat_tests}
use Rattle.std.proofs.lemmas.Slice.Eq.{bytes_eq-Decides}
use Rattle.std.specs.BTreeSet.{insert_key}
use Rattle.std.specs.Cmp.{unsigned_tied}
use Rattle.std.specs.FinMap as map
use Rattle.std.specs.FinMap.{find, is_sorted, slice_cmp-IsAntisymmetric, nat_cmp-IsAntisymmetric}
use Rattle.std.specs.FinMap.Entries.{below_all}
use Rattle.std.specs.List.{list_any, position}
use Rattle.std.specs.Option.{option_map_or}
use Rattle.std.specs.Ordering.{nat_cmp, eq_by_cmp, is_eq, is_lt, match_ordering}
use Rattle.std.specs.Str.{bytes_eq}
use Rattle.pg_graph.proofs.Ids.{eq_flip}
use Rattle.pg_names.proofs.Interned.{found_text, place_of_text, same_bytes}
use Rattle.pg_graph.proofs.Refined.{text_stays, left, right}
use Rattle.pg_names.specs.Names.{AreDistinct}
use Rattle.pg_graph.specs.Blank.{is_null}
use Rattle.pg_graph.specs.Records.{shown, shown_value}
use Rattle.pg_graph.specs.Refinement.{text_of, put_shown, named_entries, AreNamed, LabelIsRead, PropertyIsRead}
use Rattle.pg_meaning.specs.Entries.{at_key, with_entry, value_at}
use Rattle.pg_meaning.specs.EntriesLaws.{put_is_read}
use Rattle.pg_meaning.specs.Names.{put_texts}
use Rattle.pg_meaning.specs.Order.{text_order}
use Rattle.pg_meaning.specs.Value.{Value, Entries, null}
use Rattle.pg_meaning.specs.Value as meaning

equal_bytes : (xs ys : List ℕ) → xs ≡ ys → bytes_eq xs ys ≡ true
equal_bytes xs ys h = (bytes_eq-Decides xs ys).1 h

-- two tests that hold together answer alike
alike : (a b : Bool) → (a ≡ true → b ≡ true) → (b ≡ true → a ≡ true) → a ≡ b
alike true b f g = sym (f refl)
alike false true f g = g refl
alike false false f g = refl

same_number : (m n : ℕ) → m ≡ n → (m == n) ≡ true
same_number m n h = grind (arith, nat_tests)

number_of : (m n : ℕ) → (m == n) ≡ true → m ≡ n
number_of m n h = grind (arith, nat_tests)

module _ (names : List (List ℕ)) (distinct : AreDistinct names) (text : List ℕ) where
  -- a number of the table has the text exactly if the text is found there
  pub by_number : (n l : ℕ) → position (bytes_eq text) names ≡ Some n → l < length names → bytes_eq text (text_of names l) ≡ (l == n)
  by_number n l found inside =
      let t = text_stays names l inside in
      let is : text_of names l ≡ t.0 = ap (λ o. option_map_or (λ t. t) o []) t.1 in
      alike (bytes_eq text (text_of names l)) (l == n)
      (λ h. let at = place_of_text names l text distinct (t.1 ∙ ap Some (sym is ∙ sym (same_bytes text (text_of names l) h))) in same_number l n (cc))
      (λ h.
      let here : slice_get names l ≡ Some text = ap (slice_get names) (number_of l n h) ∙ found_text text names n found in
      equal_bytes text (text_of names l) (sym (ap (λ o. option_map_or (λ t. t) o []) here)))

  pub by_no_number : (l : ℕ) → position (bytes_eq text) names ≡ None → l < length names → bytes_eq text (text_of names l) ≡ false
  by_no_number l missing inside =
      let t = text_stays names l inside in
      let is : text_of names l ≡ t.0 = ap (λ o. option_map_or (λ t. t) o []) t.1 in
      alike (bytes_eq text (text_of names l)) false
      (λ h. let at = place_of_text names l text distinct (t.1 ∙ ap Some (sym is ∙ sym (same_bytes text (text_of names l) h))) in cc)
      (λ h. cc)

  any_label : (n : ℕ) (labels : List ℕ) → position (bytes_eq text) names ≡ Some n → AreNamed names labels → list_any (bytes_eq text) (map_list (text_of names) labels) ≡ list_any (λ l. l == n) labels
  any_label n [] found named = refl
  any_label n (l ∷ ls) found named = (λ i. by_number n l found named.0 i || any_label n ls found named.1 i)

  no_label : (labels : List ℕ) → position (bytes_eq text) names ≡ None → AreNamed names labels → list_any (bytes_eq text) (map_list (text_of names) labels) ≡ false
  no_label [] missing named = refl
  no_label (l ∷ ls) missing named = ap (λ b. b || list_any (bytes_eq text) (map_list (text_of names) ls)) (by_no_number l missing named.0) ∙ no_label ls missing named.1

pub text_equal : (t u : List ℕ) → text_order t u ≡ Equal → t ≡ u
text_equal t u h = slice_cmp-IsAntisymmetric nat_cmp-IsAntisymmetric t u h

-- ---- labels

pub either_swap : (a b c : Bool) → (a || (b || c)) ≡ (b || (a || c))
either_swap true true c = refl
either_swap true false c = refl
either_swap false true c = refl
either_swap false false c = refl

pub either_same : (a c : Bool) → (a || c) ≡ (a || (a || c))
either_same true c = refl
either_same false c = refl

pub either_false : (a : Bool) → (a || false) ≡ a
either_false true = refl
either_false false = refl

pub any_inserted : (p : List ℕ → Bool) (t : List ℕ) (us : List (List ℕ)) → list_any p (insert_key text_order us t) ≡ (p t || list_any p us)
any_inserted p t [] = refl
any_inserted p t (u ∷ us) = by_order (text_order t u) refl (any_inserted p t us)
  where
    by_order : (o : Ordering) → text_order t u ≡ o → list_any p (insert_key text_order us t) ≡ (p t || list_any p us)
        → list_any p (match_ordering o (t ∷ u ∷ us) (u ∷ us) (u ∷ insert_key text_order us t)) ≡ (p t || (p u || list_any p us))
    by_order Less is rest = refl
    by_order Equal is rest = either_same (p u) (list_any p us) ∙ ap (λ s. p s || (p u || list_any p us)) (sym (text_equal t u is))
    by_order Greater is rest = ap (λ b. p u || b) rest ∙ either_swap (p u) (p t) (list_any p us)

pub any_put : (p : List ℕ → Bool) (more texts : List (List ℕ)) → list_any p (put_texts more texts) ≡ (list_any p more || list_any p texts)
any_put p [] texts = refl
any_put p (t ∷ more) texts =
    any_put p more (insert_key text_order texts t) ∙ ap (λ b. list_any p more || b) (any_inserted p t texts) ∙ regroup (list_any p more) (p t) (list_any p texts)
  where
    regroup : (a b c : Bool) → (a || (b || c)) ≡ ((b || a) || c)
    regroup true true c = refl
    regroup true false c = refl
    regroup false true c = refl
    regroup false false c = refl

pub label_is_read : LabelIsRead
label_is_read names labels text distinct named =
    any_put (bytes_eq text) (map_list (text_of names) labels) [] ∙ either_false _ ∙ by_place (position (bytes_eq text) names) refl
  where
    by_place : (o : Option ℕ) → position (bytes_eq text) names ≡ o → list_any (bytes_eq text) (map_list (text_of names) labels) ≡ option_map_or (λ n. list_any (λ l. l == n) labels) o false
    by_place None is = no_label names distinct text labels is named
    by_place (Some n) is = any_label names distinct text n labels is named

-- ---- properties

pub same_test : (x n : ℕ) → (x == n) ≡ eq_by_cmp nat_cmp n x
same_test x n = eq_flip x n ∙ sym (unsigned_tied n x)

-- a key before all others is none of them
first_is_missing : (k : ℕ) (es : List (ℕ × Value)) → T (below_all nat_cmp k es) → find nat_cmp k es ≡ None
first_is_missing k [] below = refl
first_is_missing k (e ∷ es) below = by_order (nat_cmp k e.0) (left (is_lt (nat_cmp k e.0)) (below_all nat_cmp k es) below) (first_is_missing k es (right (is_lt (nat_cmp k e.0)) (below_all nat_cmp k es) below))
  where
    by_order : (o : Ordering) → T (is_lt o) → find nat_cmp k es ≡ None → cond (is_eq o) (Some e.1) (find nat_cmp k es) ≡ None
    by_order Less h rest = rest
    by_order Equal h rest = absurd h
    by_order Greater h rest = absurd h

tied_numbers : (n k : ℕ) → eq_by_cmp nat_cmp n k ≡ true → n ≡ k
tied_numbers n k h = nat_cmp-IsAntisymmetric n k (equal_of (nat_cmp n k) h)
  where
    equal_of : (o : Ordering) → is_eq o ≡ true → o ≡ Equal
    equal_of Less e = absurd (cc)
    equal_of Equal e = refl
    equal_of Greater e = absurd (cc)

put_is_shown : (q k : List ℕ) (v : Value) (es : Entries) (b : Bool) (o : Option Value) → shown_value v ≡ Some v → bytes_eq q k ≡ b → at_key q es ≡ shown o → at_key q (with_entry k v es) ≡ shown (cond b (Some v) o)
put_is_shown q k v es true o kept is rest = put_is_read q k v es ∙ ap (λ c. cond c (Some v) (at_key q es)) is ∙ sym kept
put_is_shown q k v es false o kept is rest = put_is_read q k v es ∙ ap (λ c. cond c (Some v) (at_key q es)) is ∙ rest

-- what is read where an entry is put that may be blank, and its key is none of the others
shown_is_read : (q k : List ℕ) (v : Value) (es : Entries) (b : Bool) (o : Option Value) → bytes_eq q k ≡ b → at_key q es ≡ shown o → (b ≡ true → o ≡ None) → at_key q (put_shown k v es) ≡ shown (cond b (Some v) o)
shown_is_read q k null es true o is rest none = rest ∙ ap shown (none refl)
shown_is_read q k null es false o is rest none = rest
shown_is_read q k (meaning.boolean b) es c o is rest none = put_is_shown q k (meaning.boolean b) es c o refl is rest
shown_is_read q k (meaning.integer i) es c o is rest none = put_is_shown q k (meaning.integer i) es c o refl is rest
shown_is_read q k (meaning.text s) es c o is rest none = put_is_shown q k (meaning.text s) es c o refl is rest
shown_is_read q k (meaning.list vs) es c o is rest none = put_is_shown q k (meaning.list vs) es c o refl is rest
shown_is_read q k (meaning.mapping fs) es c o is rest none = put_is_shown q k (meaning.mapping fs) es c o refl is rest
shown_is_read q k (meaning.node n) es c o is rest none = put_is_shown q k (meaning.node n) es c o refl is rest
shown_is_read q k (meaning.relationship r) es c o is rest none = put_is_shown q k (meaning.relationship r) es c o refl is rest
shown_is_read q k (meaning.path ids) es c o is rest none = put_is_shown q k (meaning.path ids) es c o refl is rest

module _ (names : List (List ℕ)) (distinct : AreDistinct names) (text : List ℕ) where
  pub entry_found : (n : ℕ) (es : List (ℕ × Value)) → T (is_sorted nat_cmp es) → position (bytes_eq text) names ≡ Some n → AreNamed names (map_list (λ e. e.0) es) → at_key text (named_entries names es) ≡ shown (find nat_cmp n es)
  entry_found n [] sorted found named = refl
  entry_found n (e ∷ es) sorted found named =
      shown_is_read text (text_of names e.0) e.1 (named_entries names es) (eq_by_cmp nat_cmp n e.0) (find nat_cmp n es)
      (by_number names distinct text n e.0 found named.0 ∙ same_test e.0 n)
      (entry_found n es (right (below_all nat_cmp e.0 es) (is_sorted nat_cmp es) sorted) found named.1)
      (λ tied. ap (λ m. find nat_cmp m es) (tied_numbers n e.0 tied) ∙ first_is_missing e.0 es (left (below_all nat_cmp e.0 es) (is_sorted nat_cmp es) sorted))

  pub no_entry : (es : List (ℕ × Value)) → position (bytes_eq text) names ≡ None → AreNamed names (map_list (λ e. e.0) es) → at_key text (named_entries names es) ≡ None
  no_entry [] missing named = refl
  no_entry (e ∷ es) missing named =
      shown_is_read text (text_of names e.0) e.1 (named_entries names es) false None (by_no_number names distinct text e.0 missing named.0) (no_entry es missing named.1) (λ h. refl)

-- the first entry whose key has the text decides, unless it is blank
pub entry_is_read : (names : List (List ℕ)) (text : List ℕ) (n : ℕ) (v : Value) (es : List (ℕ × Value))
    → at_key text (named_entries names ((n, v) ∷ es)) ≡ cond (bytes_eq text (text_of names n) && not (is_null v)) (Some v) (at_key text (named_entries names es))
entry_is_read names text n v es = by_value v
  where
    both : (b : Bool) → (b && true) ≡ b
    both true = refl
    both false = refl

    none : (b : Bool) → (b && false) ≡ false
    none true = refl
    none false = refl

    read : (w : Value) → (bytes_eq text (text_of names n) && true ≡ bytes_eq text (text_of names n))
        → at_key text (with_entry (text_of names n) w (named_entries names es)) ≡ cond (bytes_eq text (text_of names n) && true) (Some w) (at_key text (named_entries names es))
    read w same = put_is_read text (text_of names n) w (named_entries names es) ∙ ap (λ b. cond b (Some w) (at_key text (named_entries names es))) (sym same)

    by_value : (w : Value) → at_key text (put_shown (text_of names n) w (named_entries names es)) ≡ cond (bytes_eq text (text_of names n) && not (is_null w)) (Some w) (at_key text (named_entries names es))
    by_value null = ap (λ b. cond b (Some null) (at_key text (named_entries names es))) (sym (none (bytes_eq text (text_of names n))))
    by_value (meaning.boolean b) = read (meaning.boolean b) (both _)
    by_value (meaning.integer i) = read (meaning.integer i) (both _)
    by_value (meaning.text s) = read (meaning.text s) (both _)
    by_value (meaning.list vs) = read (meaning.list vs) (both _)
    by_value (meaning.mapping fs) = read (meaning.mapping fs) (both _)
    by_value (meaning.node m) = read (meaning.node m) (both _)
    by_value (meaning.relationship r) = read (meaning.relationship r) (both _)
    by_value (meaning.path ids) = read (meaning.path ids) (both _)

-- what is blank and what is absent read alike
shown_or_null : (o : Option Value) → unwrap_or (shown o) null ≡ unwrap_or o null
shown_or_null None = refl
shown_or_null (Some v) = by_value v
  where
    by_value : (v : Value) → unwrap_or (shown_value v) null ≡ v
    by_value null = refl
    by_value (meaning.boolean b) = refl
    by_value (meaning.integer i) = refl
    by_value (meaning.text s) = refl
    by_value (meaning.list vs) = refl
    by_value (meaning.mapping fs) = refl
    by_value (meaning.node n) = refl
    by_value (meaning.relationship r) = refl
    by_value (meaning.path ids) = refl

pub property_is_read : PropertyIsRead
property_is_read names properties text distinct named = by_place (position (bytes_eq text) names) refl
  where
    by_place : (o : Option ℕ) → position (bytes_eq text) names ≡ o → value_at text (named_entries names (map.entries properties)) ≡ option_map_or (λ n. unwrap_or (map.get properties n) null) o null
    by_place None is = ap (λ v. unwrap_or v null) (no_entry names distinct text (map.entries properties) is named)
    by_place (Some n) is =
        ap (λ v. unwrap_or v null) (entry_found names distinct text n (map.entries properties) (map.entries_sorted properties) is named ∙ ap shown (sym (map.get-entries properties n)))
        ∙ shown_or_null (map.get properties n)
