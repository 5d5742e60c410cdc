-- What a projection brings into scope, and what is visible behind it.
use Rattle.std.proofs.Common.{◌≡◌, ℕ, Bool, true, false, not, if◌then◌else◌, List, [], ◌∷◌, ◌++◌, map, Option, Some, None, is_some, refl, sym, ap, subst, ◌∙◌, bytes_eq}
use Rattle.std.specs.Prelude.{◌||◌, ◌&&◌, flat_map, is_none}
use Rattle.std.specs.List.{list_any}
use Rattle.std.specs.BTreeSet.{insert_key}
use Rattle.std.specs.Ordering.{match_ordering, is_eq}
use Rattle.std.proofs.Common.{Less, Equal, Greater}
use Rattle.std.proofs.lemmas.Bool.{false≢true}
use Rattle.std.proofs.lemmas.Map.Text.{is_eq-slice_cmp}
use Rattle.std.proofs.lemmas.Slice.Eq.{bytes_eq-Decides}
use Rattle.pg_meaning.specs.Aggregates.{aggregate_of}
use Rattle.pg_meaning.specs.Names.{Names, is_among, put_texts, in_byte_order}
use Rattle.pg_meaning.specs.Order.{text_order}
use Rattle.pg_meaning.specs.Scopes.{Column, variable_column, star_columns, projection_columns, column_names, is_aggregate}
use Rattle.pg_meaning.specs.StaticFaults.{PlacedFault, found_if, elsewhere, faults_of, faults_if_any, item_faults, visible_of, sort_faults, projection_faults}
use Rattle.pg_meaning.specs.Tree.{Expression, Item, SortItem, Projection}
use Rattle.pg_meaning.specs.Tree as tree
use Rattle.pg_meaning.specs.Trees.{same_expression}
use Rattle.pg_meaning.specs.declared.fault.Fault.TheVariants.{UndefinedVariable}
use Rattle.pg_scope.proofs.FirstLemmas.{no_more}
use Rattle.pg_scope.proofs.SameLemmas.{expression_same, if_any_same, items_same}
use Rattle.pg_scope.proofs.ScopeLemmas.{same_self, among_both}
use Rattle.pg_scope.specs.Columns.{column_of, narrow, sorts, starred, IsTail}
use Rattle.pg_scope.specs.First.{IsFirst}
use Rattle.pg_scope.specs.Names.{HasSame}
use Rattle.pg_scope.specs.declared.columns.Naming.{Naming}
use Rattle.pg_scope.specs.declared.columns.Naming.TheVariants.{Variable, Source}

-- ---- in byte order stand the same names

among_inserted : (t : List ℕ) (us : Names) (n : List ℕ) → is_among (insert_key text_order us t) n ≡ (bytes_eq n t || is_among us n)
among_inserted t [] n = refl
among_inserted t (u ∷ us) n =
    elim (text_order t u) as (λ r. text_order t u ≡ r → is_among (match_ordering r (t ∷ u ∷ us) (u ∷ us) (u ∷ insert_key text_order us t)) n ≡ (bytes_eq n t || is_among (u ∷ us) n)) [
      | Less ↦ λ e. refl
      | Equal ↦ λ e. twice (bytes_eq n u) (is_among us n) ∙ ap (λ k. bytes_eq n k || is_among (u ∷ us) n) (sym ((bytes_eq-Decides t u).0 (sym (is_eq-slice_cmp t u) ∙ ap is_eq e)))
      | Greater ↦ λ e. ap (λ b. bytes_eq n u || b) (among_inserted t us n) ∙ turned (bytes_eq n u) (bytes_eq n t) (is_among us n)
    ] refl
  where
    twice : (a b : Bool) → (a || b) ≡ (a || (a || b))
    twice true b = refl
    twice false b = refl

    turned : (a b c : Bool) → (a || (b || c)) ≡ (b || (a || c))
    turned true true c = refl
    turned true false c = refl
    turned false true c = refl
    turned false false c = refl

among_put : (more texts : Names) (n : List ℕ) → is_among (put_texts more texts) n ≡ (is_among more n || is_among texts n)
among_put [] texts n = refl
among_put (t ∷ more) texts n =
    among_put more (insert_key text_order texts t) n ∙ ap (λ b. is_among more n || b) (among_inserted t texts n) ∙ turned (is_among more n) (bytes_eq n t) (is_among texts n)
  where
    turned : (a b c : Bool) → (a || (b || c)) ≡ ((b || a) || c)
    turned true true c = refl
    turned true false c = refl
    turned false true c = refl
    turned false false c = refl

names_back : (ns : Names) → column_names (map variable_column ns) ≡ ns
names_back [] = refl
names_back (n ∷ ns) = ap (λ ms. n ∷ ms) (names_back ns)

or_false : (a : Bool) → (a || false) ≡ a
or_false true = refl
or_false false = refl

star_names : (scope : Names) (star : Option ℕ) → HasSame (column_names (star_columns scope star)) (starred (is_some star) scope)
star_names scope None = same_self []
star_names scope (Some at) = record { is = λ n. ap (λ ms. is_among ms n) (names_back (in_byte_order scope)) ∙ among_put scope [] n ∙ or_false (is_among scope n) }

names_joined : (cs ds : List Column) → column_names (cs ++ ds) ≡ column_names cs ++ column_names ds
names_joined [] ds = refl
names_joined (c ∷ cs) ds = ap (λ ns. c.name ∷ ns) (names_joined cs ds)

-- ---- aggregates, and sorts that stand for columns

value_is : (naming : Naming) (x : Item) → (column_of naming x).value ≡ x.value
value_is Variable x = refl
value_is Source x = refl

any_joined : (p : Column → Bool) (cs ds : List Column) → list_any p (cs ++ ds) ≡ (list_any p cs || list_any p ds)
any_joined p [] ds = refl
any_joined p (c ∷ cs) ds = ap (λ b. p c || b) (any_joined p cs ds) ∙ or_left (p c) (list_any p cs) (list_any p ds)
  where
    or_left : (a b c : Bool) → (a || (b || c)) ≡ ((a || b) || c)
    or_left true b c = refl
    or_left false b c = refl

any_value : (q : Expression → Bool) (naming : Naming) (xs : List Item) → list_any (λ c. q c.value) (map (column_of naming) xs) ≡ list_any (λ x. q x.value) xs
any_value q naming [] = refl
any_value q naming (x ∷ xs) = ap (λ v. q v || list_any (λ c. q c.value) (map (column_of naming) xs)) (value_is naming x) ∙ ap (λ b. q x.value || b) (any_value q naming xs)

no_aggregate : (scope : Names) (star : Option ℕ) → list_any is_aggregate (star_columns scope star) ≡ false
no_aggregate scope None = refl
no_aggregate scope (Some at) = each (in_byte_order scope)
  where
    each : (ns : Names) → list_any is_aggregate (map variable_column ns) ≡ false
    each [] = refl
    each (n ∷ ns) = each ns

key_is : (visible : Names) (t : List ℕ) (key : Expression) → same_expression (variable_column t).value key ≡ true → is_among visible t ≡ true → faults_of visible key ≡ []
key_is visible t (tree.variable m) e h = ap (λ b. found_if (not b) m.place UndefinedVariable) (ap (is_among visible) (sym ((bytes_eq-Decides t m.text).0 e)) ∙ h)
key_is visible t x e h = absurd (false≢true e)

or_true : (a : Bool) → (a || true) ≡ true
or_true true = refl
or_true false = refl

star_is : (visible ns : Names) (key : Expression) → ((n : List ℕ) → is_among ns n ≡ true → is_among visible n ≡ true) → list_any (λ c. same_expression c.value key) (map variable_column ns) ≡ true
    → faults_of visible key ≡ []
star_is visible [] key within e = absurd (false≢true e)
star_is visible (n ∷ ns) key within e = by_first (λ f. star_is visible ns key (λ m g. within m (ap (λ b. bytes_eq m n || b) g ∙ or_true (bytes_eq m n))) f) (same_expression (variable_column n).value key) refl e
  where
    by_first : (list_any (λ c. same_expression c.value key) (map variable_column ns) ≡ true → faults_of visible key ≡ []) → (b : Bool) → same_expression (variable_column n).value key ≡ b → (b || list_any (λ c. same_expression c.value key) (map variable_column ns)) ≡ true → faults_of visible key ≡ []
    by_first more true h f = key_is visible n key h (within n (ap (λ b. b || is_among ns n) ((bytes_eq-Decides n n).1 refl)))
    by_first more false h f = more f

stars_are : (visible scope : Names) (star : Option ℕ) (key : Expression) → ((n : List ℕ) → is_among (starred (is_some star) scope) n ≡ true → is_among visible n ≡ true)
    → list_any (λ c. same_expression c.value key) (star_columns scope star) ≡ true → faults_of visible key ≡ []
stars_are visible scope None key within e = absurd (false≢true e)
stars_are visible scope (Some at) key within e = star_is visible (in_byte_order scope) key (λ n h. within n (sym (among_put scope [] n ∙ or_false (is_among scope n)) ∙ h)) e

abbrev stands : SortItem → List Column → Bool
stands x cs = list_any (λ c. same_expression c.value x.key) cs

abbrev stands_for_item : SortItem → List Item → Bool
stands_for_item x items = list_any (λ i. same_expression i.value x.key) items

abbrev without : Names → SortItem → Bool → List PlacedFault
without visible x true = []
without visible x false = faults_of visible x.key

sorts_same : (items : List Item) (ns ms : Names) → HasSame ns ms → (xs : List SortItem) → flat_map (sorts items ns) xs ≡ flat_map (sorts items ms) xs
sorts_same items ns ms s [] = refl
sorts_same items ns ms s (x ∷ xs) =
    let stands = list_any (λ i. same_expression i.value x.key) items in
    ap (λ fs. elim stands [ true ↦ [] | false ↦ fs ] ++ flat_map (sorts items ns) xs) (expression_same ns ms s elsewhere x.key) ∙ ap (λ fs. sorts items ms x ++ fs) (sorts_same items ns ms s xs)

module _ (naming : Naming) (scope : Names) (p : Projection) where
  abbrev columns : List Column
  columns = projection_columns (column_of naming) scope p

  abbrev own_names : Names
  own_names = column_names (map (column_of naming) p.items)

  aggregates : list_any is_aggregate columns ≡ list_any (λ x. is_some (aggregate_of x.value)) p.items
  aggregates =
      any_joined is_aggregate (star_columns scope p.star) (map (column_of naming) p.items) ∙ ap (λ b. b || list_any is_aggregate (map (column_of naming) p.items)) (no_aggregate scope p.star)
      ∙ any_value (λ v. is_some (aggregate_of v)) naming p.items

  all_names : (n : List ℕ) → is_among (column_names columns) n ≡ (is_among (starred (is_some p.star) scope) n || is_among own_names n)
  all_names n =
      ap (λ ns. is_among ns n) (names_joined (star_columns scope p.star) (map (column_of naming) p.items)) ∙ among_both (column_names (star_columns scope p.star)) own_names n
      ∙ ap (λ b. b || is_among own_names n) ((star_names scope p.star).is n)

  -- the scope behind it
  pub names_alone : {ns : Names} → is_some p.star ≡ false → HasSame ns own_names → HasSame ns (column_names columns)
  names_alone {ns} given s = record { is = λ n. s.is n ∙ sym (ap (λ b. is_among (starred b scope) n || is_among own_names n) given) ∙ sym (all_names n) }

  pub names_with_star : {ns : Names} → is_some p.star ≡ true → HasSame ns (own_names ++ scope) → HasSame ns (column_names columns)
  names_with_star {ns} given s = record {
    is = λ n. s.is n ∙ among_both own_names scope n ∙ turned (is_among own_names n) (is_among scope n) ∙ sym (ap (λ b. is_among (starred b scope) n || is_among own_names n) given) ∙ sym (all_names n);
  }
    where
      turned : (a b : Bool) → (a || b) ≡ (b || a)
      turned true true = refl
      turned true false = refl
      turned false true = refl
      turned false false = refl

  -- what is visible behind the items
  abbrev visible : Names
  visible = visible_of scope columns p.distinct

  chosen : (b : Bool) → (p.distinct || list_any is_aggregate columns) ≡ b → visible ≡ (if b then column_names columns else (column_names columns ++ scope))
  chosen b e = ap (λ c. if c then column_names columns else (column_names columns ++ scope)) e

  pub narrow_star : narrow p ≡ true → is_some p.star ≡ false
  narrow_star given = by_star p.star (p.distinct || list_any (λ x. is_some (aggregate_of x.value)) p.items) given
    where
      by_star : (star : Option ℕ) (b : Bool) → (is_none star && b) ≡ true → is_some star ≡ false
      by_star None b e = refl
      by_star (Some at) b e = absurd (false≢true e)

  pub visible_narrow : {ns : Names} → narrow p ≡ true → HasSame ns own_names → HasSame ns visible
  visible_narrow {ns} given s =
      subst (HasSame ns) (sym (chosen true (ap (λ b. p.distinct || b) aggregates ∙ by_star p.star (p.distinct || list_any (λ x. is_some (aggregate_of x.value)) p.items) given))) (names_alone (narrow_star given) s)
    where
      by_star : (star : Option ℕ) (b : Bool) → (is_none star && b) ≡ true → b ≡ true
      by_star None b e = e
      by_star (Some at) b e = absurd (false≢true e)

  pub visible_wide : {ns : Names} → narrow p ≡ false → HasSame ns (own_names ++ scope) → HasSame ns visible
  visible_wide {ns} given s = by_test (p.distinct || list_any is_aggregate columns) refl
    where
      absorbed : (star b : Bool) (n : List ℕ) → ((is_among own_names n || is_among scope n) ≡ ((is_among (starred star scope) n || is_among own_names n) || is_among scope n))
      absorbed true b n = absorb (is_among own_names n) (is_among scope n)
        where
          absorb : (a c : Bool) → (a || c) ≡ ((c || a) || c)
          absorb true true = refl
          absorb true false = refl
          absorb false true = refl
          absorb false false = refl
      absorbed false b n = refl

      starry : (star : Option ℕ) (b : Bool) → b ≡ true → (is_none star && b) ≡ false → is_some star ≡ true
      starry None b e h = absurd (false≢true (sym h ∙ e))
      starry (Some at) b e h = refl

      by_test : (b : Bool) → (p.distinct || list_any is_aggregate columns) ≡ b → HasSame ns visible
      by_test true e = subst (HasSame ns) (sym (chosen true e)) (names_with_star (starry p.star (p.distinct || list_any (λ x. is_some (aggregate_of x.value)) p.items) (ap (λ b. p.distinct || b) (sym aggregates) ∙ e) given) s)
      by_test false e = subst (HasSame ns) (sym (chosen false e))
          (record { is = λ n. s.is n ∙ among_both own_names scope n ∙ absorbed (is_some p.star) true n ∙ sym (among_both (column_names columns) scope n ∙ ap (λ b. b || is_among scope n) (all_names n)) })

  shown : (b : Bool) (n : List ℕ) → is_among (starred (is_some p.star) scope) n ≡ true → is_among (if b then column_names columns else (column_names columns ++ scope)) n ≡ true
  shown true n h = all_names n ∙ ap (λ b. b || is_among own_names n) h
  shown false n h = among_both (column_names columns) scope n ∙ ap (λ b. b || is_among scope n) (all_names n ∙ ap (λ b. b || is_among own_names n) h)

  sort_is : (x : SortItem) → sorts p.items visible x ≡ sort_faults columns visible x
  sort_is x =
      by_star (stands x (star_columns scope p.star)) refl
      ∙ sym (ap (without visible x) (any_joined (λ c. same_expression c.value x.key) (star_columns scope p.star) (map (column_of naming) p.items) ∙ ap (λ b. stands x (star_columns scope p.star) || b) (any_value (λ v. same_expression v x.key) naming p.items)))
    where
      found_none : (b : Bool) → faults_of visible x.key ≡ [] → without visible x b ≡ []
      found_none true e = refl
      found_none false e = e

      by_star : (a : Bool) → stands x (star_columns scope p.star) ≡ a → without visible x (stands_for_item x p.items) ≡ without visible x (stands x (star_columns scope p.star) || stands_for_item x p.items)
      by_star true e = found_none (stands_for_item x p.items) (stars_are visible scope p.star x.key (shown (p.distinct || list_any is_aggregate columns)) e) ∙ sym (ap (λ a. without visible x (a || stands_for_item x p.items)) e)
      by_star false e = sym (ap (λ a. without visible x (a || stands_for_item x p.items)) e)

  sorts_are : (xs : List SortItem) → flat_map (sorts p.items visible) xs ≡ flat_map (sort_faults columns visible) xs
  sorts_are [] = refl
  sorts_are (x ∷ xs) = ap (λ fs. fs ++ flat_map (sorts p.items visible) xs) (sort_is x) ∙ ap (λ fs. sort_faults columns visible x ++ fs) (sorts_are xs)

  pub projected : (condition : Option Expression) {ns : Names} {first next last : Option PlacedFault} → HasSame ns visible → IsFirst first (item_faults (column_of naming) scope (starred (is_some p.star) scope) p.items) next
      → IsTail p condition ns next last → IsFirst first (projection_faults (column_of naming) scope p condition) last
  projected condition {ns} {first} {next} {last} s h t =
      let fronts = items_same (column_of naming) scope scope (same_self scope) (starred (is_some p.star) scope) (column_names (star_columns scope p.star)) (record { is = λ n. sym ((star_names scope p.star).is n) }) p.items in
      let whole : List PlacedFault → List PlacedFault → List PlacedFault → List PlacedFault = λ front order rest. front ++ order ++ faults_if_any [] p.skip ++ faults_if_any [] p.limit ++ rest in
      let front = item_faults (column_of naming) scope (starred (is_some p.star) scope) p.items in
      let given = t.is first front h in
      let moved = ap (λ fs. whole fs (flat_map (sorts p.items ns) p.order) (faults_if_any ns condition)) fronts
      ∙ ap (λ fs. whole (item_faults (column_of naming) scope (column_names (star_columns scope p.star)) p.items) fs (faults_if_any ns condition)) (sorts_same p.items ns visible s p.order ∙ sorts_are p.order)
      ∙ ap (λ fs. whole (item_faults (column_of naming) scope (column_names (star_columns scope p.star)) p.items) (flat_map (sort_faults columns visible) p.order) fs) (if_any_same ns visible s condition) in
      subst (λ fs. IsFirst first fs last) moved given

-- a sort that stands for no item, and one that does
pub sort_seen : (items : List Item) (names : Names) (x : SortItem) {first next : Option PlacedFault} → false ≡ list_any (λ (i : Item). same_expression i.value x.key) items → IsFirst first (faults_of names x.key) next → IsFirst first (sorts items names x) next
sort_seen items names x {first} {next} other h = subst (λ b. IsFirst first (without names x b) next) other h

pub sort_passed : (items : List Item) (names : Names) (x : SortItem) {first : Option PlacedFault} → true ≡ list_any (λ (i : Item). same_expression i.value x.key) items → IsFirst first (sorts items names x) first
sort_passed items names x {first} same = subst (λ b. IsFirst first (without names x b) first) same (no_more first)

-- ---- the same names bring the same faults

module _ (naming : Naming) (ns ms : Names) (s : HasSame ns ms) (p : Projection) where
  starred_same : (b : Bool) (n : List ℕ) → is_among (starred b ns) n ≡ is_among (starred b ms) n
  starred_same true n = s.is n
  starred_same false n = refl

  columns_same : (n : List ℕ) → is_among (column_names (projection_columns (column_of naming) ns p)) n ≡ is_among (column_names (projection_columns (column_of naming) ms p)) n
  columns_same n = all_names naming ns p n ∙ ap (λ b. b || is_among (own_names naming ns p) n) (starred_same (is_some p.star) n) ∙ sym (all_names naming ms p n)

  pub names_same : HasSame (column_names (projection_columns (column_of naming) ns p)) (column_names (projection_columns (column_of naming) ms p))
  names_same = record { is = columns_same }

  visible_same : HasSame (visible naming ns p) (visible naming ms p)
  visible_same =
      let own = p.distinct || list_any (λ x. is_some (aggregate_of x.value)) p.items in
      let here = chosen naming ns p own (ap (λ b. p.distinct || b) (aggregates naming ns p)) in
      let there = chosen naming ms p own (ap (λ b. p.distinct || b) (aggregates naming ms p)) in
      record { is = λ n. ap (λ ls. is_among ls n) here ∙ either own n ∙ ap (λ ls. is_among ls n) (sym there) }
    where
      either : (b : Bool) (n : List ℕ)
          → is_among (if b then column_names (projection_columns (column_of naming) ns p) else (column_names (projection_columns (column_of naming) ns p) ++ ns)) n
          ≡ is_among (if b then column_names (projection_columns (column_of naming) ms p) else (column_names (projection_columns (column_of naming) ms p) ++ ms)) n
      either true n = columns_same n
      either false n =
          among_both (column_names (projection_columns (column_of naming) ns p)) ns n ∙ ap (λ b. b || is_among ns n) (columns_same n) ∙ ap (λ b. is_among (column_names (projection_columns (column_of naming) ms p)) n || b) (s.is n)
          ∙ sym (among_both (column_names (projection_columns (column_of naming) ms p)) ms n)

  pub projection_same : (condition : Option Expression) → projection_faults (column_of naming) ns p condition ≡ projection_faults (column_of naming) ms p condition
  projection_same condition =
      let whole : List PlacedFault → List PlacedFault → List PlacedFault → List PlacedFault = λ front order rest. front ++ order ++ faults_if_any [] p.skip ++ faults_if_any [] p.limit ++ rest in
      let names : Names → Names = λ ls. column_names (star_columns ls p.star) in
      let before : HasSame (names ns) (names ms) = record { is = λ n. (star_names ns p.star).is n ∙ starred_same (is_some p.star) n ∙ sym ((star_names ms p.star).is n) } in
      let sorted : List SortItem → List PlacedFault = λ xs. flat_map (sort_faults (projection_columns (column_of naming) ns p) (visible naming ns p)) xs in
      ap (λ fs. whole fs (sorted p.order) (faults_if_any (visible naming ns p) condition)) (items_same (column_of naming) ns ms s (names ns) (names ms) before p.items)
      ∙ ap (λ fs. whole (item_faults (column_of naming) ms (names ms) p.items) fs (faults_if_any (visible naming ns p) condition))
      (sym (sorts_are naming ns p p.order) ∙ sorts_same p.items (visible naming ns p) (visible naming ms p) visible_same p.order ∙ sorts_are naming ms p p.order)
      ∙ ap (λ fs. whole (item_faults (column_of naming) ms (names ms) p.items) (flat_map (sort_faults (projection_columns (column_of naming) ms p) (visible naming ms p)) p.order) fs)
      (if_any_same (visible naming ns p) (visible naming ms p) visible_same condition)
