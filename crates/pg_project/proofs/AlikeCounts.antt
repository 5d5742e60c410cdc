-- Rows of one group that come one after the other, counted at once.
use Rattle.std.proofs.Common.{◌≡◌, ◌⊎◌, inl, inr, ℕ, zero, suc, ◌+◌, ◌*◌, ◌-◌, ◌<◌, ◌≤◌, ℤ, pos, true, List, [], ◌∷◌, ◌++◌, length, take, drop, get_or, replicate, Option, Some, None, Result, Ok, refl, sym, ap, subst, ◌∙◌, arith, length-append}
use Rattle.std.proofs.Math.Seq.{drop-cons}
use Rattle.std.proofs.lemmas.Int.{ints}
use Rattle.std.proofs.lemmas.List.{drop_at, length-map, take_at}
use Rattle.std.specs.Global.{Vec}
use Rattle.std.specs.Prelude.{◌+ℤ◌, slice_get, slice_set}
use Rattle.pg_meaning.specs.Aggregates.{Aggregate}
use Rattle.pg_meaning.specs.Answer.{◌>>=◌}
use Rattle.pg_meaning.specs.Graph.{Graph}
use Rattle.pg_meaning.specs.Tree.{Expression}
use Rattle.pg_meaning.specs.Value.{Value as Datum, Entries, boolean}
use Rattle.pg_meaning.specs.declared.fault.Fault.{Fault}
use Rattle.pg_project.proofs.KeyColumns.{same_key}
use Rattle.pg_project.proofs.Numbered.{ready_known, taken}
use Rattle.pg_project.proofs.Numbers.{keys_stay}
use Rattle.pg_project.proofs.RowLemmas.{with_key}
use Rattle.pg_project.specs.Alike.{AreAlike, IsGroupOf, ReadEach}
use Rattle.pg_project.specs.AlikeRows.{AlikeUntil, CountsMore, CountsMoreAt, CountsRows, plain_count}
use Rattle.pg_project.specs.Items.{aggregates_in, keys_in}
use Rattle.pg_project.specs.Kept.{Answers, Kept, all_taken_in, answers_at, into_kept, kept_row, kept_rows}
use Rattle.pg_project.specs.KeptGroups.{Paired, groups_of, groups_view, parted, taken_in_at}
use Rattle.pg_project.specs.ReadyItems.{AreReady, aggregate_view, aggregates_view, keys_of}
use Rattle.pg_project.specs.Summaries.{Taken, taken_with}
use Rattle.pg_project.specs.Views.{taken_view, takens_view}
use Rattle.pg_project.specs.declared.groups.Groups.{Groups}
use Rattle.pg_project.specs.declared.items.Items.{Items}
use Rattle.pg_project.specs.declared.taken.Taken.{Taken as Code}
use Rattle.pg_rows.specs.Groups.{keys_view}
use Rattle.pg_value_core.specs.declared.value.Value.{Value}

-- ---- numbers and lists

one_more : (z : ℤ) (n : ℕ) → ((z +ℤ pos 1) +ℤ pos n) ≡ (z +ℤ pos (suc n))
one_more z n = rotated z (pos 1) (pos n) ∙ ap (λ m. z +ℤ pos m) (let e : 1 + n ≡ suc n = omega arith in e)
  where
    rotated : (i j k : ℤ) → ((i +ℤ j) +ℤ k) ≡ (i +ℤ (j +ℤ k))
    rotated i j k = omega (arith, ints)

none_more : (z : ℤ) → (z +ℤ pos 0) ≡ z
none_more z = omega (arith, ints)

as_once : (n m : ℕ) → n ≡ m → m ≡ n * 1
as_once n m e = omega (arith, e)

module _ {X : Type 0} where
  pub there : (xs : List X) (i : ℕ) (d : X) → i < length xs → slice_get xs i ≡ Some (get_or xs i d)
  there [] i d h = absurd (omega (arith, h))
  there (x ∷ xs) zero d h = refl
  there (x ∷ xs) (suc i) d h = there xs i d (omega (arith, h))

got_within : {X : Type 0} (xs : List X) (i : ℕ) (x : X) → slice_get xs i ≡ Some x → i < length xs
got_within [] i x e = absurd (cc)
got_within (y ∷ ys) zero x e = omega arith
got_within (y ∷ ys) (suc i) x e = let h = got_within ys i x e in omega (arith, h)

-- ---- one of what is kept, counted on

pub counted_at : (old : List Code) (n : ℕ) (x y : Code) (more : ℕ) → n < length old → x ≡ get_or old n x → CountsMore more (taken_view x) (taken_view y) → CountsMoreAt n more (takens_view old) (takens_view (slice_set old n y))
counted_at [] n x y more h e c = absurd (omega (arith, h))
counted_at (z ∷ zs) zero x y more h e c = record {
  front = [];
  back = takens_view zs;
  before = c.before;
  place = refl;
  was = ap (λ t. t ∷ takens_view zs) (ap taken_view (sym e) ∙ c.was);
  is = ap (λ t. t ∷ takens_view zs) c.is;
}
counted_at (z ∷ zs) (suc n) x y more h e c =
    let later = counted_at zs n x y more (omega (arith, h)) e c in
    record {
      front = taken_view z ∷ later.front;
      back = later.back;
      before = later.before;
      place = ap suc later.place;
      was = ap (λ ts. taken_view z ∷ ts) later.was;
      is = ap (λ ts. taken_view z ∷ ts) later.is;
    }

pub stays_at : (old : List Code) (n : ℕ) (x y : Code) → n < length old → x ≡ get_or old n x → taken_view y ≡ taken_view x → takens_view (slice_set old n y) ≡ takens_view old
stays_at [] n x y h e same = absurd (omega (arith, h))
stays_at (z ∷ zs) zero x y h e same = ap (λ t. t ∷ takens_view zs) (same ∙ ap taken_view e)
stays_at (z ∷ zs) (suc n) x y h e same = ap (λ ts. taken_view z ∷ ts) (stays_at zs n x y (omega (arith, h)) e same)

-- ---- one row more of a group that only counts

module _ (parameters : Entries) (graph : Graph) (names : List (List ℕ)) (es : List Expression) (a : Aggregate) (counts : aggregates_in es ≡ a ∷ []) (alone : a.argument ≡ None) (ks : List (Vec Value)) (n : ℕ) (front back : List Taken) (place : n ≡ length front) (wide : (c : ℤ) → length (front ++ plain_count c ∷ back) ≡ length ks * 1) where
  abbrev takens : ℤ → List Taken
  takens c = front ++ plain_count c ∷ back

  abbrev state : ℤ → List Kept
  state c = groups_of (keys_view ks) (parted (length ks) 1 (takens c))

  abbrev rows_kept : List Kept → List (List Datum) → Result (List Kept) Fault
  rows_kept gs rows = kept_rows parameters graph names es gs rows

  taken_one : (at : Answers) (c : ℤ) → taken_in_at at (a ∷ []) 1 (n * 1) (takens c) ≡ Ok (takens (c +ℤ pos 1))
  taken_one at c =
      let rest : List Taken = plain_count c ∷ back in
      let behind : drop (n * 1) (front ++ rest) ≡ rest = drop_at front rest (n * 1) (as_once n (length front) place) in
      let before : take (n * 1) (front ++ rest) ≡ front = take_at front rest (n * 1) (as_once n (length front) place) in
      (λ i. all_taken_in at (a ∷ []) (take 1 (behind i)) >>= λ us. Ok (before i ++ (us ++ drop 1 (behind i))))
      ∙ ap (λ o. (((elim o as (λ p. Result Datum Fault) [ None ↦ Ok (boolean true) | Some e ↦ at e ]) >>= taken_with (plain_count c)) >>= λ u. one u) >>= λ us. let r : Result (List Taken) Fault = Ok (front ++ (us ++ back)) in r) alone
    where
      one : Taken → Result (List Taken) Fault
      one u = Ok (u ∷ [])

  step : (row : List Datum) (c : ℤ) → IsGroupOf (answers_at parameters graph names row) (keys_in es) ks n → kept_row (answers_at parameters graph names row) es (state c) ≡ Ok (state (c +ℤ pos 1))
  step row c group =
      let at : Answers = answers_at parameters graph names row in
      let found = group.number in
      let key = found.key in
      let stay = keys_stay ks key n found.number in
      let ready = ready_known at (a ∷ []) 1 refl key ks ks (takens c) (wide c) stay n found.number.here (takens c) found.number.there refl in
      with_key at es (state c) group.key group.is
      ∙ ap (λ aggregates. into_kept at aggregates group.key (state c)) counts
      ∙ ap (λ k. into_kept at (a ∷ []) k (state c)) (sym found.is)
      ∙ taken at (a ∷ []) 1 refl key ks ks (takens c) (wide c) stay n found.number.here (takens c) ready found.number.within (takens (c +ℤ pos 1)) (taken_one at c)

  pub often : (row : List Datum) → IsGroupOf (answers_at parameters graph names row) (keys_in es) ks n → (k : ℕ) (c : ℤ) → rows_kept (state c) (replicate k row) ≡ Ok (state (c +ℤ pos k))
  often row group zero c = ap (λ z. Ok (state z)) (sym (none_more c))
  often row group (suc k) c =
      ap (λ r. r >>= λ gs. rows_kept gs (replicate k row)) (step row c group)
      ∙ often row group k (c +ℤ pos 1)
      ∙ ap (λ z. Ok (state z)) (one_more c k)

  module _ (columns : List ℕ) (reads : ReadEach names (keys_in es) columns) (before : List Datum) (latest : IsGroupOf (answers_at parameters graph names before) (keys_in es) ks n) (rows : List (List Datum)) where
    group_at : (row : List Datum) → AreAlike columns row before → IsGroupOf (answers_at parameters graph names row) (keys_in es) ks n
    group_at row alike = record { key = latest.key; is = same_key parameters graph names row before (keys_in es) columns reads alike ∙ latest.is; number = latest.number }

    pub run : (k from : ℕ) (c : ℤ) → from + k ≤ length rows → ((i : ℕ) (row : List Datum) → from ≤ i → i < from + k → slice_get rows i ≡ Some row → AreAlike columns row before)
        → rows_kept (state c) (drop from rows) ≡ rows_kept (state (c +ℤ pos k)) (drop (from + k) rows)
    run zero from c h alike =
        let same : from ≡ from + 0 = omega arith in
        λ i. rows_kept (state (sym (none_more c) i)) (drop (same i) rows)
    run (suc k) from c h alike =
        let row : List Datum = get_or rows from [] in
        let within : from < length rows = omega (arith, h) in
        let here = alike from row (omega arith) (omega arith) (there rows from [] within) in
        let later : suc from + k ≤ length rows = omega (arith, h) in
        let shift : suc from + k ≡ from + suc k = omega arith in
        ap (rows_kept (state c)) (drop-cons rows from [] within)
        ∙ ap (λ r. r >>= λ gs. rows_kept gs (drop (suc from) rows)) (step row c (group_at row here))
        ∙ run k (suc from) (c +ℤ pos 1) later (λ i r low high. alike i r (omega (arith, low)) (omega (arith, high)))
        ∙ (λ i. rows_kept (state (one_more c k i)) (drop (shift i) rows))

-- ---- in the words of the call

module _ (parameters : Entries) (graph : Graph) (names : List (List ℕ)) (es : List Expression) (items : Items) (ready : AreReady names es items) (old new : Groups) (n more : ℕ)
    (counts : CountsRows (aggregates_view names items.aggregates.items)) (paired : Paired (length items.aggregates.items) old) (counted : CountsMoreAt n more (takens_view old.taken.items) (takens_view new.taken.items)) (same_keys : new.keys ≡ old.keys) where
  abbrev each : ℕ
  each = length items.aggregates.items

  record One : Type 0 where
    one : Aggregate
    alone : one.argument ≡ None
    is : aggregates_in es ≡ one ∷ []
    once : each ≡ 1

  only_one : (all : List Aggregate) → aggregates_view names items.aggregates.items ≡ all → CountsRows all → One
  only_one [] e h = absurd h
  only_one (a ∷ others) e h = record {
    one = a;
    alone = h.0;
    is = sym ready.aggregates ∙ e ∙ ap (λ bs. a ∷ bs) h.1;
    once = sym (length-map items.aggregates.items (aggregate_view names)) ∙ ap length (e ∙ ap (λ bs. a ∷ bs) h.1);
  }

  wide_old : length (takens_view old.taken.items) ≡ length old.keys.keys * each
  wide_old = length-map old.taken.items taken_view ∙ paired

  as_long : (c d : ℤ) → length (counted.front ++ plain_count c ∷ counted.back) ≡ length (counted.front ++ plain_count d ∷ counted.back)
  as_long c d = length-append counted.front (plain_count c ∷ counted.back) ∙ sym (length-append counted.front (plain_count d ∷ counted.back))

  pub paired_after : Paired each new
  paired_after =
      sym (length-map new.taken.items taken_view) ∙ ap length counted.is ∙ as_long _ _ ∙ sym (ap length counted.was) ∙ wide_old ∙ ap (λ ks. length ks.keys * each) (sym same_keys)

  as_wide : (o : One) (c : ℤ) → length (counted.front ++ plain_count c ∷ counted.back) ≡ length old.keys.keys * 1
  as_wide o c = as_long c counted.before ∙ sym (ap length counted.was) ∙ wide_old ∙ ap (λ m. length old.keys.keys * m) o.once

  pub row_counted : (row : List Datum) → IsGroupOf (answers_at parameters graph names row) (keys_in es) old.keys.keys n → kept_rows parameters graph names es (groups_view each old) (replicate more row) ≡ Ok (groups_view each new)
  row_counted row group =
      let o = only_one (aggregates_view names items.aggregates.items) refl counts in
      let ks = old.keys.keys in
      (λ i. kept_rows parameters graph names es (groups_of (keys_view ks) (parted (length ks) (o.once i) (counted.was i))) (replicate more row))
      ∙ often parameters graph names es o.one o.is o.alone ks n counted.front counted.back counted.place (as_wide o) row group more counted.before
      ∙ sym (λ i. let r : Result (List Kept) Fault = Ok (groups_of (keys_view (same_keys i).keys) (parted (length (same_keys i).keys) (o.once i) (counted.is i))) in r)

  pub rows_counted : (columns : List ℕ) (rows : List (List Datum)) (from end : ℕ) (before : List Datum) → ReadEach names (keys_of names items.keys.items) columns → IsGroupOf (answers_at parameters graph names before) (keys_in es) old.keys.keys n
      → AlikeUntil columns rows from end before → (row : List Datum) → slice_get rows from ≡ Some row → more ≡ end - from
      → kept_rows parameters graph names es (groups_view each old) (drop from rows) ≡ kept_rows parameters graph names es (groups_view each new) (drop end rows)
  rows_counted columns rows from end before reads latest until row got is =
      let inside = got_within rows from row got in
      let within : from ≤ length rows = omega (arith, inside) in
      let o = only_one (aggregates_view names items.aggregates.items) refl counts in
      let ks = old.keys.keys in
      let begins = until.begins in
      let ends = until.ends within in
      let whole : from + more ≡ end = omega (arith, is, begins) in
      let fits : from + more ≤ length rows = omega (arith, whole, ends) in
      (λ i. kept_rows parameters graph names es (groups_of (keys_view ks) (parted (length ks) (o.once i) (counted.was i))) (drop from rows))
      ∙ run parameters graph names es o.one o.is o.alone ks n counted.front counted.back counted.place (as_wide o) columns (subst (λ xs. ReadEach names xs columns) ready.keys reads) before latest rows more from counted.before fits
      (λ i row low high got. until.alike i row low (subst (λ m. i < m) whole high) got)
      ∙ sym (λ i. kept_rows parameters graph names es (groups_of (keys_view (same_keys i).keys) (parted (length (same_keys i).keys) (o.once i) (counted.is i))) (drop (sym whole i) rows))

pub paired_alike : (each : ℕ) (old new : Groups) → takens_view new.taken.items ≡ takens_view old.taken.items → new.keys ≡ old.keys → Paired each old → Paired each new
paired_alike each old new taken keys paired =
    sym (length-map new.taken.items taken_view) ∙ ap length taken ∙ length-map old.taken.items taken_view ∙ paired ∙ ap (λ ks. length ks.keys * each) (sym keys)

-- ---- one place more

some_same : {X : Type 0} (x y : X) → ◌≡◌ {A = Option X} (Some x) (Some y) → x ≡ y
some_same x y e = cc

module _ (columns : List ℕ) (rows : List (List Datum)) (from at : ℕ) (before : List Datum) (so_far : AlikeUntil columns rows from at before) where
  pub alike_more : (row : List Datum) → slice_get rows at ≡ Some row → at < length rows → AreAlike columns row before → AlikeUntil columns rows from (at + 1) before
  alike_more row got within alike =
      let begins = so_far.begins in
      record {
        begins = omega (arith, begins);
        ends = λ h. omega (arith, within);
        alike = λ i other low high is. by i other low is (below_or_at i at (omega (arith, high)));
      }
    where
      below_or_at : (i m : ℕ) → i ≤ m → (i < m) ⊎ (i ≡ m)
      below_or_at zero zero h = inr refl
      below_or_at zero (suc m) h = inl (omega arith)
      below_or_at (suc i) zero h = absurd (omega (arith, h))
      below_or_at (suc i) (suc m) h = elim (below_or_at i m (omega (arith, h))) [ inl less ↦ inl (omega (arith, less)) | inr same ↦ inr (ap suc same) ]

      by : (i : ℕ) (other : List Datum) → from ≤ i → slice_get rows i ≡ Some other → (i < at) ⊎ (i ≡ at) → AreAlike columns other before
      by i other low is (inl less) = so_far.alike i other low less is
      by i other low is (inr same) = subst (λ r. AreAlike columns r before) (some_same row other (sym got ∙ ap (slice_get rows) (sym same) ∙ is)) alike

pub none_alike : (columns : List ℕ) (rows : List (List Datum)) (from : ℕ) (before : List Datum) → AlikeUntil columns rows from from before
none_alike columns rows from before = record { begins = omega arith; ends = λ h. h; alike = λ i row low high got. absurd (omega (arith, low, high)) }
