-- A row taken into the group of its number.
use Rattle.std.proofs.Common.{◌≡◌, ℕ, zero, suc, ◌+◌, ◌*◌, ◌<◌, ◌||◌, ◌&&◌, Bool, true, false, not, cond, List, [], ◌∷◌, ◌++◌, map, length, take, drop, get_or, set, Result, Ok, Err, refl, sym, ap, ◌∙◌, arith, add-one}
use Rattle.indexmap.specs.IndexSet.{insert_key}
use Rattle.std.proofs.lemmas.Cmp.{eq_by_cmp_equiv}
use Rattle.std.proofs.Math.Nat.{suc-mul}
use Rattle.std.proofs.lemmas.List.{drop_at, length-append, length-drop, length-map, length-take-le, take_all}
use Rattle.std.specs.Global.{Vec}
use Rattle.std.specs.List.{list_any, position_or_len}
use Rattle.pg_project.proofs.Parted as Parted
use Rattle.pg_project.proofs.Parted.{long, part, put_long, rest_holds, within_parts}
use Rattle.pg_project.specs.Kept.{Kept, Answers, all_taken_in, begun, first_kept, into_kept, taken_in}
use Rattle.pg_project.specs.KeptGroups.{groups_of, parted, same_keys, taken_in_at}
use Rattle.pg_project.specs.Summaries as kept
use Rattle.pg_project.specs.Summaries.{taken_of}
use Rattle.pg_meaning.specs.Aggregates.{Aggregate}
use Rattle.pg_meaning.specs.Answer.{◌>>=◌}
use Rattle.pg_meaning.specs.OrderLaws.{order_total}
use Rattle.pg_meaning.specs.Projections.{same_values}
use Rattle.pg_meaning.specs.Tree.{Expression}
use Rattle.pg_meaning.specs.Value.{Value as Datum}
use Rattle.pg_meaning.specs.declared.fault.Fault.{Fault}
use Rattle.pg_rows.proofs.Grouped.{same_as, number_is}
use Rattle.pg_rows.specs.Groups.{keys_view, group_number}
use Rattle.pg_value_core.specs.View.{view}
use Rattle.pg_value_core.specs.declared.value.Value.{Value}

same_sym : (xs ys : List Datum) → same_values xs ys ≡ same_values ys xs
same_sym [] [] = refl
same_sym [] (y ∷ ys) = refl
same_sym (x ∷ xs) [] = refl
same_sym (x ∷ xs) (y ∷ ys) = λ i. (eq_by_cmp_equiv order_total).symm x y i && same_sym xs ys i

one_more : (n : ℕ) → 1 + n ≡ suc n
one_more n = omega arith

joined : {X Y Z : Type 0} (a : Result X Fault) (f : X → Y) (g : Y → Z) → ((a >>= λ x. let r : Result Y Fault = Ok (f x) in r) >>= λ y. let r : Result Z Fault = Ok (g y) in r) ≡ (a >>= λ x. Ok (g (f x)))
joined (Ok x) f g = refl
joined (Err e) f g = refl

map_behind : {X Y : Type 0} (f : X → Y) (xs : List X) (x : X) → map f (xs ++ x ∷ []) ≡ map f xs ++ f x ∷ []
map_behind f [] x = refl
map_behind f (y ∷ ys) x = ap (λ zs. f y ∷ zs) (map_behind f ys x)

module _ {X : Type 0} where
  get_last : (xs : List X) (y d : X) (n : ℕ) → n ≡ length xs → get_or (xs ++ y ∷ []) n d ≡ y
  get_last [] y d zero h = refl
  get_last [] y d (suc n) h = absurd (omega arith)
  get_last (x ∷ xs) y d zero h = absurd (omega arith)
  get_last (x ∷ xs) y d (suc n) h = get_last xs y d n (omega arith)

  set_last : (xs : List X) (y z : X) (n : ℕ) → n ≡ length xs → set (xs ++ y ∷ []) n z ≡ xs ++ z ∷ []
  set_last [] y z zero h = refl
  set_last [] y z (suc n) h = absurd (omega arith)
  set_last (x ∷ xs) y z zero h = absurd (omega arith)
  set_last (x ∷ xs) y z (suc n) h = ap (λ us. x ∷ us) (set_last xs y z n (omega arith))

module _ (at : Answers) (aggregates : List Aggregate) (k : List Datum) where
  abbrev number : List (List Datum) → ℕ
  number ks = group_number ks k

  abbrev is_there : List (List Datum) → Bool
  is_there ks = list_any (same_values k) ks

  -- ---- a group that is there

  number_below : (ks : List (List Datum)) → is_there ks ≡ true → number ks < length ks
  number_below [] h = absurd cc
  number_below (u ∷ us) h = by (λ e. number_below us e) (same_values k u) h
    where
      by : (is_there us ≡ true → number us < length us) → (b : Bool) → (b || is_there us) ≡ true → cond (not b) (1 + number us) 0 < suc (length us)
      by rest true e = omega arith
      by rest false e = let below = rest e in omega arith

  abbrev put_at : (ks : List (List Datum)) (tss : List (List kept.Taken)) → ℕ → Result (List Kept) Fault
  put_at ks tss n = all_taken_in at aggregates (get_or tss n []) >>= λ ts. Ok (groups_of ks (set tss n ts))

  known : (ks : List (List Datum)) (tss : List (List kept.Taken)) → length ks ≡ length tss → is_there ks ≡ true → into_kept at aggregates k (groups_of ks tss) ≡ put_at ks tss (number ks)
  known [] tss l h = absurd cc
  known (u ∷ us) [] l h = absurd (omega arith)
  known (u ∷ us) (t ∷ tss) l h =
      by (λ e. known us tss (omega arith) e) (same_values u k) (ap (λ b. b || is_there us) (same_sym u k) ∙ h) ∙ ap (λ b. put_at (u ∷ us) (t ∷ tss) (cond (not b) (1 + number us) 0)) (same_sym u k)
    where
      by : (is_there us ≡ true → into_kept at aggregates k (groups_of us tss) ≡ put_at us tss (number us)) → (b : Bool) → (b || is_there us) ≡ true
          → elim b as (λ c. Result (List Kept) Fault) [
            | true ↦ all_taken_in at aggregates t >>= λ ts. Ok (record { key = u; taken = ts } ∷ groups_of us tss)
            | false ↦ into_kept at aggregates k (groups_of us tss) >>= λ hs. Ok (record { key = u; taken = t } ∷ hs)
          ] ≡ put_at (u ∷ us) (t ∷ tss) (cond (not b) (1 + number us) 0)
      by rest true e = refl
      by rest false e =
          ap (λ a. a >>= λ hs. Ok (record { key = u; taken = t } ∷ hs)) (rest e)
          ∙ joined (all_taken_in at aggregates (get_or tss (number us) [])) (λ ts. groups_of us (set tss (number us) ts)) (λ hs. record { key = u; taken = t } ∷ hs)
          ∙ ap (put_at (u ∷ us) (t ∷ tss)) (sym (one_more (number us)))

  -- ---- a new group

  number_behind : (ks : List (List Datum)) → is_there ks ≡ false → number ks ≡ length ks
  number_behind [] h = refl
  number_behind (u ∷ us) h = by (λ e. number_behind us e) (same_values k u) h
    where
      by : (is_there us ≡ false → number us ≡ length us) → (b : Bool) → (b || is_there us) ≡ false → cond (not b) (1 + number us) 0 ≡ suc (length us)
      by rest true e = absurd cc
      by rest false e = ap (λ n. 1 + n) (rest e) ∙ one_more (length us)

  abbrev put_behind : (ks : List (List Datum)) (tss : List (List kept.Taken)) → Result (List Kept) Fault
  put_behind ks tss = all_taken_in at aggregates (begun aggregates) >>= λ ts. Ok (groups_of (ks ++ k ∷ []) (tss ++ ts ∷ []))

  new : (ks : List (List Datum)) (tss : List (List kept.Taken)) → length ks ≡ length tss → is_there ks ≡ false → into_kept at aggregates k (groups_of ks tss) ≡ put_behind ks tss
  new [] [] l h = refl
  new [] (t ∷ tss) l h = absurd (omega arith)
  new (u ∷ us) [] l h = absurd (omega arith)
  new (u ∷ us) (t ∷ tss) l h = by (λ e. new us tss (omega arith) e) (same_values u k) (ap (λ b. b || is_there us) (same_sym u k) ∙ h)
    where
      by : (is_there us ≡ false → into_kept at aggregates k (groups_of us tss) ≡ put_behind us tss) → (b : Bool) → (b || is_there us) ≡ false
          → elim b as (λ c. Result (List Kept) Fault) [
            | true ↦ all_taken_in at aggregates t >>= λ ts. Ok (record { key = u; taken = ts } ∷ groups_of us tss)
            | false ↦ into_kept at aggregates k (groups_of us tss) >>= λ hs. Ok (record { key = u; taken = t } ∷ hs)
          ] ≡ put_behind (u ∷ us) (t ∷ tss)
      by rest true e = absurd cc
      by rest false e =
          ap (λ a. a >>= λ hs. Ok (record { key = u; taken = t } ∷ hs)) (rest e)
          ∙ joined (all_taken_in at aggregates (begun aggregates)) (λ ts. groups_of (us ++ k ∷ []) (tss ++ ts ∷ [])) (λ hs. record { key = u; taken = t } ∷ hs)

-- ---- as the program keeps them, one group's behind the other's

any_same : (key : Vec Value) (ks : List (Vec Value)) → list_any (same_keys key) ks ≡ list_any (same_values (map view key.items)) (keys_view ks)
any_same key [] = refl
any_same key (k ∷ ks) = λ i. same_as key.items k.items i || any_same key ks i

one_each : (m w : ℕ) → (m + 1) * w ≡ m * w + w
one_each m w = ap (λ k. k * w) (add-one m) ∙ suc-mul m w

pub as_long : (at : Answers) (aggregates : List Aggregate) (ts us : List kept.Taken) → all_taken_in at aggregates ts ≡ Ok us → length us ≡ length ts
as_long at [] ts us h = let e : ts ≡ us = cc in ap length (sym e)
as_long at (a ∷ bs) [] us h = let e : [] ≡ us = cc in ap length (sym e)
as_long at (a ∷ bs) (t ∷ ts) us h = by (taken_in at a t) (all_taken_in at bs ts) (λ vs e. as_long at bs ts vs e) h
  where
    by : (one : Result kept.Taken Fault) (rest : Result (List kept.Taken) Fault) → ((vs : List kept.Taken) → rest ≡ Ok vs → length vs ≡ length ts)
        → (one >>= λ u. rest >>= λ vs. let r : Result (List kept.Taken) Fault = Ok (u ∷ vs) in r) ≡ Ok us → length us ≡ suc (length ts)
    by (Err f) rest later e = absurd cc
    by (Ok u) (Err f) later e = absurd cc
    by (Ok u) (Ok vs) later e = let is : u ∷ vs ≡ us = cc in ap length (sym is) ∙ ap suc (later vs refl)

module _ (at : Answers) (aggregates : List Aggregate) (w : ℕ) (each : length aggregates ≡ w) (key : Vec Value) (ks more : List (Vec Value)) (us : List kept.Taken) (paired : length us ≡ length ks * w) (kept_keys : more ≡ insert_key same_keys ks key) (n : ℕ) (here : n ≡ position_or_len (same_keys key) ks) where
  abbrev pub into : Result (List Kept) Fault
  into = into_kept at aggregates (map view key.items) (groups_of (keys_view ks) (parted (length ks) w us))

  apart : length (keys_view ks) ≡ length (parted (length ks) w us)
  apart = length-map ks (λ k. map view k.items) ∙ sym (long w (length ks) us)

  numbered : n ≡ group_number (keys_view ks) (map view key.items)
  numbered = here ∙ number_is key.items ks

  abbrev pub put : (now old : List kept.Taken) → Result (List Kept) Fault
  put now old = all_taken_in at aggregates old >>= λ ts. Ok (groups_of (keys_view more) (set (parted (length more) w now) n ts))

  abbrev of_group : List kept.Taken → List kept.Taken
  of_group now = take w (drop (n * w) now)

  put_known : (now : List kept.Taken) → list_any (same_keys key) ks ≡ true → now ≡ us → into ≡ put now (of_group now)
  put_known now h is =
      known at aggregates (map view key.items) (keys_view ks) (parted (length ks) w us) apart there
      ∙ ap (put_at at aggregates (map view key.items) (keys_view ks) (parted (length ks) w us)) (sym numbered)
      ∙ (λ i. all_taken_in at aggregates (kept_there i) >>= λ ts. Ok (groups_of (keys_view (same_more i)) (set (parted (length (same_more i)) w (sym is i)) n ts)))
    where
      there : list_any (same_values (map view key.items)) (keys_view ks) ≡ true
      there = sym (any_same key ks) ∙ h

      within : n < length ks
      within = let below = number_below at aggregates (map view key.items) (keys_view ks) there in let counted = length-map ks (λ k. map view k.items) in let same = numbered in omega arith

      kept_there : get_or (parted (length ks) w us) n [] ≡ of_group now
      kept_there = part w (length ks) n us within ∙ sym (ap of_group is)

      same_more : ks ≡ more
      same_more = sym (kept_keys ∙ ap (λ b. cond b ks (ks ++ key ∷ [])) h)

  put_new : (now : List kept.Taken) → list_any (same_keys key) ks ≡ false → now ≡ us ++ begun aggregates → into ≡ put now (of_group now)
  put_new now h is =
      new at aggregates (map view key.items) (keys_view ks) (parted (length ks) w us) apart absent
      ∙ (λ i. all_taken_in at aggregates (kept_first i) >>= λ ts. Ok (groups_of (keys_more i) (last_put ts i)))
    where
      absent : list_any (same_values (map view key.items)) (keys_view ks) ≡ false
      absent = sym (any_same key ks) ∙ h

      last : n ≡ length ks
      last = numbered ∙ number_behind at aggregates (map view key.items) (keys_view ks) absent ∙ length-map ks (λ k. map view k.items)

      wide : length (begun aggregates) ≡ w
      wide = length-map aggregates (λ a. taken_of a []) ∙ each

      kept_first : begun aggregates ≡ of_group now
      kept_first =
          sym (take_all w (begun aggregates) (omega (arith, wide)))
          ∙ sym (ap (take w) (drop_at us (begun aggregates) (n * w) (paired ∙ ap (λ m. m * w) (sym last))))
          ∙ sym (ap of_group is)

      more_is : more ≡ ks ++ key ∷ []
      more_is = kept_keys ∙ ap (λ b. cond b ks (ks ++ key ∷ [])) h

      keys_more : keys_view ks ++ map view key.items ∷ [] ≡ keys_view more
      keys_more = sym (ap keys_view more_is ∙ map_behind (λ (k : Vec Value). map view k.items) ks key)

      now_parted : parted (length more) w now ≡ parted (length ks) w us ++ begun aggregates ∷ []
      now_parted = (λ i. parted ((ap length more_is ∙ length-append ks (key ∷ [])) i) w (is i)) ∙ Parted.more w (length ks) us (begun aggregates) paired wide

      last_put : (ts : List kept.Taken) → parted (length ks) w us ++ ts ∷ [] ≡ set (parted (length more) w now) n ts
      last_put ts = sym (ap (λ xs. set xs n ts) now_parted ∙ set_last (parted (length ks) w us) (begun aggregates) ts n (last ∙ sym (long w (length ks) us)))

  pub paired_known : (now : List kept.Taken) → list_any (same_keys key) ks ≡ true → now ≡ us → length now ≡ length more * w
  paired_known now h is = ap length is ∙ paired ∙ ap (λ xs. length xs * w) (sym (kept_keys ∙ ap (λ b. cond b ks (ks ++ key ∷ [])) h))

  pub paired_new : (now : List kept.Taken) → list_any (same_keys key) ks ≡ false → now ≡ us ++ begun aggregates → length now ≡ length more * w
  paired_new now h is =
      ap length is
      ∙ length-append us (begun aggregates)
      ∙ (λ i. paired i + (length-map aggregates (λ a. taken_of a []) ∙ each) i)
      ∙ sym (one_each (length ks) w)
      ∙ sym (ap (λ m. m * w) (ap length (kept_keys ∙ ap (λ b. cond b ks (ks ++ key ∷ [])) h) ∙ length-append ks (key ∷ [])))

  -- what is kept of a group that is there, or that was just begun, is among the others
  abbrev pub Ready : List kept.Taken → Type 0
  Ready now = (into ≡ put now (of_group now)) × (length now ≡ length more * w)

  pub ready_known : (now : List kept.Taken) → list_any (same_keys key) ks ≡ true → now ≡ us → Ready now
  ready_known now h is = (put_known now h is, paired_known now h is)

  pub ready_new : (now : List kept.Taken) → list_any (same_keys key) ks ≡ false → now ≡ us ++ begun aggregates → Ready now
  ready_new now h is = (put_new now h is, paired_new now h is)

  module _ (now : List kept.Taken) (ready : Ready now) (within : n < length more) where
    first : length (of_group now) ≡ w
    first = length-take-le w (drop (n * w) now) (rest_holds (n * w) w (length now) (length more * w) (length (drop (n * w) now)) (within_parts w (length more) n within) ready.1 (length-drop (n * w) now))

    pub taken : (x : List kept.Taken) → taken_in_at at aggregates w (n * w) now ≡ Ok x → into ≡ Ok (groups_of (keys_view more) (parted (length more) w x))
    taken x h = ready.0 ∙ by (all_taken_in at aggregates (of_group now)) (λ ts e. as_long at aggregates (of_group now) ts e ∙ first) h
      where
        by : (a : Result (List kept.Taken) Fault) → ((ts : List kept.Taken) → a ≡ Ok ts → length ts ≡ w) → (a >>= λ ts. let r : Result (List kept.Taken) Fault = Ok (take (n * w) now ++ (ts ++ drop w (drop (n * w) now))) in r) ≡ Ok x
            → (a >>= λ ts. let r : Result (List Kept) Fault = Ok (groups_of (keys_view more) (set (parted (length more) w now) n ts)) in r) ≡ Ok (groups_of (keys_view more) (parted (length more) w x))
        by (Err f) wide e = absurd cc
        by (Ok ts) wide e =
            let is : take (n * w) now ++ (ts ++ drop w (drop (n * w) now)) ≡ x = cc in
            ap (λ gs. Ok (groups_of (keys_view more) gs)) (Parted.put w (length more) n now ts within ready.1 (wide ts refl) ∙ ap (parted (length more) w) is)

    pub stays : (x : List kept.Taken) → taken_in_at at aggregates w (n * w) now ≡ Ok x → length x ≡ length more * w
    stays x h = by (all_taken_in at aggregates (of_group now)) (λ ts e. as_long at aggregates (of_group now) ts e ∙ first) h ∙ ready.1
      where
        by : (a : Result (List kept.Taken) Fault) → ((ts : List kept.Taken) → a ≡ Ok ts → length ts ≡ w) → (a >>= λ ts. let r : Result (List kept.Taken) Fault = Ok (take (n * w) now ++ (ts ++ drop w (drop (n * w) now))) in r) ≡ Ok x → length x ≡ length now
        by (Err f) wide e = absurd cc
        by (Ok ts) wide e =
            let is : take (n * w) now ++ (ts ++ drop w (drop (n * w) now)) ≡ x = cc in
            ap length (sym is) ∙ put_long w (length more) n now ts within ready.1 (wide ts refl)

    pub refused : (f : Fault) → taken_in_at at aggregates w (n * w) now ≡ Err f → into ≡ Err f
    refused f h = ready.0 ∙ by (all_taken_in at aggregates (of_group now)) h
      where
        by : (a : Result (List kept.Taken) Fault) → (a >>= λ ts. let r : Result (List kept.Taken) Fault = Ok (take (n * w) now ++ (ts ++ drop w (drop (n * w) now))) in r) ≡ Err f
            → (a >>= λ ts. let r : Result (List Kept) Fault = Ok (groups_of (keys_view more) (set (parted (length more) w now) n ts)) in r) ≡ Err f
        by (Ok ts) e = absurd cc
        by (Err g) e = let is : g ≡ f = cc in ap Err is

-- ---- the groups before any row

pub one_group : (aggregates : List Aggregate) (w : ℕ) → length aggregates ≡ w → (ks more : List (Vec Value)) (now : List kept.Taken) (key : Vec Value) → ks ≡ [] → more ≡ insert_key same_keys ks key → now ≡ begun aggregates → key.items ≡ []
    → groups_of (keys_view more) (parted (length more) w now) ≡ first_kept [] aggregates
one_group aggregates w each ks more now key none kept is bare =
    (λ i. groups_of (keys_view (one i)) (parted (length (one i)) w (is i)))
    ∙ (λ i. record { key = map view (bare i); taken = whole i } ∷ [])
  where
    one : more ≡ key ∷ []
    one = kept ∙ ap (λ us. insert_key same_keys us key) none

    whole : take w (begun aggregates) ≡ begun aggregates
    whole = let l = length-map aggregates (λ a. taken_of a []) ∙ each in take_all w (begun aggregates) (omega (arith, l))

pub one_paired : (aggregates : List Aggregate) (w : ℕ) → length aggregates ≡ w → (ks more : List (Vec Value)) (now : List kept.Taken) (key : Vec Value) → ks ≡ [] → more ≡ insert_key same_keys ks key → now ≡ begun aggregates → length now ≡ length more * w
one_paired aggregates w each ks more now key none kept is =
    ap length is
    ∙ length-map aggregates (λ a. taken_of a [])
    ∙ each
    ∙ one_times w
    ∙ ap (λ xs. length xs * w) (sym (kept ∙ ap (λ us. insert_key same_keys us key) none))
  where
    one_times : (m : ℕ) → m ≡ 1 * m
    one_times m = omega arith

pub no_group : (aggregates : List Aggregate) (es : List Expression) → 0 < length es → first_kept es aggregates ≡ []
no_group aggregates [] h = absurd (omega (arith, h))
no_group aggregates (e ∷ es) h = refl
