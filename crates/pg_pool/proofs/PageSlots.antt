-- What changes of pages do to the slots of ids.
use Rattle.std.proofs.Common.{◌≡◌, ◌≢◌, ℕ, zero, suc, ◌+◌, ◌-◌, ◌*◌, ◌/◌, ◌%◌, ◌<◌, Bool, true, false, cond, List, [], ◌∷◌, length, Option, None, Some, IsSome, is_some, option_copied, Bor, Result, Ok, Err, OnOk, OnErr, get_or, set, replicate, inl, inr, refl, sym, ap, subst, ◌∙◌, arith}
use Rattle.std.proofs.Common.{get_or-set_other, get_or-set_same, add-one}
use Rattle.std.proofs.Math.ListN.{get_or-eq_default}
use Rattle.std.proofs.lemmas.List.{get_or-replicate}
use Rattle.std.proofs.lemmas.Bool.{cases_eq, cases_lt}
use Rattle.std.specs.Ordering.{nat_cmp, eq_by_cmp, is_eq}
use Rattle.std.specs.Cmp.{nat_cmp_total, tied_itself}
use Rattle.std.specs.FinMap as map
use Rattle.std.specs.FinMap.{FinMap, find, entries, get, get-entries, get-empty, insert, remove, empty, nat_cmp-IsAntisymmetric}
use Rattle.std.specs.declared.cmp.Ordering.{Ordering}
use Rattle.std.specs.declared.cmp.Ordering.TheVariants.{Less, Equal, Greater}
use Rattle.pg_graph.proofs.Maps.{same_numbered, get_inserted, get_inserted_other, get_removed, get_removed_other}
use Rattle.pg_pool.specs.Pages.{slot_of, with_slot, with_page, with_pages, slots_in}

-- what a page says of its id number j
abbrev pub found_in : Option (List ℕ) → ℕ → Option ℕ
found_in None j = None
found_in (Some page) j = slot_of (get_or page j 0)

get_with_slot : (id : ℕ) (o : Option ℕ) (m : FinMap nat_cmp ℕ) → get (with_slot id o m) id ≡ o
get_with_slot id None m = get_removed m id
get_with_slot id (Some s) m = get_inserted m id s

get_with_slot_other : (id : ℕ) (o : Option ℕ) (m : FinMap nat_cmp ℕ) (q : ℕ) → q ≢ id → get (with_slot id o m) q ≡ get m q
get_with_slot_other id None m q ne = get_removed_other m id q ne
get_with_slot_other id (Some s) m q ne = get_inserted_other m id s q ne

module _ (n : ℕ) (page : List ℕ) (m : FinMap nat_cmp ℕ) where
  outside : (c q : ℕ) → ((k : ℕ) → k < c → q ≢ n * 64 + k) → get (with_page n page c m) q ≡ get m q
  unfolding with_page
  outside zero q ne = refl
  outside (suc c) q ne =
      get_with_slot_other (n * 64 + c) (slot_of (get_or page c 0)) (with_page n page c m) q (ne c (omega arith))
      ∙ outside c q (λ k h. ne k (omega (arith, h)))

  inside : (c j : ℕ) → j < c → get (with_page n page c m) (n * 64 + j) ≡ slot_of (get_or page j 0)
  unfolding with_page
  inside zero j h = absurd (omega (arith, h))
  inside (suc c) j h = elim (cases_eq j c) [
    | inl same ↦ subst (λ (i : ℕ). get (with_page n page (suc c) m) (n * 64 + i) ≡ slot_of (get_or page i 0)) (sym same)
        (get_with_slot (n * 64 + c) (slot_of (get_or page c 0)) (with_page n page c m))
    | inr ne ↦ get_with_slot_other (n * 64 + c) (slot_of (get_or page c 0)) (with_page n page c m) (n * 64 + j) (λ e. ne (omega (arith, e)))
        ∙ inside c j (omega (arith, h, ne))
  ]

tied : (k : ℕ) → eq_by_cmp nat_cmp k k ≡ true
tied k = ap is_eq (tied_itself nat_cmp_total k)

equal_of : (o : Ordering) → is_eq o ≡ true → o ≡ Equal
equal_of Less e = absurd (cc)
equal_of Equal e = refl
equal_of Greater e = absurd (cc)

apart_test : (q k : ℕ) (b : Bool) → eq_by_cmp nat_cmp q k ≡ b → q ≢ k → b ≡ false
apart_test q k true e ne = absurd (ne (nat_cmp-IsAntisymmetric q k (equal_of _ e)))
apart_test q k false e ne = refl

get_with_pages : (es : List (ℕ × List ℕ)) (n j : ℕ) → j < 64 → get (with_pages es) (n * 64 + j) ≡ found_in (find nat_cmp n es) j
unfolding with_pages
get_with_pages [] n j h = get-empty nat_cmp (n * 64 + j)
get_with_pages (e ∷ es) n j h = elim (cases_eq n e.0) [
  | inl same ↦ subst (λ (i : ℕ). get (with_page e.0 e.1 64 (with_pages es)) (i * 64 + j) ≡ found_in (cond (eq_by_cmp nat_cmp i e.0) (Some e.1) (find nat_cmp i es)) j) (sym same)
      (inside e.0 e.1 (with_pages es) 64 j h ∙ sym (ap (λ b. found_in (cond b (Some e.1) (find nat_cmp e.0 es)) j) (tied e.0)))
  | inr ne ↦ outside e.0 e.1 (with_pages es) 64 (n * 64 + j) (λ k l same. ne (omega (arith, h, l, same)))
      ∙ get_with_pages es n j h
      ∙ sym (ap (λ b. found_in (cond b (Some e.1) (find nat_cmp n es)) j) (apart_test n e.0 _ refl ne))
]

-- where an id is
pub get_slots : (pages : FinMap nat_cmp (List ℕ)) (n j : ℕ) → j < 64 → get (slots_in pages) (n * 64 + j) ≡ found_in (get pages n) j
unfolding slots_in
get_slots pages n j h = get_with_pages (entries pages) n j h ∙ ap (λ o. found_in o j) (sym (get-entries pages n))

whole : (q : ℕ) → (q / 64) * 64 + q % 64 ≡ q
whole q = omega arith

below : (q : ℕ) → q % 64 < 64
below q = omega arith

pub get_slot : (pages : FinMap nat_cmp (List ℕ)) (q : ℕ) → get (slots_in pages) q ≡ found_in (get pages (q / 64)) (q % 64)
get_slot pages q = ap (get (slots_in pages)) (sym (whole q)) ∙ get_slots pages (q / 64) (q % 64) (below q)

-- pages that say the same of each id have the same slots
same_slots : (m n : FinMap nat_cmp (List ℕ)) → ((k j : ℕ) → j < 64 → found_in (get m k) j ≡ found_in (get n k) j) → slots_in m ≡ slots_in n
same_slots m n alike = same_numbered _ _ (λ q. get_slot m q ∙ alike (q / 64) (q % 64) (below q) ∙ sym (get_slot n q))

pub slots_of_none : slots_in map.empty ≡ map.empty
slots_of_none = same_numbered _ _ (λ q. get_slot map.empty q ∙ ap (λ o. found_in o (q % 64)) (get-empty nat_cmp (q / 64)) ∙ sym (get-empty nat_cmp q))

module _ (m : FinMap nat_cmp (List ℕ)) (n : ℕ) where
  -- a page that says nothing comes or goes
  pub blank_added : (page : List ℕ) → get m n ≡ None → ((j : ℕ) → j < 64 → get_or page j 0 ≡ 0) → slots_in (insert m n page) ≡ slots_in m
  blank_added page absent blank = same_slots _ _ (λ k j h. elim (cases_eq k n) [
    | inl same ↦ subst (λ (i : ℕ). found_in (get (insert m n page) i) j ≡ found_in (get m i) j) (sym same)
        (ap (λ o. found_in o j) (get_inserted m n page) ∙ ap slot_of (blank j h) ∙ sym (ap (λ o. found_in o j) absent))
    | inr ne ↦ ap (λ o. found_in o j) (get_inserted_other m n page k ne)
  ])

  pub blank_removed : (page : List ℕ) → get m n ≡ Some page → ((j : ℕ) → j < 64 → get_or page j 0 ≡ 0) → slots_in (remove m n) ≡ slots_in m
  blank_removed page there blank = same_slots _ _ (λ k j h. elim (cases_eq k n) [
    | inl same ↦ subst (λ (i : ℕ). found_in (get (remove m n) i) j ≡ found_in (get m i) j) (sym same)
        (ap (λ o. found_in o j) (get_removed m n) ∙ sym (ap slot_of (blank j h)) ∙ sym (ap (λ o. found_in o j) there))
    | inr ne ↦ ap (λ o. found_in o j) (get_removed_other m n k ne)
  ])

  -- one place of a page is written
  module _ (page : List ℕ) (at v : ℕ) (there : get m n ≡ Some page) (within : at < length page) (low : at < 64) where
    written : (k j : ℕ) → j < 64 → found_in (get (insert m n (set page at v)) k) j ≡ get (with_slot (n * 64 + at) (slot_of v) (slots_in m)) (k * 64 + j)
    written k j h = elim (cases_eq k n) [
      | inl same ↦ subst (λ (i : ℕ). found_in (get (insert m n (set page at v)) i) j ≡ get (with_slot (n * 64 + at) (slot_of v) (slots_in m)) (i * 64 + j)) (sym same)
          (ap (λ o. found_in o j) (get_inserted m n (set page at v)) ∙ elim (cases_eq j at) [
            | inl here ↦ subst (λ (i : ℕ). slot_of (get_or (set page at v) i 0) ≡ get (with_slot (n * 64 + at) (slot_of v) (slots_in m)) (n * 64 + i)) (sym here)
                (ap slot_of (get_or-set_same page at v 0 within) ∙ sym (get_with_slot (n * 64 + at) (slot_of v) (slots_in m)))
            | inr off ↦ ap slot_of (get_or-set_other page at j v 0 off) ∙ sym (ap (λ o. found_in o j) there) ∙ sym (get_slots m n j h)
                ∙ sym (get_with_slot_other (n * 64 + at) (slot_of v) (slots_in m) (n * 64 + j) (λ e. off (omega (arith, e))))
          ])
      | inr ne ↦ ap (λ o. found_in o j) (get_inserted_other m n (set page at v) k ne) ∙ sym (get_slots m k j h)
          ∙ sym (get_with_slot_other (n * 64 + at) (slot_of v) (slots_in m) (k * 64 + j) (λ e. ne (omega (arith, e, h, low))))
    ]

    pub place_written : slots_in (insert m n (set page at v)) ≡ with_slot (n * 64 + at) (slot_of v) (slots_in m)
    place_written = same_numbered _ _ (λ q. get_slot _ q ∙ written (q / 64) (q % 64) (below q) ∙ ap (get (with_slot (n * 64 + at) (slot_of v) (slots_in m))) (whole q))

pub slot_below : (place : ℕ) → place ≢ 0 → Some (place - 1) ≡ slot_of place
slot_below zero ne = absurd (ne refl)
slot_below (suc s) ne = ap Some (omega arith)

some_page : (o : Option (List ℕ)) (j : ℕ) → IsSome (found_in o j) → IsSome o
some_page None j h = h
some_page (Some page) j h = refl

-- where an id has a slot its page is
pub page_there : (m : FinMap nat_cmp (List ℕ)) (id : ℕ) → IsSome (get (slots_in m) id) → IsSome (get m (id / 64))
page_there m id h = some_page (get m (id / 64)) (id % 64) (subst IsSome (get_slot m id) h)

all_zero : (page : List ℕ) → ((k : ℕ) → k < length page → get_or page k 0 ≡ 0) → (j : ℕ) → get_or page j 0 ≡ 0
all_zero page zeros j = elim (cases_lt j (length page)) [
  | inl within ↦ zeros j within
  | inr past ↦ get_or-eq_default page 0 past
]

-- a page of zeros says nothing
pub zeros_added : (m m' : FinMap nat_cmp (List ℕ)) (n : ℕ) → get m n ≡ None → m' ≡ insert m n (replicate 64 0) → slots_in m' ≡ slots_in m
zeros_added m m' n absent is = ap slots_in is ∙ blank_added m n (replicate 64 0) absent (λ j h. get_or-replicate 64 j 0 0 h)

pub zeros_removed : (m m' : FinMap nat_cmp (List ℕ)) (n : ℕ) (page : List ℕ) → get m n ≡ Some page → ((k : ℕ) → k < length page → get_or page k 0 ≡ 0) → m' ≡ remove m n → slots_in m' ≡ slots_in m
zeros_removed m m' n page there zeros is = ap slots_in is ∙ blank_removed m n page there (λ j h. all_zero page zeros j)

the_page : (o : Option (List ℕ)) → IsSome o → (page : List ℕ) × (o ≡ Some page)
the_page None h = absurd (cc)
the_page (Some page) h = (page, refl)

slot_of_next : (slot : ℕ) → slot_of (slot + 1) ≡ Some slot
slot_of_next slot = ap slot_of (add-one slot)

-- the place of an id is written
module _ (m m' : FinMap nat_cmp (List ℕ)) (id place : ℕ) (there : IsSome (get m (id / 64)))
    (long : (page : List ℕ) → get m (id / 64) ≡ Some page → length page ≡ 64)
    (written : (page : List ℕ) → get m (id / 64) ≡ Some page → m' ≡ insert m (id / 64) (set page (id % 64) place)) where
  pub still_there : IsSome (get m' (id / 64))
  still_there = let page = the_page _ there in subst IsSome (sym (ap (λ n. get n (id / 64)) (written page.0 page.1) ∙ get_inserted m (id / 64) _)) refl

  pub id_written : slots_in m' ≡ with_slot id (slot_of place) (slots_in m)
  id_written =
      let page = the_page _ there in
      let within : id % 64 < length page.0 = subst (λ (n : ℕ). id % 64 < n) (sym (long page.0 page.1)) (below id) in
      ap slots_in (written page.0 page.1) ∙ place_written m (id / 64) page.0 (id % 64) place page.1 within (below id)
      ∙ ap (λ i. with_slot i (slot_of place) (slots_in m)) (whole id)

  pub slot_put : (slot : ℕ) → place ≡ slot + 1 → slots_in m' ≡ insert (slots_in m) id slot
  slot_put slot is = id_written ∙ ap (λ o. with_slot id o (slots_in m)) (ap slot_of is ∙ slot_of_next slot)

  pub slot_cleared : place ≡ 0 → slots_in m' ≡ remove (slots_in m) id
  slot_cleared is = id_written ∙ ap (λ o. with_slot id o (slots_in m)) (ap slot_of is)

pub copied_none : {X : Type 0} (o : Option (Bor X)) → is_some o ≡ false → option_copied o ≡ None
copied_none None h = refl
copied_none (Some x) h = absurd (cc)

-- a page is added, or no memory is left
module _ {E : Type 0} where
  pub page_made : (r : Result (Unit {0}) E) (m m' : FinMap nat_cmp (List ℕ)) (n : ℕ) → get m n ≡ None
      → OnOk r (m' ≡ insert m n (replicate 64 0)) → OnErr r (m' ≡ m) → slots_in m' ≡ slots_in m
  page_made (Ok u) m m' n absent ok err = zeros_added m m' n absent ok
  page_made (Err e) m m' n absent ok err = ap slots_in err

  pub made_is_there : (r : Result (Unit {0}) E) (m m' : FinMap nat_cmp (List ℕ)) (n : ℕ) → OnOk r (m' ≡ insert m n (replicate 64 0)) → OnOk r (IsSome (get m' n))
  made_is_there (Ok u) m m' n ok = subst IsSome (sym (ap (λ p. get p n) ok ∙ get_inserted m n _)) refl
  made_is_there (Err e) m m' n ok = ok
