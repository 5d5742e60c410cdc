-- What changes of one list do to the lists under nodes.
use Rattle.std.proofs.Common.{◌≡◌, ◌≢◌, ◌==◌, ◌<◌, ℕ, zero, suc, Bool, true, false, cond, List, [], ◌∷◌, length, Option, Some, None, IsSome, Result, Ok, Err, OnErr, inl, inr, refl, sym, ap, subst, ◌∙◌, arith}
use Rattle.std.proofs.lemmas.Bool.{cases_eq}
use Rattle.std.proofs.lemmas.Bool.Decides.{nat_tests}
use Rattle.std.specs.FinMap as map
use Rattle.std.specs.FinMap.{FinMap}
use Rattle.std.specs.Ordering.{nat_cmp}
use Rattle.pg_pool.specs.Slab.{Slab, get, Updates}
use Rattle.pg_graph.proofs.Ids.{ids_rise, list_with, at_node}
use Rattle.std.proofs.lemmas.List.{length-map}
use Rattle.std.specs.List.{HoldsAt}
use Rattle.std.specs.declared.cmp.Ordering.TheVariants.{Equal}
use Rattle.pg_graph.proofs.SortedLists.{put_itself}
use Rattle.pg_graph.proofs.Maps.{same_numbered, put_same, get_inserted, get_inserted_other, get_removed, get_removed_other}
use Rattle.pg_graph.specs.Content.{ids_where}
use Rattle.pg_graph.specs.Links.{numbers, with_id}
use Rattle.pg_graph.specs.Sorted.{Rises}
use Rattle.pg_graph.specs.declared.records.RelRecord.{RelRecord}
use Rattle.pg_value_core.specs.declared.ids.RelId.{RelId}
use Rattle.pg_pool.proofs.SlotChanges.{no_some, same_some}
use Rattle.pg_pool.specs.Places.{ids_of}
use Rattle.pg_pool.specs.declared.ids.Ids.{Ids}
use Rattle.pg_pool.specs.Lists.{ids_in, list_at, Replaces, AreApart, IsSound, IsIncidence}
use Rattle.pg_pool.specs.declared.links.Incidence.{Incidence}

same_test : (q n : ℕ) → q ≡ n → (q == n) ≡ true
same_test q n e = grind (arith, nat_tests)

apart_test : (q n : ℕ) → q ≢ n → (q == n) ≡ false
apart_test q n e = grind (arith, nat_tests)

not_none : {X : Type 0} (o : Option X) → o ≡ None → IsSome o → ⊥
not_none None e h = cc
not_none (Some x) e h = cc

pub on_err_weaker : {A E P Q : Type 0} (r : Result A E) → (P → Q) → OnErr r P → OnErr r Q
on_err_weaker (Ok a) f h = tt
on_err_weaker (Err e) f h = f h

pub nothing : {X : Type 0} (xs : List X) → (length xs == 0) ≡ true → xs ≡ []
nothing [] h = refl
nothing (x ∷ xs) h = absurd (omega (arith, zero_only (length (x ∷ xs)) h))
  where
    zero_only : (n : ℕ) → (n == 0) ≡ true → n ≡ 0
    zero_only n h = grind (arith, nat_tests)

held_number : (k : ℕ) (xs : List RelId) (i : ℕ) → i < length xs → HoldsAt (λ (r : RelId). nat_cmp r.0 k ≡ Equal) xs i → HoldsAt (λ n. nat_cmp n k ≡ Equal) (numbers xs) i
held_number k [] i within h d = absurd (omega (arith, within))
held_number k (x ∷ xs) zero within h d = h x
held_number k (x ∷ xs) (suc i) within h d = held_number k xs i (omega (arith, within)) h d

below_numbers : (xs : List RelId) (i : ℕ) → i < length xs → i < length (numbers xs)
below_numbers xs i h = subst (λ n. i < n) (sym (length-map xs (λ (r : RelId). r.0))) h

-- an id that is there changes nothing
pub put_there : (k : ℕ) (xs : List RelId) (i : ℕ) → Rises (λ n. n) (numbers xs) → i < length xs → HoldsAt (λ (r : RelId). nat_cmp r.0 k ≡ Equal) xs i → with_id k (numbers xs) ≡ numbers xs
put_there k xs i rises h at = put_itself k (numbers xs) i rises (below_numbers xs i h) (held_number k xs i h at)

abbrev pub Lists : Type 0
Lists = Slab Ids

-- lists in which no key of another node changed
pub at_one : (node : ℕ) (o : Option ℕ → List ℕ) (places places' : FinMap nat_cmp ℕ) (at : Option ℕ → List ℕ) (now : List ℕ)
    → at (map.get places' node) ≡ now → ((q : ℕ) → q ≢ node → at (map.get places' q) ≡ o (map.get places q))
    → (q : ℕ) → at (map.get places' q) ≡ cond (q == node) now (o (map.get places q))
at_one node o places places' at now here others q = elim (cases_eq q node) [
  | inl same ↦ subst (λ (n : ℕ). at (map.get places' n) ≡ cond (n == node) now (o (map.get places n))) (sym same) (here ∙ sym (ap (λ b. cond b now (o (map.get places node))) (same_test node node refl)))
  | inr ne ↦ others q ne ∙ sym (ap (λ b. cond b now (o (map.get places q))) (apart_test q node ne))
]

module _ (places : FinMap nat_cmp ℕ) (lists lists' : Lists) (key node : ℕ) (apart : AreApart places lists) where
  -- another node's key is as it was
  kept : (places' : FinMap nat_cmp ℕ) → ((k : ℕ) → k ≢ key → get lists' k ≡ get lists k) → (q : ℕ) → map.get places' q ≡ map.get places q
      → ((k : ℕ) → map.get places q ≡ Some k → k ≢ key) → list_at lists' (map.get places' q) ≡ list_at lists (map.get places q)
  kept places' others q same other = ap (list_at lists') same ∙ by (map.get places q) other
    where
      by : (o : Option ℕ) → ((k : ℕ) → o ≡ Some k → k ≢ key) → list_at lists' o ≡ list_at lists o
      by None h = refl
      by (Some k) h = ap ids_in (others k (h k refl))

  module _ (there : map.get places node ≡ Some key) where
    -- no other node has this key
    no_other : (q : ℕ) → q ≢ node → (k : ℕ) → map.get places q ≡ Some k → k ≢ key
    no_other q ne k at same = ne (apart.once q node key (at ∙ ap Some same) there)

    pub list_changed : (ids : Ids) → Updates lists lists' key (Some ids) → (q : ℕ) → list_at lists' (map.get places q) ≡ cond (q == node) (numbers (ids_of ids)) (list_at lists (map.get places q))
    list_changed ids up = at_one node (list_at lists) places places (list_at lists') (numbers (ids_of ids)) (ap (list_at lists') there ∙ ap ids_in up.changed)
        (λ q ne. kept places up.others q refl (no_other q ne))

    pub changed_apart : (ids : Ids) → Updates lists lists' key (Some ids) → AreApart places lists'
    changed_apart ids up = record {
      there = λ q k at. elim (cases_eq k key) [
        | inl same ↦ subst (λ (j : ℕ). IsSome (get lists' j)) (sym same) (subst IsSome (sym up.changed) refl)
        | inr ne ↦ subst IsSome (sym (up.others k ne)) (apart.there q k at)
      ];
      once = apart.once;
    }

    pub list_replaced : (f : List ℕ → List ℕ) → Replaces key f lists lists' → (q : ℕ) → list_at lists' (map.get places q) ≡ cond (q == node) (f (list_at lists (map.get places q))) (list_at lists (map.get places q))
    list_replaced f r q =
        list_changed r.ids r.updates q
        ∙ at_node f (λ n. list_at lists (map.get places n)) node q _ (r.told ∙ ap (λ o. f (list_at lists o)) (sym there))

    pub list_kept : Replaces key (λ ids. ids) lists lists' → (q : ℕ) → list_at lists' (map.get places q) ≡ list_at lists (map.get places q)
    list_kept r q = list_replaced (λ ids. ids) r q ∙ either (q == node) (list_at lists (map.get places q))
      where
        either : (b : Bool) (xs : List ℕ) → cond b xs xs ≡ xs
        either true xs = refl
        either false xs = refl

    pub replaced_apart : (f : List ℕ → List ℕ) → Replaces key f lists lists' → AreApart places lists'
    replaced_apart f r = changed_apart r.ids r.updates

    module _ (places' : FinMap nat_cmp ℕ) (removed : places' ≡ map.remove places node) (up : Updates lists lists' key None) where
      gone : map.get places' node ≡ None
      gone = ap (λ m. map.get m node) removed ∙ get_removed places node

      stays : (q : ℕ) → q ≢ node → map.get places' q ≡ map.get places q
      stays q ne = ap (λ m. map.get m q) removed ∙ get_removed_other places node q ne

      -- an empty list is taken away
      pub list_ended : list_at lists (Some key) ≡ [] → (q : ℕ) → list_at lists' (map.get places' q) ≡ list_at lists (map.get places q)
      list_ended empty q = elim (cases_eq q node) [
        | inl same ↦ subst (λ (n : ℕ). list_at lists' (map.get places' n) ≡ list_at lists (map.get places n)) (sym same) (ap (list_at lists') gone ∙ sym empty ∙ sym (ap (list_at lists) there))
        | inr ne ↦ kept places' up.others q (stays q ne) (no_other q ne)
      ]

      other_of : (q k : ℕ) → map.get places' q ≡ Some k → q ≢ node
      other_of q k at same = no_some k (sym gone ∙ subst (λ (n : ℕ). map.get places' n ≡ Some k) same at)

      pub ended_apart : AreApart places' lists'
      ended_apart = record {
        there = λ q k at. let ne = other_of q k at in let was = sym (stays q ne) ∙ at in subst IsSome (sym (up.others k (no_other q ne k was))) (apart.there q k was);
        once = λ q p k at at'. apart.once q p k (sym (stays q (other_of q k at)) ∙ at) (sym (stays p (other_of p k at')) ∙ at');
      }

  module _ (absent : map.get places node ≡ None) (empty : get lists key ≡ None) (ids : Ids) (up : Updates lists lists' key (Some ids))
      (places' : FinMap nat_cmp ℕ) (inserted : places' ≡ map.insert places node key) where
    new_key : map.get places' node ≡ Some key
    new_key = ap (λ m. map.get m node) inserted ∙ get_inserted places node key

    as_before : (q : ℕ) → q ≢ node → map.get places' q ≡ map.get places q
    as_before q ne = ap (λ m. map.get m q) inserted ∙ get_inserted_other places node key q ne

    -- no node had this key
    unused : (q k : ℕ) → map.get places q ≡ Some k → k ≢ key
    unused q k at same = not_none (get lists key) empty (subst (λ (j : ℕ). IsSome (get lists j)) same (apart.there q k at))

    pub list_begun : (q : ℕ) → list_at lists' (map.get places' q) ≡ cond (q == node) (numbers (ids_of ids)) (list_at lists (map.get places q))
    list_begun = at_one node (list_at lists) places places' (list_at lists') (numbers (ids_of ids)) (ap (list_at lists') new_key ∙ ap ids_in up.changed)
        (λ q ne. kept places' up.others q (as_before q ne) (unused q))

    key_of : (q k : ℕ) → map.get places' q ≡ Some k → q ≢ node → k ≢ key
    key_of q k at ne = unused q k (sym (as_before q ne) ∙ at)

    its_key : (q k : ℕ) → map.get places' q ≡ Some k → q ≡ node → k ≡ key
    its_key q k at same = same_some _ _ (sym at ∙ ap (map.get places') same ∙ new_key)

    pub begun_apart : AreApart places' lists'
    begun_apart = record {
      there = λ q k at. elim (cases_eq k key) [
        | inl same ↦ subst (λ (j : ℕ). IsSome (get lists' j)) (sym same) (subst IsSome (sym up.changed) refl)
        | inr ne ↦ elim (cases_eq q node) [
          | inl own ↦ absurd (ne (its_key q k at own))
          | inr other ↦ subst IsSome (sym (up.others k ne)) (apart.there q k (sym (as_before q other) ∙ at))
        ]
      ];
      once = λ q p k at at'. elim (cases_eq q node) [
        | inl own ↦ elim (cases_eq p node) [
          | inl own' ↦ own ∙ sym own'
          | inr other' ↦ absurd (key_of p k at' other' (its_key q k at own))
        ]
        | inr other ↦ elim (cases_eq p node) [
          | inl own' ↦ absurd (key_of q k at other (its_key p k at' own'))
          | inr other' ↦ apart.once q p k (sym (as_before q other) ∙ at) (sym (as_before p other') ∙ at')
        ]
      ];
    }

-- lists that are the same under each key
pub same_apart : (places : FinMap nat_cmp ℕ) (lists lists' : Lists) → ((k : ℕ) → get lists' k ≡ get lists k) → AreApart places lists → AreApart places lists'
same_apart places lists lists' same apart = record { there = λ q k at. subst IsSome (sym (same k)) (apart.there q k at); once = apart.once }

pub same_lists : (places : FinMap nat_cmp ℕ) (lists lists' : Lists) → ((k : ℕ) → get lists' k ≡ get lists k) → (q : ℕ) → list_at lists' (map.get places q) ≡ list_at lists (map.get places q)
same_lists places lists lists' same q = by (map.get places q)
  where
    by : (o : Option ℕ) → list_at lists' o ≡ list_at lists o
    by None = refl
    by (Some k) = ap ids_in (same k)

module _ (i : Incidence) (rels : FinMap nat_cmp RelRecord) (is : IsIncidence i rels) where
  pub outgoing_sound : IsSound i.outgoing
  outgoing_sound = record { rises = λ q. subst (Rises (λ n. n)) (sym (is.outgoing q)) (ids_rise (λ r. r.source.0 == q) rels); apart = is.outgoing_apart }

  pub incoming_sound : IsSound i.incoming
  incoming_sound = record { rises = λ q. subst (Rises (λ n. n)) (sym (is.incoming q)) (ids_rise (λ r. r.target.0 == q) rels); apart = is.incoming_apart }

pub empty_apart : (places : FinMap nat_cmp ℕ) (lists : Lists) → places ≡ map.empty → AreApart places lists
empty_apart places lists none = record {
  there = λ q k at. absurd (no_some k (sym (map.get-empty nat_cmp q) ∙ ap (λ m. map.get m q) (sym none) ∙ at));
  once = λ q p k at at'. absurd (no_some k (sym (map.get-empty nat_cmp q) ∙ ap (λ m. map.get m q) (sym none) ∙ at));
}

module _ {X : Type 0} (m : FinMap nat_cmp X) (k : ℕ) where
  overwritten : (v : X) → map.insert (map.remove m k) k v ≡ map.insert m k v
  overwritten v = same_numbered _ _ (λ q. elim (cases_eq q k) [
    | inl same ↦ subst (λ (r : ℕ). map.get (map.insert (map.remove m k) k v) r ≡ map.get (map.insert m k v) r) (sym same) (get_inserted (map.remove m k) k v ∙ sym (get_inserted m k v))
    | inr ne ↦ get_inserted_other (map.remove m k) k v q ne ∙ get_removed_other m k q ne ∙ sym (get_inserted_other m k v q ne)
  ])

  ids_replaced : (p : X → Bool) (old new : X) → map.get m k ≡ Some old → p new ≡ p old → ids_where p (map.insert m k new) ≡ ids_where p m
  ids_replaced p old new there same =
      ap (ids_where p) (sym (overwritten new))
      ∙ sym (list_with p (map.remove m k) k new (p new) refl (get_removed m k))
      ∙ ap (λ b. cond b (with_id k (ids_where p (map.remove m k))) (ids_where p (map.remove m k))) same
      ∙ list_with p (map.remove m k) k old (p old) refl (get_removed m k)
      ∙ ap (ids_where p) (overwritten old ∙ put_same m k old there)

-- a relationship that keeps its ends changes no list
pub ends_stay : (i : Incidence) (rels : FinMap nat_cmp RelRecord) → IsIncidence i rels → (id : ℕ) (old new : RelRecord) → map.get rels id ≡ Some old → new.source ≡ old.source → new.target ≡ old.target → IsIncidence i (map.insert rels id new)
ends_stay i rels is id old new there source target = record {
  outgoing = λ q. is.outgoing q ∙ sym (ids_replaced rels id (λ r. r.source.0 == q) old new there (ap (λ n. n.0 == q) source));
  incoming = λ q. is.incoming q ∙ sym (ids_replaced rels id (λ r. r.target.0 == q) old new there (ap (λ n. n.0 == q) target));
  outgoing_apart = is.outgoing_apart;
  incoming_apart = is.incoming_apart;
}
