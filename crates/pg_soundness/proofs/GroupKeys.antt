-- The keys of groups: those of the rows, each once.
use Rattle.std.proofs.Common.{◌≡◌, Bool, true, false, ◌||◌, inl, inr, List, [], ◌∷◌, ◌++◌, Result, Ok, Ordering, Equal, Less, Greater, refl, sym, ap, ◌∙◌}
use Rattle.std.specs.List.{AllByRecursion, list_any}
use Rattle.std.specs.Ordering.{is_eq}
use Rattle.pg_meaning.specs.Answer.{each_answer}
use Rattle.pg_meaning.specs.AnswerLaws.{same_ok}
use Rattle.pg_meaning.specs.EntriesLaws.{both}
use Rattle.pg_meaning.specs.Lists.{IsIn, AllPairsByRecursion}
use Rattle.pg_meaning.specs.ListsLaws.{all_weaker, all_joined}
use Rattle.pg_meaning.specs.Meaning.{AreGroups}
use Rattle.pg_meaning.specs.Order.{value_order}
use Rattle.pg_meaning.specs.OrderLaws.{order_exact}
use Rattle.pg_soundness.proofs.ProjectedParts.{same_itself, same_turned}
use Rattle.pg_meaning.specs.Projections.{same_values, grouping_columns}
use Rattle.pg_meaning.specs.Rows.{Row}
use Rattle.pg_meaning.specs.Scopes.{Column}
use Rattle.pg_meaning.specs.Value.{Value}
use Rattle.pg_meaning.specs.declared.fault.Fault.{Fault}

abbrev pub Key : Type 0
Key = List Value

-- a row beside its key
abbrev pub Keyed : Type 0
Keyed = Key × Row

-- ---- keys that are the same

tied : (o : Ordering) → is_eq o ≡ true → o ≡ Equal
tied Less e = cc
tied Equal e = refl
tied Greater e = cc

pub same_exact : (k l : Key) → same_values k l ≡ true → k ≡ l
same_exact [] [] e = refl
same_exact [] (w ∷ ws) e = cc
same_exact (v ∷ vs) [] e = cc
same_exact (v ∷ vs) (w ∷ ws) e =
    let parts = both (is_eq (value_order v w)) (same_values vs ws) e in
    let first = order_exact v w (tied (value_order v w) parts.0) in
    let rest = same_exact vs ws parts.1 in
    λ i. first i ∷ rest i

-- ---- one key more

abbrev pub keys_with : Key → List Key → List Key
keys_with k [] = k ∷ []
keys_with k (l ∷ ls) = elim (same_values l k) [ true ↦ l ∷ ls | false ↦ l ∷ keys_with k ls ]

all_with : (P : Key → Type 0) (k : Key) (keys : List Key) → P k → AllByRecursion P keys → AllByRecursion P (keys_with k keys)
all_with P k [] p h = (p, tt)
all_with P k (l ∷ ls) p h =
    elim (same_values l k) as (λ b. AllByRecursion P (elim b [ true ↦ l ∷ ls | false ↦ l ∷ keys_with k ls ])) [ true ↦ h | false ↦ (h.0, all_with P k ls p h.1) ]

abbrev pub AreOnce : List Key → Type 0
AreOnce keys = AllPairsByRecursion (λ k l. same_values k l ≡ false) keys

once_with : (k : Key) (keys : List Key) → AreOnce keys → AreOnce (keys_with k keys)
once_with k [] h = (tt, tt)
once_with k (l ∷ ls) h =
    elim (same_values l k) as (λ b. same_values l k ≡ b → AreOnce (elim b [ true ↦ l ∷ ls | false ↦ l ∷ keys_with k ls ])) [
      | true ↦ λ e. h
      | false ↦ λ e. (all_with (λ m. same_values l m ≡ false) k ls e h.0, once_with k ls h.1)
    ] refl

or_later : (a b c : Bool) → (b ≡ true → c ≡ true) → (a || b) ≡ true → (a || c) ≡ true
or_later true b c f h = refl
or_later false b c f h = f h

among_with : (j k : Key) (keys : List Key) → list_any (same_values j) keys ≡ true → list_any (same_values j) (keys_with k keys) ≡ true
among_with j k [] h = cc
among_with j k (l ∷ ls) h =
    elim (same_values l k) as (λ b. list_any (same_values j) (elim b [ true ↦ l ∷ ls | false ↦ l ∷ keys_with k ls ]) ≡ true) [
      | true ↦ h
      | false ↦ or_later (same_values j l) (list_any (same_values j) ls) (list_any (same_values j) (keys_with k ls)) (among_with j k ls) h
    ]

own_with : (k : Key) (keys : List Key) → list_any (same_values k) (keys_with k keys) ≡ true
own_with k [] = ap (λ b. b || false) (same_itself k)
own_with k (l ∷ ls) =
    elim (same_values l k) as (λ b. same_values l k ≡ b → list_any (same_values k) (elim b [ true ↦ l ∷ ls | false ↦ l ∷ keys_with k ls ]) ≡ true) [
      | true ↦ λ e. ap (λ b. b || list_any (same_values k) ls) (same_turned k l ∙ e)
      | false ↦ λ e. or_later (same_values k l) true (list_any (same_values k) (keys_with k ls)) (λ t. own_with k ls) (either (same_values k l))
    ] refl
  where
    either : (a : Bool) → (a || true) ≡ true
    either true = refl
    either false = refl

-- ---- the keys of the rows so far

pub in_joined : {X : Type 0} (x : X) (xs ys : List X) → IsIn x xs → IsIn x (xs ++ ys)
in_joined x [] ys i = absurd i
in_joined x (y ∷ xs) ys (inl e) = inl e
in_joined x (y ∷ xs) ys (inr i) = inr (in_joined x xs ys i)

in_last : {X : Type 0} (x : X) (xs : List X) → IsIn x (xs ++ x ∷ [])
in_last x [] = inl refl
in_last x (y ∷ xs) = inr (in_last x xs)

abbrev KeysFrom : List Column → List Keyed → List Key → Type 0
KeysFrom [] done keys = keys ≡ [] ∷ []
KeysFrom (c ∷ cs) done keys = AllByRecursion (λ k. (row : Row) × IsIn (k, row) done) keys

pub record AreKeysOf (grouping : List Column) (done : List Keyed) (keys : List Key) : Type 0 where
  pub once : AreOnce keys
  pub among : AllByRecursion (λ (d : Keyed). list_any (same_values d.0) keys ≡ true) done
  pub from : KeysFrom grouping done keys

abbrev pub first_keys : List Column → List Key
first_keys [] = [] ∷ []
first_keys (c ∷ cs) = []

pub keys_begin : (grouping : List Column) → AreKeysOf grouping [] (first_keys grouping)
keys_begin [] = record { once = (tt, tt); among = tt; from = refl }
keys_begin (c ∷ cs) = record { once = tt; among = tt; from = tt }

from_more : (grouping : List Column) (f : Column → Result Value Fault) (done : List Keyed) (keys : List Key) (k : Key) (row : Row) → each_answer f grouping ≡ Ok k → KeysFrom grouping done keys → KeysFrom grouping (done ++ (k, row) ∷ []) (keys_with k keys)
from_more [] f done keys k row e h = let same = sym (same_ok [] k e) in λ i. keys_with (same i) (h i)
from_more (c ∷ cs) f done keys k row e h =
    all_with (λ l. (r : Row) × IsIn (l, r) (done ++ (k, row) ∷ [])) k keys (row, in_last (k, row) done)
    (all_weaker (λ l. (r : Row) × IsIn (l, r) done) (λ l. (r : Row) × IsIn (l, r) (done ++ (k, row) ∷ [])) (λ l h. (h.0, in_joined (l, h.0) done ((k, row) ∷ []) h.1)) keys h)

pub keys_more : (grouping : List Column) (f : Column → Result Value Fault) (done : List Keyed) (keys : List Key) (k : Key) (row : Row) → each_answer f grouping ≡ Ok k → AreKeysOf grouping done keys → AreKeysOf grouping (done ++ (k, row) ∷ []) (keys_with k keys)
keys_more grouping f done keys k row e h = record {
  once = once_with k keys h.once;
  among =
      all_joined (λ (d : Keyed). list_any (same_values d.0) (keys_with k keys) ≡ true) done ((k, row) ∷ [])
      (all_weaker (λ (d : Keyed). list_any (same_values d.0) keys ≡ true) (λ (d : Keyed). list_any (same_values d.0) (keys_with k keys) ≡ true) (λ d. among_with d.0 k keys) done h.among)
      (own_with k keys, tt);
  from = from_more grouping f done keys k row e h.from;
}

abbrev AreGroupsBy : List Column → List Keyed → List Key → Type 0
AreGroupsBy grouping keyed keys =
    elim grouping [
      | [] ↦ keys ≡ [] ∷ []
      | c ∷ cs ↦
          AllByRecursion (λ k. (row : Row) × IsIn (k, row) keyed) keys
          × AllByRecursion (λ k. list_any (same_values k.0) keys ≡ true) keyed
          × AllPairsByRecursion (λ k l. same_values k l ≡ false) keys
    ]

pub are_groups : (columns : List Column) (keyed : List Keyed) (keys : List Key) → AreKeysOf (grouping_columns columns) keyed keys → AreGroups columns keyed keys
are_groups columns keyed keys = by_grouping (grouping_columns columns)
  where
    by_grouping : (grouping : List Column) → AreKeysOf grouping keyed keys → AreGroupsBy grouping keyed keys
    by_grouping [] h = h.from
    by_grouping (c ∷ cs) h = (h.from, h.among, h.once)
