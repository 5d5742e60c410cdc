-- What one changed slot means to the maps that send ids to slots.
use Rattle.std.proofs.Common.{◌≡◌, ◌≢◌, ◌⊎◌, ℕ, Bool, true, false, Option, Some, None, IsSome, Bor, option_copied, inl, inr, refl, sym, ap, subst, ◌∙◌}
use Rattle.std.proofs.lemmas.Bool.{cases_eq}
use Rattle.std.specs.Ordering.{nat_cmp}
use Rattle.std.specs.FinMap as map
use Rattle.std.specs.FinMap.{FinMap}
use Rattle.pg_pool.specs.Slab.{Slab, get}
use Rattle.pg_graph.proofs.Maps.{get_inserted, get_inserted_other, get_removed, get_removed_other}
use Rattle.pg_pool.proofs.Values.{values_same, values_inserted, values_changed, values_removed}
use Rattle.pg_pool.specs.Records.{owner_of, label}
use Rattle.pg_pool.specs.Tables.{Finds}
use Rattle.pg_pool.specs.Values.{map_values}
use Rattle.pg_pool.specs.declared.pool.Record.{Record}

pub no_some : {A : Type 0} (a : A) → None ≢ Some a
no_some a e = cc

pub same_some : {A : Type 0} (a b : A) → Some a ≡ Some b → a ≡ b
same_some a b e = cc

pub true_not_false : true ≢ false
true_not_false e = cc

pub read_some : {X : Type 0} (r : Option (Bor X)) → IsSome (option_copied r) → IsSome r
read_some None h = h
read_some (Some x) h = refl

-- the slot is empty or the owner's
abbrev pub IsOwn : ℕ → Option Record → Type 0
IsOwn owner None = Unit {0}
IsOwn owner (Some r) = owner_of r ≡ owner

-- no slot changed but the owner's and empty ones
abbrev pub OnlyOwn : ℕ → Slab Record → Slab Record → Type 0
OnlyOwn owner old new = (key : ℕ) → (get new key ≡ get old key) ⊎ (IsOwn owner (get old key) × IsOwn owner (get new key))

-- every slot but one is as it was
abbrev pub AllBut : ℕ → Slab Record → Slab Record → Type 0
AllBut key old new = (k : ℕ) → k ≢ key → get new k ≡ get old k

-- a slot has no record of this owner and kind
abbrev pub HasNone : Bool → ℕ → Option Record → Type 0
HasNone b o s = (id : ℕ) → label s ≢ Some (o, (b, id))

-- an owner's slot has the owner's number in its label
own_label : (s : Option Record) (o n : ℕ) (x : Bool × ℕ) → IsOwn o s → label s ≡ Some (n, x) → n ≡ o
own_label None o n x own e = absurd (no_some _ e)
own_label (Some r) o n x own e = sym (ap (λ p. p.0) (same_some _ _ e)) ∙ own

pub labelled_some : (s : Option Record) (o : ℕ) (x : Bool × ℕ) → label s ≡ Some (o, x) → IsSome s
labelled_some None o x e = absurd (no_some _ e)
labelled_some (Some r) o x e = refl

pub own_of_label : (s : Option Record) (o : ℕ) (x : Bool × ℕ) → label s ≡ Some (o, x) → IsOwn o s
own_of_label None o x e = absurd (no_some _ e)
own_of_label (Some r) o x e = ap (λ p. p.0) (same_some _ _ e)

pub own_of_none : (s : Option Record) (o : ℕ) → s ≡ None → IsOwn o s
own_of_none s o e = subst (IsOwn o) (sym e) tt

pub none_of_none : (b : Bool) (o : ℕ) (s : Option Record) → s ≡ None → HasNone b o s
none_of_none b o s e id l = no_some _ (sym (ap label e) ∙ l)

-- a label of another kind
pub none_of_other : (b c : Bool) (o id : ℕ) (s : Option Record) → c ≢ b → label s ≡ Some (o, (c, id)) → HasNone b o s
none_of_other b c o id s ne l j m = ne (ap (λ p. p.1.0) (same_some _ _ (sym l ∙ m)))

pub only_own : (o key : ℕ) (old new : Slab Record) → AllBut key old new → IsOwn o (get old key) → IsOwn o (get new key) → OnlyOwn o old new
only_own o key old new but before after k = elim (cases_eq k key) [
  | inl same ↦ inr (subst (λ (j : ℕ). IsOwn o (get old j)) (sym same) before, subst (λ (j : ℕ). IsOwn o (get new j)) (sym same) after)
  | inr ne ↦ inl (but k ne)
]

module _ (o : ℕ) (old new : Slab Record) (only : OnlyOwn o old new) where
  -- a slot that another owner has, before or after, is as it was
  pub kept_before : (key n : ℕ) (x : Bool × ℕ) → n ≢ o → label (get old key) ≡ Some (n, x) → get new key ≡ get old key
  kept_before key n x apart e = elim (only key) [ inl same ↦ same | inr own ↦ absurd (apart (own_label (get old key) o n x own.0 e)) ]

  pub kept_after : (key n : ℕ) (x : Bool × ℕ) → n ≢ o → label (get new key) ≡ Some (n, x) → get new key ≡ get old key
  kept_after key n x apart e = elim (only key) [ inl same ↦ same | inr own ↦ absurd (apart (own_label (get new key) o n x own.1 e)) ]

  pub others_find : (b : Bool) (n : ℕ) (ids : FinMap nat_cmp ℕ) → n ≢ o → Finds b n ids old → Finds b n ids new
  others_find b n ids apart finds id key = (
    λ e. let was = (finds id key).0 e in ap label (kept_before key n _ apart was) ∙ was,
    λ e. (finds id key).1 (ap label (sym (kept_after key n _ apart e)) ∙ e),
  )

  pub others_hold : {V : Type 0} (v : Option Record → V) (b : Bool) (n : ℕ) (ids : FinMap nat_cmp ℕ) → n ≢ o → Finds b n ids old → map_values (λ k. v (get new k)) ids ≡ map_values (λ k. v (get old k)) ids
  others_hold v b n ids apart finds = values_same (λ k. v (get old k)) (λ k. v (get new k)) ids (λ id key found. ap v (kept_before key n _ apart ((finds id key).0 found)))

-- nothing is found where no record is the owner's
pub finds_empty : (b : Bool) (o : ℕ) (slots : Slab Record) → ((key id : ℕ) → label (get slots key) ≢ Some (o, (b, id))) → Finds b o map.empty slots
finds_empty b o slots unused id key = (λ e. absurd (no_some _ (sym (map.get-empty nat_cmp id) ∙ e)), λ e. absurd (unused key id e))

module _ (b : Bool) (o : ℕ) (ids : FinMap nat_cmp ℕ) (old new : Slab Record) (key : ℕ) (but : AllBut key old new) (finds : Finds b o ids old) where
  -- the changed slot has nothing to do with these ids
  pub finds_untouched : HasNone b o (get old key) → HasNone b o (get new key) → Finds b o ids new
  finds_untouched before after id k = elim (cases_eq k key) [
    | inl same ↦ (
      λ e. absurd (before id (subst (λ (j : ℕ). label (get old j) ≡ Some (o, (b, id))) same ((finds id k).0 e))),
      λ e. absurd (after id (subst (λ (j : ℕ). label (get new j) ≡ Some (o, (b, id))) same e)),
    )
    | inr ne ↦ (λ e. ap label (but k ne) ∙ (finds id k).0 e, λ e. (finds id k).1 (ap label (sym (but k ne)) ∙ e))
  ]

  -- the changed slot keeps its label
  pub finds_relabelled : label (get new key) ≡ label (get old key) → Finds b o ids new
  finds_relabelled kept id k = elim (cases_eq k key) [
    | inl same ↦
        let e = subst (λ (j : ℕ). label (get new j) ≡ label (get old j)) (sym same) kept in
        (λ h. e ∙ (finds id k).0 h, λ h. (finds id k).1 (sym e ∙ h))
    | inr ne ↦ (λ e. ap label (but k ne) ∙ (finds id k).0 e, λ e. (finds id k).1 (ap label (sym (but k ne)) ∙ e))
  ]

  -- an id without a slot gets an empty one
  pub finds_added : (id : ℕ) → map.get ids id ≡ None → get old key ≡ None → label (get new key) ≡ Some (o, (b, id)) → Finds b o (map.insert ids id key) new
  finds_added id absent empty labelled j k = elim (cases_eq j id) [
    | inl same ↦ (
      λ e.
          let keys : key ≡ k = same_some _ _ (sym (get_inserted ids id key) ∙ subst (λ (i : ℕ). map.get (map.insert ids id key) i ≡ Some k) same e) in
          subst (λ (i : ℕ). label (get new i) ≡ Some (o, (b, j))) keys (labelled ∙ ap (λ i. Some (o, (b, i))) (sym same)),
      λ e. elim (cases_eq k key) [
        | inl here ↦ subst (λ (i : ℕ). map.get (map.insert ids id key) i ≡ Some k) (sym same) (get_inserted ids id key ∙ ap Some (sym here))
        | inr ne ↦ absurd (no_some _ (sym absent ∙ (finds id k).1 (ap label (sym (but k ne)) ∙ subst (λ (i : ℕ). label (get new k) ≡ Some (o, (b, i))) same e)))
      ],
    )
    | inr other ↦ elim (cases_eq k key) [
      | inl here ↦ (
        λ e. absurd (no_some _ (sym (ap label empty) ∙ subst (λ (i : ℕ). label (get old i) ≡ Some (o, (b, j))) here ((finds j k).0 (sym (get_inserted_other ids id key j other) ∙ e)))),
        λ e. absurd (other (sym (ap (λ p. p.1.1) (same_some _ _ (sym labelled ∙ subst (λ (i : ℕ). label (get new i) ≡ Some (o, (b, j))) here e))))),
      )
      | inr ne ↦ (
        λ e. ap label (but k ne) ∙ (finds j k).0 (sym (get_inserted_other ids id key j other) ∙ e),
        λ e. get_inserted_other ids id key j other ∙ (finds j k).1 (ap label (sym (but k ne)) ∙ e),
      )
    ]
  ]

  -- an id's slot is emptied
  pub finds_removed : (id : ℕ) → map.get ids id ≡ Some key → get new key ≡ None → Finds b o (map.remove ids id) new
  finds_removed id there empty j k = elim (cases_eq j id) [
    | inl same ↦ (
      λ e. absurd (no_some _ (sym (get_removed ids id) ∙ subst (λ (i : ℕ). map.get (map.remove ids id) i ≡ Some k) same e)),
      λ e. elim (cases_eq k key) [
        | inl here ↦ absurd (no_some _ (sym (ap label empty) ∙ subst (λ (i : ℕ). label (get new i) ≡ Some (o, (b, j))) here e))
        | inr ne ↦ absurd (ne (same_some _ _ (sym ((finds id k).1 (ap label (sym (but k ne)) ∙ subst (λ (i : ℕ). label (get new k) ≡ Some (o, (b, i))) same e)) ∙ there)))
      ],
    )
    | inr other ↦ elim (cases_eq k key) [
      | inl here ↦ (
        λ e. absurd (other (ap (λ p. p.1.1) (same_some _ _ (sym ((finds j k).0 (sym (get_removed_other ids id j other) ∙ e)) ∙ subst (λ (i : ℕ). label (get old i) ≡ Some (o, (b, id))) (sym here) ((finds id key).0 there))))),
        λ e. absurd (no_some _ (sym (ap label empty) ∙ subst (λ (i : ℕ). label (get new i) ≡ Some (o, (b, j))) here e)),
      )
      | inr ne ↦ (
        λ e. ap label (but k ne) ∙ (finds j k).0 (sym (get_removed_other ids id j other) ∙ e),
        λ e. get_removed_other ids id j other ∙ (finds j k).1 (ap label (sym (but k ne)) ∙ e),
      )
    ]
  ]

  -- a slot without a record of this owner and kind is no id's
  not_found : HasNone b o (get old key) → (j k : ℕ) → map.get ids j ≡ Some k → k ≢ key
  not_found none j k found same = none j (subst (λ (i : ℕ). label (get old i) ≡ Some (o, (b, j))) same ((finds j k).0 found))

  -- an id's slot is no other id's
  one_found : (id : ℕ) → map.get ids id ≡ Some key → (j k : ℕ) → j ≢ id → map.get ids j ≡ Some k → k ≢ key
  one_found id there j k other found same =
      other (ap (λ p. p.1.1) (same_some _ _ (sym ((finds j k).0 found) ∙ subst (λ (i : ℕ). label (get old i) ≡ Some (o, (b, id))) (sym same) ((finds id key).0 there))))

  -- what the ids' slots have, by a reading of slots
  module _ {V : Type 0} (v : Option Record → V) where
    pub holds_untouched : HasNone b o (get old key) → map_values (λ k. v (get new k)) ids ≡ map_values (λ k. v (get old k)) ids
    holds_untouched none = values_same (λ k. v (get old k)) (λ k. v (get new k)) ids (λ j k found. ap v (but k (not_found none j k found)))

    pub holds_added : (id : ℕ) → get old key ≡ None → map_values (λ k. v (get new k)) (map.insert ids id key) ≡ map.insert (map_values (λ k. v (get old k)) ids) id (v (get new key))
    holds_added id empty =
        values_inserted (λ k. v (get old k)) (λ k. v (get new k)) ids id key (v (get new key)) refl
        (λ j k other found. ap v (but k (not_found (none_of_none b o _ empty) j k found)))

    pub holds_changed : (id : ℕ) → map.get ids id ≡ Some key → map_values (λ k. v (get new k)) ids ≡ map.insert (map_values (λ k. v (get old k)) ids) id (v (get new key))
    holds_changed id there =
        values_changed (λ k. v (get old k)) (λ k. v (get new k)) ids id key (v (get new key)) there refl
        (λ j k other found. ap v (but k (one_found id there j k other found)))

    pub holds_removed : (id : ℕ) → map.get ids id ≡ Some key → map_values (λ k. v (get new k)) (map.remove ids id) ≡ map.remove (map_values (λ k. v (get old k)) ids) id
    holds_removed id there =
        values_removed (λ k. v (get old k)) (λ k. v (get new k)) ids id
        (λ j k other found. ap v (but k (one_found id there j k other found)))
