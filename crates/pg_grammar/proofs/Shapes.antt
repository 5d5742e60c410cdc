-- The clauses of a query, as its parts group them.
use Rattle.std.proofs.Common.{◌≡◌, ◌⊎◌, inl, inr, Bool, true, false, List, [], ◌∷◌, ◌++◌, map, refl, sym, ap, subst, append_assoc}
use Rattle.std.specs.List.{AllByRecursion}
use Rattle.pg_meaning.specs.Tree.{Clause}
use Rattle.pg_meaning.specs.Grammar.{IsNonEmpty, AreParts, Kind, reading, updating, passing, returning, kind_of}

abbrev pub kinds : List Clause → List Kind
kinds cs = map kind_of cs

abbrev pub AllOf : Kind → List Clause → Type 0
AllOf a cs = AllByRecursion (λ c. kind_of c ≡ a) cs

-- WITH and the further parts
abbrev pub Passes : List Clause → Type 0
Passes ds = (c : Clause) × (others : List Clause) × (ds ≡ c ∷ others) × (kind_of c ≡ passing) × AreParts false (kinds others)

abbrev pub Returns : List Clause → Type 0
Returns ds = (c : Clause) × (ds ≡ c ∷ []) × (kind_of c ≡ returning)

-- updating clauses alone
abbrev pub Stops : List Clause → List Clause → Type 0
Stops us ds = IsNonEmpty us × (ds ≡ [])

abbrev pub Ending : List Clause → List Clause → Type 0
Ending us ds = Passes ds ⊎ (Returns ds ⊎ Stops us ds)

-- the clauses of one part, and what follows
pub record Shape (cs : List Clause) : Type 0 where
  pub reads : List Clause
  pub updates : List Clause
  pub left : List Clause
  pub whole : cs ≡ reads ++ updates ++ left
  pub reading : AllOf reading reads
  pub updating : AllOf updating updates
  pub ending : Ending updates left

no_kinds : (cs : List Clause) → kinds cs ≡ [] → cs ≡ []
no_kinds [] e = refl
no_kinds (c ∷ cs) e = absurd cc

-- behind an updating clause
record Updates (cs : List Clause) : Type 0 where
  updates : List Clause
  left : List Clause
  whole : cs ≡ updates ++ left
  updating : AllOf updating updates
  ending : Passes left ⊎ (Returns left ⊎ (left ≡ []))

updates_of : (cs : List Clause) → AreParts true (kinds cs) → Updates cs
updates_of [] h = record { updates = []; left = []; whole = refl; updating = tt; ending = inr (inr refl) }
updates_of (c ∷ cs) h = by (updates_of cs) (kind_of c) refl h
  where
    by : (AreParts true (kinds cs) → Updates cs) → (a : Kind) → kind_of c ≡ a → AreParts true (a ∷ kinds cs) → Updates (c ∷ cs)
    by again reading e h = absurd (let bad = h.0 in cc)
    by again updating e h = let r = again h in record { updates = c ∷ r.updates; left = r.left; whole = ap (λ (l : List Clause). c ∷ l) r.whole; updating = (e, r.updating); ending = r.ending }
    by again passing e h = record { updates = []; left = c ∷ cs; whole = refl; updating = tt; ending = inl (c, cs, refl, e, h) }
    by again returning e h = record { updates = []; left = c ∷ cs; whole = refl; updating = tt; ending = inr (inl (c, ap (λ (l : List Clause). c ∷ l) (no_kinds cs h), e)) }

begun_ending : (c : Clause) (us ds : List Clause) → Passes ds ⊎ (Returns ds ⊎ (ds ≡ [])) → Ending (c ∷ us) ds
begun_ending c us ds (inl h) = inl h
begun_ending c us ds (inr (inl h)) = inr (inl h)
begun_ending c us ds (inr (inr h)) = inr (inr (tt, h))

pub shape_of : (cs : List Clause) → AreParts false (kinds cs) → Shape cs
shape_of [] h = absurd (let bad : false ≡ true = h in cc)
shape_of (c ∷ cs) h = by (shape_of cs) (kind_of c) refl h
  where
    by : (AreParts false (kinds cs) → Shape cs) → (a : Kind) → kind_of c ≡ a → AreParts false (a ∷ kinds cs) → Shape (c ∷ cs)
    by again reading e h = let r = again h.1 in record { reads = c ∷ r.reads; updates = r.updates; left = r.left; whole = ap (λ (l : List Clause). c ∷ l) r.whole; reading = (e, r.reading); updating = r.updating; ending = r.ending }
    by again updating e h =
        let r = updates_of cs h in
        record { reads = []; updates = c ∷ r.updates; left = r.left; whole = ap (λ (l : List Clause). c ∷ l) r.whole; reading = tt; updating = (e, r.updating); ending = begun_ending c r.updates r.left r.ending }
    by again passing e h = record { reads = []; updates = []; left = c ∷ cs; whole = refl; reading = tt; updating = tt; ending = inl (c, cs, refl, e, h) }
    by again returning e h = record { reads = []; updates = []; left = c ∷ cs; whole = refl; reading = tt; updating = tt; ending = inr (inl (c, ap (λ (l : List Clause). c ∷ l) (no_kinds cs h), e)) }

-- ---- the other way

updated : (us ds : List Clause) (b : Bool) → AllOf updating us → ((a : Bool) → AreParts a (kinds ds)) → AreParts b (kinds (us ++ ds))
updated [] ds b all h = h b
updated (c ∷ us) ds b all h = rw all.0 (updated us ds true all.1 h)

updated_alone : (us : List Clause) → AllOf updating us → AreParts true (kinds (us ++ []))
updated_alone [] all = refl
updated_alone (c ∷ us) all = rw all.0 (updated_alone us all.1)

ended : (ds : List Clause) → Passes ds ⊎ Returns ds → (b : Bool) → AreParts b (kinds ds)
ended ds (inl h) b = rw (h.2, h.3) h.4
ended ds (inr h) b = rw (h.1, h.2) refl

updates_made : (us ds : List Clause) → AllOf updating us → Ending us ds → AreParts false (kinds (us ++ ds))
updates_made us ds all (inl h) = updated us ds false all (ended ds (inl h))
updates_made us ds all (inr (inl h)) = updated us ds false all (ended ds (inr h))
updates_made [] ds all (inr (inr h)) = absurd h.0
updates_made (c ∷ us) ds all (inr (inr h)) = rw (all.0, h.1) (updated_alone us all.1)

readings_made : (rs ds : List Clause) → AllOf reading rs → AreParts false (kinds ds) → AreParts false (kinds (rs ++ ds))
readings_made [] ds all h = h
readings_made (c ∷ rs) ds all h = rw all.0 (refl, readings_made rs ds all.1 h)

pub parts_made : (rs us ds : List Clause) → AllOf reading rs → AllOf updating us → Ending us ds → AreParts false (kinds (rs ++ us ++ ds))
parts_made rs us ds reads updates ending = subst (λ (l : List Clause). AreParts false (kinds l)) (sym (append_assoc rs us ds)) (readings_made rs (us ++ ds) reads (updates_made us ds updates ending))
