-- Changes after which no set that is kept is empty.
use Rattle.std.proofs.Common.{◌≡◌, ◌≢◌, ℕ, Bool, true, false, cond, List, [], ◌∷◌, Result, Ok, Err, OnOk, OnErr, refl, sym, ap, subst, ◌∙◌}
use Rattle.std.proofs.lemmas.Map.Views.{All-values-insert_entry, All-values-set_value, All-map-remove_entry}
use Rattle.std.specs.BTreeMap.{insert_entry}
use Rattle.std.specs.FinMap as map
use Rattle.std.specs.List.{IsAmong}
use Rattle.std.specs.Map.{remove_entry, set_value, values_of}
use Rattle.std.specs.Ordering.{nat_cmp}
use Rattle.std.specs.declared.cmp.Ordering.{Ordering}
use Rattle.pg_graph.proofs.Maps.{get_inserted}
use Rattle.pg_graph.specs.Removed.{Ids}
use Rattle.pg_index.specs.Kept.{NoneIsEmpty}

abbrev pub has_some : Ids → Type 0
has_some ids = ids ≢ map.empty

-- a set that is among those that are kept
pub kept_has_some : (sets : List Ids) (ids : Ids) → NoneIsEmpty sets → IsAmong sets ids → has_some ids
kept_has_some sets ids kept among empty = kept among.0 ids among.1.0 (sym among.1.1 ∙ empty)

pub inserted_has_some : (ids : Ids) (id : ℕ) → has_some (map.insert ids id tt)
inserted_has_some ids id empty = absurd (cc (
  ap (λ (m : Ids). map.get m id) empty,
  get_inserted ids id tt,
  map.get-empty {X = Unit {0}} nat_cmp id,
))

-- a set into which an id was put, or none
pub put_has_some : {V E : Type 0} (r : Result V E) (old new : Ids) (id : ℕ) → OnOk r (new ≡ map.insert old id tt) → OnErr r (new ≡ old) → has_some old → has_some new
put_has_some (Ok v) old new id ok err some = subst has_some (sym ok) (inserted_has_some old id)
put_has_some (Err e) old new id ok err some = subst has_some (sym err) some

module _ {K : Type 0} (test : K → Bool) where
  pub with_set : (old new : List (K × Ids)) (ids : Ids) → new ≡ set_value test old ids → NoneIsEmpty (values_of old) → has_some ids → NoneIsEmpty (values_of new)
  with_set old new ids is kept some = subst (λ es. NoneIsEmpty (values_of es)) (sym is) (All-values-set_value test has_some old ids kept some)

  -- what stood in a set's place makes no difference when it leaves
  left_alike : (es : List (K × Ids)) (ids : Ids) → remove_entry test (set_value test es ids) ≡ remove_entry test es
  left_alike [] ids = refl
  left_alike (e ∷ es) ids = by_test (test e.0) refl (left_alike es ids)
    where
      by_test : (b : Bool) → test e.0 ≡ b → remove_entry test (set_value test es ids) ≡ remove_entry test es → remove_entry test (cond b ((e.0, ids) ∷ es) (e ∷ set_value test es ids)) ≡ cond b es (e ∷ remove_entry test es)
      by_test true is rest = ap (λ b. cond b es ((e.0, ids) ∷ remove_entry test es)) is
      by_test false is rest = ap (λ b. cond b (set_value test es ids) (e ∷ remove_entry test (set_value test es ids))) is ∙ ap (λ xs. e ∷ xs) rest

  pub without_set : (old between new : List (K × Ids)) (ids : Ids) → between ≡ set_value test old ids → new ≡ remove_entry test between → NoneIsEmpty (values_of old) → NoneIsEmpty (values_of new)
  without_set old between new ids set is kept =
      subst (λ es. NoneIsEmpty (values_of es)) (sym (is ∙ ap (remove_entry test) set ∙ left_alike old ids))
      (All-map-remove_entry test (λ e. e.1) has_some old kept)

-- a set that comes to a key, or none
pub with_new_set : {K V E : Type 0} (cmp : K → K → Ordering) (key : K) (r : Result V E) (old new : List (K × Ids)) (ids : Ids)
    → OnOk r (new ≡ insert_entry cmp old key ids) → OnErr r (new ≡ old) → NoneIsEmpty (values_of old) → has_some ids → NoneIsEmpty (values_of new)
with_new_set cmp key (Ok v) old new ids ok err kept some = subst (λ es. NoneIsEmpty (values_of es)) (sym ok) (All-values-insert_entry cmp key ids has_some old kept some)
with_new_set cmp key (Err e) old new ids ok err kept some = subst (λ es. NoneIsEmpty (values_of es)) (sym err) kept
