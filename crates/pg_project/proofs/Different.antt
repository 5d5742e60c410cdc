-- The different values so far, as the program and as the definitions tell them apart.
use Rattle.std.proofs.Common.{◌≡◌, ◌||◌, Bool, true, false, cond, List, [], ◌∷◌, ◌++◌, map, Result, Ok, Err, Option, Some, refl, sym, ap, ◌∙◌}
use Rattle.std.specs.List.{list_any}
use Rattle.std.specs.Ordering.{on, eq_by_cmp}
use Rattle.indexmap.specs.IndexSet.{insert_key}
use Rattle.pg_project.specs.Summaries.{Counts, Accumulated, Taken, held_with, is_null, other_with, taken_with}
use Rattle.pg_meaning.specs.Answer.{◌>>=◌}
use Rattle.pg_meaning.specs.Order.{value_order, is_equivalent}
use Rattle.pg_meaning.specs.Value.{Value as Datum}
use Rattle.pg_meaning.specs.declared.fault.Fault.{Fault}
use Rattle.pg_value_core.specs.View.{view}
use Rattle.pg_value_core.specs.declared.value.Value.{Value}

abbrev pub same : Value → Value → Bool
same = on view (eq_by_cmp value_order)

any_same : (v : Value) (ks : List Value) → list_any (same v) ks ≡ list_any (is_equivalent (view v)) (map view ks)
any_same v [] = refl
any_same v (k ∷ ks) = ap (λ b. is_equivalent (view v) (view k) || b) (any_same v ks)

pub view_append : (ks : List Value) (v : Value) → map view (ks ++ v ∷ []) ≡ map view ks ++ view v ∷ []
view_append [] v = refl
view_append (k ∷ ks) v = ap (λ vs. view k ∷ vs) (view_append ks v)

pub null_seen : (o : Option (List Datum)) (v : Datum) → is_null v ≡ true → Counts o o v false
null_seen o v e h = ap (λ b. cond b (Ok (record { different = o; held = h })) (other_with o h v)) e

others_with : (o after : Option (List Datum)) (v : Datum) (counts : Bool) → is_null v ≡ false
    → ((h : Accumulated) → other_with o h v ≡ cond counts (held_with h v >>= λ g. Ok (record { different = after; held = g })) (Ok (record { different = after; held = h }))) → Counts o after v counts
others_with o after v counts e others h = ap (λ b. cond b (Ok (record { different = o; held = h })) (other_with o h v)) e ∙ others h

module _ (ks : List Value) (v : Value) (other : is_null (view v) ≡ false) where
  abbrev chosen : Accumulated → Bool → Result Taken Fault
  chosen h b = cond b (Ok (record { different = Some (map view ks); held = h })) (held_with h (view v) >>= λ g. Ok (record { different = Some (map view ks ++ view v ∷ []); held = g }))

  pub known : list_any (same v) ks ≡ true → Counts (Some (map view ks)) (Some (map view ks)) (view v) false
  known e = others_with (Some (map view ks)) (Some (map view ks)) (view v) false other (λ h. ap (chosen h) (sym (any_same v ks) ∙ e))

  put_behind : (w : Value) (us : List Value) → view w ≡ view v → us ≡ insert_key same ks w → list_any (same v) ks ≡ false → map view us ≡ map view ks ++ view v ∷ []
  put_behind w us s u e =
      ap (map view) u
      ∙ ap (λ b. map view (cond b ks (ks ++ w ∷ []))) (any_same w ks ∙ ap (λ d. list_any (is_equivalent d) (map view ks)) s ∙ sym (any_same v ks) ∙ e)
      ∙ view_append ks w
      ∙ ap (λ d. map view ks ++ d ∷ []) s

  pub fresh : (w : Value) (us : List Value) → view w ≡ view v → us ≡ insert_key same ks w → list_any (same v) ks ≡ false → Counts (Some (map view ks)) (Some (map view us)) (view v) true
  fresh w us s u e =
      others_with (Some (map view ks)) (Some (map view us)) (view v) true other
      (λ h.
      ap (chosen h) (sym (any_same v ks) ∙ e)
      ∙ ap (λ vs. held_with h (view v) >>= λ g. Ok (record { different = Some vs; held = g })) (sym (put_behind w us s u e)))

module _ (before after : Option (List Datum)) (h : Accumulated) (v : Datum) where
  pub passed_over : Counts before after v false → taken_with (record { different = before; held = h }) v ≡ Ok (record { different = after; held = h })
  passed_over is = is h

  pub taken : (g : Accumulated) → Counts before after v true → held_with h v ≡ Ok g → taken_with (record { different = before; held = h }) v ≡ Ok (record { different = after; held = g })
  taken g is e = is h ∙ ap (λ r. r >>= λ x. Ok (record { different = after; held = x })) e

  pub refused : (f : Fault) → Counts before after v true → held_with h v ≡ Err f → taken_with (record { different = before; held = h }) v ≡ Err f
  refused f is e = is h ∙ ap (λ r. r >>= λ x. Ok (record { different = after; held = x })) e
