-- The values of a group, item by item.
use Rattle.std.proofs.Common.{◌≡◌, ℕ, suc, ◌+◌, ◌<◌, Bool, true, false, List, [], ◌∷◌, ◌++◌, take, drop, get_or, length, Option, Some, None, refl, sym, ap, subst, ◌∙◌, arith}
use Rattle.std.proofs.lemmas.List.{append_assoc, at_drop_more, drop-drop, nil_from_length}
use Rattle.std.specs.Vec.Iter.{into_iter_items, into_iter_steps}
use Rattle.std.specs.declared.vec.IntoIter.{IntoIter}
use Rattle.pg_project.specs.Kept.{merged, told_each}
use Rattle.pg_project.specs.KeptGroups.{aggregates_among}
use Rattle.pg_project.specs.Summaries.{Taken, told}
use Rattle.pg_meaning.specs.Projections.{first_or_null}
use Rattle.pg_meaning.specs.Value.{Value, null}
use Rattle.pg_rows.specs.Sorts.{other_values}

-- ---- the next of values, or null

module _ {X Z : Type 0} (see : List X → List Value) (f : X → Value) (none : see [] ≡ []) (one : (x : X) (xs : List X) → see (x ∷ xs) ≡ f x ∷ see xs) (s t : IntoIter X Z) where
  pub next_value : (tell : Option X → Value) → tell None ≡ null → ((x : X) → tell (Some x) ≡ f x) → (o : Option X) → into_iter_steps s o t → tell o ≡ first_or_null (see (into_iter_items s))
  next_value tell is_null is_some None h =
      is_null ∙ sym (ap first_or_null none) ∙ ap (λ xs. first_or_null (see xs)) (sym (nil_from_length (into_iter_items s) (sym s.rest.ok.0 ∙ h.0)))
  next_value tell is_null is_some (Some x) h = is_some x ∙ sym (ap first_or_null (one x (into_iter_items t))) ∙ ap (λ xs. first_or_null (see xs)) (sym h.0)

  pub values_left : (o : Option X) → into_iter_steps s o t → other_values (see (into_iter_items s)) ≡ see (into_iter_items t)
  values_left None h =
      ap (λ xs. other_values (see xs)) (nil_from_length (into_iter_items s) (sym s.rest.ok.0 ∙ h.0))
      ∙ ap other_values none
      ∙ sym none
      ∙ ap see (sym (nil_from_length (into_iter_items t) (sym t.rest.ok.0 ∙ h.1)))
  values_left (Some x) h = ap (λ xs. other_values (see xs)) h.0 ∙ ap other_values (one x (into_iter_items t))

-- ---- one more value of a row

module _ (lent kinds : List Bool) (same : lent ≡ kinds) (i : ℕ) (d : Bool) (within : i < length lent) (key told seen more all : List Value) (v : Value) (pushed : more ≡ seen ++ v ∷ [])
    (so_far : seen ++ merged (drop i kinds) key told ≡ all) where
  from_here : (b : Bool) → get_or lent i d ≡ b → merged (drop i kinds) key told ≡ merged (b ∷ drop (i + 1) kinds) key told
  from_here b is =
      subst (λ bs. merged (drop i bs) key told ≡ merged (b ∷ drop (i + 1) bs) key told) same (at_drop_more (λ bs. merged bs key told) lent i d within ∙ ap (λ a. merged (a ∷ drop (i + 1) lent) key told) is)

  one_more : (b : Bool) → get_or lent i d ≡ b → (rest : List Value) → v ∷ rest ≡ merged (b ∷ drop (i + 1) kinds) key told → more ++ rest ≡ all
  one_more b is rest e =
      ap (λ vs. vs ++ rest) pushed
      ∙ append_assoc seen (v ∷ []) rest
      ∙ ap (λ vs. seen ++ vs) (e ∙ sym (from_here b is))
      ∙ so_far

  pub one_told : get_or lent i d ≡ true → (keys left : List Value) → v ≡ first_or_null told → keys ≡ key → other_values told ≡ left → more ++ merged (drop (i + 1) kinds) keys left ≡ all
  one_told is keys left here kept after = one_more true is (merged (drop (i + 1) kinds) keys left) (λ j. here j ∷ merged (drop (i + 1) kinds) (kept j) (sym after j))

  pub one_grouped : get_or lent i d ≡ false → (keys left : List Value) → v ≡ first_or_null key → other_values key ≡ keys → left ≡ told → more ++ merged (drop (i + 1) kinds) keys left ≡ all
  one_grouped is keys left here after kept = one_more false is (merged (drop (i + 1) kinds) keys left) (λ j. here j ∷ merged (drop (i + 1) kinds) (sym after j) (kept j))

-- ---- what is left of the values of all groups

module _ {X Z : Type 0} (s t : IntoIter X Z) where
  pub one_fewer : (o : Option X) → into_iter_steps s o t → drop 1 (into_iter_items s) ≡ into_iter_items t
  one_fewer None h =
      ap (drop 1) (nil_from_length (into_iter_items s) (sym s.rest.ok.0 ∙ h.0))
      ∙ sym (nil_from_length (into_iter_items t) (sym t.rest.ok.0 ∙ h.1))
  one_fewer (Some x) h = ap (drop 1) h.0

module _ {X : Type 0} (lent kinds : List Bool) (same : lent ≡ kinds) (i : ℕ) (d : Bool) (within : i < length lent) (before after all : List X) (so_far : drop (aggregates_among (drop i kinds)) before ≡ all) where
  counted_here : (b : Bool) → get_or lent i d ≡ b → aggregates_among (drop i kinds) ≡ aggregates_among (b ∷ drop (i + 1) kinds)
  counted_here b is =
      subst (λ bs. aggregates_among (drop i bs) ≡ aggregates_among (b ∷ drop (i + 1) bs)) same (at_drop_more aggregates_among lent i d within ∙ ap (λ a. aggregates_among (a ∷ drop (i + 1) lent)) is)

  pub left_told : get_or lent i d ≡ true → drop 1 before ≡ after → drop (aggregates_among (drop (i + 1) kinds)) after ≡ all
  left_told is one = ap (drop (aggregates_among (drop (i + 1) kinds))) (sym one) ∙ drop-drop (aggregates_among (drop (i + 1) kinds)) 1 before ∙ ap (λ n. drop n before) (suc_is (aggregates_among (drop (i + 1) kinds)) ∙ sym (counted_here true is)) ∙ so_far
    where
      suc_is : (n : ℕ) → 1 + n ≡ suc n
      suc_is n = omega arith

  pub left_grouped : get_or lent i d ≡ false → before ≡ after → drop (aggregates_among (drop (i + 1) kinds)) after ≡ all
  left_grouped is one = ap (drop (aggregates_among (drop (i + 1) kinds))) (sym one) ∙ ap (λ n. drop n before) (sym (counted_here false is)) ∙ so_far

-- a row tells of its own group alone
pub told_of_all : (kinds : List Bool) (key : List Value) (ts : List Taken) → merged kinds key (told_each (take (aggregates_among kinds) ts)) ≡ merged kinds key (told_each ts)
told_of_all [] key ts = refl
told_of_all (true ∷ bs) key [] = refl
told_of_all (true ∷ bs) key (t ∷ ts) = ap (λ vs. told t.held ∷ vs) (told_of_all bs key ts)
told_of_all (false ∷ bs) key ts = ap (λ vs. first_or_null key ∷ vs) (told_of_all bs (other_values key) ts)
