-- Wide rows one after the other.
use Rattle.std.proofs.Common.{◌≡◌, ℕ, suc, ◌+◌, ◌*◌, ◌<◌, List, [], ◌∷◌, ◌++◌, length, Bool, true, false, cond, not, Result, Ok, Err, refl, sym, ap, subst, ◌∙◌, append_assoc, arith}
use Rattle.std.proofs.lemmas.List.{length-append}
use Rattle.pg_meaning.specs.Answer.{◌>>=◌}
use Rattle.pg_meaning.specs.Graph.{Graph}
use Rattle.pg_meaning.specs.Tree.{Expression}
use Rattle.pg_meaning.specs.Value.{Value, Entries}
use Rattle.pg_meaning.specs.declared.fault.Fault.{Fault}
use Rattle.pg_project.proofs.InTurn.{after, after_one, nothing_behind}
use Rattle.pg_project.specs.Given.{earlier_names, values_given, wide_rows_given}
use Rattle.pg_rows.proofs.Tabled.{more_rows, rows_push}
use Rattle.pg_rows.specs.Left.{first_row}
use Rattle.pg_rows.specs.Tables.{rows_of}

module _ (parameters : Entries) (graph : Graph) (names : List (List ℕ)) (es : List Expression) (keeps : Bool) (whole : Result (List (List Value)) Fault) (done : List (List Value)) where
  abbrev others : List (List Value) → Result (List (List Value)) Fault
  others rest = wide_rows_given parameters graph names es keeps rest

  next_row : (rows rest : List (List Value)) (r : List Value) (a : Result (List Value) Fault) → rows ≡ r ∷ rest → values_given parameters graph names es r ≡ a → whole ≡ after done (others rows)
      → whole ≡ after done ((a >>= λ vs. Ok (vs ++ cond keeps r [])) >>= λ y. others rest >>= λ ys. Ok (y ∷ ys))
  next_row rows rest r a e h all =
      all
      ∙ ap (λ xs. after done (others xs)) e
      ∙ ap (λ b. after done ((b >>= λ vs. Ok (vs ++ cond keeps r [])) >>= λ y. others rest >>= λ ys. Ok (y ∷ ys))) h

  pub wide_more : (rows rest : List (List Value)) (r vs : List Value) → rows ≡ r ∷ rest → values_given parameters graph names es r ≡ Ok vs → whole ≡ after done (others rows)
      → whole ≡ after (done ++ (vs ++ cond keeps r []) ∷ []) (others rest)
  wide_more rows rest r vs e h all = next_row rows rest r (Ok vs) e h all ∙ after_one done (vs ++ cond keeps r []) (others rest)

  pub wide_fault : (rows rest : List (List Value)) (r : List Value) (f : Fault) → rows ≡ r ∷ rest → values_given parameters graph names es r ≡ Err f → whole ≡ after done (others rows) → whole ≡ Err f
  wide_fault rows rest r f e h all = next_row rows rest r (Err f) e h all

  pub wide_on : (rows rest left : List (List Value)) (r vs ws : List Value) (more : List (List Value)) → rows ≡ r ∷ rest → values_given parameters graph names es r ≡ Ok vs → whole ≡ after done (others rows)
      → ws ≡ vs ++ cond keeps (first_row rows) [] → more ≡ done ++ ws ∷ [] → left ≡ rest → whole ≡ after more (others left)
  wide_on rows rest left r vs ws more e h all moved pushed on =
      wide_more rows rest r vs e h all
      ∙ ap (λ w. after (done ++ w ∷ []) (others rest)) (ap (λ rs. vs ++ cond keeps (first_row rs) []) (sym e) ∙ sym moved)
      ∙ (λ i. after (sym pushed i) (others (sym on i)))

  pub wide_over : (rows : List (List Value)) → rows ≡ [] → whole ≡ after done (others rows) → whole ≡ Ok done
  wide_over rows none all = all ∙ ap (λ xs. after done (others xs)) none ∙ ap Ok (nothing_behind done)

-- what was pushed behind other values
pub behind_others : (old new : List Value) (a : Result (List Value) Fault) → (a >>= λ vs. Ok (old ++ vs)) ≡ Ok new → (vs : List Value) × (a ≡ Ok vs) × (new ≡ old ++ vs)
behind_others old new (Ok vs) h = let e : new ≡ old ++ vs = cc in (vs, refl, e)
behind_others old new (Err f) h = absurd (cc)

pub failed_behind : (old : List Value) (f : Fault) (a : Result (List Value) Fault) → (a >>= λ vs. Ok (old ++ vs)) ≡ Err f → a ≡ Err f
failed_behind old f (Ok vs) h = absurd (cc)
failed_behind old f (Err e) h = h

pub behind_none : (old : List Value) (a : Result (List Value) Fault) → old ≡ [] → (a >>= λ vs. Ok (old ++ vs)) ≡ a
behind_none old (Ok vs) none = ap (λ us. Ok (us ++ vs)) none
behind_none old (Err e) none = refl

-- a wide row that was put together where it stays
module _ (parameters : Entries) (graph : Graph) (names : List (List ℕ)) (es : List Expression) (keeps : Bool) (whole : Result (List (List Value)) Fault) where
  pub wide_in_place : (w n : ℕ) (old pushed passed : List Value) (rows rest left : List (List Value)) (r : List Value) → rows ≡ r ∷ rest → (values_given parameters graph names es r >>= λ vs. Ok (old ++ vs)) ≡ Ok pushed
      → whole ≡ after (rows_of w n old) (wide_rows_given parameters graph names es keeps rows)
      → passed ≡ pushed ++ cond keeps (first_row rows) [] → left ≡ rest → length old ≡ n * w → length passed ≡ (n + 1) * w
      → whole ≡ after (rows_of w (n + 1) passed) (wide_rows_given parameters graph names es keeps left)
  wide_in_place w n old pushed passed rows rest left r e given all moved on long longer =
      let p = behind_others old pushed (values_given parameters graph names es r) given in
      let kept = cond keeps (first_row rows) [] in
      let ws = p.0 ++ kept in
      let is : passed ≡ old ++ ws = moved ∙ ap (λ us. us ++ kept) p.2 ∙ append_assoc old p.0 kept in
      let next : n + 1 ≡ suc n = omega arith in
      let sum : length passed ≡ length old + length ws = ap length is ∙ length-append old ws in
      let more : (n + 1) * w ≡ w + n * w = ap (λ k. k * w) next ∙ more_rows n w in
      let wide : length ws ≡ w = omega (arith, sum, more, long, longer) in
      wide_on parameters graph names es keeps whole (rows_of w n old) rows rest left r p.0 ws (rows_of w (n + 1) passed) e p.1 all refl
      ((λ i. rows_of w (next i) (is i)) ∙ rows_push w n old ws long wide) on

pub some_left : (rows rest : List (List Value)) (r : List Value) → rows ≡ r ∷ rest → 0 < length rows
some_left rows rest r e = subst (λ (rs : List (List Value)). 0 < length rs) (sym e) (omega arith)

pub one_fewer : (rows rest left : List (List Value)) (r : List Value) → rows ≡ r ∷ rest → left ≡ rest → length left < length rows
one_fewer rows rest left r e on = let more = ap length e in let fewer = ap length on in omega arith

pub columns_wide : (visible columns names : List (List ℕ)) (hidden : Bool) (ready width : ℕ) → visible ≡ columns ++ earlier_names hidden names → ready ≡ length columns → width ≡ length names → length visible ≡ ready + cond (not hidden) width 0
columns_wide visible columns names hidden ready width v r w = ap length v ∙ length-append columns (earlier_names hidden names) ∙ (λ i. sym r i + behind hidden i)
  where
    behind : (b : Bool) → length (earlier_names b names) ≡ cond (not b) width 0
    behind true = refl
    behind false = sym w
