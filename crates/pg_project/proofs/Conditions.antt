-- Rows that meet a condition, one after the other.
use Rattle.std.proofs.Common.{◌≡◌, ℕ, zero, suc, ◌+◌, ◌-◌, ◌<◌, ◌≤◌, Bool, true, false, List, [], ◌∷◌, ◌++◌, length, take, drop, Result, Ok, Err, Option, Some, None, refl, sym, ap, ◌∙◌, arith}
use Rattle.std.proofs.lemmas.List.{length-drop}
use Rattle.std.specs.List.{AllByRecursion}
use Rattle.std.specs.Prelude.{unwrap_or}
use Rattle.pg_expr.specs.Prepared.{condition_of, names_of, parameters_of}
use Rattle.pg_expr.specs.declared.prepared_condition.PreparedCondition.{PreparedCondition}
use Rattle.pg_meaning.specs.Answer.{◌>>=◌}
use Rattle.pg_meaning.specs.Conditions.{condition}
use Rattle.pg_meaning.specs.Graph.{Graph}
use Rattle.pg_meaning.specs.Projections.{limited}
use Rattle.pg_meaning.specs.Tree.{Expression}
use Rattle.pg_meaning.specs.Value.{Value, Entries}
use Rattle.pg_meaning.specs.declared.fault.Fault.{Fault}
use Rattle.pg_rows.proofs.Tabled.{all_taken, take_take}
use Rattle.pg_rows.specs.Named.{row_of}
use Rattle.pg_project.proofs.InTurn.{after, after_one, nothing_behind}
use Rattle.pg_project.specs.Cuts.{Reaches}
use Rattle.pg_project.specs.Given.{Cut, cut_of, passing_given}

pub same_others : (rest : Result (List (List Value)) Fault) → (rest >>= λ others. Ok others) ≡ rest
same_others (Ok others) = refl
same_others (Err f) = refl

module _ (parameters : Entries) (graph : Graph) (names : List (List ℕ)) (where_ : Option Expression) (width : ℕ) (whole : Result (List (List Value)) Fault) (done : List (List Value)) where
  next_row : (more : ℕ) (rows rest : List (List Value)) (r : List Value) (a : Result Bool Fault) → 0 < more → rows ≡ r ∷ rest → condition where_ (row_of names r) parameters graph ≡ a
      → whole ≡ after done (passing_given parameters graph names where_ width (take more rows))
      → whole ≡ after done (a >>= λ b. passing_given parameters graph names where_ width (take (more - 1) rest) >>= λ others. Ok (elim b [ true ↦ take width r ∷ others | false ↦ others ]))
  next_row zero rows rest r a p e c h = absurd (omega (arith, p))
  next_row (suc m) rows rest r a p e c h =
      let less : suc m - 1 ≡ m = omega arith in
      h
      ∙ ap (λ xs. after done (passing_given parameters graph names where_ width (take (suc m) xs))) e
      ∙ ap (λ b. after done (b >>= λ b. passing_given parameters graph names where_ width (take m rest) >>= λ others. Ok (elim b [ true ↦ take width r ∷ others | false ↦ others ]))) c
      ∙ sym (ap (λ k. after done (a >>= λ b. passing_given parameters graph names where_ width (take k rest) >>= λ others. Ok (elim b [ true ↦ take width r ∷ others | false ↦ others ]))) less)

  pub one_passes : (more : ℕ) (rows rest : List (List Value)) (r : List Value) → 0 < more → rows ≡ r ∷ rest → condition where_ (row_of names r) parameters graph ≡ Ok true
      → whole ≡ after done (passing_given parameters graph names where_ width (take more rows))
      → whole ≡ after (done ++ take width r ∷ []) (passing_given parameters graph names where_ width (take (more - 1) rest))
  one_passes more rows rest r p e c h = next_row more rows rest r (Ok true) p e c h ∙ after_one done (take width r) (passing_given parameters graph names where_ width (take (more - 1) rest))

  pub one_stays_out : (more : ℕ) (rows rest : List (List Value)) (r : List Value) → 0 < more → rows ≡ r ∷ rest → condition where_ (row_of names r) parameters graph ≡ Ok false
      → whole ≡ after done (passing_given parameters graph names where_ width (take more rows))
      → whole ≡ after done (passing_given parameters graph names where_ width (take (more - 1) rest))
  one_stays_out more rows rest r p e c h = next_row more rows rest r (Ok false) p e c h ∙ ap (after done) (same_others (passing_given parameters graph names where_ width (take (more - 1) rest)))

  pub one_ends : (more : ℕ) (rows rest : List (List Value)) (r : List Value) (f : Fault) → 0 < more → rows ≡ r ∷ rest → condition where_ (row_of names r) parameters graph ≡ Err f
      → whole ≡ after done (passing_given parameters graph names where_ width (take more rows)) → whole ≡ Err f
  one_ends more rows rest r f p e c h = next_row more rows rest r (Err f) p e c h

  none_taken : {X : Type 0} (n : ℕ) → take {A = X} n [] ≡ []
  none_taken zero = refl
  none_taken (suc n) = refl

  pub no_rows : (more : ℕ) (rows : List (List Value)) → rows ≡ [] → whole ≡ after done (passing_given parameters graph names where_ width (take more rows)) → whole ≡ Ok done
  no_rows more rows e h = h ∙ ap (λ xs. after done (passing_given parameters graph names where_ width xs)) (ap (take more) e ∙ none_taken more) ∙ ap Ok (nothing_behind done)

  pub no_more : (more : ℕ) (rows : List (List Value)) → more ≡ 0 → whole ≡ after done (passing_given parameters graph names where_ width (take more rows)) → whole ≡ Ok done
  no_more more rows e h = h ∙ ap (λ n. after done (passing_given parameters graph names where_ width (take n rows))) e ∙ ap Ok (nothing_behind done)

pub cut_is : (limit : Option ℕ) (skip n : ℕ) (rows : List (List Value)) → n ≡ length rows → take (unwrap_or limit n) (drop skip rows) ≡ limited limit (drop skip rows)
cut_is (Some m) skip n rows h = refl
cut_is None skip n rows h = sym (all_taken n (drop skip rows) (let e = length-drop skip rows in omega arith))

pub cut_taken : (c : Cut) (rows left : List (List Value)) (most n : ℕ) → most ≡ unwrap_or c.limit n → n ≡ length rows → left ≡ drop c.skip rows → take most left ≡ cut_of c rows
cut_taken c rows left most n m l d = (λ i. take (m i) (d i)) ∙ cut_is c.limit c.skip n rows l

-- all rows of the width pass where nothing is cut and nothing is asked
all_pass : (parameters : Entries) (graph : Graph) (names : List (List ℕ)) (width : ℕ) (rows : List (List Value)) → AllByRecursion (λ r. length r ≡ width) rows → passing_given parameters graph names None width rows ≡ Ok rows
all_pass parameters graph names width [] wide = refl
all_pass parameters graph names width (r ∷ rs) wide =
    (λ i. all_pass parameters graph names width rs wide.1 i >>= λ others. Ok (take width r ∷ others))
    ∙ ap (λ w. Ok (w ∷ rs)) (sym (all_taken width r (let e : length r ≤ width = omega (arith, wide.0) in e)))

pub whole_passes : (parameters : Entries) (graph : Graph) (names : List (List ℕ)) (where_ : Option Expression) (width : ℕ) (c : Cut) (rows : List (List Value)) → c ≡ record { skip = 0; limit = None } → where_ ≡ None → AllByRecursion (λ r. length r ≡ width) rows
    → passing_given parameters graph names where_ width (cut_of c rows) ≡ Ok rows
whole_passes parameters graph names where_ width c rows cut none wide = (λ i. passing_given parameters graph names (none i) width (cut_of (cut i) rows)) ∙ all_pass parameters graph names width rows wide

-- the first of rows have all that stand before some place of them
still_first : (skip most first : ℕ) (rows : List (List Value)) → skip + most ≤ first → take most (drop skip (take first rows)) ≡ take most (drop skip rows)
still_first zero most first rows h =
    let more : first ≡ most + (first - most) = omega (arith, h) in
    ap (λ n. take most (take n rows)) more ∙ take_take most (first - most) rows
still_first (suc skip) most zero rows h = absurd (omega (arith, h))
still_first (suc skip) most (suc first) [] h = refl
still_first (suc skip) most (suc first) (r ∷ rs) h = still_first skip most first rs (omega (arith, h))

pub reaches_end : (c : Cut) (most count first : ℕ) → c.limit ≡ Some most → first ≡ c.skip + most → Reaches c count first
reaches_end c most count first l e = λ rows n.
    let enough : c.skip + most ≤ first = omega (arith, e) in
    (λ i. limited (l i) (drop c.skip (take first rows))) ∙ still_first c.skip most first rows enough ∙ sym (λ i. limited (l i) (drop c.skip rows))

pub reaches_all : (c : Cut) (count : ℕ) → Reaches c count count
reaches_all c count = λ rows n. ap (cut_of c) (sym (all_taken count rows (let e : length rows ≤ count = omega (arith, n) in e)))

-- rows that pass what was prepared of a condition
pub prepared_passing : (p : PreparedCondition) (parameters : Entries) (graph : Graph) (names : List (List ℕ)) (where_ : Option Expression) (width : ℕ) (rows : List (List Value))
    → condition_of p ≡ where_ → names_of p ≡ names → parameters_of p ≡ parameters
    → passing_given (parameters_of p) graph (names_of p) (condition_of p) width rows ≡ passing_given parameters graph names where_ width rows
prepared_passing p parameters graph names where_ width rows tree named given =
    ap (λ c. passing_given (parameters_of p) graph (names_of p) c width rows) tree
    ∙ ap (λ ns. passing_given (parameters_of p) graph ns where_ width rows) named
    ∙ ap (λ ps. passing_given ps graph names where_ width rows) given
