-- UNWIND and MATCH give the same rows from the same rows.
use Rattle.std.proofs.Common.{◌≡◌, Bool, true, false, List, [], ◌∷◌, ◌++◌, map, Option, sym, ap, subst, ◌∙◌}
use Rattle.std.proofs.lemmas.List.Sorted.{IsPermutation-refl, IsPermutation-append, IsPermutation-map, length_permutation}
use Rattle.std.specs.List.Sorted.{IsPermutation}
use Rattle.pg_meaning.specs.AnswerLaws.{same_ok}
use Rattle.pg_meaning.specs.Graph.{Graph}
use Rattle.pg_meaning.specs.ListsLaws.{all_at}
use Rattle.pg_meaning.specs.Meaning.{MatchRow, UnwindRow}
use Rattle.pg_meaning.specs.Patterns.{Matches, bind_match}
use Rattle.pg_meaning.specs.Reading.{or_nulls}
use Rattle.pg_meaning.specs.Rows.{Row, bind_new}
use Rattle.pg_meaning.specs.Tree.{Expression, PathPattern}
use Rattle.pg_meaning.specs.Turns.{Given, RowAfterRow}
use Rattle.pg_relations.proofs.Moved.{once_moved}
use Rattle.pg_relations.specs.Determined.{UnwindGivesOne, MatchGivesOne}

pub unwind_gives_one : UnwindGivesOne
unwind_gives_one e name g graph after other rows results others s t = (s.0 ∙ sym t.0, by_rows rows results others s.1 t.1)
  where
    by_rows : (rows results others : List Row) → RowAfterRow (UnwindRow g graph e name) rows results → RowAfterRow (UnwindRow g graph e name) rows others → results ≡ others
    by_rows [] results others s t = s ∙ sym t
    by_rows (row ∷ rows) results others s t =
        let values = same_ok s.2.0 t.2.0 (sym s.2.1 ∙ t.2.1) in
        let first = s.2.2 ∙ ap (map (λ v. bind_new name.text v row)) values ∙ sym t.2.2 in
        let rest = by_rows rows s.1 t.1 s.3 t.3 in
        s.4 ∙ (λ i. first i ++ rest i) ∙ sym t.4

module _ (g : Given) (graph : Graph) (is_optional : Bool) (paths : List PathPattern) (where_ : Option Expression) where
  nulls_moved : (row : Row) (b : Bool) (xs ys : List Row) → IsPermutation xs ys → IsPermutation (or_nulls b paths row xs) (or_nulls b paths row ys)
  nulls_moved row false xs ys s = s
  nulls_moved row true [] [] s = IsPermutation-refl _
  nulls_moved row true [] (y ∷ ys) s = let impossible = length_permutation [] (y ∷ ys) s in cc
  nulls_moved row true (x ∷ xs) [] s = let impossible = length_permutation (x ∷ xs) [] s in cc
  nulls_moved row true (x ∷ xs) (y ∷ ys) s = s

  pub row_moved : (row : Row) (first other : List Row) → MatchRow g graph is_optional paths where_ row first → MatchRow g graph is_optional paths where_ row other → IsPermutation first other
  row_moved row first other m n =
      let found =
      once_moved m.found n.found m.matches.once n.matches.once
      (λ a i. n.matches.every a (all_at (Matches paths where_ g.parameters graph row) a m.found m.matches.each i))
      (λ a i. m.matches.every a (all_at (Matches paths where_ g.parameters graph row) a n.found n.matches.each i))
      in
      subst (λ rows. IsPermutation rows other) (sym m.bound)
      (subst (IsPermutation (or_nulls is_optional paths row (map (λ a. bind_match graph paths a row) m.found))) (sym n.bound)
      (nulls_moved row is_optional _ _ (IsPermutation-map (λ a. bind_match graph paths a row) m.found n.found found)))

  rows_moved : (rows results others : List Row) → RowAfterRow (MatchRow g graph is_optional paths where_) rows results → RowAfterRow (MatchRow g graph is_optional paths where_) rows others → IsPermutation results others
  rows_moved [] results others s t = subst (λ rows. IsPermutation rows others) (sym s) (subst (IsPermutation []) (sym t) (IsPermutation-refl []))
  rows_moved (row ∷ rows) results others s t =
      subst (λ rows. IsPermutation rows others) (sym s.4)
      (subst (IsPermutation (s.0 ++ s.1)) (sym t.4) (IsPermutation-append s.0 t.0 s.1 t.1 (row_moved row s.0 t.0 s.2 t.2) (rows_moved rows s.1 t.1 s.3 t.3)))

pub match_gives_one : MatchGivesOne
match_gives_one is_optional paths where_ g graph after other rows results others s t = (s.0 ∙ sym t.0, rows_moved g graph is_optional paths where_ rows results others s.1 t.1)
