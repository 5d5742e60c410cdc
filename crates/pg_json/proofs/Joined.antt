-- Rows that stand one after the other in a text.
use Rattle.std.proofs.Common.{◌≡◌, ℕ, zero, suc, ◌+◌, ◌-◌, ◌<◌, ◌≤◌, List, [], ◌∷◌, ◌++◌, length, map, get_or, take, drop, arith, refl, sym, ap, ◌∙◌, ap₂, append_assoc, append-nil, length-append}
use Rattle.std.specs.Prelude.{codes}
use Rattle.std.proofs.lemmas.List.{take_at, drop_at, drop_all, drop-drop, drop-take}
use Rattle.pg_json.specs.HeldRows.{rows_between}
use Rattle.pg_json.specs.Joined.{comma_after, comma_behind, row_begin}
use Rattle.pg_json.specs.Pages.{further_rows, rows_joined, ends_from}

-- ---- where rows end

further_length : (row : List ℕ) (rows : List (List ℕ)) → length (further_rows (row ∷ rows)) ≡ 1 + length (rows_joined (row ∷ rows))
further_length row rows = simp length-append (omega arith)

pub end_at : (s n : ℕ) (rows : List (List ℕ)) → n ≤ length rows → get_or (s ∷ ends_from s rows) n 0 ≡ s + length (rows_joined (take n rows))
end_at s zero rows within = omega arith
end_at s (suc n) [] within = absurd (omega arith)
end_at s (suc zero) (row ∷ rows) within = simp length-append (omega arith)
end_at s (suc (suc n)) (row ∷ []) within = absurd (omega arith)
end_at s (suc (suc n)) (row ∷ next ∷ rows) within =
    let rest : get_or (ends_from (s + length row + 1) (next ∷ rows)) n 0 ≡ s + length row + 1 + length (rows_joined (take (suc n) (next ∷ rows))) = end_at (s + length row + 1) (suc n) (next ∷ rows) (omega arith) in
    rest ∙ (simp length-append (omega arith))

pub end_of_row : (s n : ℕ) (rows : List (List ℕ)) → n < length rows → get_or (ends_from s rows) n 0 ≡ s + length (rows_joined (take (n + 1) rows))
end_of_row s n rows within =
    let more : suc n ≡ n + 1 = omega arith in
    end_at s (suc n) rows (omega arith) ∙ ap (λ k. s + length (rows_joined (take k rows))) more

pub ends_length : (s : ℕ) (rows : List (List ℕ)) → length (ends_from s rows) ≡ length rows
ends_length s [] = refl
ends_length s (row ∷ rows) = ap suc (ends_length (s + length row + 1) rows)

pub joined_within : (n : ℕ) (rows : List (List ℕ)) → length (rows_joined (take n rows)) ≤ length (rows_joined rows)
joined_within zero rows = omega arith
joined_within (suc n) [] = omega arith
joined_within (suc zero) (row ∷ rows) = simp length-append (omega arith)
joined_within (suc (suc n)) (row ∷ []) = omega arith
joined_within (suc (suc n)) (row ∷ next ∷ rows) =
    let rest : length (rows_joined (take (suc n) (next ∷ rows))) ≤ length (rows_joined (next ∷ rows)) = joined_within (suc n) (next ∷ rows) in
    simp length-append (omega (arith, simp length-append at rest))

-- ---- what stands before a row and behind it

further_parts : (n : ℕ) (rows : List (List ℕ)) → further_rows rows ≡ further_rows (take n rows) ++ further_rows (drop n rows)
further_parts zero rows = refl
further_parts (suc n) [] = refl
further_parts (suc n) (row ∷ rows) =
    ap (λ t. codes "," ++ row ++ t) (further_parts n rows) ∙ sym (append_assoc (codes "," ++ row) (further_rows (take n rows)) (further_rows (drop n rows)))

joined_parts : (n : ℕ) (rows : List (List ℕ)) → rows_joined rows ≡ rows_joined (take (suc n) rows) ++ further_rows (drop (suc n) rows)
joined_parts n [] = refl
joined_parts n (row ∷ rows) = ap (λ t. row ++ t) (further_parts n rows) ∙ sym (append_assoc row (further_rows (take n rows)) (further_rows (drop n rows)))

pub joined_front : (n : ℕ) (rows : List (List ℕ)) (behind : List ℕ) → take (length (rows_joined (take n rows))) (rows_joined rows ++ behind) ≡ rows_joined (take n rows)
joined_front zero rows behind = refl
joined_front (suc n) rows behind =
    let front : List ℕ = rows_joined (take (suc n) rows) in
    let others : List ℕ = further_rows (drop (suc n) rows) in
    ap (take (length front)) (ap (λ t. t ++ behind) (joined_parts n rows) ∙ append_assoc front others behind) ∙ take_at front (others ++ behind) (length front) refl

behind_row : (row : List ℕ) (rows : List (List ℕ)) → drop (length row + 1) (row ++ further_rows rows) ≡ rows_joined rows
behind_row row [] = drop_all (length row + 1) (row ++ []) (simp length-append (omega arith))
behind_row row (next ∷ rows) =
    let others : List ℕ = further_rows (next ∷ rows) in
    sym (drop-drop 1 (length row) (row ++ others)) ∙ ap (drop 1) (drop_at row others (length row) refl)

pub joined_behind : (n : ℕ) (rows : List (List ℕ)) → drop (row_begin n rows) (rows_joined rows) ≡ rows_joined (drop n rows)
joined_behind zero rows = refl
joined_behind (suc n) [] = refl
joined_behind (suc n) (row ∷ rows) =
    sym (drop-drop (row_begin n rows) (length row + 1) (row ++ further_rows rows)) ∙ ap (drop (row_begin n rows)) (behind_row row rows) ∙ joined_behind n rows

pub begin_taken : (n k : ℕ) (rows : List (List ℕ)) → n ≤ k → row_begin n (take k rows) ≡ row_begin n rows
begin_taken zero k rows h = refl
begin_taken (suc n) zero rows h = absurd (omega arith)
begin_taken (suc n) (suc k) [] h = refl
begin_taken (suc n) (suc k) (row ∷ rows) h = ap (λ x. length row + 1 + x) (begin_taken n k rows (omega arith))

pub middle_rows : (n m : ℕ) (rows : List (List ℕ)) → drop (row_begin n rows) (rows_joined (take (n + m) rows)) ≡ rows_joined (take m (drop n rows))
middle_rows n m rows =
    ap (λ b. drop b (rows_joined (take (n + m) rows))) (sym (begin_taken n (n + m) rows (omega arith))) ∙ joined_behind n (take (n + m) rows) ∙ ap rows_joined (drop-take n m rows)

pub begin_is : (n s : ℕ) (rows : List (List ℕ)) → n < length rows → get_or (ends_from s rows) n 0 + 1 ≡ s + row_begin (suc n) rows
begin_is n s [] h = absurd (omega arith)
begin_is zero s (row ∷ rows) h = omega arith
begin_is (suc n) s (row ∷ rows) h = begin_is n (s + length row + 1) rows (omega arith) ∙ (omega arith)

pub begin_within : (n : ℕ) (rows : List (List ℕ)) → n < length rows → row_begin n rows ≤ length (rows_joined rows)
begin_within zero rows h = omega arith
begin_within (suc n) [] h = absurd (omega arith)
begin_within (suc n) (row ∷ []) h = absurd (omega arith)
begin_within (suc n) (row ∷ next ∷ rows) h =
    let rest : row_begin n (next ∷ rows) ≤ length (rows_joined (next ∷ rows)) = begin_within n (next ∷ rows) (omega arith) in
    simp length-append (omega (arith, simp length-append at rest))

-- ---- the places of a part of the rows

pub ends_behind : (n s : ℕ) (rows : List (List ℕ)) → drop n (ends_from s rows) ≡ ends_from (s + row_begin n rows) (drop n rows)
ends_behind zero s rows = let same : s ≡ s + 0 = omega arith in ap (λ b. ends_from b rows) same
ends_behind (suc n) s [] = refl
ends_behind (suc n) s (row ∷ rows) =
    let same : s + length row + 1 + row_begin n rows ≡ s + (length row + 1 + row_begin n rows) = omega arith in
    ends_behind n (s + length row + 1) rows ∙ ap (λ b. ends_from b (drop n rows)) same

pub ends_moved : (b s : ℕ) (rows : List (List ℕ)) → map (λ e. e - b) (ends_from (b + s) rows) ≡ ends_from s rows
ends_moved b s [] = refl
ends_moved b s (row ∷ rows) =
    let first : b + s + length row - b ≡ s + length row = omega arith in
    let next : b + s + length row + 1 ≡ b + (s + length row + 1) = omega arith in
    ap₂ (λ x xs. x ∷ xs) first (ap (λ k. map (λ e. e - b) (ends_from k rows)) next ∙ ends_moved b (s + length row + 1) rows)

pub rows_cut : (t : List ℕ) (s : ℕ) (rows : List (List ℕ)) → drop s t ≡ rows_joined rows → rows_between t s (ends_from s rows) ≡ rows
rows_cut t s [] e = refl
rows_cut t s (row ∷ rows) e =
    let first : drop s (take (s + length row) t) ≡ row = drop-take s (length row) t ∙ ap (take (length row)) e ∙ take_at row (further_rows rows) (length row) refl in
    let place : s + length row + 1 ≡ s + (length row + 1) = omega arith in
    let rest : drop (s + length row + 1) t ≡ rows_joined rows =
    ap (λ k. drop k t) place ∙ sym (drop-drop (length row + 1) s t) ∙ ap (drop (length row + 1)) e ∙ behind_row row rows in
    ap₂ (λ x xs. x ∷ xs) first (rows_cut t (s + length row + 1) rows rest)

pub held_rows : (n : ℕ) (rows : List (List ℕ)) → rows_between (rows_joined rows) (row_begin n rows) (drop n (ends_from 0 rows)) ≡ drop n rows
held_rows n rows =
    let place : 0 + row_begin n rows ≡ row_begin n rows = omega arith in
    ap (rows_between (rows_joined rows) (row_begin n rows)) (ends_behind n 0 rows ∙ ap (λ b. ends_from b (drop n rows)) place) ∙ rows_cut (rows_joined rows) (row_begin n rows) (drop n rows) (joined_behind n rows)

-- ---- one row more

further_push : (rows : List (List ℕ)) (row : List ℕ) → further_rows (rows ++ row ∷ []) ≡ further_rows rows ++ (codes "," ++ row)
further_push [] row = append-nil (codes "," ++ row)
further_push (first ∷ rows) row =
    ap (λ t. codes "," ++ first ++ t) (further_push rows row) ∙ sym (append_assoc (codes "," ++ first) (further_rows rows) (codes "," ++ row))

pub joined_push : (rows : List (List ℕ)) (row : List ℕ) → rows_joined (rows ++ row ∷ []) ≡ rows_joined rows ++ (comma_behind rows ++ row)
joined_push [] row = append-nil row
joined_push (first ∷ rows) row = ap (λ t. first ++ t) (further_push rows row) ∙ sym (append_assoc first (further_rows rows) (codes "," ++ row))

pushed_length : (rows : List (List ℕ)) (row : List ℕ) → length (further_rows (rows ++ row ∷ [])) ≡ 1 + length (rows_joined (rows ++ row ∷ []))
pushed_length [] row = further_length row []
pushed_length (first ∷ rows) row = further_length first (rows ++ row ∷ [])

pub ends_push : (s : ℕ) (rows : List (List ℕ)) (row : List ℕ) → ends_from s (rows ++ row ∷ []) ≡ ends_from s rows ++ (s + length (rows_joined (rows ++ row ∷ []))) ∷ []
ends_push s [] row = ap (λ t. (s + length t) ∷ []) (sym (append-nil row))
ends_push s (first ∷ rows) row =
    let place : s + length first + 1 + length (rows_joined (rows ++ row ∷ [])) ≡ s + length (first ++ further_rows (rows ++ row ∷ [])) =
    simp length-append (omega (arith, pushed_length rows row)) in
    ap (λ t. (s + length first) ∷ t) (ends_push (s + length first + 1) rows row ∙ ap (λ e. ends_from (s + length first + 1) rows ++ e ∷ []) place)

pub comma_same : (s : ℕ) (rows : List (List ℕ)) → comma_behind (ends_from s rows) ≡ comma_behind rows
comma_same s [] = refl
comma_same s (row ∷ rows) = refl

pub comma_none : (n : ℕ) → n ≡ 0 → comma_after n ≡ []
comma_none n e = ap comma_after e

pub comma_some : (n : ℕ) → (n ≡ 0 → ⊥) → comma_after n ≡ 44 ∷ []
comma_some zero some = absurd (some refl)
comma_some (suc n) some = refl
