-- The rows that are held, and the part of their text that is given next.
use Rattle.std.proofs.Common.{◌≡◌, ℕ, suc, ◌+◌, ◌-◌, ◌<◌, ◌≤◌, List, [], length, map, get_or, take, drop, min, arith, refl, sym, ap, ◌∙◌, append-nil, length-take, length-drop}
use Rattle.std.proofs.lemmas.List.{get_or_read, take_min, drop_min, drop-drop}
use Rattle.pg_json.specs.HeldRows.{rows_between}
use Rattle.pg_json.specs.Joined.{IsHeld, row_begin}
use Rattle.pg_json.specs.Pages.{rows_joined, ends_from}
use Rattle.pg_json.specs.Replies.{max_reply}
use Rattle.pg_json.proofs.Joined.{begin_is, begin_taken, begin_within, end_of_row, ends_length, ends_moved, held_rows, joined_front, joined_within, middle_rows, rows_cut}

rest_value : (text ends : List ℕ) (next start : ℕ) → (h : IsHeld text ends next start) → rows_between text start (drop next ends) ≡ drop next h.rows
rest_value text ends next start h =
    ap (λ t. rows_between t start (drop next ends)) h.joined ∙ ap (λ b. rows_between (rows_joined h.rows) b (drop next ends)) h.begins
    ∙ ap (λ es. rows_between (rows_joined h.rows) (row_begin next h.rows) (drop next es)) h.ends ∙ held_rows next h.rows

-- rows that were cut out of a longer text
module _ (text ends items places : List ℕ) (begin : ℕ) (same : items ≡ text) (moved : places ≡ map (λ e. e - begin) ends) (rows : List (List ℕ)) (joined : text ≡ rows_joined rows) (cut : ends ≡ ends_from begin rows) where
  cut_places : places ≡ ends_from 0 rows
  cut_places =
      let place : begin ≡ begin + 0 = omega arith in
      moved ∙ ap (map (λ e. e - begin)) cut ∙ ap (λ b. map (λ e. e - begin) (ends_from b rows)) place ∙ ends_moved begin 0 rows

  pub cut_held : length text + 16 ≤ max_reply → IsHeld items places 0 0
  cut_held within =
      let longer : length items ≡ length text = ap length same in
      record { rows = rows; joined = same ∙ joined; ends = cut_places; given = omega arith; begins = refl; within = omega arith }

  pub cut_value : rows_between items 0 places ≡ rows
  cut_value = ap (rows_between items 0) cut_places ∙ rows_cut items 0 rows (same ∙ joined)

pub places_within : (text ends : List ℕ) (begin n : ℕ) (rows : List (List ℕ)) → text ≡ rows_joined rows → ends ≡ ends_from begin rows → length text ≤ n
    → (i : ℕ) → i < length ends → (begin ≤ get_or ends i 0) × (get_or ends i 0 ≤ begin + n)
places_within text ends begin n rows joined cut fits i within =
    let all : length ends ≡ length rows = ap length cut ∙ ends_length begin rows in
    let place : get_or ends i 0 ≡ begin + length (rows_joined (take (i + 1) rows)) = ap (λ es. get_or es i 0) cut ∙ end_of_row begin i rows (omega arith) in
    let longer : length text ≡ length (rows_joined rows) = ap length joined in
    let part : length (rows_joined (take (i + 1) rows)) ≤ length (rows_joined rows) = joined_within (i + 1) rows in
    (omega arith, omega arith)

module _ (text ends : List ℕ) (next start : ℕ) where
  pub held_count : (h : IsHeld text ends next start) → length ends ≡ length h.rows
  held_count h = ap length h.ends ∙ ends_length 0 h.rows

  pub held_value : (h : IsHeld text ends next start) → rows_between text start (drop next ends) ≡ drop next h.rows
  held_value = rest_value text ends next start

  pub held_length : (h : IsHeld text ends next start) → length (rows_between text start (drop next ends)) ≡ length ends - next
  held_length h = ap length (held_value h) ∙ length-drop next h.rows ∙ ap (λ n. n - next) (sym (held_count h))

  pub held_taken : (h : IsHeld text ends next start) (size count : ℕ) → count ≡ min size (length ends - next)
      → take count (rows_between text start (drop next ends)) ≡ take size (rows_between text start (drop next ends))
  held_taken h size count e =
      let rows : List (List ℕ) = rows_between text start (drop next ends) in
      ap (λ k. take k rows) (e ∙ ap (min size) (sym (held_length h))) ∙ take_min size rows

  pub held_dropped : (h : IsHeld text ends next start) (size count : ℕ) → count ≡ min size (length ends - next)
      → drop count (rows_between text start (drop next ends)) ≡ drop size (rows_between text start (drop next ends))
  held_dropped h size count e =
      let rows : List (List ℕ) = rows_between text start (drop next ends) in
      ap (λ k. drop k rows) (e ∙ ap (min size) (sym (held_length h))) ∙ drop_min size rows

  held_rest : (count begin : ℕ) → (h : IsHeld text ends next start) → (later : IsHeld text ends (next + count) begin) → later.rows ≡ h.rows
      → rows_between text begin (drop (next + count) ends) ≡ drop count (rows_between text start (drop next ends))
  held_rest count begin h later same =
      rest_value text ends (next + count) begin later ∙ ap (drop (next + count)) same ∙ sym (drop-drop count next h.rows) ∙ ap (drop count) (sym (held_value h))

  module _ (h : IsHeld text ends next start) (count x : ℕ) (some : 0 < count) (within : next + count ≤ length ends) (read : x ≡ get_or ends (next + count - 1) x) where
    pub held_end : x ≡ length (rows_joined (take (next + count) h.rows))
    held_end =
        let same : next + count - 1 + 1 ≡ next + count = omega arith in
        let all : length ends ≡ length h.rows = held_count h in
        let place : 0 + length (rows_joined (take (next + count) h.rows)) ≡ length (rows_joined (take (next + count) h.rows)) = omega arith in
        get_or_read ends (next + count - 1) x (omega arith) read 0 ∙ ap (λ es. get_or es (next + count - 1) 0) h.ends
        ∙ end_of_row 0 (next + count - 1) h.rows (omega arith) ∙ ap (λ k. 0 + length (rows_joined (take k h.rows))) same ∙ place

    pub held_starts : start ≤ x
    held_starts =
        let all : length ends ≡ length h.rows = held_count h in
        let fewer : length (take (next + count) h.rows) ≡ next + count = length-take (next + count) h.rows ∙ (omega arith) in
        omega (arith, held_end, h.begins, begin_within next (take (next + count) h.rows) (omega arith), begin_taken next (next + count) h.rows (omega arith))

    pub held_stops : x ≤ length text
    held_stops = omega (arith, held_end, ap length h.joined, joined_within (next + count) h.rows)

    pub held_part : drop start (take x text) ≡ rows_joined (take count (rows_between text start (drop next ends)))
    held_part =
        ap (λ s. drop s (take x text)) h.begins ∙ ap (λ e. drop (row_begin next h.rows) (take e text)) held_end
        ∙ ap (λ t. drop (row_begin next h.rows) (take (length (rows_joined (take (next + count) h.rows))) t)) (h.joined ∙ sym (append-nil (rows_joined h.rows)))
        ∙ ap (drop (row_begin next h.rows)) (joined_front (next + count) h.rows []) ∙ middle_rows next count h.rows
        ∙ ap (λ rs. rows_joined (take count rs)) (sym (held_value h))

    -- where the row after these begins
    pub held_next : x + 1 ≡ row_begin (next + count) h.rows
    held_next =
        let all : length ends ≡ length h.rows = held_count h in
        let more : suc (next + count - 1) ≡ next + count = omega arith in
        let place : 0 + row_begin (suc (next + count - 1)) h.rows ≡ row_begin (suc (next + count - 1)) h.rows = omega arith in
        ap (λ y. y + 1) (get_or_read ends (next + count - 1) x (omega arith) read 0 ∙ ap (λ es. get_or es (next + count - 1) 0) h.ends)
        ∙ begin_is (next + count - 1) 0 h.rows (omega arith) ∙ place ∙ ap (λ k. row_begin k h.rows) more

    -- what is held once these are given
    pub held_after : (begin : ℕ) → begin ≡ x + 1 → IsHeld text ends (next + count) begin
    held_after begin e =
        let all : length ends ≡ length h.rows = held_count h in
        record { rows = h.rows; joined = h.joined; ends = h.ends; given = omega arith; begins = e ∙ held_next; within = h.within }

    -- what is left then
    pub held_left : (begin : ℕ) → begin ≡ x + 1 → rows_between text begin (drop (next + count) ends) ≡ drop count (rows_between text start (drop next ends))
    unfolding held_after
    held_left begin e = held_rest count begin h (held_after begin e) refl
