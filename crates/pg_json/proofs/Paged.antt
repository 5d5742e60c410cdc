-- A reply that is cut between its rows.
use Rattle.std.proofs.Common.{◌≡◌, ℕ, zero, suc, ◌+◌, ◌-◌, ◌<◌, ◌≤◌, Option, List, [], ◌∷◌, ◌++◌, length, map, get_or, take, drop, decimal, arith, refl, sym, ap, ◌∙◌, append_assoc, length-append, length-take, length-drop}
use Rattle.std.specs.Prelude.{codes}
use Rattle.std.proofs.lemmas.List.{length-map, take_at, drop_at, take_all}
use Rattle.pg_json.specs.Joined.{IsReply, row_begin}
use Rattle.pg_json.specs.Pages.{columns_begun, ends_from, number_or_null, paged_text, rows_joined, row_text}
use Rattle.pg_json.specs.Replies.{max_reply}
use Rattle.pg_json.specs.Rows.{rows_text}
use Rattle.pg_json.specs.Telling.{rows_begun}
use Rattle.serde_json.specs.Data.{Items}
use Rattle.pg_json.proofs.Joined.{begin_is, begin_within, end_of_row, ends_behind, ends_length, joined_behind, joined_front, joined_within}
use Rattle.pg_json.proofs.RowsText.{rows_text_pieces}

take_past : (p q : List ℕ) (k m : ℕ) → m ≡ length p + k → take m (p ++ q) ≡ p ++ take k q
take_past [] q k m e = let same : m ≡ k = omega arith in ap (λ n. take n q) same
take_past (x ∷ p) q k zero e = absurd (omega arith)
take_past (x ∷ p) q k (suc m) e = ap (λ t. x ∷ t) (take_past p q k m (omega arith))

drop_past : (p q : List ℕ) (k m : ℕ) → m ≡ length p + k → drop m (p ++ q) ≡ drop k q
drop_past [] q k m e = let same : m ≡ k = omega arith in ap (λ n. drop n q) same
drop_past (x ∷ p) q k zero e = absurd (omega arith)
drop_past (x ∷ p) q k (suc m) e = drop_past p q k m (omega arith)

-- the bytes up to the end of the rows, from the beginning of one
module _ (before behind : List ℕ) (rows : List (List ℕ)) (s : ℕ) (begins : length before ≡ s) where
  pub first_rows : (n end : ℕ) → end ≡ s + length (rows_joined (take n rows)) → take end (before ++ (rows_joined rows ++ behind)) ≡ before ++ rows_joined (take n rows)
  first_rows n end e =
      take_past before (rows_joined rows ++ behind) (length (rows_joined (take n rows))) end (omega arith) ∙ ap (λ t. before ++ t) (joined_front n rows behind)

  pub last_rows : (n begin end : ℕ) → begin ≡ s + row_begin n rows → end ≡ s + length (rows_joined rows) → drop begin (take end (before ++ (rows_joined rows ++ behind))) ≡ rows_joined (drop n rows)
  last_rows n begin end e f =
      ap (drop begin) (take_past before (rows_joined rows ++ behind) (length (rows_joined rows)) end (omega arith) ∙ ap (λ t. before ++ t) (take_at (rows_joined rows) behind (length (rows_joined rows)) refl))
      ∙ drop_past before (rows_joined rows) (row_begin n rows) begin (omega arith) ∙ joined_behind n rows

  pub after_rows : (end : ℕ) → end ≡ s + length (rows_joined rows) → drop end (before ++ (rows_joined rows ++ behind)) ≡ behind
  after_rows end e = drop_past before (rows_joined rows ++ behind) (length (rows_joined rows)) end (omega arith) ∙ drop_at (rows_joined rows) behind (length (rows_joined rows)) refl

-- where the first rows end, and where a row begins
pub place_end : (ends : List ℕ) (s n place : ℕ) (rows : List (List ℕ)) → ends ≡ ends_from s rows → (n ≡ 0 → ⊥) → n ≤ length ends → place ≡ get_or ends (n - 1) 0 → place ≡ s + length (rows_joined (take n rows))
place_end ends s n place rows cut some within read =
    let all : length ends ≡ length rows = ap length cut ∙ ends_length s rows in
    let same : n - 1 + 1 ≡ n = omega arith in
    read ∙ ap (λ es. get_or es (n - 1) 0) cut ∙ end_of_row s (n - 1) rows (omega arith) ∙ ap (λ k. s + length (rows_joined (take k rows))) same

pub place_begin : (ends : List ℕ) (s n place : ℕ) (rows : List (List ℕ)) → ends ≡ ends_from s rows → (n ≡ 0 → ⊥) → n < length ends → place ≡ get_or ends (n - 1) 0 → place + 1 ≡ s + row_begin n rows
place_begin ends s n place rows cut some within read =
    let all : length ends ≡ length rows = ap length cut ∙ ends_length s rows in
    let same : suc (n - 1) ≡ n = omega arith in
    ap (λ y. y + 1) (read ∙ ap (λ es. get_or es (n - 1) 0) cut) ∙ begin_is (n - 1) s rows (omega arith) ∙ ap (λ k. s + row_begin k rows) same

pub place_none : (s : ℕ) (n : ℕ) (rows : List (List ℕ)) → n ≡ 0 → s ≡ s + length (rows_joined (take n rows))
place_none s n rows e = let none : length (rows_joined (take n rows)) ≡ 0 = ap (λ k. length (rows_joined (take k rows))) e in omega arith

pub begin_none : (s : ℕ) (n : ℕ) (rows : List (List ℕ)) → n ≡ 0 → s ≡ s + row_begin n rows
begin_none s n rows e = let none : row_begin n rows ≡ 0 = ap (λ k. row_begin k rows) e in omega arith

-- what is known of any reply
module _ (text ends : List ℕ) (columns_end : ℕ) (h : IsReply text columns_end ends) where
  pub reply_count : length ends ≡ length h.cut.rows
  reply_count = ap length h.cut.ends ∙ ends_length (columns_end + 9) h.cut.rows

  reply_length : length text ≡ columns_end + 9 + length (rows_joined h.cut.rows) + length h.behind
  reply_length =
      ap length h.cut.parts ∙ length-append h.cut.before (rows_joined h.cut.rows ++ h.behind)
      ∙ ap (λ n. length h.cut.before + n) (length-append (rows_joined h.cut.rows) h.behind) ∙ ap (λ n. n + (length (rows_joined h.cut.rows) + length h.behind)) h.cut.begins ∙ (omega arith)

  pub reply_ends : (n end : ℕ) → end ≡ columns_end + 9 + length (rows_joined (take n h.cut.rows)) → (columns_end ≤ end) × (end ≤ length text)
  reply_ends n end e = (omega (arith, reply_length, joined_within n h.cut.rows), omega (arith, reply_length, joined_within n h.cut.rows))

  all_rows : (n : ℕ) → length ends ≤ n → take n h.cut.rows ≡ h.cut.rows
  all_rows n all = take_all n h.cut.rows (omega (arith, reply_count))

  -- a page is no longer than the reply but for the number
  pub page_fits : (n end last all : ℕ) (c r b : List ℕ) → end ≡ columns_end + 9 + length (rows_joined (take n h.cut.rows)) → length ends ≤ all → last ≡ columns_end + 9 + length (rows_joined (take all h.cut.rows))
      → c ≡ drop 0 (take columns_end text) → r ≡ drop columns_end (take end text) → b ≡ drop last (take (length text) text) → length c + length r + length b ≤ max_reply
  page_fits n end last all c r b e every f first second third =
      let whole : length text ≡ columns_end + 9 + length (rows_joined h.cut.rows) + length h.behind = reply_length in
      let same : length (rows_joined (take all h.cut.rows)) ≡ length (rows_joined h.cut.rows) = ap (λ rs. length (rows_joined rs)) (all_rows all every) in
      let part : length (rows_joined (take n h.cut.rows)) ≤ length (rows_joined h.cut.rows) = joined_within n h.cut.rows in
      let one : length c ≡ columns_end = ap length first ∙ length-take columns_end text ∙ (omega arith) in
      let two : length r ≡ end - columns_end = ap length second ∙ length-drop columns_end (take end text) ∙ ap (λ k. k - columns_end) (length-take end text) ∙ (omega arith) in
      let three : length b ≡ length text - last = ap length third ∙ length-drop last (take (length text) text) ∙ ap (λ k. k - last) (length-take (length text) text) ∙ (omega arith) in
      omega (arith, h.within)

  -- the rows that are held
  pub rest_order : (n begin end all : ℕ) → n < length ends → length ends ≤ all → begin ≡ columns_end + 9 + row_begin n h.cut.rows → end ≡ columns_end + 9 + length (rows_joined (take all h.cut.rows)) → begin ≤ end
  rest_order n begin end all within every e f =
      let same : length (rows_joined (take all h.cut.rows)) ≡ length (rows_joined h.cut.rows) = ap (λ rs. length (rows_joined rs)) (all_rows all every) in
      omega (arith, begin_within n h.cut.rows (omega (arith, reply_count)))

  pub rest_fits : (begin end : ℕ) (part : List ℕ) → columns_end + 9 ≤ begin → end + 11 ≤ length text → part ≡ drop begin (take end text) → length part + 16 ≤ max_reply
  rest_fits begin end part low high e =
      let long : length part ≡ end - begin = ap length e ∙ length-drop begin (take end text) ∙ ap (λ k. k - begin) (length-take end text) ∙ (omega arith) in
      omega (arith, h.within)

  pub rest_last : (end all : ℕ) → length ends ≤ all → end ≡ columns_end + 9 + length (rows_joined (take all h.cut.rows)) → end + 11 ≤ length text
  rest_last end all every e =
      let same : length (rows_joined (take all h.cut.rows)) ≡ length (rows_joined h.cut.rows) = ap (λ rs. length (rows_joined rs)) (all_rows all every) in
      omega (arith, reply_length, h.last)

-- the rows behind the first n, where the text and the places are known
pub rest_text : (text before behind part : List ℕ) (rows : List (List ℕ)) (s n begin end all : ℕ) → text ≡ before ++ (rows_joined rows ++ behind) → length before ≡ s → length rows ≤ all
    → begin ≡ s + row_begin n rows → end ≡ s + length (rows_joined (take all rows)) → part ≡ drop begin (take end text) → part ≡ rows_joined (drop n rows)
rest_text text before behind part rows s n begin end all parts begins every e f g =
    let last : end ≡ s + length (rows_joined rows) = f ∙ ap (λ rs. s + length (rows_joined rs)) (take_all all rows every) in
    g ∙ ap (λ t. drop begin (take end t)) parts ∙ last_rows before behind rows s begins n begin end e last

pub rest_ends : (ends part : List ℕ) (rows : List (List ℕ)) (s n begin : ℕ) → ends ≡ ends_from s rows → begin ≡ s + row_begin n rows → part ≡ drop n ends → part ≡ ends_from begin (drop n rows)
rest_ends ends part rows s n begin cut e g = g ∙ ap (drop n) cut ∙ ends_behind n s rows ∙ ap (λ b. ends_from b (drop n rows)) (sym e)

-- ---- a query's reply

-- `],"steps":n}`
abbrev steps_end : ℕ → List ℕ
steps_end steps = codes "],\"steps\":" ++ decimal steps ++ codes "}"

six : (a b c d e f : List ℕ) → a ++ b ++ c ++ d ++ e ++ f ≡ (a ++ b) ++ (c ++ (d ++ e ++ f))
six a b c d e f = append_assoc (a ++ b ++ c ++ d) e f ∙ append_assoc (a ++ b ++ c) d (e ++ f) ∙ append_assoc (a ++ b) c (d ++ (e ++ f)) ∙ ap (λ t. a ++ b ++ (c ++ t)) (sym (append_assoc d e f))

pub reply_parts : (columns : Items) (rows : List Items) (steps : ℕ) → rows_text columns rows steps ≡ rows_begun columns ++ (rows_joined (map row_text rows) ++ steps_end steps)
reply_parts columns rows steps = rows_text_pieces columns rows steps ∙ six (columns_begun columns) (codes ",\"rows\":[") (rows_joined (map row_text rows)) (codes "],\"steps\":") (decimal steps) (codes "}")

pub begun_length : (columns : Items) → length (rows_begun columns) ≡ length (columns_begun columns) + 9
begun_length columns = length-append (columns_begun columns) (codes ",\"rows\":[")

seven : (a b c d e f g h : List ℕ) → a ++ b ++ c ++ (d ++ e) ++ (f ++ g ++ h) ≡ a ++ b ++ c ++ d ++ e ++ f ++ g ++ h
seven a b c d e f g h =
    sym (append_assoc (a ++ b ++ c ++ (d ++ e)) (f ++ g) h) ∙ ap (λ t. t ++ h) (sym (append_assoc (a ++ b ++ c ++ (d ++ e)) f g)) ∙ ap (λ t. t ++ f ++ g ++ h) (sym (append_assoc (a ++ b ++ c) d e))

pub page_of : (text c r b whole : List ℕ) (columns : Items) (rows : List Items) (page : Option ℕ) (steps columns_end n end last all : ℕ) → text ≡ rows_text columns rows steps → columns_end ≡ length (columns_begun columns)
    → end ≡ columns_end + 9 + length (rows_joined (take n (map row_text rows))) → length rows ≤ all → last ≡ columns_end + 9 + length (rows_joined (take all (map row_text rows)))
    → c ≡ drop 0 (take columns_end text) → r ≡ drop columns_end (take end text) → b ≡ drop last (take (length text) text)
    → whole ≡ c ++ codes ",\"page\":" ++ number_or_null page ++ r ++ b → whole ≡ paged_text columns page (take n (map row_text rows)) steps
unfolding paged_text
page_of text c r b whole columns rows page steps columns_end n end last all known place e every f first second third joined =
    let texts : List (List ℕ) = map row_text rows in
    let begun : List ℕ = columns_begun columns in
    let open_rows : List ℕ = codes ",\"rows\":[" in
    let parts : text ≡ rows_begun columns ++ (rows_joined texts ++ steps_end steps) = known ∙ reply_parts columns rows steps in
    let start : length (rows_begun columns) ≡ columns_end + 9 = begun_length columns ∙ ap (λ k. k + 9) (sym place) in
    let last_is : last ≡ columns_end + 9 + length (rows_joined texts) = f ∙ ap (λ rs. columns_end + 9 + length (rows_joined rs)) (take_all all texts (omega (arith, length-map rows row_text))) in
    let one : c ≡ begun = first ∙ ap (take columns_end) (parts ∙ append_assoc begun open_rows (rows_joined texts ++ steps_end steps)) ∙ take_at begun _ columns_end (sym place) in
    let two : r ≡ open_rows ++ rows_joined (take n texts) =
    second ∙ ap (drop columns_end) (ap (take end) parts ∙ first_rows (rows_begun columns) (steps_end steps) texts (columns_end + 9) start n end e ∙ append_assoc begun open_rows (rows_joined (take n texts)))
    ∙ drop_at begun _ columns_end (sym place) in
    let three : b ≡ steps_end steps = third ∙ ap (drop last) (take_all (length text) text (omega arith) ∙ parts) ∙ after_rows (rows_begun columns) (steps_end steps) texts (columns_end + 9) start last last_is in
    joined ∙ ap (λ t. t ++ codes ",\"page\":" ++ number_or_null page ++ r ++ b) one ∙ ap (λ t. begun ++ codes ",\"page\":" ++ number_or_null page ++ t ++ b) two
    ∙ ap (λ t. begun ++ codes ",\"page\":" ++ number_or_null page ++ (open_rows ++ rows_joined (take n texts)) ++ t) three
    ∙ seven begun (codes ",\"page\":") (number_or_null page) open_rows (rows_joined (take n texts)) (codes "],\"steps\":") (decimal steps) (codes "}")
