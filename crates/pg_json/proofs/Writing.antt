-- A reply that is written row by row: one thing more at the end of what is written.
use Rattle.std.proofs.Common.{◌≡◌, ℕ, ◌+◌, ◌-◌, ◌^◌, ◌<◌, ◌≤◌, Bool, true, false, cond, List, [], ◌∷◌, ◌++◌, length, take, drop, map, decimal, refl, sym, ap, ◌∙◌, append-nil, length-append, length-drop, arith}
use Rattle.std.proofs.lemmas.List.{append_assoc, length-take-le, map_push, take-append-drop}
use Rattle.std.proofs.lemmas.Fmt.{decimal_nonempty}
use Rattle.std.specs.Prelude.{codes, fold}
use Rattle.json.proofs.Printed.Tokens.{print_from_push}
use Rattle.json.specs.Print.{ends, print, separator}
use Rattle.json.specs.Token.{Token, begin_array, end_array, string as string_token}
use Rattle.json.specs.Tree.{items_tokens, json_tokens}
use Rattle.json.specs.Written.{Written}
use Rattle.serde_json.specs.Data.{Data, Items, no_items, item, array, string}
use Rattle.serde_json.specs.Written.{items_outline, outline}
use Rattle.pg_json.specs.Joined.{IsCut, IsReply, comma_behind, steps_text, with_end, with_row}
use Rattle.pg_json.specs.Pages.{QueryText, columns_begun, ends_from, query_text, row_text, rows_joined, rows_start}
use Rattle.pg_json.specs.Replies.{items_of, max_reply}
use Rattle.pg_json.specs.Rows.{rows_before, rows_data, rows_text}
use Rattle.pg_json.specs.Telling.{HasNames, HasNoted, HasPlain, HasPlainRow, columns_open, names_before, plain_end, row_before, rows_begun}
use Rattle.pg_json.specs.declared.plain_rows.PlainRows.{PlainRows}
use Rattle.pg_json.proofs.Joined.{comma_same, ends_push, joined_push}
use Rattle.pg_json.proofs.RowsText.{columns_printed, items_printed, rows_items, rows_text_ended}

names_pushed : (ns : List (List ℕ)) (n : List ℕ) (ds : Items) → names_before (ns ++ n ∷ []) ds ≡ names_before ns (item (string n) ds)
names_pushed [] n ds = refl
names_pushed (m ∷ ns) n ds = ap (item (string m)) (names_pushed ns n ds)

names_data : (ns : List (List ℕ)) → names_before ns no_items ≡ items_of (map string ns)
names_data [] = refl
names_data (n ∷ ns) = ap (item (string n)) (names_data ns)

rows_pushed : (rows : List Items) (row : Items) (ds : Items) → rows_before (rows ++ row ∷ []) ds ≡ rows_before rows (item (array row) ds)
rows_pushed [] row ds = refl
rows_pushed (r ∷ rows) row ds = ap (item (array r)) (rows_pushed rows row ds)

-- what is written in several steps
pub two_parts : (a b c xs ys : List Token) → b ≡ a ++ xs → c ≡ b ++ ys → c ≡ a ++ (xs ++ ys)
two_parts a b c xs ys first second = second ∙ ap (λ ts. ts ++ ys) first ∙ append_assoc a xs ys

pub two_steps : (a b c : List Token) (x : Token) (xs : List Token) → b ≡ a ++ x ∷ [] → c ≡ b ++ xs → c ≡ a ++ x ∷ xs
two_steps a b c x xs first second = second ∙ ap (λ ts. ts ++ xs) first ∙ append_assoc a (x ∷ []) xs

pub three_steps : (a b c d : List Token) (x : Token) (xs : List Token) (y : Token) → b ≡ a ++ x ∷ [] → c ≡ b ++ xs → d ≡ c ++ y ∷ [] → d ≡ a ++ x ∷ (xs ++ y ∷ [])
three_steps a b c d x xs y first second third = third ∙ ap (λ ts. ts ++ y ∷ []) (two_steps a b c x xs first second) ∙ append_assoc a (x ∷ xs) (y ∷ [])

pub one_name : (w new : Written) (ns : List (List ℕ)) (n : List ℕ) → new.before ≡ w.before → new.tokens ≡ w.tokens ++ string_token n ∷ [] → HasNames w ns → HasNames new (ns ++ n ∷ [])
one_name w new ns n same written so_far = record {
  before = same ∙ so_far.before;
  more = λ ds.
      ap (λ ts. ts ++ items_tokens (items_outline ds)) written
      ∙ append_assoc w.tokens (string_token n ∷ []) (items_tokens (items_outline ds))
      ∙ so_far.more (item (string n) ds)
      ∙ ap (λ xs. items_tokens (items_outline xs)) (sym (names_pushed ns n ds));
}

columns_written : (w : Written) (ts : List Token) (ns : List (List ℕ)) → ts ≡ w.tokens ++ end_array ∷ [] → HasNames w ns → ts ≡ items_tokens (items_outline (items_of (map string ns)))
columns_written w ts ns e so_far = e ∙ so_far.more no_items ∙ ap (λ xs. items_tokens (items_outline xs)) (names_data ns)

pub names_ended : (w : Written) (before text : List ℕ) (ts : List Token) (ns : List (List ℕ)) → text ≡ before ++ print ts → before ≡ w.before → ts ≡ w.tokens ++ end_array ∷ [] → HasNames w ns
    → text ≡ columns_begun (items_of (map string ns))
names_ended w before text ts ns e f g so_far =
    e ∙ ap (λ t. t ++ print ts) (f ∙ so_far.before) ∙ ap (λ t. columns_open ++ print t) (columns_written w ts ns g so_far) ∙ columns_printed (items_of (map string ns))

-- ---- rows that are not noted

no_comma : (after : Bool) → separator after end_array ≡ []
no_comma true = refl
no_comma false = refl

bracket_printed : (ts : List Token) → print (ts ++ end_array ∷ []) ≡ print ts ++ codes "]"
bracket_printed ts = print_from_push false ts end_array ∙ ap (λ c. print ts ++ (c ++ codes "]")) (no_comma (fold (λ _ t. ends t) false ts))

pub names_closed : (w : Written) (text opened : List ℕ) (ns : List (List ℕ)) → text ≡ w.before ++ print w.tokens → opened ≡ text ++ codes "],\"rows\":[" → HasNames w ns → opened ≡ rows_begun (items_of (map string ns))
names_closed w text opened ns printed put so_far =
    let behind : List ℕ = codes ",\"rows\":[" in
    let ended : List Token = w.tokens ++ end_array ∷ [] in
    put ∙ sym (append_assoc text (codes "]") behind)
    ∙ ap (λ t. t ++ behind)
    (ap (λ t. t ++ codes "]") printed ∙ append_assoc w.before (print w.tokens) (codes "]") ∙ ap (λ t. w.before ++ t) (sym (bracket_printed w.tokens))
    ∙ names_ended w w.before (w.before ++ print ended) ended ns refl refl refl so_far)

pub plain_begun : (new : PlainRows) (columns : Items) → new.to.before ≡ rows_begun columns → new.to.tokens ≡ [] → HasPlain new columns []
plain_begun new columns begun none = record { before = begun; more = λ ds. ap (λ ts. ts ++ items_tokens (items_outline ds)) none }

pub plain_row_begun : (p new : PlainRows) (columns : Items) (rows : List Items) → new.to.before ≡ p.to.before → new.to.tokens ≡ p.to.tokens ++ begin_array ∷ [] → HasPlain p columns rows → HasPlainRow new columns rows []
plain_row_begun p new columns rows same written so_far = record {
  before = same ∙ so_far.before;
  more = λ vs ds.
      let behind : List Token = items_tokens (items_outline vs) ++ items_tokens (items_outline ds) in
      ap (λ ts. ts ++ behind) written ∙ append_assoc p.to.tokens (begin_array ∷ []) behind ∙ so_far.more (item (array vs) ds);
}

row_pushed : (row : List Data) (d : Data) (ds : Items) → row_before (row ++ d ∷ []) ds ≡ row_before row (item d ds)
row_pushed [] d ds = refl
row_pushed (r ∷ row) d ds = ap (item r) (row_pushed row d ds)

row_data : (row : List Data) → row_before row no_items ≡ items_of row
row_data [] = refl
row_data (d ∷ row) = ap (item d) (row_data row)

pub plain_value : (p new : PlainRows) (columns : Items) (rows : List Items) (row : List Data) (d : Data) → new.to.before ≡ p.to.before → new.to.tokens ≡ p.to.tokens ++ json_tokens (outline d)
    → HasPlainRow p columns rows row → HasPlainRow new columns rows (row ++ d ∷ [])
plain_value p new columns rows row d same written so_far = record {
  before = same ∙ so_far.before;
  more = λ vs ds.
      let value : List Token = json_tokens (outline d) in
      let values : List Token = items_tokens (items_outline vs) in
      let others : List Token = items_tokens (items_outline ds) in
      ap (λ ts. ts ++ (values ++ others)) written
      ∙ append_assoc p.to.tokens value (values ++ others)
      ∙ ap (λ ts. p.to.tokens ++ ts) (sym (append_assoc value values others))
      ∙ so_far.more (item d vs) ds
      ∙ ap (λ xs. items_tokens (items_outline (rows_before rows (item (array xs) ds)))) (sym (row_pushed row d vs));
}

pub plain_row_ended : (p new : PlainRows) (columns : Items) (rows : List Items) (row : List Data) → new.to.before ≡ p.to.before → new.to.tokens ≡ p.to.tokens ++ end_array ∷ [] → HasPlainRow p columns rows row
    → HasPlain new columns (rows ++ items_of row ∷ [])
plain_row_ended p new columns rows row same written so_far = record {
  before = same ∙ so_far.before;
  more = λ ds.
      ap (λ ts. ts ++ items_tokens (items_outline ds)) written
      ∙ append_assoc p.to.tokens (end_array ∷ []) (items_tokens (items_outline ds))
      ∙ so_far.more no_items ds
      ∙ ap (λ xs. items_tokens (items_outline (rows_before rows (item (array xs) ds)))) (row_data row)
      ∙ ap (λ items. items_tokens (items_outline items)) (sym (rows_pushed rows (items_of row) ds));
}

plain_text : (p : PlainRows) (columns : Items) (rows : List Items) (steps : ℕ) → HasPlain p columns rows → p.to.before ++ print p.to.tokens ++ codes "]" ++ steps_text steps ≡ rows_text columns rows steps
plain_text p columns rows steps so_far =
    let joined : List ℕ = rows_joined (map row_text rows) in
    let closed : print p.to.tokens ++ codes "]" ≡ joined ++ codes "]" =
    sym (bracket_printed p.to.tokens) ∙ ap print (so_far.more no_items) ∙ items_printed (rows_data rows) ∙ rows_items rows in
    ap (λ t. t ++ steps_text steps)
    (append_assoc p.to.before (print p.to.tokens) (codes "]") ∙ ap (λ t. p.to.before ++ t) closed ∙ ap (λ t. t ++ (joined ++ codes "]")) so_far.before ∙ sym (append_assoc (rows_begun columns) joined (codes "]")))
    ∙ rows_text_ended columns rows steps

-- ---- rows that are noted

pub noted_begun : (q : QueryText) (columns : Items) → q.columns_end ≡ length (columns_begun columns) → q.text ≡ rows_begun columns → q.row_ends ≡ [] → HasNoted q columns []
noted_begun q columns place text none = record { columns_end = place; text = text ∙ sym (append-nil (rows_begun columns)); row_ends = none }

pub noted_row : (q : QueryText) (columns : Items) (rows : List Items) (row : Items) → HasNoted q columns rows → HasNoted (with_row q (row_text row)) columns (rows ++ row ∷ [])
noted_row q columns rows row so_far =
    let texts : List (List ℕ) = map row_text rows in
    let more : List ℕ = comma_behind q.row_ends ++ row_text row in
    let comma : comma_behind q.row_ends ≡ comma_behind texts = ap comma_behind so_far.row_ends ∙ comma_same (rows_start columns) texts in
    let joined : rows_joined texts ++ more ≡ rows_joined (texts ++ row_text row ∷ []) = ap (λ t. rows_joined texts ++ (t ++ row_text row)) comma ∙ sym (joined_push texts (row_text row)) in
    let pushed : texts ++ row_text row ∷ [] ≡ map row_text (rows ++ row ∷ []) = sym (map_push row_text rows row) in
    let text : q.text ++ more ≡ rows_begun columns ++ rows_joined (texts ++ row_text row ∷ []) =
    ap (λ t. t ++ more) so_far.text ∙ append_assoc (rows_begun columns) (rows_joined texts) more ∙ ap (λ t. rows_begun columns ++ t) joined in
    let place : length (q.text ++ more) ≡ rows_start columns + length (rows_joined (texts ++ row_text row ∷ [])) =
    ap length text ∙ (simp length-append (omega arith)) in
    record {
      columns_end = so_far.columns_end;
      text = text ∙ ap (λ ts. rows_begun columns ++ rows_joined ts) pushed;
      row_ends = ap (λ es. es ++ length (q.text ++ more) ∷ []) so_far.row_ends ∙ ap (λ e. ends_from (rows_start columns) texts ++ e ∷ []) place
          ∙ sym (ends_push (rows_start columns) texts (row_text row)) ∙ ap (ends_from (rows_start columns)) pushed;
    }

pub noted_text : (q : QueryText) (columns : Items) (rows : List Items) (steps : ℕ) → HasNoted q columns rows → q.text ++ codes "]" ++ steps_text steps ≡ rows_text columns rows steps
noted_text q columns rows steps so_far = ap (λ t. t ++ codes "]" ++ steps_text steps) so_far.text ∙ rows_text_ended columns rows steps

-- the same of the rows as texts
cut_row : (text ends : List ℕ) (columns_end : ℕ) (row : List ℕ) → IsCut text columns_end ends [] → IsCut (text ++ (comma_behind ends ++ row)) columns_end (ends ++ length (text ++ (comma_behind ends ++ row)) ∷ []) []
cut_row text ends columns_end row cut =
    let more : List ℕ = comma_behind ends ++ row in
    let comma : comma_behind ends ≡ comma_behind cut.rows = ap comma_behind cut.ends ∙ comma_same (columns_end + 9) cut.rows in
    let joined : rows_joined cut.rows ++ more ≡ rows_joined (cut.rows ++ row ∷ []) = ap (λ t. rows_joined cut.rows ++ (t ++ row)) comma ∙ sym (joined_push cut.rows row) in
    let whole : text ++ more ≡ cut.before ++ rows_joined (cut.rows ++ row ∷ []) =
    ap (λ t. t ++ more) (cut.parts ∙ ap (λ t. cut.before ++ t) (append-nil (rows_joined cut.rows))) ∙ append_assoc cut.before (rows_joined cut.rows) more ∙ ap (λ t. cut.before ++ t) joined in
    let place : length (text ++ more) ≡ columns_end + 9 + length (rows_joined (cut.rows ++ row ∷ [])) = ap length whole ∙ length-append cut.before _ ∙ ap (λ n. n + length (rows_joined (cut.rows ++ row ∷ []))) cut.begins in
    record {
      before = cut.before;
      rows = cut.rows ++ row ∷ [];
      parts = whole ∙ ap (λ t. cut.before ++ t) (sym (append-nil (rows_joined (cut.rows ++ row ∷ []))));
      begins = cut.begins;
      ends = ap (λ es. es ++ length (text ++ more) ∷ []) cut.ends ∙ ap (λ e. ends_from (columns_end + 9) cut.rows ++ e ∷ []) place ∙ sym (ends_push (columns_end + 9) cut.rows row);
    }

pub cut_pushed : (text ends new_text new_ends printed : List ℕ) (columns_end : ℕ) (row : List ℕ) → new_text ≡ text ++ printed → printed ≡ comma_behind ends ++ row → new_ends ≡ ends ++ length new_text ∷ []
    → IsCut text columns_end ends [] → IsCut new_text columns_end new_ends []
cut_pushed text ends new_text new_ends printed columns_end row first second third cut =
    let k = cut_row text ends columns_end row cut in
    let whole : new_text ≡ text ++ (comma_behind ends ++ row) = first ∙ ap (λ t. text ++ t) second in
    record { before = k.before; rows = k.rows; parts = whole ∙ k.parts; begins = k.begins; ends = third ∙ ap (λ t. ends ++ length t ∷ []) whole ∙ k.ends }

-- ---- the reply's end

steps_length : (steps : ℕ) → steps < 2 ^ 64 → 11 ≤ length (steps_text steps)
steps_length steps fits = let some : 0 < length (decimal steps) = decimal_nonempty steps fits in simp length-append (omega arith)

pub noted_reply : (text ended whole ends : List ℕ) (columns_end steps : ℕ) → steps < 2 ^ 64 → ended ≡ text ++ 93 ∷ [] → whole ≡ ended ++ steps_text steps → length whole ≤ max_reply
    → IsCut text columns_end ends [] → IsReply whole columns_end ends
noted_reply text ended whole ends columns_end steps fits bracket all within cut =
    let inside : List ℕ = rows_joined cut.rows in
    let long : 11 ≤ length (steps_text steps) = steps_length steps fits in
    record {
      behind = 93 ∷ steps_text steps;
      last = omega arith;
      within = within;
      cut = record {
        before = cut.before;
        rows = cut.rows;
        parts = all ∙ ap (λ t. t ++ steps_text steps) (bracket ∙ ap (λ t. t ++ 93 ∷ []) (cut.parts ∙ ap (λ t. cut.before ++ t) (append-nil inside)))
            ∙ append_assoc (cut.before ++ inside) (93 ∷ []) (steps_text steps) ∙ append_assoc cut.before inside (93 ∷ steps_text steps);
        begins = cut.begins;
        ends = cut.ends;
      };
    }

pub plain_reply : (before printed text ended whole ends : List ℕ) (steps : ℕ) → 20 ≤ length before → text ≡ before ++ printed → ended ≡ text ++ 93 ∷ [] → whole ≡ ended ++ steps_text steps → length whole ≤ max_reply → ends ≡ []
    → IsReply whole 0 ends
plain_reply before printed text ended whole ends steps begun rows bracket all within none =
    let first : length text ≡ length before + length printed = ap length rows ∙ length-append before printed in
    let second : length ended ≡ length text + 1 = ap length bracket ∙ length-append text (93 ∷ []) in
    let both : length whole ≡ length ended + length (steps_text steps) = ap length all ∙ length-append ended (steps_text steps) in
    let rest : length (drop 9 whole) ≡ length whole - 9 = length-drop 9 whole in
    record {
      behind = drop 9 whole;
      last = omega arith;
      within = within;
      cut = record { before = take 9 whole; rows = []; parts = sym (take-append-drop 9 whole); begins = length-take-le 9 whole (omega arith); ends = none };
    }

pub same_reply : (q : QueryText) (notes : Bool) (columns : Items) (rows : List Items) (steps : ℕ) → q.text ≡ rows_text columns rows steps → q.columns_end ≡ cond notes (length (columns_begun columns)) 0
    → q.row_ends ≡ cond notes (ends_from (rows_start columns) (map row_text rows)) [] → q ≡ query_text notes columns rows steps
same_reply q notes columns rows steps first second third =
    ap (λ t. record { text = t; columns_end = q.columns_end; row_ends = q.row_ends }) first
    ∙ ap (λ n. record { text = rows_text columns rows steps; columns_end = n; row_ends = q.row_ends }) second
    ∙ ap (λ es. record { text = rows_text columns rows steps; columns_end = cond notes (length (columns_begun columns)) 0; row_ends = es }) third

pub plain_whole : (p : PlainRows) (notes : Bool) (columns : Items) (rows : List Items) (steps : ℕ) → notes ≡ false → HasPlain p columns rows → plain_end p steps ≡ query_text notes columns rows steps
plain_whole p notes columns rows steps plain so_far =
    same_reply (plain_end p steps) notes columns rows steps (plain_text p columns rows steps so_far)
    (sym (ap (λ b. cond b (length (columns_begun columns)) 0) plain)) (sym (ap (λ b. cond b (ends_from (rows_start columns) (map row_text rows)) []) plain))

pub noted_whole : (q : QueryText) (notes : Bool) (columns : Items) (rows : List Items) (steps : ℕ) → notes ≡ true → HasNoted q columns rows → with_end q steps ≡ query_text notes columns rows steps
noted_whole q notes columns rows steps noted so_far =
    same_reply (with_end q steps) notes columns rows steps (noted_text q columns rows steps so_far) (so_far.columns_end ∙ sym (ap (λ b. cond b (length (columns_begun columns)) 0) noted))
    (so_far.row_ends ∙ sym (ap (λ b. cond b (ends_from (rows_start columns) (map row_text rows)) []) noted))
