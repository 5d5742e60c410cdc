-- A query's reply is what stands around its rows, and each row's text.
use Rattle.std.proofs.Common.{◌≡◌, ℕ, true, false, List, [], ◌∷◌, ◌++◌, map, drop, decimal, refl, sym, ap, ◌∙◌, append_assoc}
use Rattle.std.specs.Fmt.{digits}
use Rattle.std.specs.Prelude.{codes}
use Rattle.json.specs.Print.{print, print_from}
use Rattle.json.specs.Tree.{items_tokens}
use Rattle.serde_json.specs.Data.{Data, Items, array, object, member, no_members}
use Rattle.serde_json.specs.Written.{compact_text, items_outline, items_text}
use Rattle.serde_json.proofs.OnLiterals.{serde_json_on_literals}
use Rattle.serde_json.proofs.Texts.{print-outline}
use Rattle.pg_json.specs.Joined.{steps_text}
use Rattle.pg_json.specs.Pages.{columns_begun, further_rows, rows_joined, row_text}
use Rattle.pg_json.specs.Replies.{natural}
use Rattle.pg_json.specs.Rows.{rows_data, rows_text}
use Rattle.pg_json.specs.Telling.{columns_open, rows_begun}

-- ---- rows as items

further_items : (rows : List Items) → items_text true (rows_data rows) ≡ further_rows (map row_text rows) ++ codes "]"
further_items [] = refl
further_items (row ∷ rows) =
    ap (λ t. 44 ∷ (row_text row ++ t)) (further_items rows) ∙ ap (λ t. 44 ∷ t) (sym (append_assoc (row_text row) (further_rows (map row_text rows)) (codes "]")))

pub rows_items : (rows : List Items) → items_text false (rows_data rows) ≡ rows_joined (map row_text rows) ++ codes "]"
rows_items [] = refl
rows_items (row ∷ rows) = ap (λ t. row_text row ++ t) (further_items rows) ∙ sym (append_assoc (row_text row) (further_rows (map row_text rows)) (codes "]"))

-- ---- the whole

left : (a b c d e f g : List ℕ) → a ++ b ++ c ++ d ++ e ++ f ++ g ≡ a ++ (b ++ (c ++ (d ++ (e ++ (f ++ g)))))
left a b c d e f g = simp append_assoc

answer_pieces : (c r s : Data)
    → compact_text (object (member (codes "code") (natural 0) (member (codes "columns") c (member (codes "rows") r (member (codes "steps") s no_members)))))
    ≡ codes "{\"code\":0,\"columns\":" ++ compact_text c ++ codes ",\"rows\":" ++ compact_text r ++ codes ",\"steps\":" ++ compact_text s ++ codes "}"
unfolding serde_json_on_literals digits
answer_pieces c r s = sym (left (codes "{\"code\":0,\"columns\":") (compact_text c) (codes ",\"rows\":") (compact_text r) (codes ",\"steps\":") (compact_text s) (codes "}"))

brackets : (x b j d : List ℕ) → x ++ b ++ 91 ∷ (j ++ 93 ∷ []) ++ d ≡ x ++ (b ++ 91 ∷ []) ++ j ++ 93 ∷ d
brackets x b j d =
    append_assoc (x ++ b) (91 ∷ (j ++ 93 ∷ [])) d ∙ append_assoc x b (91 ∷ (j ++ 93 ∷ [] ++ d)) ∙ ap (λ t. x ++ (b ++ 91 ∷ t)) (append_assoc j (93 ∷ []) d)
    ∙ ap (λ t. x ++ t) (sym (append_assoc b (91 ∷ []) (j ++ 93 ∷ d))) ∙ sym (append_assoc x (b ++ 91 ∷ []) (j ++ 93 ∷ d)) ∙ sym (append_assoc (x ++ (b ++ 91 ∷ [])) j (93 ∷ d))

pub rows_text_pieces : (columns : Items) (rows : List Items) (steps : ℕ)
    → rows_text columns rows steps ≡ columns_begun columns ++ codes ",\"rows\":[" ++ rows_joined (map row_text rows) ++ codes "],\"steps\":" ++ decimal steps ++ codes "}"
unfolding rows_text
rows_text_pieces columns rows steps =
    let begun : List ℕ = columns_begun columns in
    let joined : List ℕ = rows_joined (map row_text rows) in
    answer_pieces (array columns) (array (rows_data rows)) (natural steps)
    ∙ ap (λ t. begun ++ codes ",\"rows\":" ++ 91 ∷ t ++ codes ",\"steps\":" ++ decimal steps ++ codes "}") (rows_items rows)
    ∙ ap (λ t. t ++ decimal steps ++ codes "}") (brackets begun (codes ",\"rows\":") joined (codes ",\"steps\":"))

-- with the bracket behind the rows told apart from the steps
pub rows_text_ended : (columns : Items) (rows : List Items) (steps : ℕ) → rows_begun columns ++ rows_joined (map row_text rows) ++ codes "]" ++ steps_text steps ≡ rows_text columns rows steps
rows_text_ended columns rows steps =
    let before : List ℕ = rows_begun columns ++ rows_joined (map row_text rows) in
    let number : List ℕ = decimal steps in
    sym (append_assoc (before ++ codes "]") (codes ",\"steps\":" ++ number) (codes "}")) ∙ ap (λ t. t ++ codes "}") (sym (append_assoc (before ++ codes "]") (codes ",\"steps\":") number))
    ∙ ap (λ t. t ++ number ++ codes "}") (append_assoc before (codes "]") (codes ",\"steps\":")) ∙ sym (rows_text_pieces columns rows steps)

-- ---- what tokens print

pub items_printed : (items : Items) → print (items_tokens (items_outline items)) ≡ items_text false items
unfolding print_from
items_printed items = ap (drop 1) (print-outline (array items))

pub columns_printed : (columns : Items) → columns_open ++ print (items_tokens (items_outline columns)) ≡ columns_begun columns
columns_printed columns = ap (λ t. columns_open ++ t) (items_printed columns)
