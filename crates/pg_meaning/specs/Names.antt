-- Names and other texts: whether one is among others, and sets of them in the order of their making or of their bytes.
use Rattle.std.specs.Prelude.{ℕ, Bool, cond, List, [], ◌∷◌, ◌++◌, fold, bytes_eq}
use Rattle.std.specs.BTreeSet.{insert_key}
use Rattle.std.specs.List.{list_any}
use Rattle.pg_meaning.specs.Order.{text_order}

abbrev pub Names : Type 0
Names = List (List ℕ)

abbrev pub is_among : Names → List ℕ → Bool
is_among names name = list_any (bytes_eq name) names

-- the names, with one more at the end where it is new
abbrev pub add_name : Names → List ℕ → Names
add_name names name = cond (is_among names name) names (names ++ name ∷ [])

-- the texts, which stand in byte order and each once, with more of them
abbrev pub put_texts : (more texts : Names) → Names
put_texts more texts = fold (insert_key text_order) texts more

abbrev pub in_byte_order : Names → Names
in_byte_order names = put_texts names []
