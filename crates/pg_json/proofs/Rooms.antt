-- What is left of the room, a part of a value at a time.
use Rattle.std.proofs.Common.{◌≡◌, ◌+◌, ◌-◌, ◌<◌, ◌≤◌, ◌∷◌, ◌∙◌, ℕ, List, map, drop, get_or, sym, ap, length, decimal, String, Vec, Global, string_bytes, refl, arith}
use Rattle.std.proofs.lemmas.List.{drop_more, drop_all}
use Rattle.serde_json.specs.Data.{Data}
use Rattle.pg_value_core.specs.declared.ids.NodeId.{NodeId}
use Rattle.pg_value_core.specs.declared.ids.RelId.{RelId}
use Rattle.pg_value_core.specs.declared.out.Out.{Out, Text, List as OutList, Map as OutMap, Node, Rel, Path}
use Rattle.pg_json.specs.Replies.{items_of, data_of, outs, named_outs, text_items}
use Rattle.pg_json.specs.Room.{least, items_least, members_least}
use Rattle.pg_json.proofs.Elements.{data_text, data_list, data_map, data_node, data_rel, data_path}

-- ---- one part in front of the rest

pub behind_both : (room r s front rest whole : ℕ) → front + rest ≡ whole → r ≡ room - front → s ≡ r - rest → s ≡ room - whole
behind_both room r s front rest whole parts first second = omega (arith, parts, first, second)

pub text_least : (text : String Global) → length (string_bytes text) + 2 ≡ least (data_of (Text text))
text_least text = rw (data_text text) refl

pub list_least : (items : Vec Out Global) → 1 + items_least (outs items.items) ≡ least (data_of (OutList items))
list_least items = rw (data_list items) (omega arith)

pub map_least : (members : Vec (String Global × Out) Global) → 1 + members_least (named_outs members.items) ≡ least (data_of (OutMap members))
map_least members = rw (data_map members) (omega arith)

pub node_least : (id : NodeId) (labels : Vec (String Global) Global) (ps : Vec (String Global × Out) Global)
    → 36 + length (decimal id.0) + items_least (text_items labels.items) + members_least (named_outs ps.items) ≡ least (data_of (Node id labels ps))
node_least id labels ps = rw (data_node id labels ps) (omega arith)

pub rel_least : (id : RelId) (kind : String Global) (start end : NodeId) (ps : Vec (String Global × Out) Global)
    → 48 + length (decimal id.0) + length (decimal start.0) + length (decimal end.0) + (length (string_bytes kind) + 2 + members_least (named_outs ps.items)) ≡ least (data_of (Rel id kind start end ps))
rel_least id kind start end ps = rw (data_rel id kind start end ps) (omega arith)

pub path_least : (elements : Vec Out Global) → 11 + items_least (outs elements.items) ≡ least (data_of (Path elements))
path_least elements = rw (data_path elements) (omega arith)

-- ---- two parts in front of the rest, in a loop

pub behind_two : (room s first second rest : ℕ) → s ≡ (room - first) - second → room - (second + first + rest) ≡ s - rest
behind_two room s first second rest is = omega (arith, is)

pub behind_member : (room s r key value rest : ℕ) → r ≡ room - key → s ≡ r - value → room - (key + value + rest) ≡ s - rest
behind_member room s r key value rest first second = omega (arith, first, second)

pub behind_none : (room : ℕ) → room - 0 ≡ room
behind_none room = omega arith

abbrev members_need : List (String Global × Out) → ℕ
members_need ms = members_least (named_outs ms)

pub members_behind : (room s r : ℕ) (ms : List (String Global × Out)) (i : ℕ) (m : String Global × Out) → i < length ms → m ≡ get_or ms i m
    → r ≡ room - (length (string_bytes m.0) + 4) → s ≡ r - least (data_of m.1) → room - members_need (drop i ms) ≡ s - members_need (drop (i + 1) ms)
members_behind room s r ms i m within is first second =
    ap (λ ys. room - members_need ys) (drop_more ms i m within ∙ ap (λ y. y ∷ drop (i + 1) ms) (sym is))
    ∙ behind_member room s r (length (string_bytes m.0) + 4) (least (data_of m.1)) (members_need (drop (i + 1) ms)) first second

pub all_behind : (room : ℕ) (ms : List (String Global × Out)) (i : ℕ) → length ms ≤ i → room - members_need (drop i ms) ≡ room
all_behind room ms i passed = ap (λ ys. room - members_need ys) (drop_all i ms passed) ∙ behind_none room

pub nothing_behind : (room n : ℕ) → room ≡ 0 → room - n ≡ 0
nothing_behind room n e = omega (arith, e)

-- items that are seen as data in one way
module _ {X : Type 0} (shown : X → Data) where
  abbrev list_needs : List X → ℕ
  list_needs xs = items_least (items_of (map shown xs))

  pub behind_item : (room s : ℕ) (xs : List X) (i : ℕ) (x : X) → i < length xs → x ≡ get_or xs i x → s ≡ (room - 1) - least (shown x) → room - list_needs (drop i xs) ≡ s - list_needs (drop (i + 1) xs)
  behind_item room s xs i x within is left =
      let here : drop i xs ≡ x ∷ drop (i + 1) xs = drop_more xs i x within ∙ ap (λ y. y ∷ drop (i + 1) xs) (sym is) in
      ap (λ ys. room - list_needs ys) here ∙ behind_two room s 1 (least (shown x)) (list_needs (drop (i + 1) xs)) left

  pub behind_items : (room : ℕ) (xs : List X) (i : ℕ) → length xs ≤ i → room - list_needs (drop i xs) ≡ room
  behind_items room xs i passed = ap (λ ys. room - list_needs ys) (drop_all i xs passed) ∙ behind_none room
