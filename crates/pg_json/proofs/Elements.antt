-- The data of an element, and its tokens, written in three steps.
use Rattle.std.proofs.Common.{◌≡◌, Bool, ℤ, pos, negsuc, length, refl, List, ◌++◌, [], ◌∷◌, String, Vec, Global, string_bytes, codes, decimal, rules, sym, ap, ◌∙◌, append_assoc}
use Rattle.json.specs.Token.{Token, begin_object, end_object, key, number}
use Rattle.json.specs.Tree.{json_tokens}
use Rattle.std.specs.Fmt.{signed_decimal}
use Rattle.serde_json.specs.Data.{null, boolean, number as data_number, array, object, string}
use Rattle.serde_json.specs.Find.{of_integer}
use Rattle.serde_json.specs.Written.{number_text, outline}
use Rattle.pg_value_core.specs.declared.ids.NodeId.{NodeId}
use Rattle.pg_value_core.specs.declared.ids.RelId.{RelId}
use Rattle.pg_value_core.specs.declared.out.Out.{Out, Null, Bool as OutBool, Int as OutInt, Text, List as OutList, Map as OutMap, Node, Rel, Path, the_lemmas}
use Rattle.pg_json.specs.Elements.{node_begun}
use Rattle.pg_json.specs.Room.{least}
use Rattle.pg_json.specs.Replies.{data_of, outs, named_outs, node_data, rel_data, path_data, text_items}

pub data_null : data_of Null ≡ null
data_null = search (rules, the_lemmas)

pub data_bool : (b : Bool) → data_of (OutBool b) ≡ boolean b
data_bool b = search (rules, the_lemmas)

pub data_int : (i : ℤ) → data_of (OutInt i) ≡ data_number (of_integer i)
data_int i = search (rules, the_lemmas)

number_written : (i : ℤ) → number_text (of_integer i) ≡ signed_decimal i
number_written (pos n) = refl
number_written (negsuc n) = refl

pub integer_tokens : (i : ℤ) → json_tokens (outline (data_of (OutInt i))) ≡ number (signed_decimal i) ∷ []
integer_tokens i = ap (λ d. json_tokens (outline d)) (data_int i) ∙ ap (λ t. number t ∷ []) (number_written i)

pub integer_least : (i : ℤ) → least (data_of (OutInt i)) ≡ length (signed_decimal i)
integer_least i = ap least (data_int i) ∙ ap length (number_written i)

pub data_text : (text : String Global) → data_of (Text text) ≡ string (string_bytes text)
data_text text = search (rules, the_lemmas)

pub data_list : (items : Vec Out Global) → data_of (OutList items) ≡ array (outs items.items)
data_list items = search (rules, the_lemmas)

pub data_map : (members : Vec (String Global × Out) Global) → data_of (OutMap members) ≡ object (named_outs members.items)
data_map members = search (rules, the_lemmas)

pub data_node : (id : NodeId) (labels : Vec (String Global) Global) (ps : Vec (String Global × Out) Global)
    → data_of (Node id labels ps) ≡ node_data id.0 (text_items labels.items) (named_outs ps.items)
data_node id labels ps = search (rules, the_lemmas)

pub data_rel : (id : RelId) (kind : String Global) (start end : NodeId) (ps : Vec (String Global × Out) Global)
    → data_of (Rel id kind start end ps) ≡ rel_data id.0 end.0 (named_outs ps.items) start.0 (string_bytes kind)
data_rel id kind start end ps = search (rules, the_lemmas)

pub data_path : (elements : Vec Out Global) → data_of (Path elements) ≡ path_data (outs elements.items)
data_path elements = search (rules, the_lemmas)

-- what stands before the properties or the elements, these, and what stands behind them
pub around : (a b c d before inside behind : List Token) → b ≡ a ++ before → c ≡ b ++ inside → d ≡ c ++ behind → d ≡ a ++ (before ++ (inside ++ behind))
around a b c d before inside behind first second third =
    third ∙ ap (λ ts. ts ++ behind) (second ∙ ap (λ ts. ts ++ inside) first) ∙ append_assoc (a ++ before) inside behind ∙ append_assoc a before (inside ++ behind)

pub node_written : (a b c d : List Token) (id : NodeId) (labels : Vec (String Global) Global) (ps : Vec (String Global × Out) Global)
    → b ≡ a ++ node_begun id.0 (text_items labels.items) → c ≡ b ++ json_tokens (outline (object (named_outs ps.items))) → d ≡ c ++ end_object ∷ []
    → d ≡ a ++ json_tokens (outline (data_of (Node id labels ps)))
node_written a b c d id labels ps first second third =
    let named : List Token = json_tokens (outline (array (text_items labels.items))) in
    let opened : List Token = key (codes "properties") ∷ [] in
    let inside : List Token = json_tokens (outline (object (named_outs ps.items))) in
    around a b c d (node_begun id.0 (text_items labels.items)) inside (end_object ∷ []) first second third
    ∙ ap (λ ts. a ++ (begin_object ∷ key (codes "$node") ∷ number (decimal id.0) ∷ key (codes "labels") ∷ ts)) (append_assoc named opened (inside ++ (end_object ∷ [])))
    ∙ ap (λ d. a ++ json_tokens (outline d)) (sym (data_node id labels ps))
