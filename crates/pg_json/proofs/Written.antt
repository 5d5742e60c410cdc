-- The tokens of lists and maps, a part at a time.
use Rattle.std.proofs.Common.{◌≡◌, ◌+◌, ◌<◌, ◌≤◌, ℕ, List, ◌++◌, [], ◌∷◌, length, map, drop, get_or, String, Vec, Global, string_bytes, sym, ap, ◌∙◌, append_assoc}
use Rattle.std.proofs.lemmas.List.{drop_more, drop_all}
use Rattle.json.specs.Token.{Token, end_array, end_object, key}
use Rattle.json.specs.Tree.{json_tokens, items_tokens, members_tokens}
use Rattle.serde_json.specs.Data.{Data, array, object}
use Rattle.serde_json.specs.Written.{outline, items_outline, members_outline}
use Rattle.pg_value_core.specs.declared.out.Out.{Out, List as OutList, Map as OutMap}
use Rattle.pg_json.specs.Replies.{items_of, data_of, outs, named_outs}
use Rattle.pg_json.proofs.Elements.{data_list, data_map}

abbrev pub written_members : List (String Global × Out) → List Token
written_members ms = members_tokens (members_outline (named_outs ms))

pub list_written : (a d : List Token) (items : Vec Out Global) (es : List Out) → es ≡ items.items → d ≡ a ++ json_tokens (outline (array (outs es)))
    → d ≡ a ++ json_tokens (outline (data_of (OutList items)))
list_written a d items es same all =
    all ∙ ap (λ xs. a ++ json_tokens (outline (array (outs xs)))) same
    ∙ ap (λ shown. a ++ json_tokens (outline shown)) (sym (data_list items))

pub map_written : (a d : List Token) (members : Vec (String Global × Out) Global) (ms : List (String Global × Out)) → ms ≡ members.items
    → d ≡ a ++ json_tokens (outline (object (named_outs ms))) → d ≡ a ++ json_tokens (outline (data_of (OutMap members)))
map_written a d members ms same all =
    all ∙ ap (λ xs. a ++ json_tokens (outline (object (named_outs xs)))) same
    ∙ ap (λ shown. a ++ json_tokens (outline shown)) (sym (data_map members))

-- a list whose items are seen as data in one way
module _ {X : Type 0} (shown : X → Data) where
  abbrev pub written_list : List X → List Token
  written_list xs = items_tokens (items_outline (items_of (map shown xs)))

  pub item_written : (a b : List Token) (xs : List X) (i : ℕ) (x : X) → i < length xs → x ≡ get_or xs i x → b ≡ a ++ json_tokens (outline (shown x))
      → b ++ written_list (drop (i + 1) xs) ≡ a ++ written_list (drop i xs)
  item_written a b xs i x within is written =
      ap (λ ts. ts ++ written_list (drop (i + 1) xs)) written
      ∙ append_assoc a (json_tokens (outline (shown x))) (written_list (drop (i + 1) xs))
      ∙ ap (λ ys. a ++ written_list ys) (sym (drop_more xs i x within ∙ ap (λ y. y ∷ drop (i + 1) xs) (sym is)))

  pub items_written : (a b : List Token) (xs : List X) (i : ℕ) → length xs ≤ i → b ≡ a ++ end_array ∷ [] → b ≡ a ++ written_list (drop i xs)
  items_written a b xs i all last = last ∙ ap (λ ys. a ++ written_list ys) (sym (drop_all i xs all))

member_written_before : (a b d : List Token) (k : String Global) (name : List ℕ) (e : Out) (more : List (String Global × Out))
    → name ≡ string_bytes k → b ≡ a ++ key name ∷ [] → d ≡ b ++ json_tokens (outline (data_of e))
    → d ++ written_members more ≡ a ++ written_members ((k, e) ∷ more)
member_written_before a b d k name e more same first second =
    let value : List Token = json_tokens (outline (data_of e)) in
    ap (λ ts. ts ++ written_members more) (second ∙ ap (λ ts. ts ++ value) first)
    ∙ append_assoc (a ++ key name ∷ []) value (written_members more)
    ∙ append_assoc a (key name ∷ []) (value ++ written_members more)
    ∙ ap (λ s. a ++ (key s ∷ (value ++ written_members more))) same

pub member_written : (a b d : List Token) (ms : List (String Global × Out)) (i : ℕ) (m : String Global × Out) (name : List ℕ) → i < length ms → m ≡ get_or ms i m
    → name ≡ string_bytes m.0 → b ≡ a ++ key name ∷ [] → d ≡ b ++ json_tokens (outline (data_of m.1))
    → d ++ written_members (drop (i + 1) ms) ≡ a ++ written_members (drop i ms)
member_written a b d ms i m name within is same first second =
    member_written_before a b d m.0 name m.1 (drop (i + 1) ms) same first second
    ∙ ap (λ ys. a ++ written_members ys) (sym (drop_more ms i m within ∙ ap (λ y. y ∷ drop (i + 1) ms) (sym is)))

pub members_written : (a b : List Token) (ms : List (String Global × Out)) (i : ℕ) → length ms ≤ i → b ≡ a ++ end_object ∷ [] → b ≡ a ++ written_members (drop i ms)
members_written a b ms i all last = last ∙ ap (λ ys. a ++ written_members ys) (sym (drop_all i ms all))
