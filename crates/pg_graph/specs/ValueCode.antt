-- A code by which proofs tell values apart: a list of tokens that gives the value back.
use Rattle.std.specs.Prelude.{◌≡◌, ◌≤◌, ◌+◌, ℕ, zero, suc, ℤ, Bool, List, [], ◌∷◌, refl, ◌⊎◌}
use Rattle.std.proofs.Common.{arith, inl, inr, ap, ◌∙◌}
use Rattle.std.specs.Coded.{Coded, code_by, coded×, coded⊎, coded_ℕ, coded_ℤ, coded_bool, coded_list}
use Rattle.pg_meaning.specs.Value.{Value, null, boolean, integer, text, list, mapping, node, relationship, path, Values, no_items, item, Entries, no_entries, entry}

pub data Token : Type 0 where
  null_token list_token mapping_token item_token end_token : Token
  boolean_token : Bool → Token
  integer_token : ℤ → Token
  node_token relationship_token : ℕ → Token
  text_token path_token entry_token : List ℕ → Token

abbrev Held : Type 0
Held = Bool ⊎ (ℤ ⊎ ((ℕ × ℕ) ⊎ (ℕ × List ℕ)))

abbrev held : Token → Held
held (boolean_token b) = inl b
held (integer_token i) = inr (inl i)
held null_token = inr (inr (inl (0, 0)))
held list_token = inr (inr (inl (1, 0)))
held mapping_token = inr (inr (inl (2, 0)))
held item_token = inr (inr (inl (3, 0)))
held end_token = inr (inr (inl (4, 0)))
held (node_token n) = inr (inr (inl (5, n)))
held (relationship_token n) = inr (inr (inl (6, n)))
held (text_token t) = inr (inr (inr (0, t)))
held (path_token t) = inr (inr (inr (1, t)))
held (entry_token t) = inr (inr (inr (2, t)))

abbrev numbered_token : ℕ → ℕ → Token
numbered_token zero n = null_token
numbered_token (suc zero) n = list_token
numbered_token (suc (suc zero)) n = mapping_token
numbered_token (suc (suc (suc zero))) n = item_token
numbered_token (suc (suc (suc (suc zero)))) n = end_token
numbered_token (suc (suc (suc (suc (suc zero))))) n = node_token n
numbered_token (suc (suc (suc (suc (suc (suc k)))))) n = relationship_token n

abbrev worded_token : ℕ → List ℕ → Token
worded_token zero t = text_token t
worded_token (suc zero) t = path_token t
worded_token (suc (suc k)) t = entry_token t

abbrev token_of : Held → Token
token_of (inl b) = boolean_token b
token_of (inr (inl i)) = integer_token i
token_of (inr (inr (inl p))) = numbered_token p.0 p.1
token_of (inr (inr (inr p))) = worded_token p.0 p.1

pub token_of-held : (t : Token) → token_of (held t) ≡ t
token_of-held (boolean_token b) = refl
token_of-held (integer_token i) = refl
token_of-held null_token = refl
token_of-held list_token = refl
token_of-held mapping_token = refl
token_of-held item_token = refl
token_of-held end_token = refl
token_of-held (node_token n) = refl
token_of-held (relationship_token n) = refl
token_of-held (text_token t) = refl
token_of-held (path_token t) = refl
token_of-held (entry_token t) = refl

abbrev token_code : Coded Token
token_code = code_by Held (coded⊎ coded_bool (coded⊎ coded_ℤ (coded⊎ (coded× coded_ℕ coded_ℕ) (coded× coded_ℕ (coded_list coded_ℕ))))) held token_of token_of-held

-- how many tokens a value takes, at most
abbrev mutual
  size : Value → ℕ
  size (list vs) = suc (size_of_items vs)
  size (mapping es) = suc (size_of_entries es)
  size v = suc zero

  size_of_items : Values → ℕ
  size_of_items no_items = suc zero
  size_of_items (item v vs) = suc (size v + size_of_items vs)

  size_of_entries : Entries → ℕ
  size_of_entries no_entries = suc zero
  size_of_entries (entry k v es) = suc (size v + size_of_entries es)

-- the tokens of a value, before others
abbrev mutual
  tokens : Value → List Token → List Token
  tokens null r = null_token ∷ r
  tokens (boolean b) r = boolean_token b ∷ r
  tokens (integer i) r = integer_token i ∷ r
  tokens (text t) r = text_token t ∷ r
  tokens (list vs) r = list_token ∷ tokens_of_items vs r
  tokens (mapping es) r = mapping_token ∷ tokens_of_entries es r
  tokens (node n) r = node_token n ∷ r
  tokens (relationship n) r = relationship_token n ∷ r
  tokens (path p) r = path_token p ∷ r

  tokens_of_items : Values → List Token → List Token
  tokens_of_items no_items r = end_token ∷ r
  tokens_of_items (item v vs) r = item_token ∷ tokens v (tokens_of_items vs r)

  tokens_of_entries : Entries → List Token → List Token
  tokens_of_entries no_entries r = end_token ∷ r
  tokens_of_entries (entry k v es) r = entry_token k ∷ tokens v (tokens_of_entries es r)

-- the value that tokens begin with, and what is left; the number bounds the depth of the search
abbrev mutual
  value_in : ℕ → List Token → Value × List Token
  value_in zero ts = (null, ts)
  value_in (suc n) [] = (null, [])
  value_in (suc n) (boolean_token b ∷ ts) = (boolean b, ts)
  value_in (suc n) (integer_token i ∷ ts) = (integer i, ts)
  value_in (suc n) (text_token t ∷ ts) = (text t, ts)
  value_in (suc n) (list_token ∷ ts) = (list (items_in n ts).0, (items_in n ts).1)
  value_in (suc n) (mapping_token ∷ ts) = (mapping (entries_in n ts).0, (entries_in n ts).1)
  value_in (suc n) (node_token k ∷ ts) = (node k, ts)
  value_in (suc n) (relationship_token k ∷ ts) = (relationship k, ts)
  value_in (suc n) (path_token p ∷ ts) = (path p, ts)
  value_in (suc n) (t ∷ ts) = (null, ts)

  items_in : ℕ → List Token → Values × List Token
  items_in zero ts = (no_items, ts)
  items_in (suc n) [] = (no_items, [])
  items_in (suc n) (item_token ∷ ts) = (item (value_in n ts).0 (items_in n (value_in n ts).1).0, (items_in n (value_in n ts).1).1)
  items_in (suc n) (t ∷ ts) = (no_items, ts)

  entries_in : ℕ → List Token → Entries × List Token
  entries_in zero ts = (no_entries, ts)
  entries_in (suc n) [] = (no_entries, [])
  entries_in (suc n) (entry_token k ∷ ts) = (entry k (value_in n ts).0 (entries_in n (value_in n ts).1).0, (entries_in n (value_in n ts).1).1)
  entries_in (suc n) (t ∷ ts) = (no_entries, ts)

mutual
  read_back : (v : Value) (n : ℕ) (r : List Token) → size v ≤ n → value_in n (tokens v r) ≡ (v, r)
  read_back null zero r h = absurd (omega arith)
  read_back null (suc n) r h = refl
  read_back (boolean b) zero r h = absurd (omega arith)
  read_back (boolean b) (suc n) r h = refl
  read_back (integer i) zero r h = absurd (omega arith)
  read_back (integer i) (suc n) r h = refl
  read_back (text t) zero r h = absurd (omega arith)
  read_back (text t) (suc n) r h = refl
  read_back (list vs) zero r h = absurd (omega arith)
  read_back (list vs) (suc n) r h = ap (λ p. (list p.0, p.1)) (items_back vs n r (omega arith))
  read_back (mapping es) zero r h = absurd (omega arith)
  read_back (mapping es) (suc n) r h = ap (λ p. (mapping p.0, p.1)) (entries_back es n r (omega arith))
  read_back (node k) zero r h = absurd (omega arith)
  read_back (node k) (suc n) r h = refl
  read_back (relationship k) zero r h = absurd (omega arith)
  read_back (relationship k) (suc n) r h = refl
  read_back (path p) zero r h = absurd (omega arith)
  read_back (path p) (suc n) r h = refl

  items_back : (vs : Values) (n : ℕ) (r : List Token) → size_of_items vs ≤ n → items_in n (tokens_of_items vs r) ≡ (vs, r)
  items_back no_items zero r h = absurd (omega arith)
  items_back no_items (suc n) r h = refl
  items_back (item v vs) zero r h = absurd (omega arith)
  items_back (item v vs) (suc n) r h =
      ap (λ p. (item p.0 (items_in n p.1).0, (items_in n p.1).1)) (read_back v n (tokens_of_items vs r) (omega arith))
      ∙ ap (λ p. (item v p.0, p.1)) (items_back vs n r (omega arith))

  entries_back : (es : Entries) (n : ℕ) (r : List Token) → size_of_entries es ≤ n → entries_in n (tokens_of_entries es r) ≡ (es, r)
  entries_back no_entries zero r h = absurd (omega arith)
  entries_back no_entries (suc n) r h = refl
  entries_back (entry k v es) zero r h = absurd (omega arith)
  entries_back (entry k v es) (suc n) r h =
      ap (λ p. (entry k p.0 (entries_in n p.1).0, (entries_in n p.1).1)) (read_back v n (tokens_of_entries es r) (omega arith))
      ∙ ap (λ p. (entry k v p.0, p.1)) (entries_back es n r (omega arith))

le_itself : (n : ℕ) → n ≤ n
le_itself n = omega arith

abbrev coded : Value → ℕ × List Token
coded v = (size v, tokens v [])

abbrev uncoded : ℕ × List Token → Value
uncoded p = (value_in p.0 p.1).0

pub uncoded-coded : (v : Value) → uncoded (coded v) ≡ v
uncoded-coded v = ap (λ p. p.0) (read_back v (size v) [] (le_itself (size v)))

abbrev pub value_code : Coded Value
value_code = code_by (ℕ × List Token) (coded× coded_ℕ (coded_list token_code)) coded uncoded uncoded-coded
