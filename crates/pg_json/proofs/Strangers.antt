-- A key that no request has stays, whatever members follow, and makes the object no request.
use Rattle.std.proofs.Common.{◌≡◌, ℕ, zero, suc, List, [], ◌∷◌, Bool, true, false, ◌&&◌, ◌||◌, is_eq, Option, Some, None, option_map, option_and_then, Ordering, Less, Equal, Greater, nat_cmp, bytes_eq, MatchOption, refl, sym, ap, ◌∙◌}
use Rattle.std.proofs.lemmas.Map.Text.{is_eq-slice_cmp}
use Rattle.std.proofs.lemmas.Slice.Eq.{bytes_eq-Decides}
use Rattle.std.specs.Prelude.{⊤, codes}
use Rattle.std.specs.Ordering.{match_ordering}
use Rattle.std.specs.Cmp.Lexicographic.{slice_cmp}
use Rattle.json.specs.Token.{Token}
use Rattle.json.specs.Json as json
use Rattle.json.specs.Json.{Parse, parse_map, read_key, members}
use Rattle.serde_json.specs.Data.{Data, Members, no_members, member, put}
use Rattle.serde_json.specs.Read.{of_json, of_members, converted}
use Rattle.pg_json.specs.Fields.{AsksNothing, later_keys, text_keys}
use Rattle.pg_json.specs.Requests.{has_only, is_one_of, query_keys, token_keys, index_keys, page_keys, object_request, by_op, text_at}
use Rattle.pg_json.proofs.Members.{nothing_asked}

and_false : (a : Bool) → (a && false) ≡ false
and_false true = refl
and_false false = refl

either_lacks : (names : List (List ℕ)) (o : Ordering) (a b c : Members) → has_only names a ≡ false → has_only names b ≡ false → has_only names c ≡ false → has_only names (match_ordering o a b c) ≡ false
either_lacks names Less a b c p q r = p
either_lacks names Equal a b c p q r = q
either_lacks names Greater a b c p q r = r

later : (a b c : Bool) → (a && b) ≡ false → (b ≡ false → c ≡ false) → (a && c) ≡ false
later true b c h k = k h
later false b c h k = refl

put_keeps : (names : List (List ℕ)) (k : List ℕ) (d : Data) (ms : Members) → has_only names ms ≡ false → has_only names (put k d ms) ≡ false
put_keeps names k d no_members h = absurd (cc)
put_keeps names k d (member l e ms) h =
    either_lacks names (slice_cmp nat_cmp k l) (member k d (member l e ms)) (member l d ms) (member l e (put k d ms))
    (ap (λ b. is_one_of names k && b) h ∙ and_false (is_one_of names k)) h
    (later (is_one_of names l) (has_only names ms) (has_only names (put k d ms)) h (put_keeps names k d ms))

same_key : (k l : List ℕ) → slice_cmp nat_cmp k l ≡ Equal → k ≡ l
same_key k l is = (bytes_eq-Decides k l).0 (sym (is_eq-slice_cmp k l) ∙ ap is_eq is)

either_strange : (names : List (List ℕ)) (k l : List ℕ) (d e : Data) (ms more : Members) → is_one_of names k ≡ false → has_only names more ≡ false → (o : Ordering) → slice_cmp nat_cmp k l ≡ o
    → has_only names (match_ordering o (member k d (member l e ms)) (member l d ms) (member l e more)) ≡ false
either_strange names k l d e ms more h m Less is = rw h
either_strange names k l d e ms more h m Equal is = rw (← same_key k l is, h)
either_strange names k l d e ms more h m Greater is = rw m (and_false (is_one_of names l))

put_strange : (names : List (List ℕ)) (k : List ℕ) (d : Data) (ms : Members) → is_one_of names k ≡ false → has_only names (put k d ms) ≡ false
put_strange names k d no_members h = rw h
put_strange names k d (member l e ms) h = either_strange names k l d e ms (put k d ms) h (put_strange names k d ms h) (slice_cmp nat_cmp k l) refl

-- each operation lacks one of these members' keys
abbrev Foreign : Members → Type 0
Foreign ms = (has_only query_keys ms ≡ false) × (has_only token_keys ms ≡ false) × (has_only index_keys ms ≡ false) × (has_only page_keys ms ≡ false)

-- no operation has this key
abbrev pub IsStrange : List ℕ → Type 0
IsStrange k = (is_one_of query_keys k ≡ false) × (is_one_of token_keys k ≡ false) × (is_one_of index_keys k ≡ false) × (is_one_of page_keys k ≡ false)

stays_foreign : (k : List ℕ) (d : Data) (ms : Members) → Foreign ms → Foreign (put k d ms)
stays_foreign k d ms h = (put_keeps query_keys k d ms h.0, put_keeps token_keys k d ms h.1, put_keeps index_keys k d ms h.2, put_keeps page_keys k d ms h.3)

made_foreign : (k : List ℕ) (d : Data) (ms : Members) → IsStrange k → Foreign (put k d ms)
made_foreign k d ms h = (put_strange query_keys k d ms h.0, put_strange token_keys k d ms h.1, put_strange index_keys k d ms h.2, put_strange page_keys k d ms h.3)

no_request : (op : Option (List ℕ)) (ms : Members) → Foreign ms → option_and_then (λ o. by_op o ms) op ≡ None
no_request None ms h = refl
no_request (Some op) ms h = rw (h.0, h.1, h.2, h.3) (nothing_asked op)

abbrev Nothing : Option Members → Type 0
Nothing o = MatchOption o ⊤ (λ ms. object_request ms ≡ None)

nothing_then : (f : Data → Option Members) → ((d : Data) → Nothing (f d)) → (o : Option Data) → Nothing (option_and_then f o)
nothing_then f h None = tt
nothing_then f h (Some d) = h d

strange_stays : (ms : json.Members) (found : Members) → Foreign found → Nothing (of_members ms found)
strange_stays json.no_members found h = no_request (text_at (codes "op") found) found h
strange_stays (json.member k j ms) found h = nothing_then (λ d. of_members ms (put k d found)) (λ d. strange_stays ms (put k d found) (stays_foreign k d found h)) (of_json j)

with_rest : (r : List Token) (o : Option Members) → Nothing o → AsksNothing (option_map (λ ms. (ms, r)) o)
with_rest r None h = tt
with_rest r (Some ms) h = h

few_keys : (k : List ℕ) → is_one_of query_keys k ≡ false → is_one_of token_keys k ≡ false
few_keys k h = by_first (bytes_eq k (codes "op")) (bytes_eq k (codes "token")) (is_one_of (codes "text" ∷ codes "params" ∷ codes "page" ∷ []) k) h
  where
    by_first : (a b c : Bool) → (a || (b || c)) ≡ false → (a || (b || false)) ≡ false
    by_first true b c e = absurd (cc)
    by_first false true c e = absurd (cc)
    by_first false false c e = refl

no_query_key : (k : List ℕ) → is_one_of text_keys k ≡ false → bytes_eq k (codes "params") ≡ false → bytes_eq k (codes "page") ≡ false → is_one_of query_keys k ≡ false
no_query_key k h e page = by_first (bytes_eq k (codes "op")) (bytes_eq k (codes "token")) (bytes_eq k (codes "text")) (bytes_eq k (codes "params")) (bytes_eq k (codes "page")) h e page
  where
    by_first : (a b c d p : Bool) → (a || (b || (c || false))) ≡ false → d ≡ false → p ≡ false → (a || (b || (c || (d || (p || false))))) ≡ false
    by_first true b c d p h e page = absurd (cc)
    by_first false true c d p h e page = absurd (cc)
    by_first false false true d p h e page = absurd (cc)
    by_first false false false true p h e page = absurd (cc)
    by_first false false false false true h e page = absurd (cc)
    by_first false false false false false h e page = refl

no_index_key : (k : List ℕ) → is_one_of text_keys k ≡ false → is_one_of later_keys k ≡ false → is_one_of index_keys k ≡ false
no_index_key k h e = by_first (bytes_eq k (codes "op")) (bytes_eq k (codes "token")) (bytes_eq k (codes "text")) (bytes_eq k (codes "label")) (bytes_eq k (codes "key")) h e
  where
    by_first : (a b c l n : Bool) → (a || (b || (c || false))) ≡ false → (l || (n || false)) ≡ false → (a || (b || (l || (n || false)))) ≡ false
    by_first true b c l n h e = absurd (cc)
    by_first false true c l n h e = absurd (cc)
    by_first false false c true n h e = absurd (cc)
    by_first false false c false true h e = absurd (cc)
    by_first false false c false false h e = refl

no_held_key : (k : List ℕ) → is_one_of text_keys k ≡ false → bytes_eq k (codes "page") ≡ false → is_one_of page_keys k ≡ false
no_held_key k h page = by_first (bytes_eq k (codes "op")) (bytes_eq k (codes "token")) (bytes_eq k (codes "text")) (bytes_eq k (codes "page")) h page
  where
    by_first : (a b c p : Bool) → (a || (b || (c || false))) ≡ false → p ≡ false → (a || (b || (p || false))) ≡ false
    by_first true b c p h page = absurd (cc)
    by_first false true c p h page = absurd (cc)
    by_first false false c true h page = absurd (cc)
    by_first false false c false h page = refl

-- a key that is none of a text, of parameters, of a page, of a label or of a property's key
pub no_key : (k : List ℕ) → is_one_of text_keys k ≡ false → bytes_eq k (codes "params") ≡ false → bytes_eq k (codes "page") ≡ false → is_one_of later_keys k ≡ false → IsStrange k
no_key k texts parameters page others = let query = no_query_key k texts parameters page in (query, few_keys k query, no_index_key k texts others, no_held_key k texts page)

pub strange_member : (p : Parse json.Json) (old : Members) (n : ℕ) (k : List ℕ) (ts s : List Token) → read_key ts ≡ Some (Some k, s) → IsStrange k
    → AsksNothing (converted (λ ms. of_members ms old) (members p n ts))
unfolding members
strange_member p old zero k ts s key h = tt
strange_member p old (suc n) k ts s key h = rw key (first (p s))
  where
    fall : (j : json.Json) (o : Option (json.Members × List Token)) → AsksNothing (converted (λ ms. of_members ms old) (parse_map (json.member k j) o))
    fall j None = tt
    fall j (Some q) =
        with_rest q.1 _ (nothing_then (λ d. of_members q.0 (put k d old)) (λ d. strange_stays q.0 (put k d old) (made_foreign k d old h)) (of_json j))

    first : (o : Option (json.Json × List Token)) → AsksNothing (converted (λ ms. of_members ms old) (option_and_then (λ q. parse_map (json.member k q.0) (members p n q.1)) o))
    first None = tt
    first (Some q) = fall q.0 (members p n q.1)
