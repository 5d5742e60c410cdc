-- Members that are texts and parameters at the keys of a request.
use Rattle.std.proofs.Common.{◌≡◌, ◌^◌, ◌≤◌, ℕ, pos, List, Bool, true, false, cond, Option, Some, None, option_map, option_and_then, Less, Greater, nat_cmp, refl, sym, ap, ◌∙◌, arith, le-leb, lt-ltb}
use Rattle.std.proofs.lemmas.Slice.Eq.{bytes_eq-Decides}
use Rattle.std.specs.Cmp.Lexicographic.{slice_cmp}
use Rattle.std.specs.Prelude.{codes}
use Rattle.std.specs.Str.{bytes_eq}
use Rattle.serde_json.specs.Data.{Data, Members, no_members, unsigned, object, string, put}
use Rattle.serde_json.specs.Find.{as_i64, as_str, get_member}
use Rattle.pg_meaning.specs.Meters.{greatest_id}
use Rattle.pg_meaning.specs.Value.{Entries, no_entries}
use Rattle.pg_json.proofs.Given.{parameters_back}
use Rattle.pg_json.specs.Fields.{object_giving, with_data, with_text, members_of_fields, members_with, parameters_of, size_given, HaveDepth, HasSign, FieldsAreGiven, asked, asked_with}
use Rattle.pg_json.specs.Replies.{natural}
use Rattle.pg_json.specs.Requests as requests
use Rattle.pg_json.specs.Requests.{Request, by_op, greatest_page, if_between, number_in, page_given, request_of}
use Rattle.pg_json.specs.declared.fields.Fields.{Fields}

-- a member goes behind those whose keys stand before its own
past : (k l : List ℕ) (d : Data) (o : Option Data) (ms : Members) → slice_cmp nat_cmp k l ≡ Greater → put k d (with_data l o ms) ≡ with_data l o (put k d ms)
past k l d None ms later = refl
past k l d (Some e) ms later = rw later refl

module _ (s : List ℕ) where
  last_token : (token : Option (List ℕ)) → put (codes "token") (string s) (with_text (codes "token") token no_members) ≡ with_text (codes "token") (Some s) no_members
  last_token None = refl
  last_token (Some c) = refl

  first_text : (text token : Option (List ℕ)) → put (codes "text") (string s) (with_text (codes "text") text (with_text (codes "token") token no_members)) ≡ with_text (codes "text") (Some s) (with_text (codes "token") token no_members)
  first_text None None = refl
  first_text None (Some c) = refl
  first_text (Some b) token = refl

  pub put_op : (op : Option (List ℕ)) (page : Option ℕ) (ps : Option Entries) (text token : Option (List ℕ)) → put (codes "op") (string s) (members_of_fields op page ps text token) ≡ members_of_fields (Some s) page ps text token
  put_op None None None None None = refl
  put_op None None None None (Some c) = refl
  put_op None None None (Some b) token = refl
  put_op None None (Some p) text token = refl
  put_op None (Some n) ps text token = refl
  put_op (Some a) page ps text token = refl

  module _ (op : Option (List ℕ)) (page : Option ℕ) (ps : Option Entries) where
    abbrev before : Members → Members
    before ms = with_text (codes "op") op (with_data (codes "page") (option_map natural page) (with_data (codes "params") (option_map object_giving ps) ms))

    behind : (k : List ℕ) (ms : Members) → slice_cmp nat_cmp k (codes "op") ≡ Greater → slice_cmp nat_cmp k (codes "page") ≡ Greater → slice_cmp nat_cmp k (codes "params") ≡ Greater → put k (string s) (before ms) ≡ before (put k (string s) ms)
    behind k ms a b c =
        past k (codes "op") (string s) (option_map string op) _ a ∙ ap (with_text (codes "op") op) (past k (codes "page") (string s) (option_map natural page) _ b
        ∙ ap (with_data (codes "page") (option_map natural page)) (past k (codes "params") (string s) (option_map object_giving ps) ms c))

    pub put_text : (text token : Option (List ℕ)) → put (codes "text") (string s) (members_of_fields op page ps text token) ≡ members_of_fields op page ps (Some s) token
    put_text text token = behind (codes "text") _ refl refl refl ∙ ap before (first_text text token)

    pub put_token : (text token : Option (List ℕ)) → put (codes "token") (string s) (members_of_fields op page ps text token) ≡ members_of_fields op page ps text (Some s)
    put_token text token =
        behind (codes "token") _ refl refl refl ∙ ap before (past (codes "token") (codes "text") (string s) (option_map string text) _ refl ∙ ap (with_text (codes "text") text) (last_token token))

module _ (op : Option (List ℕ)) where
  first_page : (n : ℕ) (page : Option ℕ) (ps : Option Entries) (text token : Option (List ℕ)) → put (codes "page") (natural n) (members_of_fields None page ps text token) ≡ members_of_fields None (Some n) ps text token
  first_page n None None None None = refl
  first_page n None None None (Some c) = refl
  first_page n None None (Some b) token = refl
  first_page n None (Some p) text token = refl
  first_page n (Some m) ps text token = refl

  pub put_page : (n : ℕ) (page : Option ℕ) (ps : Option Entries) (text token : Option (List ℕ)) → put (codes "page") (natural n) (members_of_fields op page ps text token) ≡ members_of_fields op (Some n) ps text token
  put_page n page ps text token = past (codes "page") (codes "op") (natural n) (option_map string op) _ refl ∙ ap (with_text (codes "op") op) (first_page n page ps text token)

  first_parameters : (es : Entries) (ps : Option Entries) (text token : Option (List ℕ)) → put (codes "params") (object_giving es) (members_of_fields None None ps text token) ≡ members_of_fields None None (Some es) text token
  first_parameters es None None None = refl
  first_parameters es None None (Some c) = refl
  first_parameters es None (Some b) token = refl
  first_parameters es (Some p) text token = refl

  pub put_parameters : (es : Entries) (page : Option ℕ) (ps : Option Entries) (text token : Option (List ℕ)) → put (codes "params") (object_giving es) (members_of_fields op page ps text token) ≡ members_of_fields op page (Some es) text token
  put_parameters es page ps text token =
      past (codes "params") (codes "op") (object_giving es) (option_map string op) _ refl ∙ ap (with_text (codes "op") op)
      (past (codes "params") (codes "page") (object_giving es) (option_map natural page) _ refl ∙ ap (with_data (codes "page") (option_map natural page)) (first_parameters es ps text token))

-- what is asked where an index request lacks a key
abbrev by_name : List ℕ → (query status begin commit rollback pull drop_page : Option Request) → Option Request
by_name op query status begin commit rollback pull drop_page =
    cond (bytes_eq op (codes "query")) query (cond (bytes_eq op (codes "status")) status (cond (bytes_eq op (codes "create_index")) None (cond (bytes_eq op (codes "drop_index")) None
    (cond (bytes_eq op (codes "begin")) begin (cond (bytes_eq op (codes "commit")) commit (cond (bytes_eq op (codes "rollback")) rollback
    (cond (bytes_eq op (codes "pull")) pull (cond (bytes_eq op (codes "drop_page")) drop_page None))))))))

either_way : (b : Bool) (x y : Option Request) → x ≡ y → cond b y x ≡ y
either_way true x y e = refl
either_way false x y e = e

unless_none : (b : Bool) (x : Option Request) → (b ≡ true → x ≡ None) → cond b None x ≡ x
unless_none true x h = sym (h refl)
unless_none false x h = refl

module _ (op : List ℕ) where
  abbrev is_named : List ℕ → Bool
  is_named name = bytes_eq op name

  named : (name : List ℕ) → bytes_eq op name ≡ true → op ≡ name
  named name = (bytes_eq-Decides op name).0

  abbrev none_held : Option Request
  none_held = cond (bytes_eq op (codes "pull")) None (cond (bytes_eq op (codes "drop_page")) None None)

  no_page : none_held ≡ None
  no_page = either_way (is_named (codes "pull")) _ None (either_way (is_named (codes "drop_page")) _ None refl)

  pub nothing_asked : by_name op None None None None None None None ≡ None
  nothing_asked =
      either_way (is_named (codes "query")) _ None (either_way (is_named (codes "status")) _ None (either_way (is_named (codes "create_index")) _ None (either_way (is_named (codes "drop_index")) _ None
      (either_way (is_named (codes "begin")) _ None (either_way (is_named (codes "commit")) _ None (either_way (is_named (codes "rollback")) _ None no_page))))))

  query_asked : (x : Option Request) → by_name op x None None None None None None ≡ cond (bytes_eq op (codes "query")) x None
  query_asked x =
      ap (cond (bytes_eq op (codes "query")) x) (either_way (is_named (codes "status")) _ None (either_way (is_named (codes "create_index")) _ None (either_way (is_named (codes "drop_index")) _ None
      (either_way (is_named (codes "begin")) _ None (either_way (is_named (codes "commit")) _ None (either_way (is_named (codes "rollback")) _ None no_page))))))

  module _ (status begin commit rollback : Option Request) where
    abbrev later_or : Option Request → Option Request
    later_or others = cond (bytes_eq op (codes "begin")) begin (cond (bytes_eq op (codes "commit")) commit (cond (bytes_eq op (codes "rollback")) rollback others))

    abbrev later : Option Request
    later = later_or none_held

    no_drop : cond (bytes_eq op (codes "drop_index")) None later ≡ later
    no_drop = unless_none (bytes_eq op (codes "drop_index")) later (λ is. rw (named (codes "drop_index") is) refl)

    no_index : cond (bytes_eq op (codes "create_index")) None (cond (bytes_eq op (codes "drop_index")) None later) ≡ later
    no_index = unless_none (bytes_eq op (codes "create_index")) _ (λ is. rw (named (codes "create_index") is) refl) ∙ no_drop

    alone_asked : by_name op None status begin commit rollback None None ≡ cond (bytes_eq op (codes "status")) status (later_or None)
    alone_asked =
        unless_none (bytes_eq op (codes "query")) _ (λ is. rw (named (codes "query") is) refl)
        ∙ ap (cond (bytes_eq op (codes "status")) status) (no_index ∙ ap later_or no_page)

  module _ (pull drop_page : Option Request) where
    abbrev held : Option Request
    held = cond (bytes_eq op (codes "pull")) pull (cond (bytes_eq op (codes "drop_page")) drop_page None)

    before_held : (x : Option Request) → x ≡ held → (name : List ℕ) → (bytes_eq op name ≡ true → held ≡ None) → cond (bytes_eq op name) None x ≡ held
    before_held x is name other = unless_none (bytes_eq op name) x (λ same. is ∙ other same) ∙ is

    held_asked : by_name op None None None None None pull drop_page ≡ held
    held_asked =
        before_held _ (before_held _ (before_held _ (before_held _ (before_held _ (before_held _ (before_held held refl
        (codes "rollback") (λ is. rw (named (codes "rollback") is) refl)) (codes "commit") (λ is. rw (named (codes "commit") is) refl)) (codes "begin") (λ is. rw (named (codes "begin") is) refl))
        (codes "drop_index") (λ is. rw (named (codes "drop_index") is) refl)) (codes "create_index") (λ is. rw (named (codes "create_index") is) refl))
        (codes "status") (λ is. rw (named (codes "status") is) refl)) (codes "query") (λ is. rw (named (codes "query") is) refl)

-- ---- numbers

between : (least most n : ℕ) → least ≤ n → n ≤ most → if_between least most (pos n) ≡ Some n
between least most n low high = rw (le-leb least n low, le-leb n most high) refl

signed : (n : ℕ) → n ≤ greatest_id → as_i64 (unsigned n) ≡ Some (pos n)
signed n within = rw (lt-ltb n (2 ^ 63) (omega arith)) refl

of_size : (n : ℕ) → n ≤ greatest_id → page_given (Some (natural n)) ≡ size_given (Some n)
of_size n within = ap (λ z. option_map Some (option_and_then (if_between 1 greatest_page) z)) (signed n within)

of_held : (n : ℕ) → n ≤ greatest_id → number_in 0 greatest_id (natural n) ≡ Some n
of_held n within = ap (option_and_then (if_between 0 greatest_id)) (signed n within) ∙ between 0 greatest_id n (omega arith) within

-- ---- the request

module _ (page : Option ℕ) (ps : Option Entries) (text token : Option (List ℕ)) where
  other_key : (l : List ℕ) (o : Option Data) (ms : Members) → slice_cmp nat_cmp (codes "op") l ≡ Less → get_member (codes "op") (with_data l o ms) ≡ get_member (codes "op") ms
  other_key l None ms other = refl
  other_key l (Some d) ms other = rw other refl

  no_op : request_of (object (members_of_fields None page ps text token)) ≡ None
  no_op =
      let ms : Members = members_of_fields None page ps text token in
      ap (λ d. option_and_then (λ op. by_op op ms) (option_and_then as_str d)) (other_key (codes "page") (option_map natural page) _ refl ∙ other_key (codes "params") (option_map object_giving ps) _ refl
      ∙ other_key (codes "text") (option_map string text) _ refl ∙ other_key (codes "token") (option_map string token) no_members refl)

pub request_asked : (op : Option (List ℕ)) (page : Option ℕ) (ps : Option Entries) (text token : Option (List ℕ)) → HaveDepth ps → HasSign page → request_of (object (members_of_fields op page ps text token)) ≡ asked op page ps text token
request_asked None page ps text token h k = no_op page ps text token
request_asked (Some a) None None None None h k = nothing_asked a
request_asked (Some a) None None (Some b) None h k = nothing_asked a
request_asked (Some a) None (Some p) None None h k = nothing_asked a
request_asked (Some a) None (Some p) (Some b) None h k = nothing_asked a
request_asked (Some a) None (Some p) None (Some c) h k = nothing_asked a
request_asked (Some a) None None None (Some c) h k = alone_asked a _ _ _ _
request_asked (Some a) None None (Some b) (Some c) h k = query_asked a _
request_asked (Some a) None (Some p) (Some b) (Some c) h k = rw (parameters_back p h) (query_asked a _)
request_asked (Some a) (Some n) None None None h k = nothing_asked a
request_asked (Some a) (Some n) None (Some b) None h k = nothing_asked a
request_asked (Some a) (Some n) (Some p) None None h k = nothing_asked a
request_asked (Some a) (Some n) (Some p) (Some b) None h k = nothing_asked a
request_asked (Some a) (Some n) (Some p) None (Some c) h k = nothing_asked a
request_asked (Some a) (Some n) None None (Some c) h k =
    held_asked a _ _ ∙ ap (λ x. cond (bytes_eq a (codes "pull")) (option_map (requests.pull c) x) (cond (bytes_eq a (codes "drop_page")) (option_map (requests.drop_page c) x) None)) (of_held n k)
request_asked (Some a) (Some n) None (Some b) (Some c) h k =
    query_asked a _ ∙ ap (λ x. cond (bytes_eq a (codes "query")) (option_map (λ size. requests.query c b no_entries size) x) None) (of_size n k)
request_asked (Some a) (Some n) (Some p) (Some b) (Some c) h k =
    query_asked a _ ∙ ap (λ x. cond (bytes_eq a (codes "query")) (option_and_then (λ es. option_map (λ size. requests.query c b es size) (page_given (Some (natural n)))) x) None) (parameters_back p h)
    ∙ ap (λ x. cond (bytes_eq a (codes "query")) (option_map (λ size. requests.query c b p size) x) None) (of_size n k)

pub request_asked_with : (f : Fields) → FieldsAreGiven f → request_of (object (members_with f)) ≡ asked_with f
request_asked_with f h = request_asked (option_map (λ s. s.now) f.op) f.page (parameters_of f) (option_map (λ s. s.now) f.text) (option_map (λ s. s.now) f.token) h.0 h.1
