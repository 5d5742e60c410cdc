-- The members of an object that has texts, a page and parameters at the keys of a query, or of a request that shows a token and at most a page. For private clauses.
use Rattle.std.specs.Prelude.{◌≡◌, ◌≤◌, ℕ, pos, ⊤, Bool, true, false, MatchOption, option_and_then, unwrap_or, List, [], ◌∷◌, Option, None, Some, option_map, if◌then◌else◌, codes}
use Rattle.std.specs.Str.{bytes_eq}
use Rattle.serde_json.specs.Data.{Data, Members, no_members, member, string, object}
use Rattle.pg_meaning.specs.Measure.{greatest_depth}
use Rattle.pg_meaning.specs.Meters.{greatest_id}
use Rattle.pg_meaning.specs.Value.{Entries, no_entries}
use Rattle.pg_value_core.specs.View.{entries_view}
use Rattle.pg_json.specs.Given.{EntriesAreGiven, members_giving}
use Rattle.pg_json.specs.Replies.{natural}
use Rattle.pg_json.specs.Requests.{Request, query, status, begin, commit, rollback, pull, drop_page, if_between, greatest_page, request_of, object_request}
use Rattle.pg_json.specs.declared.fields.Fields.{Fields}
use Rattle.pg_json.specs.declared.fields.FastParse.{FastParse}
use Rattle.pg_json.specs.declared.fields.FastParse.TheVariants.{Fitting, NoRequest}
use Rattle.pg_json.specs.declared.fields.TextKey.{TextKey}
use Rattle.pg_json.specs.declared.fields.TextKey.TheVariants.{Op, Text, Token as TokenKey}
use Rattle.json.specs.Token.{Token}

-- the keys at which a query has texts; others that are told at a glance have some of them
abbrev pub text_keys : List (List ℕ)
text_keys = codes "op" ∷ codes "token" ∷ codes "text" ∷ []

abbrev pub text_key_name : TextKey → List ℕ
text_key_name Op = codes "op"
text_key_name Text = codes "text"
text_key_name TokenKey = codes "token"

-- the keys of index requests; a body with one is not told at a glance
abbrev pub later_keys : List (List ℕ)
later_keys = codes "label" ∷ codes "key" ∷ []

abbrev pub with_data : List ℕ → Option Data → Members → Members
with_data k None ms = ms
with_data k (Some d) ms = member k d ms

abbrev pub with_text : List ℕ → Option (List ℕ) → Members → Members
with_text k s ms = with_data k (option_map string s) ms

abbrev pub object_giving : Entries → Data
object_giving es = object (members_giving es)

abbrev pub members_of_fields : (op : Option (List ℕ)) (page : Option ℕ) (parameters : Option Entries) (text token : Option (List ℕ)) → Members
members_of_fields op page parameters text token =
    with_text (codes "op") op (with_data (codes "page") (option_map natural page) (with_data (codes "params") (option_map object_giving parameters)
    (with_text (codes "text") text (with_text (codes "token") token no_members))))

abbrev pub parameters_of : Fields → Option Entries
parameters_of f = option_map (λ m. entries_view m.entries) f.parameters

abbrev pub members_with : Fields → Members
members_with f = members_of_fields (option_map (λ s. s.now) f.op) f.page (parameters_of f) (option_map (λ s. s.now) f.text) (option_map (λ s. s.now) f.token)

-- the parameters, where there are any, are such as an object gives
abbrev pub HaveDepth : Option Entries → Type 0
HaveDepth parameters = MatchOption parameters ⊤ (EntriesAreGiven greatest_depth)

-- the page, where there is one, is a number of 63 bits
abbrev pub HasSign : Option ℕ → Type 0
HasSign page = MatchOption page ⊤ (λ n. n ≤ greatest_id)

-- the fields are such as a body gives
abbrev pub FieldsAreGiven : Fields → Type 0
FieldsAreGiven f = HaveDepth (parameters_of f) × HasSign f.page

-- the request of this name that shows a token alone
abbrev pub asked_alone : (op token : List ℕ) → Option Request
asked_alone op token =
    if bytes_eq op (codes "status") then Some (status token)
    else if bytes_eq op (codes "begin") then Some (begin token)
    else if bytes_eq op (codes "commit") then Some (commit token)
    else if bytes_eq op (codes "rollback") then Some (rollback token)
    else None

-- the request of this name that shows a token and at most a page
abbrev pub asked_by_page : (op : List ℕ) (page : Option ℕ) (token : List ℕ) → Option Request
asked_by_page op None token = asked_alone op token
asked_by_page op (Some n) token =
    if bytes_eq op (codes "pull") then Some (pull token n)
    else if bytes_eq op (codes "drop_page") then Some (drop_page token n)
    else None

-- how many rows a page is to have, where there is to be one
abbrev pub size_given : Option ℕ → Option (Option ℕ)
size_given None = Some None
size_given (Some n) = option_map Some (if_between 1 greatest_page (pos n))

abbrev pub asked_for_query : (token text : List ℕ) (parameters : Option Entries) (page : Option ℕ) → Option Request
asked_for_query token text parameters page = option_map (λ size. query token text (unwrap_or parameters no_entries) size) (size_given page)

-- the request at such texts, page and parameters
abbrev pub asked : (op : Option (List ℕ)) (page : Option ℕ) (parameters : Option Entries) (text token : Option (List ℕ)) → Option Request
asked None page parameters text token = None
asked (Some op) page parameters text None = None
asked (Some op) page (Some es) None (Some token) = None
asked (Some op) page None None (Some token) = asked_by_page op page token
asked (Some op) page parameters (Some text) (Some token) = if bytes_eq op (codes "query") then asked_for_query token text parameters page else None

abbrev pub asked_with : Fields → Option Request
asked_with f = asked (option_map (λ s. s.now) f.op) f.page (parameters_of f) (option_map (λ s. s.now) f.text) (option_map (λ s. s.now) f.token)

-- what a glance tells of the data that a text is
abbrev pub IsGlance : Option Data → FastParse → Type 0
IsGlance d (Fitting f) = (d ≡ Some (object (members_with f))) × FieldsAreGiven f
IsGlance d NoRequest = option_and_then request_of d ≡ None

-- whatever members there are, they are no request
abbrev pub AsksNothing : Option (Members × List Token) → Type 0
AsksNothing o = MatchOption o ⊤ (λ p. object_request p.0 ≡ None)

-- the same of the members behind an opening brace, with the tokens that are left
abbrev pub IsGlanceOfMembers : Option (Members × List Token) → List Token → Fields → Bool → Type 0
IsGlanceOfMembers o rest f true = o ≡ Some (members_with f, rest)
IsGlanceOfMembers o rest f false = AsksNothing o
