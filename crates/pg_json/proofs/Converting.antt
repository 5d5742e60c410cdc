-- The values of lists and members, as far as they are converted.
use Rattle.std.proofs.Common.{◌≡◌, Bool, ◌≢◌, ◌≤◌, ◌-◌, ℕ, drop, length, List, [], ◌∷◌, ◌++◌, Option, Some, None, option_map, option_and_then, Less, Greater, Vec, String, Global, rules, arith, lt-ltb, string_bytes, string_cmp, refl, sym, ap, ◌∙◌}
use Rattle.std.proofs.lemmas.Cmp.{nat_list_cmp_total}
use Rattle.std.proofs.lemmas.List.{drop_all}
use Rattle.std.specs.List.{AllByRecursion}
use Rattle.std.specs.List.Sorted.{IsStrictlySortedBy}
use Rattle.std.specs.Map.{keys_of}
use Rattle.std.specs.Ordering.{ordering_reverse}
use Rattle.serde_json.specs.View.{view as data_view, items_view, members_view}
use Rattle.serde_json.specs.Data as json
use Rattle.serde_json.specs.declared.value.Value.{Value as Data, Null as DataNull, Bool as DataBool, String as DataString, Array, the_lemmas as data_lemmas}
use Rattle.serde_json.proofs.Views.{Entry}
use Rattle.pg_meaning.specs.Entries.{with_entry}
use Rattle.pg_meaning.specs.Order.{text_order}
use Rattle.pg_meaning.specs.Value.{Value as Datum, Values, no_items, item, Entries, entry, null, boolean, text, list}
use Rattle.pg_json.specs.Given.{value_within, values_within, entries_within, if_room}
use Rattle.pg_value_core.specs.View.{view, values_view}
use Rattle.pg_value_core.specs.declared.value.Value.{Value, Null as NullValue, Bool as BoolValue, the_lemmas}

-- ---- lists

-- the values behind those that are converted
abbrev pub after : List Value → Option Values → Option Values
after [] rest = rest
after (v ∷ vs) rest = option_map (item (view v)) (after vs rest)

after_push : (vs : List Value) (v : Value) (rest : Option Values) → after vs (option_map (item (view v)) rest) ≡ after (vs ++ v ∷ []) rest
after_push [] v rest = refl
after_push (w ∷ vs) v rest = ap (option_map (item (view w))) (after_push vs v rest)

after_all : (vs : List Value) → after vs (Some no_items) ≡ Some (values_view vs)
after_all [] = refl
after_all (v ∷ vs) = ap (option_map (item (view v))) (after_all vs)

after_none : (vs : List Value) → after vs None ≡ None
after_none [] = refl
after_none (v ∷ vs) = ap (option_map (item (view v))) (after_none vs)

module _ (n : ℕ) where
  pub one_more_value : (vs : List Value) (d : Data) (left rest : List Data) (v : Value) → left ≡ d ∷ rest → value_within n (data_view d) ≡ Some (view v)
      → after vs (values_within n (items_view left)) ≡ after (vs ++ v ∷ []) (values_within n (items_view rest))
  one_more_value vs d left rest v is h =
      ap (λ ds. after vs (values_within n (items_view ds))) is
      ∙ ap (λ o. after vs (option_and_then (λ u. option_map (item u) (values_within n (items_view rest))) o)) h
      ∙ after_push vs v (values_within n (items_view rest))

  pub no_value : (vs : List Value) (d : Data) (left rest : List Data) → left ≡ d ∷ rest → value_within n (data_view d) ≡ None → after vs (values_within n (items_view left)) ≡ None
  no_value vs d left rest is h =
      ap (λ ds. after vs (values_within n (items_view ds))) is
      ∙ ap (λ o. after vs (option_and_then (λ u. option_map (item u) (values_within n (items_view rest))) o)) h
      ∙ after_none vs

  pub all_values : (vs : List Value) (i : ℕ) (ds : List Data) → length ds ≤ i → after vs (values_within n (items_view (drop i ds))) ≡ Some (values_view vs)
  all_values vs i ds h = ap (λ xs. after vs (values_within n (items_view xs))) (drop_all i ds h) ∙ after_all vs

-- ---- members

none_then : (k : List ℕ) (o : Option Datum) → option_and_then (λ v. option_map (entry k v) None) o ≡ None
none_then k None = refl
none_then k (Some v) = refl

-- one member that gives no value refuses all
pub refused_entries : (n : ℕ) (done : List Entry) (e : Entry) (more : List Entry) → value_within n (data_view e.1) ≡ None → entries_within n (members_view (done ++ e ∷ more)) ≡ None
refused_entries n [] e more h = rw h refl
refused_entries n (x ∷ done) e more h = rw (refused_entries n done e more h) (none_then (string_bytes x.0) (value_within n (data_view x.1)))

abbrev pick : Entries → Option Entries → Entries
pick d None = d
pick d (Some es) = es

parted : (k : List ℕ) (o : Option Datum) (p : Option Entries) (es : Entries) → option_and_then (λ v. option_map (entry k v) p) o ≡ Some es
    → (w : Datum) × (o ≡ Some w) × (fs : Entries) × (p ≡ Some fs) × (entry k w fs ≡ es)
parted k None p es h = absurd (cc)
parted k (Some w) None es h = absurd (cc)
parted k (Some w) (Some fs) es h = (w, refl, fs, refl, ap (pick es) h)

below_middle : (first : Entry) (es : List Entry) (e : Entry) (more : List Entry) → AllByRecursion (λ y. string_cmp first.0 y ≡ Less) (keys_of (es ++ e ∷ more)) → string_cmp first.0 e.0 ≡ Less
below_middle first [] e more h = h.0
below_middle first (x ∷ es) e more h = below_middle first es e more h.1

-- a key that is above those before it goes last
pub one_more_entry : (n : ℕ) (done : List Entry) (e : Entry) (more : List Entry) (es : Entries) (v : Datum) → IsStrictlySortedBy string_cmp (keys_of (done ++ e ∷ more))
    → entries_within n (members_view done) ≡ Some es → value_within n (data_view e.1) ≡ Some v
    → entries_within n (members_view (done ++ e ∷ [])) ≡ Some (with_entry (string_bytes e.0) v es)
unfolding IsStrictlySortedBy
one_more_entry n [] e more es v sorted h g = rw g (ap (λ fs. Some (with_entry (string_bytes e.0) v fs)) (ap (pick es) h))
one_more_entry n (first ∷ done) e more es v sorted h g =
    let parts = parted (string_bytes first.0) (value_within n (data_view first.1)) (entries_within n (members_view done)) es h in
    let later = one_more_entry n done e more parts.2 v sorted.1 parts.3 g in
    let above : text_order (string_bytes e.0) (string_bytes first.0) ≡ Greater =
    nat_list_cmp_total.antisymm (string_bytes e.0) (string_bytes first.0) ∙ ap ordering_reverse (below_middle first done e more sorted.0) in
    let placed : with_entry (string_bytes e.0) v (entry (string_bytes first.0) parts.0 parts.2) ≡ entry (string_bytes first.0) parts.0 (with_entry (string_bytes e.0) v parts.2) = rw above refl in
    rw (parts.1, later) (ap Some (sym placed ∙ ap (with_entry (string_bytes e.0) v) parts.4))

-- ---- values of each kind

has_room : {A : Type 0} (n : ℕ) (o : Option A) → n ≢ 0 → if_room n o ≡ o
has_room n o some = rw (lt-ltb 0 n (omega arith)) refl

data_array : (ds : Vec Data Global) → data_view (Array ds) ≡ json.array (items_view ds.items)
data_array ds = search (rules, data_lemmas)

pub no_room : (d : json.Data) → value_within 0 d ≡ None
no_room json.null = refl
no_room (json.boolean b) = refl
no_room (json.number x) = refl
no_room (json.string s) = refl
no_room (json.array ds) = refl
no_room (json.object ms) = refl

data_null : data_view DataNull ≡ json.null
data_null = search (rules, data_lemmas)

data_bool : (b : Bool) → data_view (DataBool b) ≡ json.boolean b
data_bool b = search (rules, data_lemmas)

data_string : (s : String Global) → data_view (DataString s) ≡ json.string (string_bytes s)
data_string s = search (rules, data_lemmas)

view_null : view NullValue ≡ null
view_null = search (rules, the_lemmas)

view_bool : (b : Bool) → view (BoolValue b) ≡ boolean b
view_bool b = search (rules, the_lemmas)

module _ (n : ℕ) (some : n ≢ 0) where
  pub null_within : value_within n (data_view DataNull) ≡ Some (view NullValue)
  null_within = rw (data_null, view_null) (has_room n (Some null) some)

  pub bool_within : (b : Bool) → value_within n (data_view (DataBool b)) ≡ Some (view (BoolValue b))
  bool_within b = rw (data_bool b, view_bool b) (has_room n (Some (boolean b)) some)

  pub text_within : (given : String Global) (v : Datum) → v ≡ text (string_bytes given) → value_within n (data_view (DataString given)) ≡ Some v
  text_within given v same = rw (data_string given) (has_room n (Some (text (string_bytes given))) some ∙ ap (λ u. Some u) (sym same))

  pub list_within : (ds : Vec Data Global) (vs : List Value) (v : Value) → view v ≡ list (values_view vs) → values_within (n - 1) (items_view ds.items) ≡ Some (values_view vs) → value_within n (data_view (Array ds)) ≡ Some (view v)
  list_within ds vs v seen h = rw (data_array ds, seen) (has_room n (option_map list (values_within (n - 1) (items_view ds.items))) some ∙ ap (option_map list) h)

  pub list_refused : (ds : Vec Data Global) → values_within (n - 1) (items_view ds.items) ≡ None → value_within n (data_view (Array ds)) ≡ None
  list_refused ds h = rw (data_array ds) (has_room n (option_map list (values_within (n - 1) (items_view ds.items))) some ∙ ap (option_map list) h)
