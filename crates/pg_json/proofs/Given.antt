-- What data gives, by its depth and by the data that gives it.
use Rattle.std.proofs.Common.{◌≡◌, ℕ, ℤ, zero, suc, ◌-◌, ◌<◌, ◌≤◌, nat_le, max, List, Bool, true, false, ◌&&◌, cond, Option, Some, None, option_map, option_and_then, Ordering, Less, Equal, Greater, refl, sym, ap, inl, inr, ◌⊎◌, ◌+◌, ◌∙◌, arith, lt-ltb, le-leb}
use Rattle.std.proofs.Math.Dec.{leb-suc-suc}
use Rattle.std.proofs.Math.Nat.{le-max_left, le-max_right, max-le}
use Rattle.std.proofs.lemmas.Bool.{lt-leb}
use Rattle.std.proofs.lemmas.Bool.Decides.{leb_tells}
use Rattle.std.proofs.lemmas.Map.Lookups.{exact_bytes}
use Rattle.std.specs.Ordering.{match_ordering}
use Rattle.serde_json.specs.Data.{Data, Items, Members}
use Rattle.serde_json.specs.Data as json
use Rattle.serde_json.specs.Find.{as_i64}
use Rattle.pg_meaning.specs.Entries.{with_entry}
use Rattle.pg_meaning.specs.Measure.{depth_of, items_depth, entries_depth, greatest_depth}
use Rattle.pg_meaning.specs.Order.{text_order}
use Rattle.pg_meaning.specs.Value.{Value, null, boolean, integer, text, list, mapping, node, relationship, path, Values, no_items, item, Entries, no_entries, entry}
use Rattle.pg_json.specs.Given.{if_room, value_within, values_within, entries_within, data_giving, items_giving, members_giving, IsGiven, AreGiven, EntriesAreGiven}
use Rattle.pg_json.specs.Parameters.{value_of_data, values_of, entries_of, parameters_in}

-- ---- nothing is of depth 0

pub no_room : (d : Data) → value_within 0 d ≡ None
no_room json.null = refl
no_room (json.boolean b) = refl
no_room (json.number x) = refl
no_room (json.string s) = refl
no_room (json.array ds) = refl
no_room (json.object ms) = refl

-- ---- the data that gives a value gives it

mutual
  pub given_value : (n : ℕ) (v : Value) → IsGiven n v → value_within n (data_giving v) ≡ Some v
  given_value n null h = rw (lt-ltb 0 n h) refl
  given_value n (boolean b) h = rw (lt-ltb 0 n h) refl
  given_value n (integer z) h = rw (lt-ltb 0 n h.0, h.1) refl
  given_value n (text s) h = rw (lt-ltb 0 n h) refl
  given_value n (list vs) h = rw (lt-ltb 0 n h.0, given_values (n - 1) vs h.1) refl
  given_value n (mapping es) h = rw (lt-ltb 0 n h.0, given_entries (n - 1) es h.1) refl
  given_value n (node i) h = absurd h
  given_value n (relationship i) h = absurd h
  given_value n (path is) h = absurd h

  pub given_values : (n : ℕ) (vs : Values) → AreGiven n vs → values_within n (items_giving vs) ≡ Some vs
  given_values n no_items h = refl
  given_values n (item v vs) h = rw (given_value n v h.0, given_values n vs h.1) refl

  pub given_entries : (n : ℕ) (es : Entries) → EntriesAreGiven n es → entries_within n (members_giving es) ≡ Some es
  given_entries n no_entries h = refl
  given_entries n (entry k v es) h = rw (given_value n v h.0, given_entries n es h.1) refl

-- ---- level by level is the test of the whole depth

abbrev limited : ℕ → Option Value → Option Value
limited n o = option_and_then (λ v. cond (nat_le (depth_of v) n) (Some v) None) o

abbrev limited_items : ℕ → Option Values → Option Values
limited_items n o = option_and_then (λ vs. cond (nat_le (items_depth vs) n) (Some vs) None) o

abbrev limited_entries : ℕ → Option Entries → Option Entries
limited_entries n o = option_and_then (λ es. cond (nat_le (entries_depth es) n) (Some es) None) o

positive_depth : (v : Value) → 0 < depth_of v
positive_depth null = omega arith
positive_depth (boolean b) = omega arith
positive_depth (integer z) = omega arith
positive_depth (text s) = omega arith
positive_depth (list vs) = omega arith
positive_depth (mapping es) = omega arith
positive_depth (node i) = omega arith
positive_depth (relationship i) = omega arith
positive_depth (path is) = omega arith

some_depth : (o : Option Value) → limited 0 o ≡ None
some_depth None = refl
some_depth (Some v) = rw (lt-leb (depth_of v) 0 (positive_depth v)) refl

one_deep : (v : Value) (n : ℕ) → depth_of v ≡ 1 → Some v ≡ limited (suc n) (Some v)
one_deep v n h = rw (h, le-leb 1 (suc n) (omega arith)) refl

one_more : (a : ℕ) → 1 + a ≡ suc a
one_more a = omega arith

more_by_one : (a n : ℕ) → nat_le (1 + a) (suc n) ≡ nat_le a n
more_by_one a n = ap (λ m. nat_le m (suc n)) (one_more a) ∙ leb-suc-suc a n

mapped : {A B : Type 0} (f : A → B) (b : Bool) (a : A) → option_map f (cond b (Some a) None) ≡ cond b (Some (f a)) None
mapped f true a = refl
mapped f false a = refl

of_list : (n : ℕ) (o : Option Values) → option_map list (limited_items n o) ≡ limited (suc n) (option_map list o)
of_list n None = refl
of_list n (Some vs) = mapped list (nat_le (items_depth vs) n) vs ∙ ap (λ b. cond b (Some (list vs)) None) (sym (more_by_one (items_depth vs) n))

of_mapping : (n : ℕ) (o : Option Entries) → option_map mapping (limited_entries n o) ≡ limited (suc n) (option_map mapping o)
of_mapping n None = refl
of_mapping n (Some es) = mapped mapping (nat_le (entries_depth es) n) es ∙ ap (λ b. cond b (Some (mapping es)) None) (sym (more_by_one (entries_depth es) n))

of_integer : (n : ℕ) (o : Option ℤ) → option_map integer o ≡ limited (suc n) (option_map integer o)
of_integer n None = refl
of_integer n (Some z) = one_deep (integer z) n refl

chosen : {A B C : Type 0} (f : A → B → C) (p q : Bool) (a : A) (b : B) → option_and_then (λ x. option_map (f x) (cond q (Some b) None)) (cond p (Some a) None) ≡ cond (p && q) (Some (f a b)) None
chosen f true true a b = refl
chosen f true false a b = refl
chosen f false q a b = refl

none_chosen : {A B C : Type 0} (f : A → B → C) (p : Bool) (a : A) → option_and_then (λ x. option_map (f x) None) (cond p (Some a) None) ≡ None
none_chosen f true a = refl
none_chosen f false a = refl

max_test : (a b n : ℕ) → ((nat_le a n ≡ true) × (a ≤ n)) ⊎ ((nat_le a n ≡ false) × (n < a)) → ((nat_le b n ≡ true) × (b ≤ n)) ⊎ ((nat_le b n ≡ false) × (n < b))
    → (nat_le a n && nat_le b n) ≡ nat_le (max a b) n
max_test a b n (inl p) (inl q) = rw (p.0, q.0, le-leb (max a b) n (max-le p.1 q.1)) refl
max_test a b n (inl p) (inr q) = let above = le-max_right a b in rw (p.0, q.0, lt-leb (max a b) n (omega (arith, q.1, above))) refl
max_test a b n (inr p) q = let above = le-max_left a b in rw (p.0, lt-leb (max a b) n (omega (arith, p.1, above))) refl

le_max : (a b n : ℕ) → (nat_le a n && nat_le b n) ≡ nat_le (max a b) n
le_max a b n = max_test a b n (leb_tells a n) (leb_tells b n)

first_and_rest : (n : ℕ) (o : Option Value) (p : Option Values) → option_and_then (λ v. option_map (item v) (limited_items n p)) (limited n o) ≡ limited_items n (option_and_then (λ v. option_map (item v) p) o)
first_and_rest n None p = refl
first_and_rest n (Some v) None = none_chosen item (nat_le (depth_of v) n) v
first_and_rest n (Some v) (Some vs) = chosen item (nat_le (depth_of v) n) (nat_le (items_depth vs) n) v vs ∙ ap (λ b. cond b (Some (item v vs)) None) (le_max (depth_of v) (items_depth vs) n)

entry_and_rest : (n : ℕ) (k : List ℕ) (o : Option Value) (p : Option Entries) → option_and_then (λ v. option_map (entry k v) (limited_entries n p)) (limited n o) ≡ limited_entries n (option_and_then (λ v. option_map (entry k v) p) o)
entry_and_rest n k None p = refl
entry_and_rest n k (Some v) None = none_chosen (entry k) (nat_le (depth_of v) n) v
entry_and_rest n k (Some v) (Some es) = chosen (entry k) (nat_le (depth_of v) n) (nat_le (entries_depth es) n) v es ∙ ap (λ b. cond b (Some (entry k v es)) None) (le_max (depth_of v) (entries_depth es) n)

room : (n : ℕ) (o : Option Value) → if_room (suc n) o ≡ o
room n o = rw (lt-ltb 0 (suc n) (omega arith)) refl

less : (n : ℕ) → suc n - 1 ≡ n
less n = omega arith

mutual
  value_limited : (n : ℕ) (d : Data) → value_within n d ≡ limited n (value_of_data d)
  value_limited zero d = no_room d ∙ sym (some_depth (value_of_data d))
  value_limited (suc n) json.null = room n _ ∙ one_deep null n refl
  value_limited (suc n) (json.boolean b) = room n _ ∙ one_deep (boolean b) n refl
  value_limited (suc n) (json.number x) = room n _ ∙ of_integer n (as_i64 x)
  value_limited (suc n) (json.string s) = room n _ ∙ one_deep (text s) n refl
  value_limited (suc n) (json.array ds) = room n _ ∙ ap (λ m. option_map list (values_within m ds)) (less n) ∙ ap (option_map list) (values_limited n ds) ∙ of_list n (values_of ds)
  value_limited (suc n) (json.object ms) = room n _ ∙ ap (λ m. option_map mapping (entries_within m ms)) (less n) ∙ ap (option_map mapping) (entries_limited n ms) ∙ of_mapping n (entries_of ms)

  values_limited : (n : ℕ) (ds : Items) → values_within n ds ≡ limited_items n (values_of ds)
  values_limited n json.no_items = rw (le-leb 0 n (omega arith)) refl
  values_limited n (json.item d ds) = rw (value_limited n d, values_limited n ds) (first_and_rest n (value_of_data d) (values_of ds))

  entries_limited : (n : ℕ) (ms : Members) → entries_within n ms ≡ limited_entries n (entries_of ms)
  entries_limited n json.no_members = rw (le-leb 0 n (omega arith)) refl
  entries_limited n (json.member k d ms) = rw (value_limited n d, entries_limited n ms) (entry_and_rest n k (value_of_data d) (entries_of ms))

pub parameters_within : (ms : Members) → parameters_in ms ≡ entries_within greatest_depth ms
parameters_within ms = sym (entries_limited greatest_depth ms)

pub parameters_back : (es : Entries) → EntriesAreGiven greatest_depth es → parameters_in (members_giving es) ≡ Some es
parameters_back es h = parameters_within (members_giving es) ∙ given_entries greatest_depth es h

-- ---- an entry is put where its member is

put_chosen : (o : Ordering) (k l : List ℕ) (v w : Value) (es rest : Entries) (ms : Members) → text_order k l ≡ o → members_giving rest ≡ ms
    → members_giving (match_ordering o (entry k v (entry l w es)) (entry k v es) (entry l w rest))
    ≡ match_ordering o (json.member k (data_giving v) (json.member l (data_giving w) (members_giving es))) (json.member l (data_giving v) (members_giving es)) (json.member l (data_giving w) ms)
put_chosen Less k l v w es rest ms h e = refl
put_chosen Equal k l v w es rest ms h e = ap (λ key. json.member key (data_giving v) (members_giving es)) (exact_bytes k l h)
put_chosen Greater k l v w es rest ms h e = ap (json.member l (data_giving w)) e

pub members_giving-put : (k : List ℕ) (v : Value) (es : Entries) → members_giving (with_entry k v es) ≡ json.put k (data_giving v) (members_giving es)
members_giving-put k v no_entries = refl
members_giving-put k v (entry l w es) = put_chosen (text_order k l) k l v w es (with_entry k v es) _ refl (members_giving-put k v es)

given_chosen : (n : ℕ) (o : Ordering) (k l : List ℕ) (v w : Value) (es rest : Entries) → IsGiven n v → IsGiven n w → EntriesAreGiven n es → EntriesAreGiven n rest
    → EntriesAreGiven n (match_ordering o (entry k v (entry l w es)) (entry k v es) (entry l w rest))
given_chosen n Less k l v w es rest p q r s = (p, (q, r))
given_chosen n Equal k l v w es rest p q r s = (p, r)
given_chosen n Greater k l v w es rest p q r s = (q, s)

pub given_put : (n : ℕ) (k : List ℕ) (v : Value) (es : Entries) → IsGiven n v → EntriesAreGiven n es → EntriesAreGiven n (with_entry k v es)
given_put n k v no_entries p h = (p, tt)
given_put n k v (entry l w es) p h = given_chosen n (text_order k l) k l v w es (with_entry k v es) p h.0 h.1 (given_put n k v es p h.1)
