-- Values under the first of names, and one more.
use Rattle.std.proofs.Common.{◌≡◌, ◌≤◌, ℕ, suc, Bool, true, false, cond, List, [], ◌∷◌, ◌++◌, map, length, Option, Some, None, is_some, refl, sym, ap, subst, ◌∙◌, arith, append_assoc}
use Rattle.std.proofs.lemmas.List.{length-append}
use Rattle.std.proofs.lemmas.Map.Made.{is_some-lookup}
use Rattle.std.specs.Prelude.{bytes_eq}
use Rattle.pg_meaning.specs.Names.{is_among}
use Rattle.pg_meaning.specs.Rows.{Row, value_in, bind_if_named}
use Rattle.pg_meaning.specs.Value.{Value}
use Rattle.pg_rows.specs.Named.{row_of}
use Rattle.pg_write_make.specs.Bindings.{Binding, add_each, bind_each, names_in, EndsWith}

abbrev Texts : Type 0
Texts = List (List ℕ)

-- names are added at the end
pub extends : (ns : List (Option (List ℕ))) (xs : Texts) → (more : Texts) × (add_each ns xs ≡ xs ++ more)
extends [] xs = ([], sym (nothing_more xs))
  where
    nothing_more : (xs : Texts) → xs ++ [] ≡ xs
    nothing_more [] = refl
    nothing_more (x ∷ xs) = ap (λ ys. x ∷ ys) (nothing_more xs)
extends (None ∷ ns) xs = extends ns xs
extends (Some n ∷ ns) xs = by_test (is_among xs n) (extends ns xs) (extends ns (xs ++ n ∷ []))
  where
    by_test : (b : Bool) → ((more : Texts) × (add_each ns xs ≡ xs ++ more)) → ((more : Texts) × (add_each ns (xs ++ n ∷ []) ≡ (xs ++ n ∷ []) ++ more)) → (more : Texts) × (add_each ns (cond b xs (xs ++ n ∷ [])) ≡ xs ++ more)
    by_test true same longer = same
    by_test false same longer = (n ∷ longer.0, longer.1 ∙ append_assoc xs (n ∷ []) longer.0)

zip_push : (xs more : Texts) (vs : List Value) (n : List ℕ) (v : Value) → length xs ≡ length vs → row_of (xs ++ n ∷ more) (vs ++ v ∷ []) ≡ row_of (xs ++ n ∷ more) vs ++ (n, v) ∷ []
zip_push [] more [] n v h = ap (λ (r : Row). (n, v) ∷ r) (none_behind more)
  where
    none_behind : (more : Texts) → row_of more [] ≡ []
    none_behind [] = refl
    none_behind (m ∷ ms) = refl
zip_push [] more (w ∷ vs) n v h = absurd (omega (arith, h))
zip_push (x ∷ xs) more [] n v h = absurd (omega (arith, h))
zip_push (x ∷ xs) more (w ∷ vs) n v h = ap (λ (r : Row). (x, w) ∷ r) (zip_push xs more vs n v (omega (arith, h)))

names_len : (names : Texts) (vs : List Value) → length vs ≤ length names → length (names_in (row_of names vs)) ≡ length vs
names_len [] [] h = refl
names_len [] (v ∷ vs) h = absurd (omega (arith, h))
names_len (n ∷ ns) [] h = refl
names_len (n ∷ ns) (v ∷ vs) h = ap suc (names_len ns vs (omega (arith, h)))

bound_is_among : (name : List ℕ) (row : Row) → is_among (names_in row) name ≡ is_some (value_in name row)
bound_is_among name row = sym (is_some-lookup (bytes_eq name) row)

-- what is to be bound first is bound already
pub bound_already : (names : Texts) (vs : List Value) (n : List ℕ) (v : Value) (bs : List Binding) → is_some (value_in n (row_of names vs)) ≡ true → EndsWith names vs ((Some n, v) ∷ bs)
    → EndsWith names vs bs × (bind_if_named (Some n) v (row_of names vs) ≡ row_of names vs)
bound_already names vs n v bs is e =
    let xs = names_in (row_of names vs) in
    let among : is_among xs n ≡ true = bound_is_among n (row_of names vs) ∙ is in (
      record { within = e.within; ends = sym (ap (λ b. add_each (map (λ b. b.0) bs) (cond b xs (xs ++ n ∷ []))) among) ∙ e.ends },
      ap (λ b. cond b (row_of names vs) (row_of names vs ++ (n, v) ∷ [])) is,
    )

-- or it stands in the next column
module _ (names : Texts) (vs : List Value) (n : List ℕ) (v : Value) (bs : List Binding) (is : is_some (value_in n (row_of names vs)) ≡ false) (e : EndsWith names vs ((Some n, v) ∷ bs)) where
  abbrev xs : Texts
  xs = names_in (row_of names vs)

  abbrev behind : List (Option (List ℕ))
  behind = map (λ b. b.0) bs

  longer : add_each behind (xs ++ n ∷ []) ≡ names
  longer = sym (ap (λ b. add_each behind (cond b xs (xs ++ n ∷ []))) (bound_is_among n (row_of names vs) ∙ is)) ∙ e.ends

  abbrev more : Texts
  more = (extends behind (xs ++ n ∷ [])).0

  all_names : names ≡ xs ++ n ∷ more
  all_names = sym longer ∙ (extends behind (xs ++ n ∷ [])).1 ∙ append_assoc xs (n ∷ []) more

  same_len : length xs ≡ length vs
  same_len = names_len names vs e.within

  pushed : row_of names (vs ++ v ∷ []) ≡ row_of names vs ++ (n, v) ∷ []
  pushed = subst (λ (ns : Texts). row_of ns (vs ++ v ∷ []) ≡ row_of ns vs ++ (n, v) ∷ []) (sym all_names) (zip_push xs more vs n v same_len)

  one_more : length (vs ++ v ∷ []) ≤ length names
  one_more =
      let all = ap length all_names in
      let two = length-append xs (n ∷ more) in
      let one = length-append vs (v ∷ []) in
      let len = same_len in
      omega (arith, all, two, one, len)

  names_pushed : (row : Row) → names_in (row ++ (n, v) ∷ []) ≡ names_in row ++ n ∷ []
  names_pushed [] = refl
  names_pushed (b ∷ row) = ap (λ ys. b.0 ∷ ys) (names_pushed row)

  pub bound_now : EndsWith names (vs ++ v ∷ []) bs × (bind_if_named (Some n) v (row_of names vs) ≡ row_of names (vs ++ v ∷ []))
  bound_now = (
    record {
      within = one_more;
      ends = ap (add_each behind) (ap names_in pushed ∙ names_pushed (row_of names vs)) ∙ longer;
    },
    ap (λ b. cond b (row_of names vs) (row_of names vs ++ (n, v) ∷ [])) is ∙ sym pushed,
  )

-- one more is bound
pub binds_one : (names : Texts) (vs ws : List Value) (n : List ℕ) (v : Value) (bs cs : List Binding) (whole : Row) → bs ≡ (Some n, v) ∷ cs → ws ≡ vs ++ v ∷ [] → is_some (value_in n (row_of names vs)) ≡ false → whole ≡ bind_each bs (row_of names vs) → EndsWith names vs bs
    → (whole ≡ bind_each cs (row_of names ws)) × EndsWith names ws cs
binds_one names vs ws n v bs cs whole first pushed is rest e =
    let one = bound_now names vs n v cs is (subst (λ (xs : List Binding). EndsWith names vs xs) first e) in (
      rest ∙ ap (λ xs. bind_each xs (row_of names vs)) first ∙ ap (bind_each cs) (one.1 ∙ ap (row_of names) (sym pushed)),
      subst (λ (xs : List Value). EndsWith names xs cs) (sym pushed) one.0,
    )

pub binds_none : (names : Texts) (vs : List Value) (n : List ℕ) (v : Value) (bs cs : List Binding) (whole : Row) → bs ≡ (Some n, v) ∷ cs → is_some (value_in n (row_of names vs)) ≡ true → whole ≡ bind_each bs (row_of names vs) → EndsWith names vs bs
    → (whole ≡ bind_each cs (row_of names vs)) × EndsWith names vs cs
binds_none names vs n v bs cs whole first is rest e =
    let none = bound_already names vs n v cs is (subst (λ (xs : List Binding). EndsWith names vs xs) first e) in
    (rest ∙ ap (λ xs. bind_each xs (row_of names vs)) first ∙ ap (bind_each cs) none.1, none.0)

-- nothing is left to be bound
pub all_bound : (names : Texts) (vs : List Value) → EndsWith names vs [] → length vs ≡ length names
all_bound names vs e = sym (names_len names vs e.within) ∙ ap length e.ends

abbrev BindsNone : Texts → List Value → List Binding → Type 0
BindsNone names vs bs = EndsWith names vs bs → bind_each bs (row_of names vs) ≡ row_of names vs

-- where each name has a value, nothing is left to be bound
pub none_new : (names : Texts) (vs : List Value) (bs : List Binding) → EndsWith names vs bs → length vs ≡ length names → bind_each bs (row_of names vs) ≡ row_of names vs
none_new names vs [] e same = refl
none_new names vs (b ∷ bs) e same = by_name (λ others. none_new names vs bs others same) b.0 b.1 e
  where
    by_test : BindsNone names vs bs → (n : List ℕ) (v : Value) → EndsWith names vs ((Some n, v) ∷ bs) → (is : Bool) → is_some (value_in n (row_of names vs)) ≡ is → bind_each ((Some n, v) ∷ bs) (row_of names vs) ≡ row_of names vs
    by_test rest n v e true is = let one = bound_already names vs n v bs is e in ap (bind_each bs) one.1 ∙ rest one.0
    by_test rest n v e false is =
        let more = (bound_now names vs n v bs is e).0.within in
        let long = length-append vs (v ∷ []) in
        absurd (omega (arith, more, long, same))

    by_name : BindsNone names vs bs → (o : Option (List ℕ)) (v : Value) → EndsWith names vs ((o, v) ∷ bs) → bind_each ((o, v) ∷ bs) (row_of names vs) ≡ row_of names vs
    by_name rest None v e = rest (record { within = e.within; ends = e.ends })
    by_name rest (Some n) v e = by_test rest n v e (is_some (value_in n (row_of names vs))) refl
