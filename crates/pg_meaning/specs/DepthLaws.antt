-- The test of nesting finds exactly the tokens that nest too deep.
use Rattle.std.proofs.Common.{◌≡◌, ◌⊎◌, ℕ, ◌+◌, ◌<◌, ◌≤◌, arith, Bool, true, false, List, [], ◌∷◌, ◌++◌, length, refl, sym, ap, subst, inl, inr}
use Rattle.std.proofs.lemmas.Bool.{ltb-true, ltb-false}
use Rattle.std.specs.List.{AllByRecursion}
use Rattle.std.specs.Prelude.{◌||◌, nat_lt}
use Rattle.pg_meaning.specs.Tokens.{Token}
use Rattle.pg_meaning.specs.Depth.{greatest_depth, Turn, opens, closes, stays, turns, openers, closers, is_sign, IsNested, HasLongRow, TooDeep, is_nested_from, has_long_row_from, is_too_deep}

abbrev pub DepthIsExact : Type 0
DepthIsExact = (tokens : List Token) → (TooDeep tokens → is_too_deep tokens ≡ true) × (is_too_deep tokens ≡ true → TooDeep tokens)

left_true : (a b : Bool) → a ≡ true → (a || b) ≡ true
left_true a b h = rw h refl

right_true : (a b : Bool) → b ≡ true → (a || b) ≡ true
right_true true b h = refl
right_true false b h = h

one_true : (a b : Bool) → (a || b) ≡ true → (a ≡ true) ⊎ (b ≡ true)
one_true true b h = inl refl
one_true false b h = inr h

-- ---- openers and closers

-- the test, or what it says behind
opened_more : (a b : ℕ) (more : Bool) → (b ≤ a → more ≡ true) → (nat_lt a b || more) ≡ true
opened_more a b more next = at (nat_lt a b) refl
  where
    at : (x : Bool) → nat_lt a b ≡ x → (x || more) ≡ true
    at true e = refl
    at false e = next (ltb-false a b e)

-- behind so many of both, where no place so far was too deep
nested_found : (front back : List Turn) (opened closed : ℕ) → opened ≤ closed + greatest_depth → closed + closers front + greatest_depth < opened + openers front → is_nested_from opened closed (front ++ back) ≡ true
nested_found [] back opened closed shallow deep = absurd (omega arith)
nested_found (opens ∷ front) back opened closed shallow deep =
    opened_more (closed + greatest_depth) (opened + 1) (is_nested_from (opened + 1) closed (front ++ back)) (λ next. nested_found front back (opened + 1) closed next (omega arith))
nested_found (closes ∷ front) back opened closed shallow deep = nested_found front back opened (closed + 1) (omega arith) (omega arith)
nested_found (stays ∷ front) back opened closed shallow deep = nested_found front back opened closed shallow deep

-- a place that is too deep
record DeepPlace (opened closed : ℕ) (xs : List Turn) : Type 0 where
  pub front : List Turn
  pub back : List Turn
  pub parts : xs ≡ front ++ back
  pub deep : closed + closers front + greatest_depth < opened + openers front

behind_opener : (opened closed : ℕ) (xs : List Turn) → (nat_lt (closed + greatest_depth) (opened + 1) ≡ true) ⊎ DeepPlace (opened + 1) closed xs → DeepPlace opened closed (opens ∷ xs)
behind_opener opened closed xs (inl e) = let h = ltb-true (closed + greatest_depth) (opened + 1) e in record { front = opens ∷ []; back = xs; parts = refl; deep = omega arith }
behind_opener opened closed xs (inr d) = record { front = opens ∷ d.front; back = d.back; parts = ap (λ (r : List Turn). opens ∷ r) d.parts; deep = omega (arith, d.deep) }

one_place : (a b : Bool) (P : Type 0) → (a || b) ≡ true → (b ≡ true → P) → (a ≡ true) ⊎ P
one_place true b P h next = inl refl
one_place false b P h next = inr (next h)

found_nested : (xs : List Turn) (opened closed : ℕ) → is_nested_from opened closed xs ≡ true → DeepPlace opened closed xs
found_nested [] opened closed h = absurd cc
found_nested (opens ∷ xs) opened closed h =
    behind_opener opened closed xs (one_place (nat_lt (closed + greatest_depth) (opened + 1)) (is_nested_from (opened + 1) closed xs) (DeepPlace (opened + 1) closed xs) h (λ g. found_nested xs (opened + 1) closed g))
found_nested (closes ∷ xs) opened closed h =
    let d = found_nested xs opened (closed + 1) h in record { front = closes ∷ d.front; back = d.back; parts = ap (λ (r : List Turn). closes ∷ r) d.parts; deep = omega (arith, d.deep) }
found_nested (stays ∷ xs) opened closed h =
    let d = found_nested xs opened closed h in record { front = stays ∷ d.front; back = d.back; parts = ap (λ (r : List Turn). stays ∷ r) d.parts; deep = d.deep }

-- ---- rows of signs

abbrev AreSigns : List Token → Type 0
AreSigns = AllByRecursion (λ t. is_sign t.lexeme ≡ true)

abbrev row_by : Bool → ℕ → List Token → Bool
row_by x n ts = elim x [ true ↦ nat_lt greatest_depth (n + 1) || has_long_row_from (n + 1) ts | false ↦ has_long_row_from 0 ts ]

-- a row that goes on from n signs before
row_goes_on : (row back : List Token) (n : ℕ) → AreSigns row → n ≤ greatest_depth → greatest_depth < n + length row → has_long_row_from n (row ++ back) ≡ true
row_goes_on [] back n signs low long = absurd (omega arith)
row_goes_on (t ∷ row) back n signs low long =
    subst (λ (x : Bool). row_by x n (row ++ back) ≡ true) (sym signs.0)
    (opened_more greatest_depth (n + 1) (has_long_row_from (n + 1) (row ++ back)) (λ next. row_goes_on row back (n + 1) signs.1 next (omega arith)))

-- a row behind one more token
row_behind : (x : Bool) (ts : List Token) (n : ℕ) → n ≤ greatest_depth → ((m : ℕ) → m ≤ greatest_depth → has_long_row_from m ts ≡ true) → row_by x n ts ≡ true
row_behind true ts n low next = opened_more greatest_depth (n + 1) (has_long_row_from (n + 1) ts) (λ h. next (n + 1) h)
row_behind false ts n low next = next 0 (omega arith)

row_found : (front row back : List Token) (n : ℕ) → AreSigns row → greatest_depth < length row → n ≤ greatest_depth → has_long_row_from n (front ++ (row ++ back)) ≡ true
row_found [] row back n signs long low = row_goes_on row back n signs low (omega arith)
row_found (t ∷ front) row back n signs long low = row_behind (is_sign t.lexeme) (front ++ (row ++ back)) n low (λ m h. row_found front row back m signs long h)

-- a row that goes on from n signs before
record OpenRow (n : ℕ) (tokens : List Token) : Type 0 where
  pub row : List Token
  pub back : List Token
  pub parts : tokens ≡ row ++ back
  pub signs : AreSigns row
  pub long : greatest_depth < n + length row

shifted : (t : Token) (ts : List Token) → HasLongRow ts → HasLongRow (t ∷ ts)
shifted t ts h = record { front = t ∷ h.front; row = h.row; back = h.back; parts = ap (λ (r : List Token). t ∷ r) h.parts; signs = h.signs; long = h.long }

behind_sign : (t : Token) (ts : List Token) (n : ℕ) → is_sign t.lexeme ≡ true → (nat_lt greatest_depth (n + 1) ≡ true) ⊎ (OpenRow (n + 1) ts ⊎ HasLongRow ts) → OpenRow n (t ∷ ts) ⊎ HasLongRow (t ∷ ts)
behind_sign t ts n is (inl e) = let h = ltb-true greatest_depth (n + 1) e in inl (record { row = t ∷ []; back = ts; parts = refl; signs = (is, tt); long = omega arith })
behind_sign t ts n is (inr (inl r)) = inl (record { row = t ∷ r.row; back = r.back; parts = ap (λ (x : List Token). t ∷ x) r.parts; signs = (is, r.signs); long = omega (arith, r.long) })
behind_sign t ts n is (inr (inr h)) = inr (shifted t ts h)

behind_other : (t : Token) (ts : List Token) (n : ℕ) → OpenRow 0 ts ⊎ HasLongRow ts → OpenRow n (t ∷ ts) ⊎ HasLongRow (t ∷ ts)
behind_other t ts n (inl r) = inr (record { front = t ∷ []; row = r.row; back = r.back; parts = ap (λ (x : List Token). t ∷ x) r.parts; signs = r.signs; long = omega (arith, r.long) })
behind_other t ts n (inr h) = inr (shifted t ts h)

found_by : (x : Bool) (t : Token) (ts : List Token) (n : ℕ) → is_sign t.lexeme ≡ x → row_by x n ts ≡ true → ((m : ℕ) → has_long_row_from m ts ≡ true → OpenRow m ts ⊎ HasLongRow ts) → OpenRow n (t ∷ ts) ⊎ HasLongRow (t ∷ ts)
found_by true t ts n is h next = behind_sign t ts n is (one_place (nat_lt greatest_depth (n + 1)) (has_long_row_from (n + 1) ts) (OpenRow (n + 1) ts ⊎ HasLongRow ts) h (λ g. next (n + 1) g))
found_by false t ts n is h next = behind_other t ts n (next 0 h)

found_row : (ts : List Token) (n : ℕ) → has_long_row_from n ts ≡ true → OpenRow n ts ⊎ HasLongRow ts
found_row [] n h = absurd cc
found_row (t ∷ ts) n h = found_by (is_sign t.lexeme) t ts n refl h (λ m g. found_row ts m g)

-- ---- both

is_deep : (tokens : List Token) → TooDeep tokens → is_too_deep tokens ≡ true
unfolding is_too_deep
is_deep tokens (inl h) =
    let d : is_nested_from 0 0 (turns tokens) ≡ true = subst (λ (xs : List Turn). is_nested_from 0 0 xs ≡ true) (sym h.parts) (nested_found h.front h.back 0 0 (omega arith) (omega (arith, h.deep))) in
    left_true (is_nested_from 0 0 (turns tokens)) (has_long_row_from 0 tokens) d
is_deep tokens (inr h) =
    let d : has_long_row_from 0 tokens ≡ true = subst (λ (xs : List Token). has_long_row_from 0 xs ≡ true) (sym h.parts) (row_found h.front h.row h.back 0 h.signs h.long (omega arith)) in
    right_true (is_nested_from 0 0 (turns tokens)) (has_long_row_from 0 tokens) d

nested_of : (tokens : List Token) → DeepPlace 0 0 (turns tokens) → IsNested tokens
nested_of tokens d = record { front = d.front; back = d.back; parts = d.parts; deep = omega (arith, d.deep) }

row_of : (tokens : List Token) → OpenRow 0 tokens ⊎ HasLongRow tokens → HasLongRow tokens
row_of tokens (inl r) = record { front = []; row = r.row; back = r.back; parts = r.parts; signs = r.signs; long = omega (arith, r.long) }
row_of tokens (inr h) = h

of_either : (tokens : List Token) → (is_nested_from 0 0 (turns tokens) ≡ true) ⊎ (has_long_row_from 0 tokens ≡ true) → TooDeep tokens
of_either tokens (inl h) = inl (nested_of tokens (found_nested (turns tokens) 0 0 h))
of_either tokens (inr h) = inr (row_of tokens (found_row tokens 0 h))

deep_is : (tokens : List Token) → is_too_deep tokens ≡ true → TooDeep tokens
unfolding is_too_deep
deep_is tokens h = of_either tokens (one_true (is_nested_from 0 0 (turns tokens)) (has_long_row_from 0 tokens) h)

pub depth_exact : DepthIsExact
depth_exact tokens = (is_deep tokens, deep_is tokens)
