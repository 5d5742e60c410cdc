-- The map from tokens to tenants, made from the last tenant to the first.
use Rattle.std.proofs.Common.{◌≡◌, ℕ, suc, ◌+◌, ◌<◌, List, ◌∷◌, Bool, true, false, cond, length, get_or, drop, map, Option, Some, option_map, bytes_eq, refl, sym, ap, ◌∙◌, add-one, drop-cons}
use Rattle.std.specs.Prelude.{◌||◌}
use Rattle.pg_meaning.specs.Names.{is_among}
use Rattle.pg_names.proofs.Interned.{equal_bytes, same_bytes}
use Rattle.pg_tenant.specs.Settings.{TenantSettings, TokenSettings}
use Rattle.pg_server.specs.Tokens.{tenant_of}

-- where the first tenant with a token stands, of those from a place on
abbrev pub tenant_from : ℕ → List TenantSettings → List ℕ → Option ℕ
tenant_from place tenants token = option_map (λ n. place + n) (tenant_of (drop place tenants) token)

either_way : {X : Type 0} (a b : Bool) (x y : X) → cond (a || b) x y ≡ cond b x (cond a x y)
either_way true true x y = refl
either_way true false x y = refl
either_way false true x y = refl
either_way false false x y = refl

bytes_eq-sym : (xs ys : List ℕ) (b : Bool) → bytes_eq xs ys ≡ b → bytes_eq ys xs ≡ b
bytes_eq-sym xs ys true is = equal_bytes ys xs (sym (same_bytes xs ys is))
bytes_eq-sym xs ys false is = by_case (bytes_eq ys xs) refl
  where
    by_case : (b : Bool) → bytes_eq ys xs ≡ b → bytes_eq ys xs ≡ false
    by_case false h = h
    by_case true h = let no : bytes_eq xs ys ≡ true = equal_bytes xs ys (sym (same_bytes ys xs h)) in cc

-- one token more of a tenant
pub one_more_token : {X : Type 0} (text : List ℕ) (more : List (List ℕ)) (token : List ℕ) (x y : X) → cond (is_among (text ∷ more) token) x y ≡ cond (is_among more token) x (cond (bytes_eq text token) x y)
one_more_token text more token x y =
    ap (λ b. cond (b || is_among more token) x y) (bytes_eq-sym text token (bytes_eq text token) refl) ∙ either_way (bytes_eq text token) (is_among more token) x y

-- ---- the map while it is made, seen as what it tells

-- the tokens of one tenant up to a place are put
abbrev pub PutSoFar : List TokenSettings → ℕ → (initial now : List ℕ → Option ℕ) → ℕ → Type 0
PutSoFar tokens place initial now i =
    (text : List ℕ) → cond (is_among (map (λ t. t.text) tokens) text) (Some place) (initial text) ≡ cond (is_among (map (λ t. t.text) (drop i tokens)) text) (Some place) (now text)

pub put_more : (tokens : List TokenSettings) (place : ℕ) (initial now next : List ℕ → Option ℕ) (i : ℕ) (t : TokenSettings) → i < length tokens → t ≡ get_or tokens i t
    → ((text : List ℕ) → next text ≡ cond (bytes_eq t.text text) (Some place) (now text)) → PutSoFar tokens place initial now i → PutSoFar tokens place initial next (i + 1)
put_more tokens place initial now next i t below is stored so_far text =
    so_far text
    ∙ ap (λ ts. cond (is_among (map (λ (s : TokenSettings). s.text) ts) text) (Some place) (now text)) (drop-cons tokens i t below)
    ∙ ap (λ (s : TokenSettings). cond (is_among (s.text ∷ map (λ (s : TokenSettings). s.text) (drop (suc i) tokens)) text) (Some place) (now text)) (sym is)
    ∙ one_more_token t.text (map (λ (s : TokenSettings). s.text) (drop (suc i) tokens)) text (Some place) (now text)
    ∙ ap (cond (is_among (map (λ (s : TokenSettings). s.text) (drop (suc i) tokens)) text) (Some place)) (sym (stored text))
    ∙ ap (λ k. cond (is_among (map (λ (s : TokenSettings). s.text) (drop k tokens)) text) (Some place) (next text)) (sym (add-one i))

-- the tenants from a place on are told
abbrev pub ToldFrom : List TenantSettings → (List ℕ → Option ℕ) → ℕ → Type 0
ToldFrom tenants tell place = (token : List ℕ) → tell token ≡ tenant_from place tenants token
