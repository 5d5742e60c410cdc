-- The tokens that searches find.
use Rattle.std.proofs.Common.{◌≡◌, ◌<◌, ◌≤◌, ℕ, ◌+◌, Bool, true, false, cond, ◌&&◌, bytes_eq, List, [], ◌∷◌, ◌++◌, drop, filter, length, get_or, map, refl, sym, ap, subst, ◌∙◌}
use Rattle.std.proofs.lemmas.List.{drop_all, drop_more, get_or-map}
use Rattle.std.proofs.lemmas.Slice.Eq.{bytes_eq-Decides}
use Rattle.pg_tenant.specs.Settings.{TenantSettings, TokenSettings, first_text, is_write, standing_token}
use Rattle.pg_tenant.specs.TenantStates.{token_at}

left_true : (a b : Bool) → a && b ≡ true → a ≡ true
left_true true b h = refl
left_true false b h = cc

pub token_found : (settings : TenantSettings) (tokens : List TokenSettings) (k place : ℕ) (t : TokenSettings) (text : List ℕ) → tokens ≡ settings.tokens → place ≡ k → k < length tokens → t ≡ get_or tokens k t
    → bytes_eq t.text text && is_write t.rights ≡ true → token_at settings place ≡ text
token_found settings tokens k place t text same here lt is lets =
    let below : k < length settings.tokens = subst (λ (ts : List TokenSettings). k < length ts) same lt in
    ap (token_at settings) here
    ∙ get_or-map (λ (x : TokenSettings). x.text) settings.tokens k t [] below
    ∙ ap (λ (ts : List TokenSettings). (get_or ts k t).text) (sym same)
    ∙ ap (λ (x : TokenSettings). x.text) (sym is)
    ∙ (bytes_eq-Decides t.text text).0 (left_true (bytes_eq t.text text) (is_write t.rights) lets)

-- ---- the token that stands for a tenant

abbrev pub writes : TokenSettings → Bool
writes t = is_write t.rights

-- the tokens from a place on
first_left : (xs ys : List TokenSettings) (k : ℕ) (t : TokenSettings) → xs ≡ ys → k < length xs → t ≡ get_or xs k t → drop k ys ≡ t ∷ drop (k + 1) ys
first_left xs ys k t same lt is = ap (drop k) (sym same) ∙ drop_more xs k t lt ∙ ap (λ x. x ∷ drop (k + 1) xs) (sym is) ∙ ap (λ zs. t ∷ drop (k + 1) zs) same

taken : (t : TokenSettings) (ts : List TokenSettings) → writes t ≡ true → filter writes (t ∷ ts) ≡ t ∷ filter writes ts
taken t ts is = ap (λ b. cond b (t ∷ filter writes ts) (filter writes ts)) is

left_out : (t : TokenSettings) (ts : List TokenSettings) → writes t ≡ false → filter writes (t ∷ ts) ≡ filter writes ts
left_out t ts is = ap (λ b. cond b (t ∷ filter writes ts) (filter writes ts)) is

module _ (settings : TenantSettings) (tokens : List TokenSettings) (k : ℕ) (t : TokenSettings) (same : tokens ≡ settings.tokens) (so_far : filter writes settings.tokens ≡ filter writes (drop k settings.tokens)) where
  pub writer_found : k < length tokens → t ≡ get_or tokens k t → writes t ≡ true → standing_token settings ≡ t.text
  writer_found lt is may =
      ap (λ ts. first_text (ts ++ settings.tokens)) (so_far ∙ ap (filter writes) (first_left tokens settings.tokens k t same lt is) ∙ taken t (drop (k + 1) settings.tokens) may)

  pub writer_passed : k < length tokens → t ≡ get_or tokens k t → writes t ≡ false → filter writes settings.tokens ≡ filter writes (drop (k + 1) settings.tokens)
  writer_passed lt is reads =
      so_far ∙ ap (filter writes) (first_left tokens settings.tokens k t same lt is) ∙ left_out t (drop (k + 1) settings.tokens) reads

pub none_writes : (settings : TenantSettings) (tokens : List TokenSettings) (k : ℕ) → tokens ≡ settings.tokens → filter writes settings.tokens ≡ filter writes (drop k settings.tokens) → length tokens ≤ k → standing_token settings ≡ token_at settings 0
none_writes settings tokens k same so_far past =
    let none : drop k settings.tokens ≡ [] = ap (drop k) (sym same) ∙ drop_all k tokens past in
    ap (λ ts. first_text (ts ++ settings.tokens)) (so_far ∙ ap (filter writes) none) ∙ first_at settings
  where
    first_of : (tokens : List TokenSettings) → first_text tokens ≡ get_or (map (λ (x : TokenSettings). x.text) tokens) 0 []
    first_of [] = refl
    first_of (x ∷ xs) = refl

    first_at : (settings : TenantSettings) → first_text settings.tokens ≡ token_at settings 0
    first_at settings = first_of settings.tokens
