-- What a body means, once it is known whether it is UTF-8.
use Rattle.std.proofs.Common.{◌≡◌, ℕ, List, Bool, true, false, Option, None, option_and_then, cond, refl}
use Rattle.std.specs.Str.{IsUtf8, is_utf8}
use Rattle.std.proofs.lemmas.Str.{is_utf8-from_IsUtf8, IsUtf8-from_is_utf8}
use Rattle.serde_json.specs.Read.{read}
use Rattle.pg_json.specs.Requests.{request_of, meaning}

pub meaning-utf8 : (body : List ℕ) → IsUtf8 body → meaning body ≡ option_and_then request_of (read body)
unfolding meaning
meaning-utf8 body h = rw (is_utf8-from_IsUtf8 body h)

none_unless : {A : Type 0} (b : Bool) (o : Option A) → (b ≡ true → ⊥) → cond b o None ≡ None
none_unless true o h = absurd (h refl)
none_unless false o h = refl

pub meaning-not_utf8 : (body : List ℕ) → ¬ (IsUtf8 body) → meaning body ≡ None
unfolding meaning
meaning-not_utf8 body h = none_unless (is_utf8 body) _ (λ e. h (IsUtf8-from_is_utf8 body e))
