-- The text that tokens are printed to.
use Rattle.std.proofs.Common.{◌≡◌, List, ℕ, ◌++◌}
use Rattle.json.specs.Token.{Token}
use Rattle.json.specs.Print.{print}
use Rattle.json.specs.Tree.{json_tokens}
use Rattle.serde_json.proofs.Texts.{print-outline}
use Rattle.serde_json.specs.Data.{Data}
use Rattle.serde_json.specs.Written.{outline, compact_text}

pub text_after : (old before new : List ℕ) (ts : List Token) (d : Data) → new ≡ before ++ print ts → before ≡ old → ts ≡ json_tokens (outline d) → new ≡ old ++ compact_text d
text_after old before new ts d e f g = rw (e, f, g, print-outline d)
