-- An element that is not deleted is there.
use Rattle.std.proofs.Common.{◌≡◌, Bool, true, false, refl}
use Rattle.std.specs.Prelude.{not}

pub presence : (b : Bool) → not b ≡ false → b ≡ true
presence true h = refl
presence false h = absurd (cc)
