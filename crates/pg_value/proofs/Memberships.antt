-- What IN evaluates to is the value of the answer on membership.
use Rattle.std.proofs.Common.{◌≡◌, refl}
use Rattle.std.specs.Prelude.{Ok}
use Rattle.pg_meaning.specs.Answer.{◌>>=◌}
use Rattle.pg_meaning.specs.Expressions.{is_in}
use Rattle.pg_meaning.specs.Logic.{value_of_truth}
use Rattle.pg_meaning.specs.Value.{Value, null, list}
use Rattle.pg_value.specs.Membership.{membership}

pub membership_is_in : (v w : Value) → (membership v w >>= λ t. Ok (value_of_truth t)) ≡ is_in v w
membership_is_in v null = refl
membership_is_in v (list ws) = refl
membership_is_in v w = refl
