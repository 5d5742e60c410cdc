-- What scalars stand for, and what they tell of an answer: nothing, or the value that it is.
use Rattle.std.specs.Prelude.{◌≡◌, Bool, Option, Some, None, Ok, string_bytes}
use Rattle.pg_expr.specs.Operators.{is_chosen}
use Rattle.pg_expr.specs.declared.scalar.Scalar.{Scalar}
use Rattle.pg_expr.specs.declared.scalar.Scalar.TheVariants as scalar
use Rattle.pg_meaning.specs.Answer.{Answer}
use Rattle.pg_meaning.specs.Logic.{truth_of}
use Rattle.pg_meaning.specs.Value.{Value as Datum, null, boolean, integer, text}
use Rattle.pg_meaning.specs.declared.logic.Tri.{Tri}
use Rattle.pg_value_core.specs.View.{view}

abbrev pub scalar_view : Scalar → Option Datum
scalar_view scalar.Untold = None
scalar_view scalar.Null = Some null
scalar_view (scalar.Bool b) = Some (boolean b)
scalar_view (scalar.Int i) = Some (integer i)
scalar_view (scalar.Text s) = Some (text (string_bytes s.now))
scalar_view (scalar.SharedText s) = Some (text (string_bytes s.now.value))
scalar_view (scalar.ShortText s) = Some (text s.now.bytes)
scalar_view (scalar.Lent v) = Some (view v.now)

-- where a value is told, it is the answer, which is no fault
abbrev pub Tells : Option Datum → Answer → Type 0
Tells None a = Unit {0}
Tells (Some v) a = a ≡ Ok v

-- the same of what follows from a value; where none is told, none is told of what follows
abbrev pub ThenTells : Option Datum → (told : Option Datum) → (Datum → Answer) → Type 0
ThenTells None told next = told ≡ None
ThenTells (Some v) told next = Tells told (next v)

-- the same of what follows from two values
abbrev pub BothTell : Option Datum → Option Datum → (told : Option Datum) → (Datum → Datum → Answer) → Type 0
BothTell None w told next = told ≡ None
BothTell (Some v) w told next = ThenTells w told (next v)

-- the truth value of what is told, or none
abbrev pub TruthIn : Option Datum → Option Tri → Type 0
TruthIn v None = Unit {0}
TruthIn None (Some t) = ⊥
TruthIn (Some v) (Some t) = truth_of v ≡ Ok t

-- whether what is told is true, as a condition of CASE, or none
abbrev pub Chooses : Option Datum → Option Bool → Type 0
Chooses v None = Unit {0}
Chooses None (Some b) = ⊥
Chooses (Some v) (Some b) = is_chosen None v ≡ Ok b
