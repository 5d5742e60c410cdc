-- Membership as one of three answers. Profile.
use Rattle.std.specs.Prelude.{Result, Ok, Err}
use Rattle.pg_meaning.specs.Equality.{is_in3}
use Rattle.pg_meaning.specs.Value.{Value, null, list}
use Rattle.pg_meaning.specs.declared.fault.Fault.{Fault}
use Rattle.pg_meaning.specs.declared.fault.Fault.TheVariants.{TypeFault}
use Rattle.pg_meaning.specs.declared.logic.Tri.{Tri}
use Rattle.pg_meaning.specs.declared.logic.Tri.TheVariants.{Null}

-- only a list has members, and a null may be any list
abbrev pub membership : Value → Value → Result Tri Fault
membership v null = Ok Null
membership v (list ws) = Ok (is_in3 v ws)
membership v w = Err TypeFault
