-- The laws of AND and OR by which a loop joins its answers.
use Rattle.std.proofs.Common.{◌≡◌}
use Rattle.pg_meaning.specs.Logic.{and3, or3}
use Rattle.pg_meaning.specs.LogicLaws.{and3_laws, or3_laws}
use Rattle.pg_meaning.specs.declared.logic.Tri.{Tri}
use Rattle.pg_meaning.specs.declared.logic.Tri.TheVariants.{True, False}

pub and_true : (t : Tri) → and3 True t ≡ t
and_true = and3_laws.2

pub and_false : (t : Tri) → and3 False t ≡ False
and_false = and3_laws.3

pub and_associative : (s t u : Tri) → and3 (and3 s t) u ≡ and3 s (and3 t u)
and_associative = and3_laws.1

pub or_false : (t : Tri) → or3 False t ≡ t
or_false = or3_laws.2

pub or_true : (t : Tri) → or3 True t ≡ True
or_true = or3_laws.3

pub or_associative : (s t u : Tri) → or3 (or3 s t) u ≡ or3 s (or3 t u)
or_associative = or3_laws.1

pub ruleset and_steps = (and_true, and_false, and_associative)

pub ruleset or_steps = (or_false, or_true, or_associative)
