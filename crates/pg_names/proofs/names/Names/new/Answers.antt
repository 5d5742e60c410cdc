use Rattle.std.proofs.Common.{sym, subst}
use Rattle.std.specs.List.{IsDistinct}
use Rattle.pg_names.specs.Names.{AreDistinct}
use Rattle.pg_names.proofs.names.Names.new.Goals as goal

pub invariant_of-result : goal.invariant_of-result
unfolding IsDistinct
invariant_of-result g c = subst AreDistinct (sym c.new.ensures) tt
