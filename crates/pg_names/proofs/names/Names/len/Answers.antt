use Rattle.std.proofs.Common.{subst}
use Rattle.pg_names.specs.Names.{AreNumbered}
use Rattle.pg_names.proofs.Interned.{numbered}
use Rattle.pg_names.proofs.names.Names.len.Goals as goal

pub returns-clause-numbered : goal.returns-clause-numbered
returns-clause-numbered g c = subst AreNumbered c.self.view_is (numbered _ c.self.invariant)
