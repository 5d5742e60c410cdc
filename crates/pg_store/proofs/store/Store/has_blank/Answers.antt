use Rattle.std.proofs.Common.{sym}
use Rattle.pg_store.proofs.store.Store.has_blank.Goals as goal

pub returns-in-Some : goal.returns-in-Some
returns-in-Some g c = λ h. (c.in-Some.node.now, sym c.in-Some.ensures, c.is_blank.ensures h)
