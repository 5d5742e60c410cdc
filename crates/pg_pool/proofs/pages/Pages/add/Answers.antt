use Rattle.std.proofs.Common.{ap, replicate, ◌∙◌}
use Rattle.std.specs.FinMap as map
use Rattle.pg_pool.proofs.Hashed.{entries_inserted}
use Rattle.pg_pool.proofs.pages.Pages.add.Goals as goal

pub returns-clause-ok : goal.returns-clause-ok
returns-clause-ok c =
    entries_inserted c.self.inside.kept.entries c.insert.new.self.entries c.args.number (replicate 64 0) c.in_ok-insert.ensures.updates.0
    ∙ ap (λ m. map.insert m c.args.number (replicate 64 0)) c.self.view_is
