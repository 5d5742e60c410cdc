use Rattle.std.proofs.Common.{sym, ap, ◌∙◌}
use Rattle.std.specs.FinMap as map
use Rattle.pg_pool.proofs.Hashed.{get_of_entries}
use Rattle.pg_pool.proofs.pages.Pages.hashed.Goals as goal

pub returns : goal.returns
returns c = c.get.ensures.value ∙ sym (get_of_entries _ _) ∙ ap (λ m. map.get m c.args.number) c.self.view_is
