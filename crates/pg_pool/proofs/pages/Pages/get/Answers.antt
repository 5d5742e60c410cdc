use Rattle.std.proofs.Common.{◌==◌, sym, ap, ◌∙◌}
use Rattle.std.specs.FinMap as map
use Rattle.std.specs.Map.{lookup}
use Rattle.pg_pool.proofs.Hashed.{get_of_entries}
use Rattle.pg_pool.proofs.pages.Pages.get.Goals as goal

pub returns-in-Some : goal.returns-in-Some
returns-in-Some c =
    sym c.in-Some.ensures.value ∙ ap (λ k. lookup (λ j. k == j) c.self.inside.kept.entries) c.if-found-number.true
    ∙ sym (get_of_entries _ _) ∙ ap (λ m. map.get m c.args.number) c.self.view_is
