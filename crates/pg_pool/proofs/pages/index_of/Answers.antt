use Rattle.std.proofs.Common.{◌==◌, ℕ, Some, sym, ap, ◌∙◌}
use Rattle.std.specs.Map.{lookup}
use Rattle.pg_pool.proofs.pages.index_of.Goals as goal

pub returns-in-Some-clause-some : goal.returns-in-Some-clause-some
returns-in-Some-clause-some c =
    let page = c.in-Some.field-0-1.now in (
      page,
      sym c.in-Some.ensures.entry ∙ ap (λ (k : ℕ). Some (k, page)) c.if-found-number.true,
      ap (λ k. lookup (λ j. k == j) c.args.kept.now.entries) (sym c.if-found-number.true) ∙ c.in-Some.ensures.value,
    )
