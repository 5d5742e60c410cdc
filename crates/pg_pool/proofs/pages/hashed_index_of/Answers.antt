use Rattle.std.proofs.Common.{ℕ, Some, sym, ap, ◌∙◌}
use Rattle.pg_pool.proofs.Hashed.{key_found}
use Rattle.pg_pool.proofs.pages.hashed_index_of.Goals as goal

pub returns-clause-some : goal.returns-clause-some
returns-clause-some c =
    let found = c.in_ok-index.ensures in
    let page = c.in_ok-index.field-0-2.now in
    (page, found.entry ∙ ap (λ (k : ℕ). Some (k, page)) (key_found c.args.kept.now.entries c.args.number c.in_ok-index.field-0-1.now (sym found.key)), sym found.value)
