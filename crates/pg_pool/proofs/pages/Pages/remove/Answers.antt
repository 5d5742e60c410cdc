use Rattle.std.proofs.Common.{ℕ, List, IsSome, subst, sym, ap, ◌∙◌}
use Rattle.std.specs.FinMap as map
use Rattle.pg_pool.proofs.Hashed.{entries_removed, get_of_entries, of_some, some_where}
use Rattle.pg_pool.proofs.pages.Pages.remove.Goals as goal

pub unwrap-index-requires : goal.unwrap-index-requires
unwrap-index-requires c =
    some_where _ _ c.index_of.ensures.none (subst IsSome (sym (ap (λ m. map.get m c.args.number) c.self.view_is) ∙ get_of_entries _ _) c.requires)

pub returns : goal.returns
returns c =
    let at = of_some _ _ _ c.index_of.ensures.some c.unwrap-index.ensures in
    let removed = of_some _ _ _ c.swap_remove_index.ensures.updates (c.swap_remove_index.ensures.entry ∙ at.1) in
    ap (λ (es : List (ℕ × List ℕ)). map.from_entries es) c.trim.ensures
    ∙ entries_removed c.self.inside.kept.entries c.swap_remove_index.new.self.entries c.args.number removed.0
    ∙ ap (λ m. map.remove m c.args.number) c.self.view_is
