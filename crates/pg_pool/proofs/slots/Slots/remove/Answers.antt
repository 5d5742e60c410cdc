use Rattle.std.proofs.Common.{IsSome, refl, subst, sym, ap, ◌∙◌}
use Rattle.std.specs.FinMap as map
use Rattle.pg_pool.proofs.PageSlots.{slot_cleared, still_there, page_there}
use Rattle.pg_pool.proofs.slots.Slots.remove.Goals as goal

pub set-requires-clause-present : goal.set-requires-clause-present
set-requires-clause-present c = page_there _ c.args.id (subst IsSome (ap (λ m. map.get m c.args.id) (sym c.self.view_is)) c.requires)

pub clear_page-requires : goal.clear_page-requires
clear_page-requires c =
    let there = page_there c.self.inside.pages c.args.id (subst IsSome (ap (λ m. map.get m c.args.id) (sym c.self.view_is)) c.requires) in
    still_there _ _ c.args.id 0 there c.set.ensures.long c.set.ensures.written

pub returns-clause-removed : goal.returns-clause-removed
returns-clause-removed c =
    let there = page_there c.self.inside.pages c.args.id (subst IsSome (ap (λ m. map.get m c.args.id) (sym c.self.view_is)) c.requires) in
    c.clear_page.ensures ∙ slot_cleared _ _ c.args.id 0 there c.set.ensures.long c.set.ensures.written refl
    ∙ ap (λ m. map.remove m c.args.id) c.self.view_is
