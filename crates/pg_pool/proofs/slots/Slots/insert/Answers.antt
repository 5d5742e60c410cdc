use Rattle.std.proofs.Common.{ap, ◌∙◌}
use Rattle.std.specs.FinMap as map
use Rattle.pg_pool.proofs.PageSlots.{slot_put}
use Rattle.pg_pool.proofs.slots.Slots.insert.Goals as goal

pub returns-clause-ok : goal.returns-clause-ok
returns-clause-ok c =
    slot_put c.make_page.new.pages c.set.new.self c.args.id c.in_ok-place.place c.in_ok-make_page.ensures.present c.set.ensures.long c.set.ensures.written c.args.slot c.in_ok-place.ensures
    ∙ ap (λ m. map.insert m c.args.id c.args.slot) (c.make_page.ensures.same ∙ c.self.view_is)
