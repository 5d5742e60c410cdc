use Rattle.std.proofs.Common.{ap, ◌∙◌}
use Rattle.pg_pool.proofs.PageSlots.{slots_of_none}
use Rattle.pg_pool.specs.Pages.{slots_in}
use Rattle.pg_pool.proofs.slots.Slots.new.Goals as goal

pub returns : goal.returns
returns c = ap slots_in c.new.ensures ∙ slots_of_none
