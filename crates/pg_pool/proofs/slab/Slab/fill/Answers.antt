use Rattle.std.proofs.Common.{◌+◌, map, length, set, Some, is_some, count_by, arith, refl, sym, ap, subst, ◌∙◌}
use Rattle.std.proofs.lemmas.List.{length-map, length-set}
use Rattle.std.proofs.lemmas.List.Sums.{count_by-le-length}
use Rattle.pg_pool.specs.Slab.{slab_len, IsVacant}
use Rattle.pg_pool.proofs.SlabLemmas.{updated, written, filled}
use Rattle.pg_pool.proofs.slab.Slab.fill.Goals as goal

pub overflow_add-self : goal.overflow_add-self
overflow_add-self g c =
    let items = c.self.inside.slots.items in
    omega (arith, c.self.invariant, count_by-le-length is_some (map g.S.Slot.held items), length-map items g.S.Slot.held, c.replace-before.ensures.small, ap length c.replace-before.ensures.items, length-set items c.args.key c.occupied.result)

pub invariant_of-self : goal.invariant_of-self
invariant_of-self g c =
    let items = c.self.inside.slots.items in
    let slots = map g.S.Slot.held items in
    let vacant : IsVacant (record c.args.self.now { slots = slots }) c.args.key = subst (λ s. IsVacant s c.args.key) (sym c.self.view_is) c.requires in
    let put = written g.S.Slot.held items c.replace-before.new.self.items c.args.key c.occupied.result (Some c.args.value) c.occupied.ensures c.replace-before.ensures.items in
    filled slots _ c.args.key c.self.inside.count vacant.0 c.self.invariant c.args.value put vacant.1

pub returns-clause-updates : goal.returns-clause-updates
returns-clause-updates g c =
    let items = c.self.inside.slots.items in
    let slots = map g.S.Slot.held items in
    let vacant : IsVacant (record c.args.self.now { slots = slots }) c.args.key = subst (λ s. IsVacant s c.args.key) (sym c.self.view_is) c.requires in
    let put = written g.S.Slot.held items c.replace-before.new.self.items c.args.key c.occupied.result (Some c.args.value) c.occupied.ensures c.replace-before.ensures.items in
    updated c.args.self.now _ c.args.key (Some c.args.value) c.requires.0 (put ∙ ap (λ s. set s.slots c.args.key (Some c.args.value)) c.self.view_is)

pub returns-clause-len : goal.returns-clause-len
returns-clause-len g c =
    let items = c.self.inside.slots.items in
    let slots = map g.S.Slot.held items in
    let vacant : IsVacant (record c.args.self.now { slots = slots }) c.args.key = subst (λ s. IsVacant s c.args.key) (sym c.self.view_is) c.requires in
    let put = written g.S.Slot.held items c.replace-before.new.self.items c.args.key c.occupied.result (Some c.args.value) c.occupied.ensures c.replace-before.ensures.items in
    sym (filled slots _ c.args.key (count_by is_some slots) vacant.0 refl c.args.value put vacant.1) ∙ ap (λ s. slab_len s + 1) c.self.view_is
