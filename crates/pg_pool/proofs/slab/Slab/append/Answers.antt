use Rattle.std.proofs.Common.{◌+◌, [], ◌∷◌, ◌++◌, map, length, Some, is_some, count_by, arith, sym, ap, ◌∙◌}
use Rattle.std.proofs.lemmas.List.{length-map, length_push}
use Rattle.std.proofs.lemmas.List.Sums.{count_by-le-length}
use Rattle.pg_pool.specs.Slab.{slab_len}
use Rattle.pg_pool.proofs.SlabLemmas.{appended, one_more, pushed}
use Rattle.pg_pool.proofs.slab.Slab.append.Goals as goal

pub overflow_add-self : goal.overflow_add-self
overflow_add-self g c =
    let items = c.self.inside.slots.items in
    omega (arith, c.self.invariant, count_by-le-length is_some (map g.S.Slot.held items), length-map items g.S.Slot.held, c.push_reserved.ensures.small, ap length c.push_reserved.ensures.items, length_push items c.occupied.result)

pub invariant_of-self : goal.invariant_of-self
invariant_of-self g c =
    let items = c.self.inside.slots.items in
    let slots = map g.S.Slot.held items in
    let put = pushed g.S.Slot.held items c.push_reserved.new.self.items c.occupied.result (Some c.args.value) c.occupied.ensures c.push_reserved.ensures.items in
    ap (λ n. n + 1) c.self.invariant ∙ sym (one_more slots c.args.value) ∙ sym (ap (count_by is_some) put)

pub returns-clause-updates : goal.returns-clause-updates
returns-clause-updates g c =
    let items = c.self.inside.slots.items in
    let slots = map g.S.Slot.held items in
    let put = pushed g.S.Slot.held items c.push_reserved.new.self.items c.occupied.result (Some c.args.value) c.occupied.ensures c.push_reserved.ensures.items in
    appended c.args.self.now _ (Some c.args.value) (put ∙ ap (λ s. s.slots ++ Some c.args.value ∷ []) c.self.view_is)

pub returns-clause-len : goal.returns-clause-len
returns-clause-len g c =
    let items = c.self.inside.slots.items in
    let slots = map g.S.Slot.held items in
    let put = pushed g.S.Slot.held items c.push_reserved.new.self.items c.occupied.result (Some c.args.value) c.occupied.ensures c.push_reserved.ensures.items in
    ap (count_by is_some) put ∙ one_more slots c.args.value ∙ ap (λ s. slab_len s + 1) c.self.view_is
