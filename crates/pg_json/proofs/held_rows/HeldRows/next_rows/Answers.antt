use Rattle.std.proofs.Common.{min, ◌<◌, ◌≤◌, ◌+◌, ◌-◌, drop, take, length, arith, ap, ◌∙◌}
use Rattle.pg_json.proofs.Held.{held_count, held_starts, held_stops, held_part, held_taken}
use Rattle.pg_json.specs.Pages.{rows_joined}
use Rattle.pg_json.proofs.held_rows.HeldRows.next_rows.Goals as goal

pub overflow_sub-len : goal.overflow_sub-len
overflow_sub-len c = let all = held_count _ _ _ _ c.self.invariant in omega (arith, all, c.self.invariant.given)

pub part-requires : goal.part-requires
part-requires c =
    let h = c.self.invariant in
    let all = held_count _ _ _ _ h in
    let some : 0 < c.min-count.result = omega arith in
    let within : c.self.inside.next + c.min-count.result ≤ length c.self.inside.row_ends.items = omega (arith, all, h.given) in
    let stops = held_stops _ _ _ _ h c.min-count.result c.index.result.now some within c.index.ensures in
    record { order = held_starts _ _ _ _ h c.min-count.result c.index.result.now some within c.index.ensures; within = omega (arith, stops, ap length c.deref.ensures.value) }

pub returns-clause-text : goal.returns-clause-text
returns-clause-text c =
    let h = c.self.invariant in
    let all = held_count _ _ _ _ h in
    let some : 0 < c.min-count.result = omega arith in
    let within : c.self.inside.next + c.min-count.result ≤ length c.self.inside.row_ends.items = omega (arith, all, h.given) in
    c.part.ensures ∙ ap (λ t. drop c.self.inside.start (take c.index.result.now t)) c.deref.ensures.value
    ∙ held_part _ _ _ _ h c.min-count.result c.index.result.now some within c.index.ensures
    ∙ ap rows_joined (held_taken _ _ _ _ h c.args.size c.min-count.result (c.min-count.ensures ∙ ap (λ n. min c.args.size (n - c.self.inside.next)) (omega arith)) ∙ ap (take c.args.size) c.self.view_is)
